-- The four lengths of a partition, and the stop points that they ask for: one to one. Assumes nothing.
use Rattle.std.specs.Prelude.{◌≡◌, ℕ, true, refl}
use Rattle.refusals.specs.Refusal.{partition_ok}
use Rattle.refusals.specs.RefusalLaws.{partition_cases}
use Rattle.vram.specs.declared.Stop.{Stop}
use Rattle.vram.specs.declared.Stop.TheVariants.{Every16, Every32, Every64, Every128}
use Rattle.vram.specs.State.{stop_length, stop_of}

-- the stop points of a length that is not refused have that length
pub stop_length_of : (n : ℕ) → partition_ok n ≡ true → stop_length (stop_of n) ≡ n
stop_length_of = partition_cases (λ n. stop_length (stop_of n) ≡ n) refl refl refl refl

-- and back
pub length_stop : (t : Stop) → stop_of (stop_length t) ≡ t
length_stop Every16 = refl
length_stop Every32 = refl
length_stop Every64 = refl
length_stop Every128 = refl

-- every state's length is one of the four
pub length_ok : (t : Stop) → partition_ok (stop_length t) ≡ true
length_ok Every16 = refl
length_ok Every32 = refl
length_ok Every64 = refl
length_ok Every128 = refl
