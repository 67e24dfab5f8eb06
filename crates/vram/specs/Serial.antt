-- The serial port: document 01, "A serial clock", and change request M-107. The register is read in partitions of n places. Assumes nothing.
use Rattle.std.specs.Prelude.{ℕ, zero, suc, ◌+◌, ◌-◌, ◌%◌, cond, List, [], ◌∷◌, ◌==◌, slice_index}
use Rattle.vram.specs.declared.Vram.{Vram}
use Rattle.vram.specs.declared.Waiting.{Waiting}
use Rattle.vram.specs.declared.Waiting.TheVariants.{None, Tap}
use Rattle.vram.specs.State.{stop_length, with_serial}

-- the state at another place, with this tap waiting
abbrev pub at : Vram → ℕ → Waiting → Vram
at s place w = with_serial s s.loaded place w

-- the k-th place after another, 255 going to 0
abbrev pub after : ℕ → ℕ → ℕ
after place k = (place + k) % 256

-- how many clocks lead through the end of the place's partition
abbrev pub through_in : ℕ → ℕ → ℕ
through_in n place = n - place % n

-- at a partition's last place to the waiting tap, which is used up; otherwise to the next place
abbrev pub clocked_on : ℕ → Waiting → Vram → Vram
clocked_on n None s = at s (after s.pointer 1) None
clocked_on n (Tap tap) s = cond (s.pointer % n == n - 1) (at s tap None) (at s (after s.pointer 1) (Tap tap))

unfoldable pub clock_in : ℕ → Vram → Vram
clock_in n s = clocked_on n s.waiting s

-- the state after k clocks, and the words that they answer
unfoldable pub clocks_in : ℕ → ℕ → Vram → Vram
clocks_in n zero s = s
clocks_in n (suc k) s = clocks_in n k (clock_in n s)

unfoldable pub clocked_words_in : ℕ → ℕ → Vram → List ℕ → List ℕ
clocked_words_in n zero s r = []
clocked_words_in n (suc k) s r = slice_index r s.pointer ∷ clocked_words_in n k (clock_in n s) r

-- ---- by the length of the state's own partitions

unfoldable pub length_of : Vram → ℕ
length_of s = stop_length s.stop

abbrev pub through : Vram → ℕ
through s = through_in (length_of s) s.pointer

abbrev pub clock : Vram → Vram
clock s = clock_in (length_of s) s

abbrev pub clocks : ℕ → Vram → Vram
clocks k s = clocks_in (length_of s) k s

abbrev pub clocked_words : ℕ → Vram → List ℕ → List ℕ
clocked_words k s r = clocked_words_in (length_of s) k s r
