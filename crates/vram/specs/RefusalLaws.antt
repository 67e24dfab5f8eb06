-- What holds where nothing is refused. Assumes nothing.
use Rattle.std.specs.Prelude.{◌≡◌, ℕ, ◌/◌, ◌%◌, ◌≤◌, Bool, true, false, ◌&&◌, ◌==◌, nat_le, nat_lt}
use Rattle.std.proofs.Common.{arith, eqb-true, eq-eqb, leb-true, ltb-true}
use Rattle.numbers.specs.Refuse.{refuse}
use Rattle.numbers.specs.RefuseLaws.{refuse_zero}
use Rattle.numbers.specs.Between.{both}
use Rattle.vram.specs.declared.Vram.{Vram}
use Rattle.vram.specs.State.{ruled}
use Rattle.refusals.specs.Refusal.{fitted}
use Rattle.refusals.specs.RefusalLaws.{Placed}
use Rattle.vram.specs.Refusal.{given, word_read_refusal}

-- ---- the state and the lengths given

pub record Given (s : Vram) (words serial : ℕ) : Type 0 where
  pub rule : ruled s ≡ true
  pub rows : fitted words ≡ true
  pub register : serial ≡ 256

pub given_zero : (s : Vram) (words serial : ℕ) → given s words serial ≡ 0 → Given s words serial
unfolding given
given_zero s words serial e =
    let p = refuse_zero (ruled s) 0 _ e in
    let q = refuse_zero (fitted words) 1 _ p.1 in
    let r = refuse_zero (serial == 256) 2 0 q.1 in
    record { rule = p.0; rows = q.0; register = eqb-true serial 256 r.0 }

-- the other way round
pub given_done : (s : Vram) (words serial : ℕ) → Given s words serial → given s words serial ≡ 0
unfolding given
given_done s words serial g = rw (g.rule, g.rows, eq-eqb serial 256 g.register)

-- the state counts by its rule alone
pub given_rule : (s t : Vram) (words serial : ℕ) → ruled s ≡ ruled t → given s words serial ≡ given t words serial
unfolding given
given_rule s t words serial e = rw e

-- ---- a word read

pub read_zero : (words row column strobes : ℕ) → word_read_refusal words row column strobes ≡ 0 → Placed (words / 512) row column × (words ≤ 262144)
unfolding word_read_refusal
read_zero words row column strobes e =
    let o = refuse_zero (fitted words) 1 _ e in
    let p = refuse_zero (nat_lt row (words / 512)) 4 _ o.1 in
    let q = refuse_zero (nat_le column 511) 5 _ p.1 in
    let f = both (nat_le 512 words && nat_le words 262144) (words % 512 == 0) o.0 in (
      record { row_fitted = ltb-true row (words / 512) p.0; column_within = leb-true column 511 q.0 },
      leb-true words 262144 (both (nat_le 512 words) (nat_le words 262144) f.0).1,
    )

-- ---- numbers stay within the table

refuse_most : (holds : Bool) (number later most : ℕ) → number ≤ most → later ≤ most → refuse holds number later ≤ most
refuse_most true number later most h k = k
refuse_most false number later most h k = h

pub given_most : (s : Vram) (words serial : ℕ) → given s words serial ≤ 3
unfolding given
given_most s words serial =
    refuse_most (ruled s) 1 _ 3 (omega arith) (refuse_most (fitted words) 2 _ 3 (omega arith) (refuse_most (serial == 256) 3 0 3 (omega arith) (omega arith)))
