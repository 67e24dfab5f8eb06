-- The number that an access gives; it is refused and changes nothing, or is done. Assumes nothing.
use Rattle.std.specs.Prelude.{◌≡◌, ℕ, ◌<◌, ◌≤◌, true, false, ◌≢◌, List, length, ◌==◌, nat_le}
use Rattle.std.proofs.Common.{ap, eqb-true, leb-true, ne_eqb, le-leb}
use borrow.Author.Tests.{lt-leb}
use Rattle.numbers.specs.RefuseLaws.{refuse_zero}
use Rattle.palette.specs.declared.Palette.{Palette}
use Rattle.palette.specs.declared.Accessed.{Accessed}
use Rattle.palette.specs.State.{ruled}
use Rattle.palette.specs.Access.{after_write, table_after_write, byte_read, after_read}
use Rattle.palette.specs.Calls.{accessed, access_refusal, Outcome, outcome, write_call, read_call}

-- ---- the number: the lowest wins

module _ (last : ℕ) (p : Palette) (bytes s : ℕ) where
  pub access_1 : ruled p ≡ false → access_refusal last p bytes s ≡ 1
  unfolding access_refusal
  access_1 r = rw r

  pub access_3 : ruled p ≡ true → bytes ≢ 768 → access_refusal last p bytes s ≡ 3
  unfolding access_refusal
  access_3 r b = rw (r, ne_eqb bytes 768 b)

  pub access_11 : ruled p ≡ true → bytes ≡ 768 → last < s → access_refusal last p bytes s ≡ 11
  unfolding access_refusal
  access_11 r b h = rw (r, b, lt-leb s last h)

  pub access_0 : ruled p ≡ true → bytes ≡ 768 → s ≤ last → access_refusal last p bytes s ≡ 0
  unfolding access_refusal
  access_0 r b h = rw (r, b, le-leb s last h)

  -- what an accepted access was given
  pub record Accepted : Type 0 where
    pub rule : ruled p ≡ true
    pub table : bytes ≡ 768
    pub select : s ≤ last

  pub access_zero : access_refusal last p bytes s ≡ 0 → Accepted
  unfolding access_refusal
  access_zero e =
      let f = refuse_zero (ruled p) 0 _ e in
      let g = refuse_zero (bytes == 768) 2 _ f.1 in
      let h = refuse_zero (nat_le s last) 10 _ g.1 in
      record { rule = f.0; table = eqb-true bytes 768 g.0; select = leb-true s last h.0 }

-- ---- a write

-- the two ways out; n is the number that the code has
module _ (p : Palette) (t : List ℕ) (s d n : ℕ) (e : n ≡ access_refusal 3 p (length t) s) where
  pub write_refused : n ≢ 0 → outcome (accessed p 0 n) t ≡ write_call p t s d
  unfolding write_call
  write_refused h = rw (← e, ne_eqb n 0 h)

  pub write_done : {p' : Palette} {t' : List ℕ} → n ≡ 0 → p' ≡ after_write p t s d → t' ≡ table_after_write p t s d
      → outcome (accessed p' 0 0) t' ≡ write_call p t s d
  unfolding write_call
  write_done z f g = rw (← e, z, f, g)

-- what is accepted is done
pub write_accepted : (p : Palette) (t : List ℕ) → ruled p ≡ true → length t ≡ 768 → (s d : ℕ) → s ≤ 3
    → write_call p t s d ≡ outcome (accessed (after_write p t s d) 0 0) (table_after_write p t s d)
unfolding write_call
write_accepted p t r b s d h = rw (access_0 3 p (length t) s r b h)

-- the byte that a write answers is 0
pub write_byte : (p : Palette) (t : List ℕ) (s d : ℕ) {r : Accessed} {t' : List ℕ} → outcome r t' ≡ write_call p t s d
    → outcome (accessed r.state 0 r.number) t' ≡ write_call p t s d
unfolding write_call
write_byte p t s d e = ap (λ (o : Outcome). outcome (accessed o.answer.state 0 o.answer.number) o.table) e

-- ---- a read

module _ (p : Palette) (t : List ℕ) (s n : ℕ) (e : n ≡ access_refusal 2 p (length t) s) where
  pub read_refused : n ≢ 0 → accessed p 0 n ≡ read_call p t s
  unfolding read_call
  read_refused h = rw (← e, ne_eqb n 0 h)

  pub read_done : {p' : Palette} {byte : ℕ} → n ≡ 0 → p' ≡ after_read p t s → byte ≡ byte_read p s → accessed p' byte 0 ≡ read_call p t s
  unfolding read_call
  read_done z f g = rw (← e, z, f, g)

pub read_accepted : (p : Palette) (t : List ℕ) → ruled p ≡ true → length t ≡ 768 → (s : ℕ) → s ≤ 2
    → read_call p t s ≡ accessed (after_read p t s) (byte_read p s) 0
unfolding read_call
read_accepted p t r b s h = rw (access_0 2 p (length t) s r b h)
