-- What every access keeps, refused or not. Assumes nothing.
use Rattle.std.specs.Prelude.{◌≡◌, ℕ, Bool, true, false, ◌≢◌, List, length, ◌==◌}
use Rattle.std.proofs.Math.Path.{refl, sym}
use Rattle.numbers.specs.Refuse.{leaves}
use Rattle.palette.specs.declared.Palette.{Palette}
use Rattle.palette.specs.State.{ruled}
use Rattle.palette.specs.Access.{after_write, after_read}
use Rattle.palette.specs.Calls.{accessed, access_refusal, outcome, write_call, read_call}
use Rattle.palette.specs.StateLaws.{Ruled, ruled_parts, ruled_whole, cond_holds}
use Rattle.palette.proofs.AccessLaws.{after_write_ruled, after_read_ruled, table_after_write_length}
use Rattle.palette.proofs.CallLaws.{write_refused, read_refused}

-- a state that the rules allow stays one; one that they exclude is handed back
rule_kept : (last : ℕ) (p q : Palette) (bytes s : ℕ) → (Ruled p → Ruled q) → ruled (leaves (access_refusal last p bytes s) p q) ≡ ruled p
unfolding access_refusal
rule_kept last p q bytes s h = go (ruled p) refl
  where
    go : (b : Bool) → ruled p ≡ b → ruled (leaves (access_refusal last p bytes s) p q) ≡ b
    go true e =
        cond_holds (λ (r : Palette). ruled r ≡ true) (access_refusal last p bytes s == 0) (ruled_whole q (h (ruled_parts p e))) e
    go false e = rw e e

-- ---- a write

module _ (p : Palette) (t : List ℕ) (s d : ℕ) where
  pub write_rule : ruled (write_call p t s d).answer.state ≡ ruled p
  unfolding write_call
  write_rule = rule_kept 3 p (after_write p t s d) (length t) s (λ r. after_write_ruled p r t s d)

  -- the table's length
  pub write_length : length (write_call p t s d).table ≡ length t
  unfolding write_call
  write_length =
      cond_holds (λ (l : List ℕ). length l ≡ length t) (access_refusal 3 p (length t) s == 0) (table_after_write_length p t s d) refl

  -- a refusal changes nothing
  pub write_refused_keeps : (write_call p t s d).answer.number ≢ 0
      → write_call p t s d ≡ outcome (accessed p 0 (write_call p t s d).answer.number) t
  unfolding write_call
  write_refused_keeps h = sym (write_refused p t s d (access_refusal 3 p (length t) s) refl h)

-- ---- a read

module _ (p : Palette) (t : List ℕ) (s : ℕ) where
  pub read_rule : ruled (read_call p t s).state ≡ ruled p
  unfolding read_call
  read_rule = rule_kept 2 p (after_read p t s) (length t) s (λ r. after_read_ruled p r t s)

  pub read_refused_keeps : (read_call p t s).number ≢ 0 → read_call p t s ≡ accessed p 0 (read_call p t s).number
  unfolding read_call
  read_refused_keeps h = sym (read_refused p t s (access_refusal 2 p (length t) s) refl h)
