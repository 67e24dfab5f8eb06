-- The ways out of a list's call, by what the code has, for any engine. Assumes nothing.
use Rattle.std.specs.Prelude.{◌≡◌, List, ◌≢◌, ℕ}
use Rattle.std.proofs.Common.{sym, ap, ◌∙◌}
use Rattle.numbers.specs.Refuse.{leaves}
use Rattle.numbers.specs.RefuseLaws.{leaves_made, leaves_before}
use Rattle.vram.specs.Board.{Board}
use Rattle.vram.specs.Step.{given_of, rows_of, Engine, step_by, run_by}
use Rattle.list.specs.Meaning.{Bad}
use Rattle.std.specs.Prelude.Option.{None}
use Rattle.list.specs.Fields.{fields}
use Rattle.list.specs.Meaning.{bad, judged, cycles_of, Outcome, gives, run_call_by}
use Rattle.list.proofs.CallLaws.{call_first_by, call_checked_by}

module _ (e : Engine) (list : List ℕ) (b : Board) where
  -- a list after its check, which found v: the refusal, with nothing changed, or the run
  abbrev pub finished : Bad → Outcome
  finished v = gives v (leaves v.number b (run_by (step_by e) (cycles_of list) b))

  module _ (v : Bad) where
    pub refused_out : v.number ≢ 0 → gives v b ≡ finished v
    refused_out h = ap (gives v) (sym (leaves_before v.number b _ h))

    pub done_out : v.number ≡ 0 → (after : Board) → after ≡ run_by (step_by e) (cycles_of list) b → gives v after ≡ finished v
    done_out z after f = ap (gives v) (f ∙ sym (leaves_made v.number b _ z))

  -- the whole call: n is what 1 to 3 say
  module _ (n : ℕ) (g : n ≡ given_of b) where
    pub given_out : n ≢ 0 → gives (bad n 0) b ≡ run_call_by e list b
    given_out h = ap (λ (x : ℕ). gives (bad x 0) b) g ∙ sym (call_first_by e list b (λ z. h (g ∙ z)))

    pub checked_out : n ≡ 0 → (v : Bad) → v ≡ judged (rows_of b) b.state.loaded None 0 (fields list) → (o : Outcome) → o ≡ finished v
        → o ≡ run_call_by e list b
    checked_out z v q o f = f ∙ ap finished q ∙ sym (call_checked_by e list b (sym g ∙ z))
