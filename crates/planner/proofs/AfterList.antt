-- A fill after a list: change request M-111. No list leaves a state in which the next fill is refused for its mask. Assumes nothing.
use Rattle.std.specs.Prelude.{ℕ, ◌≡◌, refl, Bool, true, false, List, ◌≢◌, eqb, length}
use Rattle.std.proofs.Common.{sym, ap, ◌∙◌, subst, arith, eq-eqb, eqb-true}
use Rattle.std.proofs.lemmas.Bool.{eqb-false}
use Rattle.numbers.specs.Refuse.{refuse}
use Rattle.words.specs.Bit.{digit}
use Rattle.vram.specs.Board.{Board}
use Rattle.vram.specs.Step.{run}
use Rattle.vram.proofs.RuleLaws.{run_sized, run_ruled, run_words}
use Rattle.list.specs.Meaning.{bad, gives, verdict_of, cycles_of, run_call}
use Rattle.list.proofs.CallLaws.{call_runs, call_refuses}
use Rattle.list.proofs.PersistLaws.{call_plain}
use Rattle.planner.specs.Fill.{Fill}
use Rattle.planner.specs.Calls.{rows_ok, rectangle_ok, room_ok, fill_refusal, fill_call}
use Rattle.planner.specs.Paint.{after_fill, list_in, Wide, Start}
use Rattle.planner.proofs.ItPaints.{it_paints}

-- a fill that says it is not persistent is not refused with 13
pub plain_13 : (f : Fill) (out : List ℕ) → f.persistent ≡ 0 → (fill_call f out).answer.number ≢ 13
unfolding fill_call fill_refusal
plain_13 f out e = rw (eq-eqb f.persistent 0 e) (go (rows_ok f) (rectangle_ok f) (room_ok f (length out)))
  where
    go : (a b c : Bool) → refuse a 2 (refuse b 12 (refuse c 15 0)) ≢ 13
    go true true true h = omega arith
    go true true false h = omega arith
    go true false c h = omega arith
    go false b c h = omega arith

module _ (list : List ℕ) (b : Board) where
  -- planned from the state that a list leaves, where the mask was not persistent before the list, accepted or refused
  pub fill_follows : b.state.persistent ≡ false → (f : Fill) (out : List ℕ) → f.persistent ≡ digit (run_call list b).after.state.persistent
      → (fill_call f out).answer.number ≢ 13
  fill_follows plain f out e = plain_13 f out (e ∙ ap digit (call_plain list b plain))

  -- a board from which fills paint is such after every list
  pub start_kept : (rows : ℕ) → Start rows b → Start rows (run_call list b).after
  start_kept rows s = go (eqb (verdict_of list b).number 0) refl
    where
      ran : (verdict_of list b).number ≡ 0 → Start rows (run (cycles_of list) b)
      ran h =
          let z = run_sized (cycles_of list) b in
          record {
            rule = run_ruled (cycles_of list) b s.rule;
            memory = record { size = z.memory ∙ s.memory.size; words = run_words (cycles_of list) b s.memory.words };
            register = z.serial ∙ s.register;
            plain = sym (ap (λ (x : Board). x.state.persistent) (call_runs list b h)) ∙ call_plain list b s.plain;
          }

      go : (t : Bool) → eqb (verdict_of list b).number 0 ≡ t → Start rows (run_call list b).after
      go true q = subst (Start rows) (sym (call_runs list b (eqb-true _ _ q))) (ran (eqb-true _ _ q))
      go false q = subst (Start rows) (sym (call_refuses list b (eqb-false _ _ q))) s

  -- so a fill's list paints after it
  pub paints_after : (f : Fill) (out : List ℕ) → Wide f → (fill_call f out).answer.number ≡ 0 → Start f.rows b
      → let x = (run_call list b).after in run_call (list_in (fill_call f out)) x ≡ gives (bad 0 0) (after_fill f x)
  paints_after f out wide z s = it_paints f out wide z (run_call list b).after (start_kept f.rows s)
