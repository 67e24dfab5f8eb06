-- Laws of the calls: the ways out of each; a refusal hands the state back as it came and changes nothing lent. Assumes nothing.
use Rattle.std.specs.Prelude.{ℕ, ◌≡◌, refl, true, false, List, ◌≢◌}
use Rattle.std.specs.Prelude.Option.{None}
use Rattle.std.proofs.Common.{sym, ap₂, ◌∙◌, ne_eqb}
use Rattle.std.proofs.Math.Path.{ap}
use Rattle.numbers.specs.declared.Refusal.{Refusal}
use Rattle.numbers.specs.Refusal.{number_of}
use Rattle.numbers.specs.RefusalLaws.{number_not_zero}
use Rattle.refusals.specs.Refusal.{partition_ok}
use Rattle.vram.specs.declared.Vram.{Vram}
use Rattle.vram.specs.declared.Cycle.{Cycle}
use Rattle.vram.specs.Board.{Board, board, effect}
use Rattle.vram.specs.Step.{Engine}
use Rattle.list.specs.Meaning.{Ran as ListRan}
use Rattle.registers.specs.declared.Registers.{Registers}
use Rattle.registers.specs.declared.Ran.{Ran}
use Rattle.registers.specs.State.{lawful, taken, handed, handed_answer, handed_ran, excluded_ran}
use Rattle.registers.specs.StateLaws.{handed_taken, taking_excluded, taking_done, taking_handed, taking_either, taking_same, handed_plain, taking_plain, other_length}
use Rattle.std.specs.Prelude.{Option}
use Rattle.marks.specs.Calls.{Marked as Below, Outcome, outcome, run_call_by, run_call, answers, answered, next_call, Values, values_of}
use Rattle.marks.proofs.CallLaws.{run_given_by, run_refuses_by, marked_same, run_plain, answered_is}
use Rattle.marks_c.specs.declared.Marked.{Marked}
use Rattle.marks_c.specs.Calls.{Listed, listed, list_answer, marked_call_by, marked_call, handed_next}

-- ---- a list with marks, by any engine

module _ (e : Engine) (s : Registers) (m q marks list : List ℕ) where
  abbrev below : Vram → Listed
  below v = list_answer (run_call_by e list (board v m q) marks)

  -- ---- the two ways out, by what the code has

  pub marked_excluded : lawful s ≡ false → listed (excluded_ran s) m q marks ≡ marked_call_by e s m q marks list
  unfolding marked_call_by
  marked_excluded h = taking_excluded below _ s h

  pub marked_done : lawful s ≡ true → (v : Vram) → v ≡ taken s → (ran : ListRan) (m' q' marks' : List ℕ)
      → outcome ran m' q' marks' ≡ run_call_by e list (board v m q) marks → (answer : Ran) → answer ≡ handed_ran ran
      → listed answer m' q' marks' ≡ marked_call_by e s m q marks list
  unfolding marked_call_by
  marked_done h v t ran m' q' marks' f answer g =
      taking_done below _ s h v t (listed answer m' q' marks') (ap (λ (a : Ran). listed a m' q' marks') g ∙ ap list_answer f)

  -- ---- a refusal hands the state back as it came, also where no `Vram` can be so, and changes nothing lent: no mark is set

  pub marked_refused : (let o = marked_call_by e s m q marks list in o.answer.number ≢ 0
      → o ≡ listed (record { state = s; number = o.answer.number; place = o.answer.place }) m q marks)
  unfolding marked_call_by
  marked_refused = taking_either below _ (λ (o : Listed). o.answer.number ≢ 0 → o ≡ back o s) s done (λ n. refl)
    where
      given : Board
      given = board (taken s) m q

      back : Listed → Registers → Listed
      back o t = listed (record { state = t; number = o.answer.number; place = o.answer.place }) m q marks

      done : lawful s ≡ true → (below (taken s)).answer.number ≢ 0 → below (taken s) ≡ back (below (taken s)) s
      done l n =
          let o = run_call_by e list given marks in
          ap (λ (x : Outcome). listed (handed_answer o.given x.after.state) x.after.memory x.after.serial x.marks)
          (run_refuses_by e list given marks (λ z. n (ap (λ v. v.number) (run_given_by e list given marks) ∙ z)))
          ∙ ap (back (below (taken s))) (handed_taken s l)

  -- a stored length that is not one of the four is 1
  pub other_length_marked : partition_ok s.stop ≡ false → marked_call_by e s m q marks list ≡ listed (excluded_ran s) m q marks
  other_length_marked h = sym (marked_excluded (other_length s h))

-- a call on a state that was handed to C is the call below, so a session in C is the session below
pub marked_handed : (e : Engine) (v : Vram) (m q marks list : List ℕ)
    → marked_call_by e (handed v) m q marks list ≡ list_answer (run_call_by e list (board v m q) marks)
unfolding marked_call_by
marked_handed e v m q marks list = taking_handed (λ x. list_answer (run_call_by e list (board x m q) marks)) _ v

-- two engines that do the same give the same answers and leave the same
pub marks_same : {e f : Engine} → ((c : Cycle) (b : Board) → e c b ≡ f c b) → (s : Registers) (m q marks list : List ℕ)
    → marked_call_by e s m q marks list ≡ marked_call_by f s m q marks list
unfolding marked_call_by
marks_same {e} {f} h s m q marks list =
    taking_same (below e s m q marks list) (below f s m q marks list) _ s (λ v. ap list_answer (marked_same h list (board v m q) marks))

-- no marked run, accepted or refused, makes a mask persistent that was not
pub marked_plain : (s : Registers) → s.persistent ≡ 0 → (m q marks list : List ℕ) → (marked_call s m q marks list).answer.state.persistent ≡ 0
unfolding marked_call_by
marked_plain s e m q marks list =
    taking_plain (below effect s m q marks list) _ (λ (o : Listed). o.answer.state) s e
    (λ v h. handed_plain (run_call list (board v m q) marks).after.state (run_plain list (board v m q) marks h)) e

-- ---- the next marked row: the number, and the values of what is found

pub refused_handed : (refusal : Refusal) → record { number = number_of refusal; found = 0; row = 0 } ≡ handed_next (answers (number_of refusal) None)
unfolding handed_next answered
refused_handed refusal = rw (ne_eqb (number_of refusal) 0 (number_not_zero refusal)) refl

pub next_handed : (marks : List ℕ) (start : ℕ) (m : Below) → m ≡ next_call marks start → (f : Option ℕ) → m.found ≡ f → (v : Values) → v ≡ values_of f
    → record { number = m.number; found = v.found; row = v.row } ≡ handed_next (next_call marks start)
unfolding handed_next
next_handed marks start m e f g v h =
    ap₂ marked (ap (λ (x : Below). x.number) e) (h ∙ ap values_of (sym g ∙ ap (λ (x : Below). x.found) e))
    ∙ ap (λ (x : Values). marked x.number x) (sym (answered_is marks start))
  where
    marked : ℕ → Values → Marked
    marked n x = record { number = n; found = x.found; row = x.row }
