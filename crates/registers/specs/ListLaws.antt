-- Laws of a list's call from C, by any engine: its two ways out; a refusal hands the state back as it came and changes nothing lent.
-- Assumes nothing.
use Rattle.std.specs.Prelude.{ℕ, ◌≡◌, refl, true, false, List, ◌≢◌}
use Rattle.std.proofs.Common.{sym, ◌∙◌}
use Rattle.std.proofs.Math.Path.{ap}
use Rattle.refusals.specs.Refusal.{partition_ok}
use Rattle.vram.specs.declared.Vram.{Vram}
use Rattle.vram.specs.declared.Cycle.{Cycle}
use Rattle.vram.specs.Board.{Board, board, effect}
use Rattle.vram.specs.Step.{Engine}
use Rattle.list.specs.Meaning.{Ran as ListRan}
use Rattle.list.specs.Meaning.{Outcome, outcome, run_call_by, run_call}
use Rattle.list.proofs.CallLaws.{call_given_by, call_refuses_by, calls_same}
use Rattle.list.proofs.PersistLaws.{call_plain}
use Rattle.registers.specs.declared.Registers.{Registers}
use Rattle.registers.specs.declared.Ran.{Ran}
use Rattle.registers.specs.State.{lawful, taken, handed, handed_ran, excluded_ran}
use Rattle.registers.specs.StateLaws.{handed_taken, taking_excluded, taking_done, taking_handed, taking_either, taking_same, handed_plain, taking_plain, other_length}
use Rattle.registers.specs.Lists.{Listed, listed, list_answer, list_call_by, list_call}

module _ (e : Engine) where
  abbrev below : List ℕ → List ℕ → List ℕ → Vram → Listed
  below m q list v = list_answer (run_call_by e list (board v m q))

  -- ---- the two ways out, by what the code has

  module _ (s : Registers) where
    pub list_excluded : lawful s ≡ false → (m q list : List ℕ) → listed (excluded_ran s) m q ≡ list_call_by e s m q list
    unfolding list_call_by
    list_excluded h m q list = taking_excluded (below m q list) _ s h

    pub list_done : lawful s ≡ true → (v : Vram) → v ≡ taken s → (m q list : List ℕ) (ran : ListRan) (m' q' : List ℕ)
        → outcome ran m' q' ≡ run_call_by e list (board v m q) → (answer : Ran) → answer ≡ handed_ran ran → listed answer m' q' ≡ list_call_by e s m q list
    unfolding list_call_by
    list_done h v t m q list ran m' q' f answer g =
        taking_done (below m q list) _ s h v t (listed answer m' q') (ap (λ (a : Ran). listed a m' q') g ∙ ap list_answer f)

    -- ---- a refusal hands the state back as it came, also where no `Vram` can be so, and changes nothing lent

    pub list_refused : (m q list : List ℕ) → let o = list_call_by e s m q list in o.answer.number ≢ 0
        → o ≡ listed (record { state = s; number = o.answer.number; place = o.answer.place }) m q
    unfolding list_call_by
    list_refused m q list = taking_either (below m q list) _ (λ (o : Listed). o.answer.number ≢ 0 → o ≡ back o s m q) s done (λ n. refl)
      where
        given : Board
        given = board (taken s) m q

        ran : Outcome
        ran = run_call_by e list given

        back : Listed → Registers → List ℕ → List ℕ → Listed
        back o t m' q' = listed (record { state = t; number = o.answer.number; place = o.answer.place }) m' q'

        done : lawful s ≡ true → ran.given.number ≢ 0 → list_answer ran ≡ back (list_answer ran) s m q
        done l n =
            ap (λ (b : Board). back (list_answer ran) (handed b.state) b.memory b.serial)
            (call_refuses_by e list given (λ z. n (ap (λ v. v.number) (call_given_by e list given) ∙ z)))
            ∙ ap (λ (t : Registers). back (list_answer ran) t m q) (handed_taken s l)

    -- a stored length that is not one of the four is 1
    pub other_length_list : partition_ok s.stop ≡ false → (m q list : List ℕ) → list_call_by e s m q list ≡ listed (excluded_ran s) m q
    other_length_list h m q list = sym (list_excluded (other_length s h) m q list)

  -- on a state that was handed to C it is the call below, so a session in C is the session below
  pub list_handed : (v : Vram) (m q list : List ℕ) → list_call_by e (handed v) m q list ≡ list_answer (run_call_by e list (board v m q))
  unfolding list_call_by
  list_handed v m q list = taking_handed (below m q list) _ v

-- ---- two engines that do the same give the same answers and leave the same

pub lists_same : {e f : Engine} → ((c : Cycle) (b : Board) → e c b ≡ f c b) → (s : Registers) (m q list : List ℕ)
    → list_call_by e s m q list ≡ list_call_by f s m q list
unfolding list_call_by
lists_same {e} {f} h s m q list =
    taking_same (below e m q list) (below f m q list) _ s (λ v. ap list_answer (calls_same h list (board v m q)))

-- ---- no list, accepted or refused, makes a mask persistent that was not

pub list_plain : (s : Registers) → s.persistent ≡ 0 → (m q list : List ℕ) → (list_call s m q list).answer.state.persistent ≡ 0
unfolding list_call_by
list_plain s e m q list =
    taking_plain (below effect m q list) _ (λ (o : Listed). o.answer.state) s e
    (λ v h. handed_plain (run_call list (board v m q)).after.state (call_plain list (board v m q) h)) e
