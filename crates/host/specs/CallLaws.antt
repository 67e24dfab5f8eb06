-- Laws of the clock and the runs to the panel: the two ways out of each; a refusal hands the state back as it came and changes nothing lent;
-- another length than the four is refused; none makes a mask persistent. Assumes nothing.
use Rattle.std.specs.Prelude.{ℕ, ◌≡◌, refl, Bool, true, false, cond, List, ◌≢◌}
use Rattle.std.proofs.Common.{sym, ◌∙◌}
use Rattle.std.proofs.Math.Path.{ap}
use Rattle.refusals.specs.Refusal.{partition_ok}
use Rattle.vram.specs.declared.Vram.{Vram}
use Rattle.vram.specs.Calls.{Clocked as VramClocked}
use Rattle.vram.specs.Calls.{Answered}
use Rattle.vram.specs.Calls.{clock_call as vram_clock}
use Rattle.vram.proofs.CallLaws.{clock_refuses, clock_persistent}
use Rattle.palette.specs.declared.Palette.{Palette}
use Rattle.panel.specs.Calls.{Outcome as PanelOutcome, outcome as panel_outcome, run_call_by as panel_run_by}
use Rattle.panel.proofs.CallLaws.{run_number, run_refuses, run_persistent}
use Rattle.panel.proofs.WidthLaws.{same_answer}
use Rattle.registers.specs.declared.Registers.{Registers}
use Rattle.registers.specs.State.{lawful, taken, handed}
use Rattle.registers.specs.StateLaws.{handed_taken, taking_excluded, taking_done, taking_handed, taking_either, handed_plain, taking_plain, other_length}
use Rattle.host.specs.declared.Clocked.{Clocked}
use Rattle.host.specs.Calls.{clock_answer, clock_call, ShownTo, shown, panel_answer, panel_call_by}

-- ---- the two ways out of each call, by what the code has

module _ (s : Registers) where
  module _ (h : lawful s ≡ false) where
    pub clock_excluded : (r : List ℕ) → record { state = s; word = 0; number = 1 } ≡ clock_call s r
    unfolding clock_call
    clock_excluded r = taking_excluded (λ v. clock_answer (vram_clock v r)) _ s h

    pub panel_excluded : (parts : ℕ → ℕ) (r : List ℕ) (p : Palette) (t : List ℕ) (clocks blank : ℕ) (out : List ℕ)
        → shown (record { state = s; number = 1 }) out ≡ panel_call_by parts s r p t clocks blank out
    unfolding panel_call_by
    panel_excluded parts r p t clocks blank out = taking_excluded (λ v. panel_answer (panel_run_by parts v r p t clocks blank out)) _ s h

  module _ (h : lawful s ≡ true) (v : Vram) (e : v ≡ taken s) where
    pub clock_done : (r : List ℕ) (c : VramClocked) → c ≡ vram_clock v r → (given : Registers) → given ≡ handed c.state
        → record { state = given; word = c.word; number = c.number } ≡ clock_call s r
    unfolding clock_call
    clock_done r c f given g =
        taking_done (λ x. clock_answer (vram_clock x r)) _ s h v e _ (ap (clocked c) g ∙ ap clock_answer f)
      where
        clocked : VramClocked → Registers → Clocked
        clocked x t = record { state = t; word = x.word; number = x.number }

    pub panel_done : (parts : ℕ → ℕ) (r : List ℕ) (p : Palette) (t : List ℕ) (clocks blank : ℕ) (out : List ℕ) (a : Answered) (out' : List ℕ)
        → panel_outcome a out' ≡ panel_run_by parts v r p t clocks blank out → (given : Registers) → given ≡ handed a.state
        → shown (record { state = given; number = a.number }) out' ≡ panel_call_by parts s r p t clocks blank out
    unfolding panel_call_by
    panel_done parts r p t clocks blank out a out' f given g =
        taking_done (λ x. panel_answer (panel_run_by parts x r p t clocks blank out)) _ s h v e _
        (ap (λ (x : Registers). shown (record { state = x; number = a.number }) out') g ∙ ap panel_answer f)

-- ---- a refusal hands the state back as it came, also where no `Vram` can be so, and changes nothing lent

module _ (s : Registers) where
  pub clock_refused : (r : List ℕ) → let o = clock_call s r in o.number ≢ 0 → o ≡ record { state = s; word = 0; number = o.number }
  unfolding clock_call
  clock_refused r =
      taking_either (λ v. clock_answer (vram_clock v r)) _ (λ (o : Clocked). o.number ≢ 0 → o ≡ clocked s 0 o.number) s done (λ n. refl)
    where
      below : VramClocked
      below = vram_clock (taken s) r

      clocked : Registers → ℕ → ℕ → Clocked
      clocked t word number = record { state = t; word = word; number = number }

      done : lawful s ≡ true → below.number ≢ 0 → clock_answer below ≡ clocked s 0 below.number
      done e n =
          ap clock_answer (clock_refuses (taken s) r n) ∙ ap (λ (t : Registers). clocked t 0 below.number) (handed_taken s e)

  pub panel_refused : (parts : ℕ → ℕ) (r : List ℕ) (p : Palette) (t : List ℕ) (clocks blank : ℕ) (out : List ℕ)
      → let o = panel_call_by parts s r p t clocks blank out in o.answer.number ≢ 0
      → o ≡ shown (record { state = s; number = o.answer.number }) out
  unfolding panel_call_by
  panel_refused parts r p t clocks blank out =
      taking_either (λ v. panel_answer (panel_run_by parts v r p t clocks blank out)) _
      (λ (o : ShownTo). o.answer.number ≢ 0 → o ≡ back s o.answer.number) s done (λ n. refl)
    where
      ran : PanelOutcome
      ran = panel_run_by parts (taken s) r p t clocks blank out

      back : Registers → ℕ → ShownTo
      back u number = shown (record { state = u; number = number }) out

      done : lawful s ≡ true → ran.answer.number ≢ 0 → panel_answer ran ≡ back s ran.answer.number
      done e n =
          ap panel_answer (sym (run_refuses parts (taken s) r p t clocks blank out ran.answer.number (run_number parts (taken s) r p t clocks blank out) n))
          ∙ ap (λ (u : Registers). back u ran.answer.number) (handed_taken s e)

-- ---- a stored length that is not one of the four is 1, in each of these calls

module _ (s : Registers) (h : partition_ok s.stop ≡ false) where
  pub other_length_clock : (r : List ℕ) → clock_call s r ≡ record { state = s; word = 0; number = 1 }
  other_length_clock r = sym (clock_excluded s (other_length s h) r)

  pub other_length_panel : (parts : ℕ → ℕ) (r : List ℕ) (p : Palette) (t : List ℕ) (clocks blank : ℕ) (out : List ℕ)
      → panel_call_by parts s r p t clocks blank out ≡ shown (record { state = s; number = 1 }) out
  other_length_panel parts r p t clocks blank out = sym (panel_excluded s (other_length s h) parts r p t clocks blank out)

-- ---- no call, accepted or refused, makes a mask persistent that was not

module _ (s : Registers) (e : s.persistent ≡ 0) where
  pub clock_plain : (r : List ℕ) → (clock_call s r).state.persistent ≡ 0
  unfolding clock_call
  clock_plain r =
      taking_plain (λ v. clock_answer (vram_clock v r)) _ (λ (o : Clocked). o.state) s e
      (λ v h. handed_plain (vram_clock v r).state (clock_persistent v r ∙ h)) e

  pub panel_plain : (parts : ℕ → ℕ) (r : List ℕ) (p : Palette) (t : List ℕ) (clocks blank : ℕ) (out : List ℕ)
      → (panel_call_by parts s r p t clocks blank out).answer.state.persistent ≡ 0
  unfolding panel_call_by
  panel_plain parts r p t clocks blank out =
      taking_plain (λ v. panel_answer (panel_run_by parts v r p t clocks blank out)) _ (λ (o : ShownTo). o.answer.state) s e
      (λ v h. handed_plain (panel_run_by parts v r p t clocks blank out).answer.state (run_persistent parts v r p t clocks blank out ∙ h)) e

-- ---- both runs to the panel answer the same state and number

pub panel_same : (parts others : ℕ → ℕ) (s : Registers) (r : List ℕ) (p : Palette) (t : List ℕ) (clocks blank : ℕ) (out : List ℕ)
    → (panel_call_by parts s r p t clocks blank out).answer ≡ (panel_call_by others s r p t clocks blank out).answer
unfolding panel_call_by
panel_same parts others s r p t clocks blank out = go (lawful s)
  where
    run : (ℕ → ℕ) → PanelOutcome
    run f = panel_run_by f (taken s) r p t clocks blank out

    excluded : ShownTo
    excluded = shown (record { state = s; number = 1 }) out

    go : (b : Bool) → (cond b (panel_answer (run parts)) excluded).answer ≡ (cond b (panel_answer (run others)) excluded).answer
    go true = ap (λ (a : Answered). (panel_answer (panel_outcome a out)).answer) (same_answer parts others (taken s) r p t clocks blank out)
    go false = refl

-- ---- a call on a state that was handed to C is the call below, so a session in C is the session below

module _ (v : Vram) where
  pub clock_handed : (r : List ℕ) → clock_call (handed v) r ≡ clock_answer (vram_clock v r)
  unfolding clock_call
  clock_handed r = taking_handed (λ x. clock_answer (vram_clock x r)) _ v

  pub panel_handed : (parts : ℕ → ℕ) (r : List ℕ) (p : Palette) (t : List ℕ) (clocks blank : ℕ) (out : List ℕ)
      → panel_call_by parts (handed v) r p t clocks blank out ≡ panel_answer (panel_run_by parts v r p t clocks blank out)
  unfolding panel_call_by
  panel_handed parts r p t clocks blank out = taking_handed (λ x. panel_answer (panel_run_by parts x r p t clocks blank out)) _ v
