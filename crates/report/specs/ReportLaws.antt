-- Laws of a report: its parts, and that a page has room for it. Assumes nothing.
use Rattle.std.specs.Prelude.{◌≡◌, refl, Bool, true, false, cond, ◌≢◌, ℕ, ◌≤◌, ◌<◌, eqb, leb, length, replicate, take, drop}
use Rattle.std.proofs.Common.{sym, ◌∙◌, subst, arith, length-take, take_at, eqb-true, le-leb, leb-true, List}
use Rattle.std.proofs.Math.Path.{ap}
use Rattle.std.proofs.lemmas.List.{length-replicate}
use Rattle.std.proofs.lemmas.Bool.{eqb-false, lt-leb}
use Rattle.numbers.specs.Refuse.{refuse, leaves}
use Rattle.numbers.specs.RefuseLaws.{refuse_zero, leaves_before}
use Rattle.numbers.specs.Buffer.{over}
use Rattle.vram.specs.declared.Vram.{Vram}
use Rattle.vram.specs.State.{fresh}
use Rattle.vram.specs.Board.{board}
use Rattle.vram.proofs.RuleLaws.{run_sized}
use Rattle.list.specs.Meaning.{Ran}
use Rattle.list.specs.Meaning.{Outcome, outcome, cycles_of, verdict_of, run_call}
use Rattle.list.proofs.CallLaws.{call_given, call_runs, call_refuses}
use Rattle.list.proofs.RangeLaws.{call_most}
use Rattle.report.specs.Report.{Reported}
use Rattle.report.specs.Text.{all_lines, too_long, Put}
use Rattle.report.specs.TextLaws.{put_size, put_over, all_lines_most}
use Rattle.report.specs.Report.{start, lines_of, text_of, Told, told, tell, report_call}

-- ---- a list that is not too long

module _ (list : List ℕ) (short : length list ≤ 4096) where
  -- its number and its place have at most four digits
  pub few_digits : ((run_call list start).given.number < 10000) × ((run_call list start).given.place < 10000)
  few_digits =
      let m = call_most list start in
      rw (call_given list start) (omega (arith, m.0), omega (arith, m.1))

  pub text_short : lines_of (run_call list start) ≡ text_of list
  unfolding text_of
  text_short = rw (le-leb (length list) 4096 short)

pub text_long : (list : List ℕ) → 4096 < length list → too_long ≡ text_of list
unfolding text_of
text_long list h = rw (lt-leb (length list) 4096 h)

-- ---- the memory keeps its 64 rows

pub memory_size : (list : List ℕ) → length (run_call list start).after.memory ≡ 32768
memory_size list = go (eqb (verdict_of list start).number 0) refl
  where
    go : (t : Bool) → eqb (verdict_of list start).number 0 ≡ t → length (run_call list start).after.memory ≡ 32768
    go true e = rw (call_runs list start (eqb-true _ _ e)) ((run_sized (cycles_of list) start).memory ∙ length-replicate {A = ℕ} 32768 0)
    go false e = rw (call_refuses list start (eqb-false _ _ e)) (length-replicate {A = ℕ} 32768 0)

-- ---- a text has at most 491,540 bytes

pub text_most : (list : List ℕ) → length (text_of list) ≤ 491540
unfolding text_of
text_most list = go (leb (length list) 4096)
  where
    go : (t : Bool) → length (cond t (lines_of (run_call list start)) too_long) ≤ 491540
    go true =
        let a = all_lines_most (run_call list start).given.number (run_call list start).given.place (run_call list start).after.memory in
        omega (arith, memory_size list)
    go false = omega arith

-- ---- a text in a buffer

abbrev pub reported : ℕ → ℕ → Reported
reported n bytes = record { number = n; bytes = bytes }

module _ (bytes text : List ℕ) (n : ℕ) (e : n ≡ refuse (leb (length bytes) (length text)) 15 0) where
  pub tell_room : n ≡ 0 → length bytes ≤ length text
  tell_room z = leb-true _ _ (refuse_zero (leb (length bytes) (length text)) 14 0 (sym e ∙ z)).0

  pub tell_refused : n ≢ 0 → told (reported n 0) text ≡ tell bytes text
  unfolding tell
  tell_refused h = rw (← e, leaves_before n 0 (length bytes) h, leaves_before n text (over bytes text) h)

  pub tell_done : n ≡ 0 → (text' : List ℕ) (end : ℕ) → Put text 0 bytes text' end → told (reported 0 (length bytes)) text' ≡ tell bytes text
  unfolding tell
  tell_done z text' end q = rw (← e, z) (ap (told (reported 0 (length bytes))) (put_over q (tell_room z)))

-- ---- what stands on the page

module _ (list page page' : List ℕ) (bytes : ℕ) (p : Put page 0 (text_of list) page' bytes) (room : 491540 ≤ length page) where
  pub bytes_is : bytes ≡ length (text_of list)
  bytes_is = p.end ∙ (omega arith)

  pub bytes_most : bytes ≤ length page'
  bytes_most = omega (arith, bytes_is, text_most list, put_size p)

  pub bytes_taken : bytes ≡ length (take bytes page')
  bytes_taken = sym (simp length-take (omega (arith, bytes_most)))

  pub page_text : take bytes page' ≡ text_of list
  page_text = ap (take bytes) (put_over p (omega (arith, text_most list))) ∙ take_at (text_of list) (drop (length (text_of list)) page) bytes (sym bytes_is)

  pub report_told : (r : Reported) (text text' : List ℕ) → told r text' ≡ tell (take bytes page') text → told r text' ≡ report_call list text
  unfolding report_call
  report_told r text text' e = e ∙ ap (λ (l : List ℕ). tell l text) page_text

-- ---- the same of what the code has from the run

module _ (list : List ℕ) (v : Vram) (f : v ≡ fresh) (ran : Ran) (m q : List ℕ)
    (e : outcome ran m q ≡ run_call list (board v (replicate 32768 0) (replicate 256 0))) where
  ran_is : outcome ran m q ≡ run_call list start
  ran_is = e ∙ ap (λ (w : Vram). run_call list (board w (replicate 32768 0) (replicate 256 0))) f

  pub ran_size : length m ≡ 32768
  ran_size = subst (λ (o : Outcome). length o.after.memory ≡ 32768) (sym ran_is) (memory_size list)

  pub ran_few : length list ≤ 4096 → (ran.number < 10000) × (ran.place < 10000)
  ran_few short = subst (λ (o : Outcome). (o.given.number < 10000) × (o.given.place < 10000)) (sym ran_is) (few_digits list short)

  pub ran_lines : all_lines ran.number ran.place m ≡ lines_of (run_call list start)
  ran_lines = ap lines_of ran_is

-- what a report answers lies within the buffer
pub told_within : (list text text' : List ℕ) (r : Reported) → told r text' ≡ report_call list text → r.bytes ≤ length text
unfolding report_call tell
told_within list text text' r e = subst (λ (o : Told). o.answer.bytes ≤ length text) (sym e) (go (leb (length (text_of list)) (length text)) refl)
  where
    go : (t : Bool) → leb (length (text_of list)) (length text) ≡ t → leaves (refuse t 15 0) 0 (length (text_of list)) ≤ length text
    go true q = leb-true _ _ q
    go false q = omega arith
