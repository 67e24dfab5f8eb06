-- What a page paints: each rectangle in turn, the last on top. Demand 3 holds for each rectangle's own part. Change request M-103. Assumes nothing.
use Rattle.std.specs.Prelude.{ℕ, ◌≡◌, Bool, cond, ◌≢◌, length}
use Rattle.std.proofs.Common.{sym, ◌∙◌, subst, ⊎_elim, arith, List, [], ◌∷◌, ◌++◌}
use Rattle.std.proofs.Math.Path.{ap}
use mathlib.Core.List.{Memᴰ}
use Rattle.vram.specs.declared.Cycle.{Cycle}
use Rattle.vram.specs.State.{with_colour}
use Rattle.vram.specs.Board.{Board, board}
use Rattle.vram.specs.Refusal.{refusal}
use Rattle.vram.specs.Kinds.{tag_of}
use Rattle.vram.specs.Step.{given_of, rows_of, step, run}
use Rattle.vram.specs.StepLaws.{run_append}
use Rattle.vram.proofs.CaseLaws.{run_none}
use Rattle.vram.proofs.RuleLaws.{registers_ruled}
use Rattle.list.specs.Meaning.{bad, gives, run_call}
use Rattle.list.proofs.EncodedLaws.{encoded_run}
use Rattle.planner.specs.Fill.{Fill, inside, uses_blocks, plan}
use Rattle.planner.specs.Calls.{list_of}
use Rattle.planner.proofs.CallLaws.{asked_sound, filled}
use Rattle.planner.specs.Paint.{painted, after_fill, Wide, Start, Demanded}
use Rattle.planner.proofs.PaintLaws.{drawn_memory}
use Rattle.planner.proofs.AcceptedLaws.{plan_accepted, plan_tags}
use Rattle.planner.proofs.PlanRuns.{plan_runs, start_given, start_rows}
use Rattle.planner.proofs.AsDemanded.{list_demanded}
use Rattle.page.specs.Calls.{fills_of, plans, joined, page_call, list_in}
use Rattle.page.proofs.CallLaws.{plans_none, plans_more, joined_more, joined_append, page_number, accepted, page_list}
use Rattle.page.proofs.Each.{Each, each_first, each_later, mem_middle, Good, page_good, Bytes, page_wide}

-- ---- what is asked for

-- the memory, painted by each rectangle in turn, the last on top
unfoldable pub painted_all : List Fill → List ℕ → List ℕ
painted_all [] m = m
painted_all (f ∷ fs) m = painted_all fs (painted f m)

-- the colour register: the colour of the last fill that used blocks, and as it was where none did
unfoldable pub ink_after : List Fill → ℕ → ℕ
ink_after [] colour = colour
ink_after (f ∷ fs) colour = ink_after fs (cond (uses_blocks f) f.colour colour)

-- the board afterwards: mask register, persistence, serial state, stop points and serial register are as they were
abbrev pub after_page : List Fill → Board → Board
after_page fs b = board (with_colour b.state (ink_after fs b.state.colour)) (painted_all fs b.memory) b.serial

-- ---- one fill after the other

-- a board from which fills paint is such after a fill
pub start_after : (f : Fill) (rows : ℕ) (b : Board) → Start rows b → Start rows (after_fill f b)
start_after f rows b s =
    let colour = cond (uses_blocks f) f.colour b.state.colour in
    record {
      rule = registers_ruled b.state colour b.state.mask b.state.persistent ∙ s.rule;
      memory = drawn_memory f rows (inside f) b.memory s.memory;
      register = s.register;
      plain = s.plain;
    }

-- and after some
pub start_page : (fs : List Fill) (rows : ℕ) (b : Board) → Start rows b → Start rows (after_page fs b)
unfolding painted_all ink_after
start_page [] rows b s = s
start_page (f ∷ fs) rows b s = start_page fs rows (after_fill f b) (start_after f rows b s)

module _ (rows : ℕ) where
  pub fill_runs : (f : Fill) → Good rows f → Wide f → (b : Board) → Start rows b → run (plan f) b ≡ after_fill f b
  fill_runs f g w b s = plan_runs f (asked_sound f g.asked) w b (subst (λ (n : ℕ). Start n b) (sym g.fitted) s)

  pub plans_run : (fs : List Fill) → Each (Good rows) fs → Each Wide fs → (b : Board) → Start rows b → run (plans fs) b ≡ after_page fs b
  unfolding painted_all ink_after
  plans_run [] e w b s = ap (λ (l : List Cycle). run l b) plans_none ∙ run_none step b
  plans_run (f ∷ fs) e w b s =
      ap (λ (l : List Cycle). run l b) (plans_more f fs)
      ∙ run_append step (plan f) (plans fs) b
      ∙ ap (run (plans fs)) (fill_runs f (each_first e) (each_first w) b s)
      ∙ plans_run fs (each_later e) (each_later w) (after_fill f b) (start_after f rows b s)

  -- every cycle is one of some fill's
  plans_hold : (P : Cycle → Type 0) (fs : List Fill) → ((f : Fill) → Memᴰ f fs → (c : Cycle) → Memᴰ c (plan f) → P c)
      → (c : Cycle) → Memᴰ c (plans fs) → P c
  plans_hold P [] h c m = absurd (mathlib.Core.List.Memᴰ.not-nil (subst (Memᴰ c) plans_none m))
  plans_hold P (f ∷ fs) h c m =
      ⊎_elim (each_first h c) (plans_hold P fs (each_later h) c) (mathlib.Core.List.Memᴰ.append_cases (plan f) (subst (Memᴰ c) (plans_more f fs) m))

  pub joined_runs : (fs : List Fill) → Each (Good rows) fs → Each Wide fs → (b : Board) → given_of b ≡ 0 → Start rows b
      → run_call (joined fs) b ≡ gives (bad 0 0) (after_page fs b)
  joined_runs fs e w b g s =
      encoded_run (plans fs) b g
      (plans_hold (λ c. (made : Bool) → refusal (rows_of b) made c ≡ 0) fs
      (λ f m c k made. ap (λ (n : ℕ). refusal n made c) (start_rows rows b s ∙ sym (e f m).fitted) ∙ plan_accepted f c k made))
      (plans_hold (λ c. tag_of c ≢ 4) fs (λ f m c k z. omega (arith, plan_tags f c k, z)))
      ∙ ap (gives (bad 0 0)) (plans_run fs e w b s)

-- ---- a page that is not refused

module _ (rows persistent : ℕ) (rectangles out : List ℕ) (h : Bytes rectangles) (z : (page_call rows persistent rectangles out).answer.number ≡ 0) where
  -- from every board that the rules allow with the rows fitted and not persistent: the list is accepted, and it paints
  pub page_paints : (b : Board) → Start rows b → run_call (list_in (page_call rows persistent rectangles out)) b ≡ gives (bad 0 0) (after_page (fills_of rows rectangles) b)
  page_paints b s =
      let a = accepted rows persistent rectangles out (sym (page_number rows persistent rectangles out) ∙ z) in
      ap (λ (list : List ℕ). run_call list b) (page_list rows persistent rectangles out z)
      ∙ joined_runs rows (fills_of rows rectangles) (page_good rows persistent rectangles out z) (page_wide rows rectangles h) b
      (start_given rows b a.least a.most s) s

  -- a rectangle's own part of the list is its fill's list, of which all is true that demand 3 asks: it paints, no list that paints is
  -- shorter, and it counts
  pub record Part (before : List Fill) (f : Fill) (after : List Fill) : Type 0 where
    pub part : list_in (page_call rows persistent rectangles out) ≡ joined before ++ (list_of f ++ joined after)
    pub demanded : Demanded f (filled 0 (length (list_of f)) (length (plan f))) (list_of f)

  pub page_parts : (before : List Fill) (f : Fill) (after : List Fill) → fills_of rows rectangles ≡ before ++ (f ∷ after) → Part before f after
  page_parts before f after e =
      let m : Memᴰ f (fills_of rows rectangles) = subst (Memᴰ f) (sym e) (mem_middle before f after) in
      record {
        part = page_list rows persistent rectangles out z ∙ ap joined e ∙ joined_append before (f ∷ after) ∙ ap (λ (l : List ℕ). joined before ++ l) (joined_more f after);
        demanded = list_demanded f (page_wide rows rectangles h f m) (page_good rows persistent rectangles out z f m).asked;
      }
