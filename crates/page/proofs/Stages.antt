-- A page, cycle by cycle: version three's fault, a new result on the screen before its mark, cannot be where the mark is named first.
-- Change request M-103. Assumes nothing.
use Rattle.std.specs.Prelude.{ℕ, ◌≡◌, List, [], ◌∷◌, ◌++◌, ◌≢◌, ◌⊎◌, length, take}
use Rattle.std.proofs.Common.{sym, ap, ◌∙◌, subst, arith}
use Rattle.vram.specs.declared.Cycle.{Cycle}
use Rattle.vram.specs.Board.{Board}
use Rattle.vram.specs.Step.{run}
use Rattle.list.specs.Meaning.{cycles_of}
use Rattle.list.proofs.EncodeLaws.{cycles_encode_all}
use Rattle.planner.specs.Fill.{Fill}
use Rattle.planner.specs.Paint.{Wide, Start}
use Rattle.page.specs.Calls.{fills_of, plans, page_call, list_in}
use Rattle.page.proofs.CallLaws.{page_list}
use Rattle.page.proofs.Each.{Each, Good, page_good, Bytes, page_wide}
use Rattle.page.proofs.PagePaints.{painted_all}
use Rattle.page.proofs.Stage.{Stage, Stands}
use Rattle.page.proofs.StageLaws.{stages, stages_of_two, stage_stands}

no_nil : {f : Fill} {l : List Fill} → f ∷ l ≢ []
no_nil q = let n = ap length q in omega arith

-- of a page that is not refused, on every board that the rules allow with the rows fitted and not persistent
module _ (rows persistent : ℕ) (rectangles out : List ℕ) (h : Bytes rectangles) (z : (page_call rows persistent rectangles out).answer.number ≡ 0)
    (b : Board) (s : Start rows b) where
  -- the first k cycles of its list, and the memory after them
  abbrev pub first : ℕ → List Cycle
  first k = take k (cycles_of (list_in (page_call rows persistent rectangles out)))

  abbrev pub shows : ℕ → List ℕ
  shows k = (run (first k) b).memory

  its_cycles : (k : ℕ) → first k ≡ take k (plans (fills_of rows rectangles))
  its_cycles k = ap (take k) (ap cycles_of (page_list rows persistent rectangles out z) ∙ cycles_encode_all (plans (fills_of rows rectangles)))

  -- after every number of cycles there is a current rectangle
  pub page_stages : fills_of rows rectangles ≢ [] → (k : ℕ) → Stage (fills_of rows rectangles) (first k) b.memory (shows k)
  page_stages n k =
      subst (λ (l : List Cycle). Stage (fills_of rows rectangles) l b.memory (run l b).memory) (sym (its_cycles k))
      (stages rows (fills_of rows rectangles) n (page_good rows persistent rectangles out z) (page_wide rows rectangles h) b s k)

  -- a mark named before its result
  module _ (front : List Fill) (mark : Fill) (between : List Fill) (result : Fill) (rest : List Fill)
      (e : fills_of rows rectangles ≡ (front ++ (mark ∷ between)) ++ (result ∷ rest)) where
    abbrev pub sofar : List Fill
    sofar = front ++ (mark ∷ between)

    -- the running is at a rectangle before the result, of which no cycle has run; or all before it, the mark too, are painted whole, and j
    -- cycles of what follows have run on that
    abbrev pub MarkFirst : ℕ → Type 0
    MarkFirst k =
        Stage sofar (first k) b.memory (shows k)
        ⊎ ((j : ℕ) × (first k ≡ plans sofar ++ take j (plans (result ∷ rest))) × Stage (result ∷ rest) (take j (plans (result ∷ rest))) (painted_all sofar b.memory) (shows k))

    some_before : (l : List Fill) → l ++ (mark ∷ between) ≢ []
    some_before [] = no_nil
    some_before (f ∷ l) = no_nil

    pub page_mark_first : (k : ℕ) → MarkFirst k
    page_mark_first k =
        subst
        (λ (l : List Cycle).
        Stage sofar l b.memory (run l b).memory
        ⊎ ((j : ℕ) × (l ≡ plans sofar ++ take j (plans (result ∷ rest))) × Stage (result ∷ rest) (take j (plans (result ∷ rest))) (painted_all sofar b.memory) (run l b).memory))
        (sym (its_cycles k ∙ ap (λ (fs : List Fill). take k (plans fs)) e))
        (stages_of_two rows sofar (result ∷ rest) (some_before front) no_nil
        (subst (Each (Good rows)) e (page_good rows persistent rectangles out z)) (subst (Each Wide) e (page_wide rows rectangles h)) b s k)

    -- so then each bit of the mark stands that no later rectangle paints
    pub mark_stands : (k j : ℕ) → Stage (result ∷ rest) (take j (plans (result ∷ rest))) (painted_all sofar b.memory) (shows k)
        → Stands mark (between ++ (result ∷ rest)) (shows k)
    mark_stands k j = stage_stands front mark between (result ∷ rest) (take j (plans (result ∷ rest))) b.memory (shows k)
