-- Laws of the points of a page's running. Assumes nothing.
use Rattle.std.specs.Prelude.{ℕ, ◌+◌, ◌-◌, ◌≤◌, ◌<◌, ◌≡◌, refl, false, ◌≢◌, ◌⊎◌, length, get_or}
use Rattle.std.proofs.Math.Path.{sym, ap, subst}
use Rattle.std.proofs.Common.{◌∙◌, inl, inr, ⊎_elim, arith, List, [], ◌∷◌, ◌++◌, append-nil, append_assoc}
use Rattle.std.proofs.Math.Decide.{dec_le}
use Rattle.std.proofs.Math.ListN.{take}
use Rattle.std.proofs.lemmas.List.{take-append-le}
use Rattle.std.proofs.Math.Seq.{take-append-add}
use Rattle.words.specs.Bit.{bit}
use Rattle.vram.specs.declared.Cycle.{Cycle}
use Rattle.vram.specs.Board.{Board}
use Rattle.vram.specs.Step.{step, run}
use Rattle.vram.specs.StepLaws.{run_append}
use Rattle.planner.specs.Fill.{Fill, plan}
use Rattle.planner.specs.Paint.{painted, after_fill, Wide, Start}
use Rattle.planner.proofs.PaintLaws.{painted_length}
use Rattle.planner.proofs.NeverHalf.{Either, plan_either}
use Rattle.page.specs.Calls.{plans}
use Rattle.page.proofs.CallLaws.{plans_none, plans_more, plans_append}
use Rattle.page.proofs.Each.{Each, each_first, each_later, each_left, each_right, Good}
use Rattle.page.proofs.PagePaints.{painted_all, after_page, start_after, start_page, fill_runs, plans_run}
use Rattle.page.proofs.Stage.{Stage, painted_by, Stands}
use Rattle.page.proofs.SparedLaws.{spared_first, spared_left, spared_right, painted_covered, painted_spared, all_spared, all_length, all_append}

-- the first k cycles of a list, where k passes one part of it: the rest run on what that part has left
past : (l r : List Cycle) (k : ℕ) → length l ≤ k → take k (l ++ r) ≡ l ++ take (k - length l) r
past l r k h =
    let n : k ≡ length l + (k - length l) = omega arith in
    ap (λ (x : ℕ). take x (l ++ r)) n ∙ take-append-add l r (k - length l)

module _ (rows : ℕ) where
  -- the first fill is the current one
  here : (f : Fill) (fs : List Fill) → Good rows f → Wide f → (b : Board) → Start rows b → (k : ℕ) (l : List Cycle) → l ≡ take k (plan f)
      → Stage (f ∷ fs) l b.memory (run l b).memory
  unfolding painted_all
  here f fs g w b s k l e =
      record {
        before = [];
        current = f;
        after = fs;
        parts = refl;
        some = k;
        cycles = e ∙ ap (λ (x : List Cycle). x ++ take k (plan f)) (sym plans_none);
        either =
            subst (λ (x : List Cycle). Either f b.memory (run x b).memory) (sym e)
            (plan_either f g.asked w b (subst (λ (n : ℕ). Start n b) (sym g.fitted) s) k);
      }

  -- it is done, and one of the others is
  there : (f : Fill) (fs : List Fill) (ran : List Cycle) (m now : List ℕ) → Stage fs ran (painted f m) now → Stage (f ∷ fs) (plan f ++ ran) m now
  unfolding painted_all
  there f fs ran m now s =
      record {
        before = f ∷ s.before;
        current = s.current;
        after = s.after;
        parts = ap (λ (l : List Fill). f ∷ l) s.parts;
        some = s.some;
        cycles =
            ap (λ (l : List Cycle). plan f ++ l) s.cycles
            ∙ sym (append_assoc (plan f) (plans s.before) (take s.some (plan s.current)))
            ∙ ap (λ (l : List Cycle). l ++ take s.some (plan s.current)) (sym (plans_more f s.before));
        either = s.either;
      }

  first_of : (f : Fill) (fs : List Fill) → Each (Good rows) (f ∷ fs) → Each Wide (f ∷ fs) → (b : Board) → Start rows b
      → (k : ℕ) → Stage (f ∷ fs) (take k (plans (f ∷ fs))) b.memory (run (take k (plans (f ∷ fs))) b).memory
  first_of f [] e w b s k =
      here f [] (each_first e) (each_first w) b s k (take k (plans (f ∷ [])))
      (ap (take k) (plans_more f [] ∙ ap (λ (l : List Cycle). plan f ++ l) plans_none ∙ append-nil (plan f)))
  first_of f (g ∷ gs) e w b s k =
      go (first_of g gs (each_later e) (each_later w) (after_fill f b) (start_after f rows b s) (k - length (plan f)))
    where
      go : (let later = take (k - length (plan f)) (plans (g ∷ gs)) in Stage (g ∷ gs) later (painted f b.memory) (run later (after_fill f b)).memory)
          → Stage (f ∷ (g ∷ gs)) (take k (plans (f ∷ (g ∷ gs)))) b.memory (run (take k (plans (f ∷ (g ∷ gs)))) b).memory
      go ih =
          elim (dec_le k (length (plan f))) [
            | yes h ↦
                here f (g ∷ gs) (each_first e) (each_first w) b s k (take k (plans (f ∷ (g ∷ gs))))
                (ap (take k) (plans_more f (g ∷ gs)) ∙ take-append-le k (plan f) (plans (g ∷ gs)) h)
            | no h ↦
                let later = take (k - length (plan f)) (plans (g ∷ gs)) in
                let q : take k (plans (f ∷ (g ∷ gs))) ≡ plan f ++ later = ap (take k) (plans_more f (g ∷ gs)) ∙ past (plan f) (plans (g ∷ gs)) k (omega arith) in
                let r : run (plan f ++ later) b ≡ run later (after_fill f b)
                = run_append step (plan f) later b ∙ ap (run later) (fill_runs rows f (each_first e) (each_first w) b s) in
                subst (λ (l : List Cycle). Stage (f ∷ (g ∷ gs)) l b.memory (run l b).memory) (sym q)
                (subst (λ (x : Board). Stage (f ∷ (g ∷ gs)) (plan f ++ later) b.memory x.memory) (sym r) (there f (g ∷ gs) later b.memory _ ih))
          ]

  -- after every number of the cycles of some fills
  pub stages : (fs : List Fill) → fs ≢ [] → Each (Good rows) fs → Each Wide fs → (b : Board) → Start rows b
      → (k : ℕ) → Stage fs (take k (plans fs)) b.memory (run (take k (plans fs)) b).memory
  stages [] n e w b s k = absurd (n refl)
  stages (f ∷ fs) n e w b s k = first_of f fs e w b s k

  -- some fills and then others: either none of the others' cycles has run, or all of the first ones' have
  pub stages_of_two : (fs gs : List Fill) → fs ≢ [] → gs ≢ [] → Each (Good rows) (fs ++ gs) → Each Wide (fs ++ gs) → (b : Board) → Start rows b
      → (k : ℕ)
      → (let l = take k (plans (fs ++ gs)) in
      Stage fs l b.memory (run l b).memory
      ⊎ ((j : ℕ) × (l ≡ plans fs ++ take j (plans gs)) × Stage gs (take j (plans gs)) (painted_all fs b.memory) (run l b).memory))
  stages_of_two fs gs n m e w b s k =
      elim (dec_le k (length (plans fs))) [
        | yes h ↦
            inl
            (subst (λ (l : List Cycle). Stage fs l b.memory (run l b).memory)
            (sym (ap (take k) (plans_append fs gs) ∙ take-append-le k (plans fs) (plans gs) h))
            (stages fs n (each_left fs gs e) (each_left fs gs w) b s k))
        | no h ↦
            let j = k - length (plans fs) in
            let q : take k (plans (fs ++ gs)) ≡ plans fs ++ take j (plans gs) = ap (take k) (plans_append fs gs) ∙ past (plans fs) (plans gs) k (omega arith) in
            let r : run (take k (plans (fs ++ gs))) b ≡ run (take j (plans gs)) (after_page fs b)
            = ap (λ (l : List Cycle). run l b) q ∙ run_append step (plans fs) (take j (plans gs)) b
            ∙ ap (run (take j (plans gs))) (plans_run rows fs (each_left fs gs e) (each_left fs gs w) b s) in
            inr (
              j,
              q,
              subst (λ (x : Board). Stage gs (take j (plans gs)) (painted_all fs b.memory) x.memory) (sym r)
                  (stages gs m (each_right fs gs e) (each_right fs gs w) (after_page fs b) (start_page fs rows b s) j),
            )
      ]

-- ---- bit by bit

-- a bit that no rectangle paints is at every point as it was
pub stage_spared : (fs : List Fill) (ran : List Cycle) (m now : List ℕ) → Stage fs ran m now → (a i : ℕ) → a < length m → i < 16
    → painted_by fs a i ≡ false → bit (get_or now a 0) i ≡ bit (get_or m a 0) i
stage_spared fs ran m now s a i h l e =
    let c = ap (λ (x : List Fill). painted_by x a i) (sym s.parts) ∙ e in
    let p = painted_all s.before m in
    let r : a < length p = subst (λ (n : ℕ). a < n) (sym (all_length s.before m)) h in
    let o = spared_first a i s.current s.after (spared_right a i s.before (s.current ∷ s.after) c) in
    ⊎_elim (λ (q : get_or now a 0 ≡ get_or p a 0). ap (λ (w : ℕ). bit w i) q)
    (λ (q : get_or now a 0 ≡ get_or (painted s.current p) a 0). ap (λ (w : ℕ). bit w i) q ∙ painted_spared a i s.current p r l o)
    (s.either.words a)
    ∙ all_spared a i s.before m h l (spared_left a i s.before (s.current ∷ s.after) c)

-- at every point of later rectangles an earlier one stands, but for the bits that a later one paints
pub stage_stands : (front : List Fill) (mark : Fill) (between later : List Fill) (ran : List Cycle) (m now : List ℕ)
    → Stage later ran (painted_all (front ++ (mark ∷ between)) m) now → Stands mark (between ++ later) now
unfolding painted_all
stage_stands front mark between later ran m now s a i l u c o =
    let sofar = front ++ (mark ∷ between) in
    let z : a < length m = subst (λ (n : ℕ). a < n) (s.either.size ∙ all_length s.before (painted_all sofar m) ∙ all_length sofar m) l in
    let p = painted_all front m in
    let y : a < length p = subst (λ (n : ℕ). a < n) (sym (all_length front m)) z in
    stage_spared later ran (painted_all sofar m) now s a i (subst (λ (n : ℕ). a < n) (sym (all_length sofar m)) z) u (spared_right a i between later o)
    ∙ ap (λ (x : List ℕ). bit (get_or x a 0) i) (all_append front (mark ∷ between) m)
    ∙ all_spared a i between (painted mark p) (subst (λ (n : ℕ). a < n) (sym (painted_length mark p)) y) u (spared_left a i between later o)
    ∙ painted_covered a i mark p y u c
