-- A fill, cycle by cycle: no word is ever half painted. Change request M-103; for a page of fills it is `page`'s `Stages`. Assumes nothing.
use Rattle.std.specs.Prelude.{ℕ, ◌<◌, ◌≤◌, ◌≡◌, refl, Bool, true, false, cond, List, ◌⊎◌, length, get_or, take}
use Rattle.std.proofs.Common.{sym, ap, ◌∙◌, subst, inl, inr, arith}
use Rattle.std.proofs.Math.Decide.{dec_le}
use Rattle.std.proofs.Math.ListN.{get_or-eq_default}
use Rattle.vram.specs.Board.{Board}
use Rattle.vram.specs.Step.{run}
use Rattle.list.specs.Meaning.{cycles_of}
use Rattle.list.proofs.EncodeLaws.{cycles_encode_all}
use Rattle.planner.specs.Fill.{Fill, inside, plan}
use Rattle.planner.specs.Calls.{asked_refusal, fill_call}
use Rattle.planner.proofs.CallLaws.{asked_sound}
use Rattle.planner.proofs.AcceptedLaws.{accepted_asked, accepted_list}
use Rattle.planner.specs.Paint.{painted, list_in, Wide, Start}
use Rattle.planner.proofs.PaintLaws.{inked, drawn, drawn_at, map_at_length}
use Rattle.planner.proofs.PlanRuns.{plan_first}

-- each word of a memory is as it was or as the fill paints it, never between
pub record Either (f : Fill) (before now : List ℕ) : Type 0 where
  pub size : length now ≡ length before
  pub words : (a : ℕ) → (get_or now a 0 ≡ get_or before a 0) ⊎ (get_or now a 0 ≡ get_or (painted f before) a 0)

-- where some words of the rectangle are painted whole
drawn_either : (f : Fill) (q : ℕ → Bool) → ((a : ℕ) → q a ≡ true → inside f a ≡ true) → (m : List ℕ) → Either f m (drawn f q m)
drawn_either f q h m =
    record { size = size; words = λ a. elim (dec_le (length m) a) [ yes l ↦ inl (past a l) | no l ↦ within a (omega arith) (q a) refl ] }
  where
    size : length (drawn f q m) ≡ length m
    size = map_at_length (λ a w. cond (q a) (inked f w) w) m 0

    past : (a : ℕ) → length m ≤ a → get_or (drawn f q m) a 0 ≡ get_or m a 0
    past a l =
        get_or-eq_default (drawn f q m) 0 (subst (λ (n : ℕ). n ≤ a) (sym size) l) ∙ sym (get_or-eq_default m 0 l)

    within : (a : ℕ) → a < length m → (t : Bool) → q a ≡ t → (get_or (drawn f q m) a 0 ≡ get_or m a 0) ⊎ (get_or (drawn f q m) a 0 ≡ get_or (painted f m) a 0)
    within a l false e = inl (drawn_at f q m a l ∙ ap (λ (t : Bool). cond t (inked f (get_or m a 0)) (get_or m a 0)) e)
    within a l true e =
        inr
        (drawn_at f q m a l
        ∙ ap (λ (t : Bool). cond t (inked f (get_or m a 0)) (get_or m a 0)) (e ∙ sym (h a e))
        ∙ sym (drawn_at f (inside f) m a l))

-- after every number of the plan's cycles
pub plan_either : (f : Fill) → asked_refusal f ≡ 0 → Wide f → (b : Board) → Start f.rows b → (k : ℕ) → Either f b.memory (run (take k (plan f)) b).memory
plan_either f z wide b start k =
    let d = plan_first f (asked_sound f z) wide b start k in
    subst (Either f b.memory) (sym d.2) (drawn_either f d.0 d.1 b.memory)

-- and so of the list that a fill has written
pub never_half : (f : Fill) (out : List ℕ) → Wide f → (fill_call f out).answer.number ≡ 0 → (b : Board) → Start f.rows b
    → (k : ℕ) → Either f b.memory (run (take k (cycles_of (list_in (fill_call f out)))) b).memory
never_half f out wide z b start k =
    subst (λ l. Either f b.memory (run (take k l) b).memory) (sym (ap cycles_of (accepted_list f out z) ∙ cycles_encode_all (plan f)))
    (plan_either f (accepted_asked f out z) wide b start k)
