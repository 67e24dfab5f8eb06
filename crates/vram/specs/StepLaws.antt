-- Laws of steps and runs that hold of every engine. Assumes nothing.
use Rattle.std.specs.Prelude.{◌≡◌, Bool, true, false, cond, ◌≢◌, List, [], ◌∷◌, ◌++◌, ◌==◌}
use Rattle.std.proofs.Math.Path.{refl}
use Rattle.std.proofs.Common.{ap, ◌∙◌, eqb-true}
use Rattle.numbers.specs.RefuseLaws.{first_of_zero, leaves_made, leaves_before}
use Rattle.vram.specs.declared.Cycle.{Cycle}
use Rattle.vram.specs.Board.{Board}
use Rattle.vram.specs.Refusal.{refusal}
use Rattle.vram.specs.Step.{given_of, rows_of, number, Engine, step_by, run_by}

-- ---- a step refuses or acts

pub number_zero : (c : Cycle) (b : Board) → number c b ≡ 0 → (given_of b ≡ 0) × (refusal (rows_of b) b.state.loaded c ≡ 0)
unfolding number
number_zero c b e = first_of_zero (given_of b) (refusal (rows_of b) b.state.loaded c) e

module _ (e : Engine) (c : Cycle) (b : Board) where
  pub step_acts : number c b ≡ 0 → step_by e c b ≡ e c b
  unfolding step_by
  step_acts z = leaves_made (number c b) b (e c b) z

  -- a refusal changes nothing
  pub step_refuses : number c b ≢ 0 → step_by e c b ≡ b
  unfolding step_by
  step_refuses n = leaves_before (number c b) b (e c b) n

-- ---- what holds of a board, and of what an engine makes of it where nothing is refused, holds after a step and after a run

module _ (P : Board → Type 0) where
  pub step_holds : (e : Engine) (c : Cycle) (b : Board) → P b → (number c b ≡ 0 → P (e c b)) → P (step_by e c b)
  unfolding step_by
  step_holds e c b p f = go (number c b == 0) refl
    where
      go : (t : Bool) → (number c b == 0) ≡ t → P (cond t (e c b) b)
      go true q = f (eqb-true _ _ q)
      go false q = p

  pub run_holds : (e : Engine) → ((c : Cycle) (b : Board) → P b → P (e c b)) → (l : List Cycle) (b : Board) → P b → P (run_by e l b)
  unfolding run_by
  run_holds e f [] b p = p
  run_holds e f (c ∷ l) b p = run_holds e f l (e c b) (f c b p)

-- ---- joined lists run one after the other

pub run_append : (e : Engine) (l k : List Cycle) (b : Board) → run_by e (l ++ k) b ≡ run_by e k (run_by e l b)
unfolding run_by
run_append e [] k b = refl
run_append e (c ∷ l) k b = run_append e l k (e c b)

-- ---- two engines that do the same step and run the same

pub steps_same : {e f : Engine} → ((c : Cycle) (b : Board) → e c b ≡ f c b) → (c : Cycle) (b : Board) → step_by e c b ≡ step_by f c b
unfolding step_by
steps_same h c b = rw (h c b)

pub runs_same : {e f : Engine} → ((c : Cycle) (b : Board) → e c b ≡ f c b) → (l : List Cycle) (b : Board) → run_by e l b ≡ run_by f l b
unfolding run_by
runs_same h [] b = refl
runs_same {e} {f} h (c ∷ l) b = ap (run_by e l) (h c b) ∙ runs_same h l (f c b)
