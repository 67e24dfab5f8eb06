-- `pencil::runs::run_fields` meets its contract: one turn of the loop is one cycle run. Assumes nothing.
use Rattle.std.proofs.Common.{refl, ap, ◌∙◌}
use Rattle.vram.specs.declared.Vram.{Vram}
use Rattle.vram.specs.Board.{board}
use Rattle.pencil.proofs.Turns.{over_not, field_fits, rest_less, turn_run}
use Rattle.pencil.proofs.runs.run_fields.Goals as goal

pub loop-cycle-init : goal.loop-cycle-init
loop-cycle-init c = (refl, refl, refl)

pub slice_bounds-rest-count : goal.slice_bounds-rest-count
slice_bounds-rest-count c =
    (field_fits c.loop-cycle.rest.now c.head_of.result c.head_of.ensures c.in-Whole.cycle c.in-Whole.size c.in-Whole.is).1

pub slice_bounds-rest-start : goal.slice_bounds-rest-start
slice_bounds-rest-start c =
    (field_fits c.loop-cycle.rest.now c.head_of.result c.head_of.ensures c.in-Whole.cycle c.in-Whole.size c.in-Whole.is).1

pub loop-cycle-smaller : goal.loop-cycle-smaller
loop-cycle-smaller c =
    rest_less c.loop-cycle.rest.now c.head_of.result c.head_of.ensures c.in-Whole.cycle c.in-Whole.size c.in-Whole.is

pub loop-cycle-preserved : goal.loop-cycle-preserved
loop-cycle-preserved c =
    let l = c.loop-cycle in (
      c.step.auto.memory ∙ l.invariant.0,
      c.step.auto.serial ∙ l.invariant.1,
      turn_run l.rest.now c.head_of.result c.head_of.ensures c.in-Whole.cycle c.in-Whole.size c.in-Whole.is _ _
          (ap (λ (v : Vram). board v c.step.new.memory c.step.new.serial) c.unwrap_or-current.ensures ∙ c.step.ensures)
          ∙ l.invariant.2,
    )

pub returns : goal.returns
returns c =
    let l = c.loop-cycle in
    over_not l.rest.now c.head_of.result c.head_of.ensures (λ cycle size f. c.in_default.not-Whole cycle size f) _ ∙ l.invariant.2
