-- `list::runs::run_fields` meets its contract: one turn of the loop is one cycle run. Assumes nothing.
use Rattle.std.proofs.Common.{refl, ap, ◌∙◌, arith}
use Rattle.numbers.specs.Refusal.{given_back}
use Rattle.numbers.specs.Rest.{rest_some, rest_none}
use Rattle.vram.specs.declared.Vram.{Vram}
use Rattle.vram.specs.Board.{board}
use Rattle.vram.specs.Calls.{outcome}
use Rattle.list.proofs.Turns.{end_run, run_fits, run_readable, turn_run, rest_less}
use Rattle.list.proofs.runs.run_fields.Goals as goal

pub loop-rest-init : goal.loop-rest-init
loop-rest-init c = (refl, refl, c.requires, refl)

pub slice_bounds-cycle_of-end : goal.slice_bounds-cycle_of-end
slice_bounds-cycle_of-end c =
    omega (arith, run_fits c.loop-rest.rest.now (rest_some _ c.is_empty.ensures c.loop-rest-test.true) c.loop-rest.invariant.2 c.body_length-size.result c.body_length-size.ensures.0)

pub slice_bounds-rest-count : goal.slice_bounds-rest-count
slice_bounds-rest-count c =
    omega (arith, run_fits c.loop-rest.rest.now (rest_some _ c.is_empty.ensures c.loop-rest-test.true) c.loop-rest.invariant.2 c.body_length-size.result c.body_length-size.ensures.0)

pub slice_bounds-rest-start : goal.slice_bounds-rest-start
slice_bounds-rest-start c =
    omega (arith, run_fits c.loop-rest.rest.now (rest_some _ c.is_empty.ensures c.loop-rest-test.true) c.loop-rest.invariant.2 c.body_length-size.result c.body_length-size.ensures.0)

pub loop-rest-preserved : goal.loop-rest-preserved
loop-rest-preserved c =
    let l = c.loop-rest in (
      c.cycle.auto.memory ∙ l.invariant.0,
      c.cycle.auto.serial ∙ l.invariant.1,
      run_readable l.rest.now (rest_some _ c.is_empty.ensures c.loop-rest-test.true) l.invariant.2 c.body_length-size.result c.body_length-size.ensures.0,
      turn_run l.rest.now (rest_some _ c.is_empty.ensures c.loop-rest-test.true) l.invariant.2 c.body_length-size.result c.body_length-size.ensures.0
          (board l.current l.memory l.serial) c.cycle_of-cycle.result c.cycle_of-cycle.ensures _ (ap (λ (v : Vram). outcome (record { state = v; number = given_back c.cycle.result }) c.cycle.new.memory c.cycle.new.serial) c.unwrap_or-current.ensures ∙ c.cycle.ensures)
          ∙ l.invariant.3,
    )

pub loop-rest-smaller : goal.loop-rest-smaller
loop-rest-smaller c =
    rest_less c.loop-rest.rest.now c.body_length-size.result c.body_length-size.ensures.0
    (run_fits c.loop-rest.rest.now (rest_some _ c.is_empty.ensures c.loop-rest-test.true) c.loop-rest.invariant.2 c.body_length-size.result c.body_length-size.ensures.0)

pub shape_of-memory : goal.shape_of-memory
shape_of-memory c = c.loop-rest.invariant.0

pub shape_of-serial : goal.shape_of-serial
shape_of-serial c = c.loop-rest.invariant.1

pub returns : goal.returns
returns c =
    let l = c.loop-rest in
    end_run (board l.current l.memory l.serial) l.rest.now (omega (arith, rest_none _ c.is_empty.ensures c.loop-rest-test.false)) ∙ l.invariant.3
