-- `pieces::field::meet` meets its contract. Assumes nothing.
use Rattle.std.proofs.Common.{sym, refl}
use Rattle.numbers.specs.RefusalLaws.{number_not_zero}
use Rattle.pieces.proofs.TurnLaws.{meets_waits, meets_wrong, meets_refused, meets_run, whole_some}
use Rattle.pieces.proofs.field.meet.Goals as goal

pub bounds-bytes-0 : goal.bounds-bytes-0
bounds-bytes-0 c = whole_some _ c.in-Whole.cycle c.in-Whole.size (sym c.in-Whole.ensures)

pub returns-in-Waits : goal.returns-in-Waits
returns-in-Waits c = meets_waits _ _ _ _ c.requires (sym c.in-Waits.ensures)

pub returns-in-Wrong : goal.returns-in-Wrong
returns-in-Wrong c = meets_wrong _ _ _ _ c.requires (sym c.in-Wrong.ensures)

pub returns-in-Ok : goal.returns-in-Ok
returns-in-Ok c =
    meets_run _ _ _ _ c.requires c.in-Whole.cycle c.in-Whole.size (sym c.in-Whole.ensures) _ c.in-Ok.ensures refl _ c.opens.ensures

pub returns-in-Err : goal.returns-in-Err
returns-in-Err c =
    meets_refused _ _ _ _ c.requires c.in-Whole.cycle c.in-Whole.size (sym c.in-Whole.ensures) _ c.in-Err.ensures (number_not_zero _)
