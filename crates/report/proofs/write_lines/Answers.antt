-- `report::write_lines` meets its contract. Assumes nothing.
use Rattle.std.proofs.Common.{arith}
use Rattle.report.specs.ReportLaws.{ran_size, ran_few, ran_lines}
use Rattle.report.proofs.write_lines.Goals as goal

pub lines-requires : goal.lines-requires
lines-requires c =
    let k = ran_few c.args.list.now _ c.fresh.ensures _ _ _ c.run-answer.ensures c.requires.0 in
    (k.0, k.1, omega (arith, ran_size c.args.list.now _ c.fresh.ensures _ _ _ c.run-answer.ensures), c.requires.1)

pub returns : goal.returns
returns c =
    rw (← (ran_lines c.args.list.now _ c.fresh.ensures _ _ _ c.run-answer.ensures)) c.lines.ensures
