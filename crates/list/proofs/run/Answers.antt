-- `list::run` meets its contract. Assumes nothing.
use Rattle.std.proofs.Common.{sym, refl, ap}
use Rattle.std.proofs.lemmas.Result.{err_from_is_err_and}
use Rattle.numbers.specs.RefusalLaws.{number_not_zero}
use Rattle.vram.specs.Board.{board, effect}
use Rattle.list.specs.Meaning.{Bad, bad, gives}
use Rattle.std.specs.Prelude.Option.{None}
use Rattle.list.proofs.CallLaws.{judged_readable}
use Rattle.list.proofs.OutLaws.{given_out, refused_out, done_out, checked_out}
use Rattle.list.proofs.run.Goals as goal

pub returns-in_err-given : goal.returns-in_err-given
returns-in_err-given c =
    let a = c.args in
    let p = err_from_is_err_and c.from_residual.result c.from_residual.ensures.1 in
    rw (p.1, p.2) (given_out effect a.list.now (board a.state a.memory.now a.serial.now) _ c.in_err-given.ensures (number_not_zero _))

pub returns-in_err-check : goal.returns-in_err-check
returns-in_err-check c =
    let a = c.args in
    let b = board a.state a.memory.now a.serial.now in
    let p = err_from_is_err_and c.from_residual-in_err-check.result c.from_residual-in_err-check.ensures.1 in
    rw (p.1, p.2)
    (checked_out effect a.list.now b 0 c.in_ok-given.ensures refl _ c.in_err-check.ensures (gives _ b)
    (refused_out effect a.list.now b _ (number_not_zero _)))

pub run_fields-requires : goal.run_fields-requires
run_fields-requires c = judged_readable _ _ None 0 _ (sym (ap (λ (v : Bad). v.number) c.in_ok-check.ensures))

pub returns : goal.returns
returns c =
    let a = c.args in
    let b = board a.state a.memory.now a.serial.now in
    checked_out effect a.list.now b 0 c.in_ok-given.ensures refl (bad 0 0) c.in_ok-check.ensures (gives (bad 0 0) _)
    (done_out effect a.list.now b (bad 0 0) refl _ c.run_fields.ensures)
