-- `panel::run_at` meets its contract. Assumes nothing.
use Rattle.std.proofs.Common.{◌≡◌, ℕ, List, sym, refl, ap, ◌∙◌, length, rules}
use Rattle.std.proofs.lemmas.Result.{err_from_is_err_and}
use Rattle.numbers.specs.RefusalLaws.{number_not_zero}
use Rattle.std.specs.Prelude.Result.{Ok}
use Rattle.numbers.specs.Buffer.{over}
use Rattle.vram.specs.Calls.{moved_by}
use Rattle.panel.specs.Panel.{part_at, panel_of, run_bytes}
use Rattle.panel.proofs.Moved.{clocks_answer}
use Rattle.panel.proofs.CallLaws.{run_zero, run_refuses, run_acts}
use Rattle.panel.proofs.run_at.Goals as goal

pub returns-in_err-refusal : goal.returns-in_err-refusal
returns-in_err-refusal c =
    let p = err_from_is_err_and c.from_residual.result c.from_residual.ensures.1 in
    rw (p.1, p.2) (run_refuses _ _ _ _ _ _ _ _ _ c.in_err-refusal.ensures (number_not_zero _))

pub unwrap-requires : goal.unwrap-requires
unwrap-requires c =
    let a = c.args in
    let z = run_zero a.state a.palette (length a.serial.now) (length a.table.now) a.clocks (length a.out.now) (sym c.in_ok-refusal.ensures) in
    let e : length a.table.now ≡ 768 = z.entries in
    search rules

pub run_bytes-requires : goal.run_bytes-requires
run_bytes-requires c =
    let a = c.args in
    let z = run_zero a.state a.palette (length a.serial.now) (length a.table.now) a.clocks (length a.out.now) (sym c.in_ok-refusal.ensures) in
    (z.moves, z.register, z.room)

pub unwrap-requires-2 : goal.unwrap-requires-2
unwrap-requires-2 c =
    let a = c.args in
    let z = run_zero a.state a.palette (length a.serial.now) (length a.table.now) a.clocks (length a.out.now) (sym c.in_ok-refusal.ensures) in
    clocks_answer a.state a.clocks z.moves c.clocks.result c.clocks.ensures

pub returns : goal.returns
returns c =
    let a = c.args in
    let f = ap (moved_by a.state) (sym c.unwrap-2.ensures) ∙ c.clocks.ensures in
    let t : c.unwrap.result.now ≡ a.table.now = search rules in
    run_acts _ _ _ _ _ _ _ _ 0 c.in_ok-refusal.ensures refl (moved_by a.state (Ok c.unwrap-2.result)) _ f
    (c.run_bytes.ensures ∙ ap (λ (x : List ℕ). over (run_bytes (panel_of (part_at a.width) a.palette.mask x) a.blank a.clocks a.state a.serial.now) a.out.now) t)
