-- `panel::stretches::show` meets its contract: one stretch more at each turn. Assumes nothing.
use Rattle.std.proofs.Common.{◌≡◌, ap, ◌∙◌, ℕ, arith}
use Rattle.panel.proofs.Stretch.{shown_size}
use Rattle.panel.specs.Panel.{shows, shown}
use Rattle.numbers.specs.Buffer.{over}
use Rattle.panel.proofs.PanelLaws.{over_none}
use Rattle.panel.proofs.Stretch.{one_turn}
use Rattle.panel.proofs.stretches.show.Goals as goal

pub loop-done-init : goal.loop-done-init
loop-done-init c =
    let a = c.args in
    (omega arith, over_none (shows a.panel) a.state a.serial.now a.out.now)

pub stretch-done-requires : goal.stretch-done-requires
stretch-done-requires c =
    let k = shown_size (shows c.args.panel) c.args.serial.now c.args.out.now c.loop-done.out c.args.state c.loop-done.done (omega (arith, c.loop-done.invariant.0, c.requires.2)) c.loop-done.invariant.1 in
    (c.requires.0, c.requires.1, omega (arith, k, c.requires.2), c.loop-done-test.true)

pub loop-done-smaller : goal.loop-done-smaller
loop-done-smaller c = omega (arith, c.stretch-done.ensures.0, c.stretch-done.ensures.1)

pub loop-done-preserved : goal.loop-done-preserved
loop-done-preserved c =
    let s = c in (
      c.stretch-done.ensures.1,
      one_turn (shows s.args.panel) s.args.serial.now s.args.out.now c.loop-done.out _ s.args.state c.loop-done.done c.stretch-done.result
          (omega (arith, c.stretch-done.ensures.0)) c.loop-done.invariant.1 c.stretch-done.ensures.2,
    )

pub shape_of-out : goal.shape_of-out
shape_of-out c =
    shown_size (shows c.args.panel) c.args.serial.now c.args.out.now c.loop-done.out c.args.state c.loop-done.done (omega (arith, c.loop-done.invariant.0, c.requires.2)) c.loop-done.invariant.1

pub returns : goal.returns
returns c =
    let e : c.loop-done.done ≡ c.args.clocks = omega (arith, c.loop-done.invariant.0, c.loop-done-test.false) in
    c.loop-done.invariant.1 ∙ ap (λ (x : ℕ). over (shown (shows c.args.panel) x c.args.state c.args.serial.now) c.args.out.now) e
