-- `panel::pixels::show_words` meets its contract: one word more at each turn. Assumes nothing.
use Rattle.std.proofs.Common.{get_or, ◌≡◌, refl, ap, ◌∙◌, List, ℕ, arith, take, take_all}
use Rattle.panel.specs.Panel.{colour_of}
use Rattle.panel.proofs.Stretch.{words_size}
use Rattle.palette.specs.Table.{store}
use Rattle.panel.specs.Panel.{shows, bytes_of}
use Rattle.numbers.specs.Buffer.{over}
use Rattle.panel.proofs.PanelLaws.{over_word}
use Rattle.panel.proofs.pixels.show_words.Goals as goal

pub loop-i-init : goal.loop-i-init
unfolding bytes_of
loop-i-init c = (omega arith, refl)

pub show_word-requires : goal.show_word-requires
show_word-requires c =
    let k = words_size (shows c.args.panel) c.args.words.now c.args.out.now c.loop-i.out c.loop-i.i c.loop-i.invariant.0 c.requires c.loop-i.invariant.1 in
    omega (arith, k, c.requires, c.loop-i-test.true)

pub loop-i-preserved : goal.loop-i-preserved
loop-i-preserved c =
    let p = shows c.args.panel in (
      omega (arith, c.loop-i-test.true),
      c.show_word.ensures
          ∙ ap (λ (x : List ℕ). store x c.loop-i.i (colour_of p (get_or c.args.words.now c.loop-i.i 0))) c.loop-i.invariant.1
          ∙ over_word p c.args.words.now c.args.out.now c.loop-i.i c.loop-i-test.true c.requires,
    )

pub shape_of-out : goal.shape_of-out
shape_of-out c =
    words_size (shows c.args.panel) c.args.words.now c.args.out.now c.loop-i.out c.loop-i.i c.loop-i.invariant.0 c.requires c.loop-i.invariant.1

pub returns : goal.returns
returns c =
    let e : take c.loop-i.i c.args.words.now ≡ c.args.words.now = take_all c.loop-i.i c.args.words.now (omega (arith, c.loop-i-test.false)) in
    c.loop-i.invariant.1 ∙ ap (λ (x : List ℕ). over (bytes_of (shows c.args.panel) x) c.args.out.now) e
