-- `panel::stretches::stretch` meets its contract: the clocks stay in one partition. Assumes nothing.
use Rattle.std.proofs.Common.{ap, ◌∙◌, ◌++◌, ◌+◌, ◌-◌, ◌*◌, ◌<◌, arith, take, drop}
use Rattle.vram.specs.declared.Vram.{Vram}
use Rattle.vram.specs.Serial.{clocked_words}
use Rattle.vram.specs.SerialLaws.{through_within}
use Rattle.vram.proofs.CallLaws.{clocks_fewer}
use Rattle.panel.specs.Panel.{shows, bytes_of}
use Rattle.numbers.specs.Buffer.{over}
use Rattle.panel.proofs.Moved.{clocks_answer, clocks_are}
use Rattle.panel.proofs.Stretch.{one_stretch}
use Rattle.panel.proofs.stretches.stretch.Goals as goal

pub unwrap-through-requires : goal.unwrap-through-requires
unwrap-through-requires c =
    let a = c.args in
    clocks_answer a.state a.done (clocks_fewer a.state a.done a.clocks (omega arith) c.requires.0) c.clocks.result c.clocks.ensures

pub slice_bounds-show_words-end : goal.slice_bounds-show_words-end
slice_bounds-show_words-end c =
    let a = c.args in
    let k = clocks_fewer a.state a.done a.clocks (omega arith) c.requires.0 in
    let t = clocks_are a.state a.done k c.clocks.result c.unwrap-through.result c.clocks.ensures c.unwrap-through.ensures in
    let q = through_within c.unwrap-through.result.0 (omega arith) in
    omega (arith, c.min-count.ensures, t.1, q.1, c.requires.1)

pub returns : goal.returns
returns c =
    let a = c.args in
    let here = c.unwrap-through.result.0 in
    let k = clocks_fewer a.state a.done a.clocks (omega arith) c.requires.0 in
    let t = clocks_are a.state a.done k c.clocks.result c.unwrap-through.result c.clocks.ensures c.unwrap-through.ensures in
    let p : here.pointer < 256 = omega arith in
    let q = through_within here p in (
      omega (arith, c.min-count.ensures, t.1, q.0),
      omega (arith, c.min-count.ensures),
      one_stretch (shows a.panel) a.serial.now a.out.now _ here (3 * a.done) c.min-count.result p
          (omega (arith, c.min-count.ensures, t.1)) (omega (arith, c.min-count.ensures, t.1, q.1, c.requires.1)) (a.done + c.min-count.result - a.done) (omega arith)
          (omega (arith, c.requires.2)) c.show_words.ensures
          ∙ ap (λ (x : Vram). take (3 * a.done) a.out.now ++ over (bytes_of (shows a.panel) (clocked_words (a.done + c.min-count.result - a.done) x a.serial.now)) (drop (3 * a.done) a.out.now)) t.0,
    )
