-- `pieces::whole::whole_fields` meets its contract: one turn of the loop is one field. Assumes nothing.
use Rattle.std.proofs.Common.{◌≡◌, refl, sym, ◌∙◌, true, [], drop, arith}
use Rattle.numbers.specs.BufferLaws.{tail_part}
use Rattle.numbers.specs.Refusal.{given_back}
use Rattle.vram.specs.Board.{board}
use Rattle.vram.specs.Step.{given_of}
use Rattle.pieces.specs.Line.{line, port, piece, limit}
use Rattle.pieces.specs.Pieces.{possible}
use Rattle.pieces.specs.Turns.{standing}
use Rattle.pieces.proofs.AlongLaws.{come_along, turn_inside, stay_possible, stay_same, stop_possible, stop_same, turn_again}
use Rattle.pieces.proofs.whole.whole_fields.Goals as goal
use Rattle.pieces.proofs.whole.whole_fields.Goals.{then-at-gt-SAFE, else-at-gt-SAFE+in-Ok-None, else-at-gt-SAFE+in-Err}

pub loop-at-preserved : goal.loop-at-preserved
unfolding limit
loop-at-preserved c =
    let l = c.loop-at in
    let t = c.args.bytes.now in
    let m = rw c.in-Ok-Some.field-0-is at c.in-Ok-Some.ensures in
    let part = tail_part t l.used in
    let near = c.if-at-gt-SAFE.false in
    let o = turn_again t l.used _ part l.invariant.2 l.at l.opened _ l.invariant.3 _ _ _ _ m.1 (sym m.0) (omega (arith, near)) refl in (
      c.meet.auto.memory ∙ l.invariant.0,
      c.meet.auto.serial ∙ l.invariant.1,
      turn_inside t l.used _ part l.invariant.2 l.at l.opened _ l.invariant.3 _ _ _ _ m.1,
      o.0,
      m.1.given,
      o.1 ∙ l.invariant.5,
    )

pub returns : goal.returns
unfolding limit
returns c =
    let l = c.loop-at in
    let t = c.args.bytes.now in
    let f = c.if-at-gt-SAFE in
    let n = given_back f.answer in
    let p : (possible (standing n l.at l.opened) ≡ true) × (given_of (board l.state f.memory f.serial) ≡ 0)
    × (piece (port (standing n l.at l.opened) (board l.state f.memory f.serial)) (drop l.used t) ≡ piece (port (line [] c.args.start 0 c.args.left) (board c.args.state c.args.memory.now c.args.serial.now)) t)
    = elim f.branch [
      | then-at-gt-SAFE w ↦ rw (w.answer-is, w.memory-is, w.serial-is) (l.invariant.3, l.invariant.4, l.invariant.5)
      | else-at-gt-SAFE+in-Ok-None w ↦
          let m = rw w.in-Ok-None.field-0-is at w.in-Ok-None.ensures in
          let part = tail_part t l.used in
          rw (w.answer-is, w.memory-is, w.serial-is) (
            stay_possible t l.used _ part l.invariant.2 l.at l.opened _ l.invariant.3 _ _ _ _ m.1 (sym m.0),
            m.1.given,
            stay_same t l.used _ part l.invariant.2 l.at l.opened _ l.invariant.3 _ _ _ _ m.1 (sym m.0) ∙ l.invariant.5,
          )
      | else-at-gt-SAFE+in-Err w ↦
          let m = w.in-Err.ensures in
          let part = tail_part t l.used in
          let near = w.if-at-gt-SAFE.false in
          rw (w.answer-is, w.memory-is, w.serial-is) (
            stop_possible t l.used _ part l.invariant.2 l.at l.opened _ l.invariant.3 _ _ _ _ m.1 (sym m.0) (omega (arith, near)) refl,
            m.1.given,
            stop_same t l.used _ part l.invariant.2 l.at l.opened _ l.invariant.3 _ _ _ _ m.1 (sym m.0) (omega (arith, near)) refl ∙ l.invariant.5,
          )
    ] in
    come_along _ _ _ _ _ _ _ _ _ p.0 p.1 l.invariant.2 p.2 c.standing.ensures refl refl
