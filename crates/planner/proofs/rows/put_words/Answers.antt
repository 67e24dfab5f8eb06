-- `planner::rows::put_words` meets its contract. The invariant: `o` stands after the rows below `row`, and those are stored.
-- Assumes nothing.
use Rattle.std.proofs.Common.{◌≡◌, sym, ap, ap₂, ◌∙◌, List, ℕ, ◌+◌, ◌-◌, ◌*◌, ◌≤◌, mul-le-mul_right, arith, length}
use lib.Seq.{sets}
use Rattle.planner.specs.Bytes.{row_bytes, word_rows}
use Rattle.planner.proofs.BytesLaws.{word_rows_none, word_rows_more}
use Rattle.planner.proofs.PlanLaws.{word_bytes_length}
use Rattle.planner.proofs.CallLaws.{asked_sound}
use Rattle.planner.proofs.ShapeLaws.{shape_known, words_list}
use Rattle.planner.proofs.rows.put_words.Goals as goal

pub overflow_sub-width : goal.overflow_sub-width
overflow_sub-width c = let f = c.args.fill in (asked_sound f (shape_known f _ (sym c.requires.0)).0).column_order

pub loop-row-init : goal.loop-row-init
loop-row-init c =
    let a = c.args in
    let f = a.fill in
    let z : f.first_row - f.first_row ≡ 0 = omega arith in
    rw z (omega arith, ap (sets a.list.now 0) (sym (word_rows_none f.first_column (f.end_column - f.first_column) f.colour f.mask f.first_row)))

pub place_of-requires : goal.place_of-requires
place_of-requires c =
    let f = c.args.fill in
    let s = asked_sound f (shape_known f _ (sym c.requires.0)).0 in
    omega (arith, s.row_order, s.row_end, s.rows_most, s.column_order, s.column_end)

pub put_row-requires : goal.put_row-requires
put_row-requires c =
    let f = c.args.fill in
    let k = c.loop-row in
    let y = shape_known f _ (sym c.requires.0) in
    let s = asked_sound f y.0 in
    let w = f.end_column - f.first_column in
    let h = f.end_row - f.first_row in
    let t : k.row - f.first_row + 1 ≤ h = omega (arith, s.row_order) in
    let l = ap length (words_list f _ y) ∙ word_bytes_length f.first_column w f.colour f.mask f.first_row h in
    omega (arith, mul-le-mul_right (13 * w) t, l, c.requires.1, c.place_of.ensures.1, s.column_end)

pub loop-row-preserved : goal.loop-row-preserved
loop-row-preserved c =
    let k = c.loop-row in
    let a = c.args in
    let f = a.fill in
    let w = f.end_column - f.first_column in
    let i = k.row - f.first_row in
    let z : k.row + 1 - f.first_row ≡ i + 1 = omega arith in
    let r : k.row ≡ f.first_row + i = omega arith in
    rw z (
      omega arith,
      c.put_row.ensures
          ∙ ap₂ (λ (l : List ℕ) (o : ℕ). sets l o (row_bytes 1 c.place_of.result 1 f.colour f.mask w)) k.invariant.1 k.invariant.0
          ∙ ap (λ (p : ℕ). sets (sets a.list.now 0 (word_rows f.first_column w f.colour f.mask f.first_row i)) (i * (13 * w)) (row_bytes 1 p 1 f.colour f.mask w))
          (c.place_of.ensures.0 ∙ ap (λ (x : ℕ). 65536 * x + f.first_column) r)
          ∙ word_rows_more f.first_column w f.colour f.mask a.list.now f.first_row i,
    )

pub returns : goal.returns
returns c =
    let k = c.loop-row in
    let a = c.args in
    let f = a.fill in
    let y = shape_known f _ (sym c.requires.0) in
    let s = asked_sound f y.0 in
    let e : k.row - f.first_row ≡ f.end_row - f.first_row = omega (arith, s.row_order) in
    k.invariant.1
    ∙ ap (λ (i : ℕ). sets a.list.now 0 (word_rows f.first_column (f.end_column - f.first_column) f.colour f.mask f.first_row i)) e
    ∙ ap (sets a.list.now 0) (sym (words_list f _ y))
