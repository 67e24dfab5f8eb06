-- `planner::rows::put_blocks` meets its contract. Assumes nothing.
use Rattle.std.proofs.Common.{[], sym, ap, ap₂, ◌∙◌, List, ℕ, ◌+◌, ◌-◌, ◌*◌, ◌/◌, arith, length}
use lib.Seq.{sets}
use Rattle.numbers.specs.BufferLaws.{sets_append}
use Rattle.planner.specs.Bytes.{load_bytes, columns_in, block_rows}
use Rattle.planner.proofs.PlanLaws.{block_bytes_length}
use Rattle.planner.proofs.CallLaws.{asked_sound, some_columns}
use Rattle.planner.proofs.FillLaws.{across}
use Rattle.planner.proofs.ShapeLaws.{shape_known, blocks_list}
use Rattle.planner.proofs.rows.put_blocks.Goals as goal

pub across-n-requires : goal.across-n-requires
across-n-requires c =
    let f = c.args.fill in
    let s = asked_sound f (shape_known f _ (sym c.requires.0)).0 in
    (s.column_order, s.column_end)

pub columns_of-requires : goal.columns_of-requires
columns_of-requires c =
    let f = c.args.fill in
    let y = shape_known f _ (sym c.requires.0) in
    let s = asked_sound f y.0 in
    omega (arith, s.column_end, some_columns f [] y.0 y.1)

pub overflow_sub-n : goal.overflow_sub-n
overflow_sub-n c =
    let f = c.args.fill in
    let y = shape_known f _ (sym c.requires.0) in
    omega (arith, c.across-n.ensures.0, some_columns f [] y.0 y.1)

pub columns_of-requires-2 : goal.columns_of-requires-2
columns_of-requires-2 c =
    let f = c.args.fill in
    let y = shape_known f _ (sym c.requires.0) in
    let s = asked_sound f y.0 in
    omega (arith, c.across-n.ensures.0, s.column_end, some_columns f [] y.0 y.1)

pub put_load-requires : goal.put_load-requires
put_load-requires c =
    let f = c.args.fill in
    let y = shape_known f _ (sym c.requires.0) in
    let g = columns_in f.first_column f.end_column (f.first_column / 4) in
    let h = columns_in f.first_column f.end_column (f.first_column / 4 + (across f - 1)) in
    let l = ap length (blocks_list f _ y) in
    let m = block_bytes_length (f.first_column / 4) g h f.mask (across f) f.first_row (f.end_row - f.first_row) in
    omega (arith, l, m, c.requires.1)

pub put_block_rows-requires : goal.put_block_rows-requires
put_block_rows-requires c =
    let f = c.args.fill in
    let y = shape_known f _ (sym c.requires.0) in
    let s = asked_sound f y.0 in
    let g = columns_in f.first_column f.end_column (f.first_column / 4) in
    let h = columns_in f.first_column f.end_column (f.first_column / 4 + (across f - 1)) in
    let l = ap length (blocks_list f _ y) in
    let m = block_bytes_length (f.first_column / 4) g h f.mask (across f) f.first_row (f.end_row - f.first_row) in
    let e = ap (λ (n : ℕ). (f.end_row - f.first_row) * (13 * n)) c.across-n.ensures.0 in
    omega (arith, l, m, e, c.requires.1, c.across-n.ensures.0, s.row_order, s.row_end, s.rows_most, s.column_end, some_columns f [] y.0 y.1)

pub returns : goal.returns
returns c =
    let a = c.args in
    let f = a.fill in
    let y = shape_known f _ (sym c.requires.0) in
    let k = f.first_column / 4 in
    let h = f.end_row - f.first_row in
    let u = columns_in f.first_column f.end_column k in
    c.put_block_rows.ensures
    ∙ ap₂ (λ (x z : ℕ). sets c.put_load.new.list 6 (block_rows k x z f.mask c.across-n.result f.first_row h)) c.columns_of.ensures c.columns_of-2.ensures
    ∙ ap (λ (n : ℕ). sets c.put_load.new.list 6 (block_rows k u (columns_in f.first_column f.end_column (k + (n - 1))) f.mask n f.first_row h)) c.across-n.ensures.0
    ∙ ap (λ (t : List ℕ). sets t 6 (block_rows k u (columns_in f.first_column f.end_column (k + (across f - 1))) f.mask (across f) f.first_row h)) c.put_load.ensures
    ∙ sets_append (load_bytes f.colour) (block_rows k u (columns_in f.first_column f.end_column (k + (across f - 1))) f.mask (across f) f.first_row h) a.list.now 0
    ∙ ap (sets a.list.now 0) (sym (blocks_list f _ y))
