-- `planner::Fill::shape` meets its contract. Assumes nothing.
use Rattle.std.proofs.Common.{sym, ap, ◌∙◌, ℕ, ◌-◌, ◌*◌, arith}
use Rattle.std.proofs.lemmas.Result.{err_from_is_err_and}
use Rattle.numbers.specs.RefusalLaws.{number_not_zero}
use Rattle.planner.proofs.CallLaws.{asked_sound}
use Rattle.planner.proofs.ShapeLaws.{shape_refused, shape_nothing, shape_words, shape_blocks}
use Rattle.planner.proofs.Fill.shape.Goals as goal

pub returns-in_err-refusal : goal.returns-in_err-refusal
returns-in_err-refusal c =
    let p = err_from_is_err_and c.from_residual.result c.from_residual.ensures.1 in
    rw (p.1, p.2) (shape_refused c.args.self _ c.in_err-refusal.ensures (number_not_zero _))

pub overflow_sub-height : goal.overflow_sub-height
overflow_sub-height c = (asked_sound c.args.self (sym c.in_ok-refusal.ensures)).row_order

pub overflow_sub-width : goal.overflow_sub-width
overflow_sub-width c = (asked_sound c.args.self (sym c.in_ok-refusal.ensures)).column_order

pub returns-then-self-height : goal.returns-then-self-height
returns-then-self-height c = shape_nothing c.args.self (sym c.in_ok-refusal.ensures) c.if-self-height.true

pub area-words-requires : goal.area-words-requires
area-words-requires c =
    let s = asked_sound c.args.self (sym c.in_ok-refusal.ensures) in omega (arith, s.row_end, s.rows_most, s.column_end)

pub across-requires : goal.across-requires
across-requires c = let s = asked_sound c.args.self (sym c.in_ok-refusal.ensures) in (s.column_order, s.column_end)

pub area-blocks-requires : goal.area-blocks-requires
area-blocks-requires c =
    let s = asked_sound c.args.self (sym c.in_ok-refusal.ensures) in omega (arith, s.row_end, s.rows_most, c.across.ensures.1)

pub returns-then-words-blocks : goal.returns-then-words-blocks
returns-then-words-blocks c =
    let f = c.args.self in
    shape_words f (sym c.in_ok-refusal.ensures) c.if-self-height.false c.area-words.result c.area-blocks.result c.area-words.ensures.0
    (c.area-blocks.ensures.0 ∙ ap (λ (n : ℕ). (f.end_row - f.first_row) * n) c.across.ensures.0) c.if-words-blocks.true

pub returns-else-words-blocks : goal.returns-else-words-blocks
returns-else-words-blocks c =
    let f = c.args.self in
    shape_blocks f (sym c.in_ok-refusal.ensures) c.if-self-height.false c.area-words.result c.area-blocks.result c.area-words.ensures.0
    (c.area-blocks.ensures.0 ∙ ap (λ (n : ℕ). (f.end_row - f.first_row) * n) c.across.ensures.0) c.if-words-blocks.false
