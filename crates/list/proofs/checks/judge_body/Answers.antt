-- `list::checks::judge_body` meets its contract. Assumes nothing.
use Rattle.std.proofs.Common.{◌≢◌, ◌∙◌, arith, leb, leb-true}
use Rattle.numbers.specs.Between.{both}
use Rattle.list.specs.TagLaws.{number_write, number_load, number_full, number_split, number_stop, number_none, number_reset, len_write, len_load, len_transfer, len_stop}
use Rattle.list.proofs.checks.judge_body.Goals as goal

pub judge_write-requires : goal.judge_write-requires
judge_write-requires c =
    c.requires ∙ len_write _ (omega (arith, leb-true c.args.tag 2 (both (leb 1 c.args.tag) (leb c.args.tag 2) c.if-tag.true).1))

pub judge_full-requires : goal.judge_full-requires
judge_full-requires c = c.requires ∙ len_transfer _ (omega (arith, c.in-6.is)) (omega (arith, c.in-6.is))

pub judge_split-requires : goal.judge_split-requires
judge_split-requires c = c.requires ∙ len_transfer _ (omega (arith, c.in-7.is)) (omega (arith, c.in-7.is))

pub judge_stop-requires : goal.judge_stop-requires
judge_stop-requires c = c.requires ∙ len_stop _ c.in-9.is

pub judge_load-requires : goal.judge_load-requires
judge_load-requires c = c.requires ∙ len_load _ (omega arith) (omega arith)

pub returns-then-tag : goal.returns-then-tag
returns-then-tag c = c.judge_write.ensures ∙ number_write _ _ _ _ c.if-tag.true

pub returns-in-6 : goal.returns-in-6
returns-in-6 c = c.judge_full.ensures ∙ number_full _ _ _ _ c.in-6.is

pub returns-in-7 : goal.returns-in-7
returns-in-7 c = c.judge_split.ensures ∙ number_split _ _ _ _ c.in-7.is

pub returns-in-9 : goal.returns-in-9
returns-in-9 c = c.judge_stop.ensures ∙ number_stop _ _ _ _ c.in-9.is

pub returns-in-3 : goal.returns-in-3
returns-in-3 c = c.judge_load.ensures ∙ number_load _ _ _ _ (omega arith) (omega arith)

pub returns-in_default : goal.returns-in_default
returns-in_default c = number_none _ _ _ _ c.if-tag.false (omega arith)

pub returns-in_default-2 : goal.returns-in_default-2
returns-in_default-2 c =
    let six : c.args.tag ≢ 6 = omega arith in
    let seven : c.args.tag ≢ 7 = omega arith in
    let nine : c.args.tag ≢ 9 = omega arith in
    number_reset _ _ _ _ (omega arith) six seven nine
