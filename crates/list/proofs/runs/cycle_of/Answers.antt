-- `list::runs::cycle_of` meets its contract. Assumes nothing.
use Rattle.std.proofs.Common.{◌≢◌, ◌∙◌, arith, ne_eqb}
use Rattle.list.specs.TagLaws.{len_write, len_load, len_transfer, len_stop}
use Rattle.list.specs.Tags.{cycle_of}
use Rattle.list.proofs.runs.cycle_of.Goals as goal

pub word_write-requires : goal.word_write-requires
word_write-requires c = c.requires ∙ len_write _ (omega (arith, c.in-1.is))

pub block_write-requires : goal.block_write-requires
block_write-requires c = c.requires ∙ len_write _ (omega (arith, c.in-2.is))

pub load_colour-requires : goal.load_colour-requires
load_colour-requires c = c.requires ∙ len_load _ (omega (arith, c.in-3.is)) (omega (arith, c.in-3.is))

pub load_mask-requires : goal.load_mask-requires
load_mask-requires c = c.requires ∙ len_load _ (omega (arith, c.in-4.is)) (omega (arith, c.in-4.is))

pub full_transfer-requires : goal.full_transfer-requires
full_transfer-requires c = c.requires ∙ len_transfer _ (omega (arith, c.in-6.is)) (omega (arith, c.in-6.is))

pub split_transfer-requires : goal.split_transfer-requires
split_transfer-requires c = c.requires ∙ len_transfer _ (omega (arith, c.in-7.is)) (omega (arith, c.in-7.is))

pub stop_points-requires : goal.stop_points-requires
stop_points-requires c = c.requires ∙ len_stop _ c.in-9.is

pub returns-in-1 : goal.returns-in-1
unfolding cycle_of
returns-in-1 c = rw c.in-1.is c.word_write.ensures

pub returns-in-2 : goal.returns-in-2
unfolding cycle_of
returns-in-2 c = rw c.in-2.is c.block_write.ensures

pub returns-in-3 : goal.returns-in-3
unfolding cycle_of
returns-in-3 c = rw c.in-3.is c.load_colour.ensures

pub returns-in-4 : goal.returns-in-4
unfolding cycle_of
returns-in-4 c = rw c.in-4.is c.load_mask.ensures

pub returns-in-6 : goal.returns-in-6
unfolding cycle_of
returns-in-6 c = rw c.in-6.is c.full_transfer.ensures

pub returns-in-7 : goal.returns-in-7
unfolding cycle_of
returns-in-7 c = rw c.in-7.is c.split_transfer.ensures

pub returns-in-9 : goal.returns-in-9
unfolding cycle_of
returns-in-9 c = rw c.in-9.is c.stop_points.ensures

pub returns-in_default : goal.returns-in_default
unfolding cycle_of
returns-in_default c =
    let one : c.args.tag ≢ 1 = omega arith in
    let two : c.args.tag ≢ 2 = omega arith in
    let three : c.args.tag ≢ 3 = omega arith in
    let four : c.args.tag ≢ 4 = omega arith in
    let six : c.args.tag ≢ 6 = omega arith in
    let seven : c.args.tag ≢ 7 = omega arith in
    let nine : c.args.tag ≢ 9 = omega arith in
    rw (ne_eqb _ 1 one, ne_eqb _ 2 two, ne_eqb _ 3 three, ne_eqb _ 4 four, ne_eqb _ 6 six, ne_eqb _ 7 seven, ne_eqb _ 9 nine)
