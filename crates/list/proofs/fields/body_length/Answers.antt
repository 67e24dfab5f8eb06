-- `list::fields::body_length` meets its contract. Assumes nothing.
use Rattle.std.proofs.Common.{refl, arith, le-leb, eq-eqb, ne_eqb}
use borrow.Author.Tests.{lt-leb}
use Rattle.list.specs.Tags.{len_of}
use Rattle.list.proofs.fields.body_length.Goals as goal

pub returns-then-tag-le2 : goal.returns-then-tag-le2
unfolding len_of
returns-then-tag-le2 c = rw (le-leb _ 2 c.if-tag-le2.true) (refl, omega arith)

pub returns-then-tag-le4 : goal.returns-then-tag-le4
unfolding len_of
returns-then-tag-le4 c = rw (lt-leb _ 2 c.if-tag-le2.false, le-leb _ 4 c.if-tag-le4.true) (refl, omega arith)

pub returns-then-tag-eq5 : goal.returns-then-tag-eq5
unfolding len_of
returns-then-tag-eq5 c = rw (lt-leb _ 2 c.if-tag-le2.false, lt-leb _ 4 c.if-tag-le4.false, eq-eqb _ 5 c.if-tag-eq5.true) (refl, omega arith)

pub returns-then-tag-le7 : goal.returns-then-tag-le7
unfolding len_of
returns-then-tag-le7 c =
    rw (lt-leb _ 2 c.if-tag-le2.false, lt-leb _ 4 c.if-tag-le4.false, ne_eqb _ 5 c.if-tag-eq5.false, le-leb _ 7 c.if-tag-le7.true)
    (refl, omega arith)

pub returns-else-tag-le7 : goal.returns-else-tag-le7
unfolding len_of
returns-else-tag-le7 c =
    rw (lt-leb _ 2 c.if-tag-le2.false, lt-leb _ 4 c.if-tag-le4.false, ne_eqb _ 5 c.if-tag-eq5.false, lt-leb _ 7 c.if-tag-le7.false)
    (refl, omega arith)
