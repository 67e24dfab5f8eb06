-- `list::fields::known` meets its contract. Assumes nothing.
use Rattle.std.proofs.Common.{◌≡◌, refl, Bool, true, false, ◌&&◌, ◌||◌, ◌≢◌, arith, leb, le-leb, ne_eqb}
use borrow.Author.Tests.{lt-leb}
use Rattle.list.specs.Tags.{known}
use Rattle.list.proofs.fields.known.Goals as goal

alone : (p : Bool) → p ≡ ((p && true) || false)
alone true = refl
alone false = refl

pub returns-then-tag-le7 : goal.returns-then-tag-le7
unfolding known
returns-then-tag-le7 c =
    let tag = c.args.tag in
    let n : tag ≢ 9 = λ e. omega (arith, c.if-tag-le7.true) in
    rw (le-leb tag 7 c.if-tag-le7.true, ne_eqb tag 9 n) (alone (leb 1 tag))

pub returns-else-tag-le7 : goal.returns-else-tag-le7
unfolding known
returns-else-tag-le7 c =
    let tag = c.args.tag in
    rw (lt-leb tag 7 c.if-tag-le7.false, le-leb 1 tag (omega (arith, c.if-tag-le7.false)))
