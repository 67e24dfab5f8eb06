-- `list::head_of` meets its contract. Assumes nothing.
use Rattle.std.proofs.Common.{sym, ap, ap₂, ◌∙◌, List, ℕ, ◌+◌, arith}
use Rattle.list.specs.declared.Head.TheVariants.{Whole}
use Rattle.list.specs.Tags.{cycle_of}
use Rattle.list.specs.Fields.{tag}
use Rattle.list.proofs.FieldLaws.{whole_length}
use Rattle.list.proofs.WaitsLaws.{settled_long}
use Rattle.list.proofs.HeadLaws.{head_waits, head_whole, head_wrong}
use Rattle.list.proofs.Turns.{body_part}
use Rattle.list.proofs.head_of.Goals as goal

pub returns-then-waits : goal.returns-then-waits
returns-then-waits c = sym (head_waits _ (sym c.waits.ensures ∙ c.if-waits.true))

pub whole-requires : goal.whole-requires
whole-requires c = omega (arith, settled_long _ (sym c.waits.ensures ∙ c.if-waits.false))

pub bounds-bytes-0 : goal.bounds-bytes-0
bounds-bytes-0 c =
    omega (arith, whole_length _ (sym c.whole.ensures ∙ c.if-whole.true))

pub slice_bounds-cycle_of-end : goal.slice_bounds-cycle_of-end
slice_bounds-cycle_of-end c =
    omega (arith, whole_length _ (sym c.whole.ensures ∙ c.if-whole.true), c.body_length-size.ensures.0)

pub returns-then-whole : goal.returns-then-whole
returns-then-whole c =
    let e = c.body_length-size.ensures.0 in
    let s : List ℕ = c.args.bytes.now in
    ap₂ Whole (c.cycle_of-cycle.ensures ∙ ap (cycle_of (tag s)) (body_part s c.body_length-size.result e)) (ap (λ (n : ℕ). 3 + n) e)
    ∙ sym (head_whole s (sym c.whole.ensures ∙ c.if-whole.true))

pub returns : goal.returns
returns c =
    sym (head_wrong _ (sym c.waits.ensures ∙ c.if-waits.false) (sym c.whole.ensures ∙ c.if-whole.false))
