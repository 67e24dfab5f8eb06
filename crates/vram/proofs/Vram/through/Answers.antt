-- `vram::Vram::through` meets its contract. Assumes nothing.
use Rattle.std.proofs.Common.{ℕ, ◌<◌, sym, ap, subst, le_of_lt, mod-lt}
use Rattle.vram.specs.Partition.{partition}
use Rattle.vram.specs.Serial.{through_in, length_of}
use Rattle.vram.proofs.Vram.through.Goals as goal

pub returns : goal.returns
unfolding length_of
returns c = ap (λ (n : ℕ). through_in n c.args.self.pointer) c.length-length.ensures

pub overflow_sub-result : goal.overflow_sub-result
unfolding length_of
overflow_sub-result c = le_of_lt (mod-lt c.args.self.pointer
    (subst (λ (n : ℕ). 0 < n) (sym c.length-length.ensures) (partition c.args.self).some))
