-- The field at the head of some bytes, for whoever walks fields one by one. Assumes nothing.
use Rattle.std.specs.Prelude.{ℕ, ◌+◌, Bool, cond, List}
use Rattle.vram.specs.Refusal.{refusal}
use Rattle.list.specs.declared.Head.{Head}
use Rattle.list.specs.declared.Head.TheVariants.{Waits, Wrong, Whole}
use Rattle.list.specs.Tags.{len_of, cycle_of}
use Rattle.list.specs.Fields.{tag, body, whole}
use Rattle.list.specs.Waits.{waits}

-- more bytes may make a field of them; or they have one, with its cycle and its size; or none can
unfoldable pub head_of : List ℕ → Head
head_of s = cond (waits s) Waits (cond (whole s) (Whole (cycle_of (tag s) (body s)) (3 + len_of (tag s))) Wrong)

-- document 01's number: 4 for a field that cannot be read, and for one that still waits where the list ends
unfoldable pub head_number : ℕ → Bool → Head → ℕ
head_number rows made Waits = 4
head_number rows made Wrong = 4
head_number rows made (Whole cycle size) = refusal rows made cycle
