-- What is left of a buffer after some bytes, or that they pass it: no sum can grow past the buffer's length. Assumes nothing.
use Rattle.std.specs.Prelude.{ℕ, ◌-◌, cond, leb}
use Rattle.std.specs.Prelude.{Option}
use Rattle.std.specs.Prelude.Option.{None, Some}

-- after n bytes more
unfoldable pub takes : Option ℕ → ℕ → Option ℕ
takes (Some room) n = cond (leb n room) (Some (room - n)) None
takes None n = None

-- document 01's number: 15 where the buffer is shorter than the bytes needed
unfoldable pub room_number : Option ℕ → ℕ
room_number (Some room) = 0
room_number None = 15
