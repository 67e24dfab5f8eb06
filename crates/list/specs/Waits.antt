-- Bytes that more bytes may make a field of: a list that comes a piece at a time. Assumes nothing.
use Rattle.std.specs.Prelude.{ℕ, ◌+◌, Bool, true, cond, ◌&&◌, List, leb, ltb, length}
use Rattle.list.specs.Tags.{len_of}
use Rattle.list.specs.Fields.{tag, headed}

-- no whole header, or a good one with less than its body
unfoldable pub waits : List ℕ → Bool
waits s = cond (leb 3 (length s)) (headed s && ltb (length s) (3 + len_of (tag s))) true
