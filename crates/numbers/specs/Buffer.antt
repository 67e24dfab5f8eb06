-- Bytes answered at the start of a lent buffer: document 01, "Spare answer bytes stay as they were". Assumes nothing.
use Rattle.std.specs.Prelude.{ℕ, List, ◌++◌, length, drop}

-- the bytes, and the spare ones as they were
abbrev pub over : List ℕ → List ℕ → List ℕ
over bytes out = bytes ++ drop (length bytes) out
