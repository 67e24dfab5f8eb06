-- What each public call answers and leaves, for every input. A refusal answers zeros besides and changes nothing. Assumes nothing.
use Rattle.std.specs.Prelude.{ℕ, List, length, ◌==◌, nat_le, Result}
use Rattle.numbers.specs.declared.Refusal.{Refusal}
use Rattle.numbers.specs.Refusal.{given_back, left_by}
use Rattle.numbers.specs.Refuse.{refuse, leaves}
use Rattle.palette.specs.declared.Palette.{Palette}
use Rattle.palette.specs.declared.Accessed.{Accessed}
use Rattle.palette.specs.State.{ruled}
use Rattle.palette.specs.Access.{after_write, table_after_write, byte_read, after_read}

abbrev pub accessed : Palette → ℕ → ℕ → Accessed
accessed p byte number = record { state = p; byte = byte; number = number }

-- what an access comes to, by its answer
abbrev pub accessed_by : Palette → Result (Palette × ℕ) Refusal → Accessed
accessed_by before answer = let left = left_by (before, 0) answer in accessed left.0 left.1 (given_back answer)

-- 1 a state the rules exclude, 3 palette not 768 bytes, 11 a select over the last one
unfoldable pub access_refusal : ℕ → Palette → ℕ → ℕ → ℕ
access_refusal last p bytes s = refuse (ruled p) 1 (refuse (bytes == 768) 3 (refuse (nat_le s last) 11 0))

-- ---- a write

-- what is answered, and the table afterwards
pub record Outcome : Type 0 where
  pub answer : Accessed
  pub table : List ℕ

abbrev pub outcome : Accessed → List ℕ → Outcome
outcome r t = record { answer = r; table = t }

-- selects 0 to 3 can be written
unfoldable pub write_call : Palette → List ℕ → ℕ → ℕ → Outcome
write_call p t s d =
    let n = access_refusal 3 p (length t) s in
    outcome (accessed (leaves n p (after_write p t s d)) 0 n) (leaves n t (table_after_write p t s d))

-- ---- a read

-- selects 0 to 2 can be read
unfoldable pub read_call : Palette → List ℕ → ℕ → Accessed
read_call p t s =
    let n = access_refusal 2 p (length t) s in
    accessed (leaves n p (after_read p t s)) (leaves n 0 (byte_read p s)) n

-- ---- either, with its arguments

pub data Access : Type 0 where
  write : (select value : ℕ) → Access
  read : (select : ℕ) → Access

abbrev pub access : Access → Palette → List ℕ → Outcome
access (write s d) p t = write_call p t s d
access (read s) p t = outcome (read_call p t s) t
