-- Two bytes as one number, as the code holds the parts of an entry. Assumes nothing.
use Rattle.std.specs.Prelude.{ℕ, ◌+◌, ◌*◌}

abbrev pub two : ℕ → ℕ → ℕ
two low high = low + 256 * high
