-- Bytes written on a page at its place, and the place after them. Assumes nothing.
use Rattle.std.specs.Prelude.{ℕ, List}
use Rattle.report.specs.declared.text.Page.{Page}
use Rattle.report.specs.Text.{Put}

abbrev pub Wrote : Page → List ℕ → Page → Type 0
Wrote before bytes after = Put before.text before.at bytes after.text after.at
