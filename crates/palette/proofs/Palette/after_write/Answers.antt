-- `palette::Palette::after_write` meets its contract. Assumes nothing.
use Rattle.std.proofs.Common.{rules}
use Rattle.palette.specs.Access.{after_write, table_after_write}
use Rattle.palette.proofs.Palette.after_write.Goals as goal

pub returns-in-0-clause-state : goal.returns-in-0-clause-state
unfolding after_write table_after_write
returns-in-0-clause-state c = search rules

pub returns-in-0-clause-entry : goal.returns-in-0-clause-entry
unfolding after_write table_after_write
returns-in-0-clause-entry c = search rules

pub returns-in-1-clause-state : goal.returns-in-1-clause-state
unfolding after_write table_after_write
returns-in-1-clause-state c = search rules

pub returns-in-1-clause-entry : goal.returns-in-1-clause-entry
unfolding after_write table_after_write
returns-in-1-clause-entry c = search rules

pub returns-in-2-clause-state : goal.returns-in-2-clause-state
unfolding after_write table_after_write
returns-in-2-clause-state c = search rules

pub returns-in-2-clause-entry : goal.returns-in-2-clause-entry
unfolding after_write table_after_write
returns-in-2-clause-entry c = search rules

pub returns-in_default-clause-state : goal.returns-in_default-clause-state
unfolding after_write table_after_write
returns-in_default-clause-state c = search rules

pub returns-in_default-clause-entry : goal.returns-in_default-clause-entry
unfolding after_write table_after_write
returns-in_default-clause-entry c = search rules
