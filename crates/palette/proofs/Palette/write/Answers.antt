-- `palette::Palette::write` meets its contract. Assumes nothing.
use Rattle.std.proofs.Common.{rules}
use Rattle.palette.specs.Calls.{access_refusal, write_call}
use Rattle.palette.proofs.Palette.write.Goals as goal

pub returns-in_err-access_refusal : goal.returns-in_err-access_refusal
unfolding access_refusal write_call
returns-in_err-access_refusal c = search rules

pub unwrap-table-requires : goal.unwrap-table-requires
unfolding access_refusal write_call
unwrap-table-requires c = search rules

pub returns : goal.returns
unfolding access_refusal write_call
returns c = search rules
