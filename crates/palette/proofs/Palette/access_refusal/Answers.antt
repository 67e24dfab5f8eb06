-- `palette::Palette::access_refusal` meets its contract. Assumes nothing.
use Rattle.std.proofs.Common.{rules}
use Rattle.palette.specs.Calls.{access_refusal}
use Rattle.palette.proofs.Palette.access_refusal.Goals as goal

pub returns-in_err-refuse : goal.returns-in_err-refuse
unfolding access_refusal
returns-in_err-refuse c = search rules

pub returns-in_err-refuse-2 : goal.returns-in_err-refuse-2
unfolding access_refusal
returns-in_err-refuse-2 c = search rules

pub returns : goal.returns
unfolding access_refusal
returns c = search rules
