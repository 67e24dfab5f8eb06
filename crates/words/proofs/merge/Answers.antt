-- `words::merge` meets its contract. Assumes nothing.
use Rattle.words.specs.CodeLaws.{merge_law}
use Rattle.words.proofs.merge.Goals as goal

pub returns : goal.returns
returns c = merge_law c.args.old c.args.new c.args.allow c.ranges.old.fits c.ranges.new.fits c.ranges.allow.fits
