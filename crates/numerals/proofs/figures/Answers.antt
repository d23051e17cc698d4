-- `numerals::figures`: before the loop the last digit alone is written.
-- Assumes nothing.
use Rattle.std.proofs.Common.{rules}
use Rattle.numerals.specs.Decimal.{decimal}
use Rattle.numerals.proofs.figures.Goals as goal

pub loop-rest-init : goal.loop-rest-init
unfolding decimal
loop-rest-init c = search rules
