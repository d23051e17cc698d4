-- `volts::sheet_of` meets its contract: each reading is a part of the test at the byte (Exact.antt).
-- Assumes nothing.
use lib.Ieee.{of_bits}
use Rattle.volts.proofs.Exact.{bias_good, ground_good}
use Rattle.volts.proofs.sheet_of.Goals as goal

pub returns : goal.returns
unfolding of_bits
returns c =
    record {
      bias = (bias_good c.args.bias c.ranges.bias.fits).exact;
      ground = (ground_good c.args.ground c.ranges.ground.fits).exact;
    }
