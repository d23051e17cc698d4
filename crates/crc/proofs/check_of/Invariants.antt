-- The loop of `crc::check_of`: the check so far, carried on over the bytes to come, is the check of all.
-- Assumes nothing.
use Rattle.std.proofs.Common.{drop, ◌≡◌}
use Rattle.crc.specs.Crc.{crc_from, crc_of}
use Rattle.crc.proofs.check_of.Given as goal

abbrev pub invariant-loop-b : goal.invariant-loop-b
invariant-loop-b l = crc_from l.c (drop l.b-index l.s) ≡ crc_of l.s
