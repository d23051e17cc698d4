-- The loop of `follow`: the check so far, carried on over the bytes to come, is the check of all.
-- Assumes nothing.
use Rattle.std.proofs.Common.{drop, ◌≡◌}
use Rattle.crc.specs.Crc.{crc_from}
use Rattle.shifts.proofs.follow.Given as goal

abbrev pub invariant-loop-byte : goal.invariant-loop-byte
invariant-loop-byte g l = crc_from l.check (drop l.byte-index l.piece) ≡ crc_from l.fn.before l.piece
