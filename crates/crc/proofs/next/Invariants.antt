-- The loop of `crc::next`: after so many turns of the loop, so many shift steps.
-- Assumes nothing.
use Rattle.std.proofs.Common.{◌≡◌}
use Rattle.std.specs.Int.Bits.{bit_xor}
use Rattle.crc.proofs.Steps.{shifts}
use Rattle.crc.proofs.next.Given as goal

abbrev pub invariant-loop : goal.invariant-loop
invariant-loop l = l.x ≡ shifts l.counter (bit_xor l.c l.b)
