-- `numerals::figures`: the digits of what is left, and behind them those that are written, are the whole number's.
-- Assumes nothing.
use Rattle.std.proofs.Common.{◌≡◌, ◌++◌, ◌≤◌, ◌<◌, length, drop}
use Prim.Native.Nat.{◌^◌}
use Rattle.numerals.specs.Decimal.{front, decimal}
use Rattle.numerals.proofs.figures.Given as goal

abbrev pub invariant-loop-rest : goal.invariant-loop-rest
invariant-loop-rest l =
    record {
      below : l.from ≤ 9;
      long : length l.bytes ≡ 10;
      fewer : l.rest < 10 ^ l.from;
      digits : front l.from l.rest ++ drop l.from l.bytes ≡ decimal l.fn.n;
    }

abbrev pub decreases-loop-rest : goal.decreases-loop-rest
decreases-loop-rest l = l.from
