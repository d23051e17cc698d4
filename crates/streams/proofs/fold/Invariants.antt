-- `streams::fold`: what is read so far took the first step and the start to those of the loop.
-- Assumes nothing.
use Rattle.std.proofs.Common.{◌≡◌, ℕ, List, length}
use Rattle.std.specs.Io.KnownBytes.{Consumes}
use Rattle.streams.specs.Folded.{Folded}
use Rattle.streams.proofs.fold.Given as goal

abbrev pub invariant-loop : goal.invariant-loop
invariant-loop g l =
    (length l.piece ≡ 4096)
    × ((read : List ℕ)
    × Folded g.F.Step.comes_to l.fn.step l.fn.start read l.step l.state
    × Consumes (g.I.Read.remaining l.fn.input) (g.I.Read.remaining l.input) read)
