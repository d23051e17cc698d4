-- `streams::fold` meets its contract: nothing is read before the loop, and a turn reads a piece and calls the step.
-- Assumes nothing.
use Rattle.std.proofs.Common.{◌≡◌, ◌∙◌, Ok, refl, sym, [], ◌++◌, take, arith}
use Rattle.streams.specs.Folded.Folded.{begins, goes_on}
use Rattle.streams.proofs.Known.{none_read, read_on}
use Rattle.streams.proofs.fold.Goals as goal

pub loop-init : goal.loop-init
loop-init g c = (refl, ([], begins, none_read _))

pub loop-preserved : goal.loop-preserved
loop-preserved g c =
    let inv = c.loop.invariant in
    let came : c.read.result ≡ Ok c.in_ok-n.n = sym c.or_say.ensures ∙ c.in_ok-n.was in
    let read = rw came at c.read.ensures.bytes in
    let step = rw c.in_ok-state.was at c.step.ensures in
    (omega arith, (inv.1.0 ++ take c.in_ok-n.n c.read.new.buf, goes_on inv.1.1 step, read_on _ _ _ _ _ inv.1.2 read.0))
