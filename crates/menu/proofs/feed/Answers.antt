-- A call gets on by a byte at least.
-- Assumes nothing.
use Rattle.std.proofs.Common.{ap, arith}
use Rattle.cutting.specs.declared.Step.{Step}
use Rattle.cutting.proofs.Ahead.{ahead}
use Rattle.menu.proofs.feed.Goals as goal

pub loop-at-smaller : goal.loop-at-smaller
loop-at-smaller g c =
    let l = c.loop-at in
    let a = ahead l.now.0 l.line c.args.piece.now l.at c.loop-at-test.true in
    let e = ap (λ (s : Step). s.at) c.next-step.ensures.0 in
    omega arith
