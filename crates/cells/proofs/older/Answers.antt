-- `cells::older` meets its contract: one row more is older after each turn, and all are at the end.
-- Assumes nothing.
use Rattle.std.proofs.Common.{arith}
use Rattle.cells.proofs.Cells.{aged_next, aged_all}
use Rattle.cells.proofs.older.Goals as goal

pub loop-c-preserved : goal.loop-c-preserved
loop-c-preserved c =
    let l = c.loop-c in
    (l.invariant.0, aged_next c.args.old l.c-index l.c-items _ _ (omega arith) l.invariant.1 c.next.ensures)

pub returns : goal.returns
returns c = aged_all c.args.old c.loop-c.c-index c.loop-c.c-items c.loop-c.invariant.0 (omega arith) c.loop-c.invariant.1
