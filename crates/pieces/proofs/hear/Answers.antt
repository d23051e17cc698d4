-- `pieces::hear` meets its contract: what the rig answers, on a page that has room for it.
-- Assumes nothing.
use Rattle.std.proofs.Common.{refl, arith}
use Rattle.lines.specs.Bounds.{PAIR}
use Rattle.text.proofs.Puts.{gets_all}
use Rattle.pieces.proofs.hear.Goals as goal

pub returns : goal.returns
returns c =
    let t = c.take-taken.ensures in
    let p = gets_all PAIR (omega arith) c.put_lines.ensures.0 in
    simp t (refl, simp t at p, omega arith)
