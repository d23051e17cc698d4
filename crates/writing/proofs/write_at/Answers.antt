-- `writing::write_at` meets its contract: what the writer does to the part from the place on, said of the whole buffer.
-- Assumes nothing.
use Rattle.std.proofs.Common.{◌∙◌, arith}
use Rattle.frame.proofs.Place.{placed}
use Rattle.writing.proofs.write_at.Goals as goal

pub returns : goal.returns
returns c =
    let a = c.args in
    let p = placed a.held a.index a.latch a.at a.buf.now (omega arith) in
    let e = c.write.ensures in
    (e.0 ∙ p.0, cc (e.1, p.1))
