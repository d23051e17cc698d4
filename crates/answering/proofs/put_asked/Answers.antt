-- `answering::put_asked`: a line that is not read.
-- Assumes nothing.
use Rattle.std.proofs.Common.{arith}
use Rattle.text.proofs.Puts.{gets_all}
use Rattle.answering.proofs.put_asked.Goals as goal

pub returns-in-NotRead : goal.returns-in-NotRead
returns-in-NotRead c =
    let e = gets_all 9 (omega arith) c.put.ensures in
    rw c.in-NotRead.is (e, omega (arith, e.puts.place))
