-- `answering::put_command`: the plain words and the end of the line.
-- Assumes nothing.
use Rattle.std.proofs.Common.{arith}
use Rattle.text.proofs.Puts.{gets_both, gets_all}
use Rattle.answering.proofs.put_command.Goals as goal

pub returns : goal.returns
returns c =
    let e = c.put_plain.ensures in
    let plain = gets_all 28 (omega arith) e.0 in
    let end = gets_all 1 (omega (arith, plain.long, e.1)) c.put.ensures in
    (gets_both plain end (omega (arith, plain.puts.place, e.1)), omega (arith, end.puts.place, e.1))
