-- `shift_lines::put_line` meets its contract: the text that it is given and then the bits, on a page that has room for both.
-- Assumes nothing.
use Rattle.std.proofs.Common.{arith}
use Rattle.text.proofs.Puts.{gets_two}
use Rattle.shift_lines.proofs.put_line.Goals as goal

pub returns : goal.returns
returns c = gets_two _ _ c.put.ensures (rw c.shown_of-bits.ensures at c.put-2.ensures) (omega arith)
