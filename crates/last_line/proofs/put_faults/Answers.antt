-- `last_line::put_faults` meets its contract: the label, the count and the two codes.
-- Assumes nothing.
use Rattle.std.proofs.Common.{arith}
use Rattle.base.specs.Ascii.{ascii}
use Rattle.text.proofs.Puts.{gets_all, gets_two, gets_both}
use Rattle.numerals.specs.Decimal.{decimal}
use Rattle.numerals.proofs.Laws.{short}
use Rattle.last_line.specs.LastLine.{CODES}
use Rattle.last_line.proofs.put_faults.Goals as goal

pub returns : goal.returns
returns c =
    let n = c.args.faults.count in
    let fewest = short 3 n (omega arith) (omega arith) in
    let count = gets_two (ascii "invalid ") (decimal n) c.put.ensures (rw c.wide.ensures.0 at c.put_decimal.ensures) (omega (arith, fewest)) in
    let codes = gets_all CODES (omega (arith, count.long, count.puts.place, fewest)) (rw c.codes_of-codes.ensures at c.put-2.ensures) in
    gets_both count codes (omega (arith, fewest))
