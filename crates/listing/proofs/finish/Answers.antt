-- `listing::finish` meets its contract: the line of a lone byte, if there is one, and the last line.
-- Assumes nothing.
use Rattle.std.proofs.Common.{arith}
use Rattle.last_line.specs.LastLine.{LAST}
use Rattle.text.proofs.Puts.{gets_all, gets_both}
use Rattle.listing.proofs.Front.{front, odd_short}
use Rattle.listing.proofs.finish.Goals as goal

pub returns : goal.returns
returns c =
    let odd = c.put_odd.ensures in
    let o = odd_short c.args.lister.lone in
    let last = gets_all LAST (omega (arith, odd.long, odd.puts.place, o)) c.put_last_line.ensures in
    front (gets_both odd last (omega (arith, o))).puts
