-- `listing::open` meets its contract: the rig at its start, and the first line at the front.
-- Assumes nothing.
use Rattle.std.proofs.Common.{arith}
use Rattle.text.proofs.Puts.{gets_all}
use Rattle.listing.proofs.Front.{front}
use Rattle.listing.proofs.open.Goals as goal

pub returns : goal.returns
returns c =
    let e = front (gets_all 12 (omega arith) c.put.ensures).puts in
    (simp (c.start.ensures, e.0), e.1, e.2)
