-- `listing::put_odd` meets its contract: the line, where a byte waits.
-- Assumes nothing.
use Rattle.std.proofs.Common.{arith, sym, ◌∙◌}
use Rattle.text.proofs.Puts.{gets_all}
use Rattle.listing.proofs.Front.{odd_told}
use Rattle.listing.proofs.put_odd.Goals as goal

pub returns-then-is_some : goal.returns-then-is_some
returns-then-is_some c = rw (odd_told c.args.lone (sym c.is_some.ensures ∙ c.if-is_some.true)) (gets_all 9 (omega arith) c.put.ensures)
