-- `pieces::feed` meets its contract: a byte that waits puts nothing; one that completes a word puts its lines.
-- Assumes nothing.
use Rattle.std.proofs.Common.{refl, arith}
use Rattle.text.proofs.Puts.{gets_none}
use Rattle.listing.specs.Listing.{fed_byte, said_byte}
use Rattle.pieces.proofs.feed.Goals as goal

pub returns-in-None : goal.returns-in-None
unfolding fed_byte said_byte
returns-in-None c = simp c.in-None.is (refl, gets_none _, omega arith)

pub returns-in-Some : goal.returns-in-Some
unfolding fed_byte said_byte
returns-in-Some c = simp c.in-Some.is (rw c.word_of.ensures at c.hear.ensures)
