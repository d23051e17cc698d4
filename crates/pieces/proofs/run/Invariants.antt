-- `pieces::run`: after some bytes the page has their text, and the lister is the one after them.
-- Assumes nothing.
use Rattle.std.proofs.Common.{◌≡◌, ◌+◌, ◌*◌, ◌≤◌, take}
use Rattle.listing.specs.Listing.{fed, said}
use Rattle.lines.specs.Bounds.{PAIR}
use Rattle.text.specs.Page.{Gets}
use Rattle.pieces.proofs.run.Given as goal

abbrev pub invariant-loop-byte : goal.invariant-loop-byte
invariant-loop-byte l =
    record {
      room : l.page.at ≤ l.initial.page.at + PAIR * l.byte-index;
      heard : l.state ≡ fed l.fn.lister (take l.byte-index l.bytes);
      told : Gets (said l.fn.lister (take l.byte-index l.bytes)) l.initial.page l.page;
    }
