-- `pieces::run` meets its contract: one byte more, and its text behind the text of those before it.
-- Assumes nothing.
use Rattle.std.proofs.Common.{arith, ◌<◌, length}
use Rattle.text.proofs.Puts.{gets_both}
use Rattle.listing.proofs.Pieces.{fed_more, said_more}
use Rattle.pieces.proofs.run.Goals as goal

pub loop-byte-preserved : goal.loop-byte-preserved
loop-byte-preserved c =
    let l = c.loop-byte in
    let inv = l.invariant in
    let f = c.feed-state.ensures in
    let h : l.byte-index < length c.args.bytes.now = omega arith in
    record {
      room = omega (arith, f.2, inv.room);
      heard = cc (f.0, inv.heard, fed_more c.args.lister c.args.bytes.now l.byte-index h);
      told =
          rw (said_more c.args.lister c.args.bytes.now l.byte-index h)
          (gets_both inv.told (rw inv.heard at f.1) (omega (arith, inv.told.puts.place, inv.room, c.requires)));
    }
