-- `reading::read`: the word of each item lies within the 40 bytes, and neither divisor is 0.
-- Assumes nothing.
use Rattle.reading.proofs.Spots.{spot_byte, spot_div, spot_rem}
use Rattle.reading.proofs.read.Goals as goal

pub field-requires : goal.field-requires
field-requires c =
    let p = c.spot_of-p.result in
    let x = c.args.item in
    let e = c.spot_of-p.ensures in
    (c.if-frame-ne40.false, spot_byte p x e, spot_div p x e, spot_rem p x e)
