-- `writing::write`: the part that is copied over is as long as a frame.
-- Assumes nothing.
use Rattle.std.proofs.Common.{sym, ap, ◌∙◌, length, arith}
use Rattle.std.proofs.lemmas.List.{length-take-le}
use Rattle.frame.proofs.Place.{frame_length}
use Rattle.writing.proofs.write.Goals as goal

pub copy_from_slice-requires : goal.copy_from_slice-requires
copy_from_slice-requires c =
    let a = c.args in
    length-take-le 40 a.out.now (omega arith) ∙ sym (ap length c.frame_bytes-f.ensures ∙ frame_length a.held a.index a.latch)
