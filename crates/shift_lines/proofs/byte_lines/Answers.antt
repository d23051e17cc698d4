-- `shift_lines::byte_lines` meets its contract: the line of the byte and the lines of the steps fill the page.
-- Assumes nothing.
use Rattle.std.proofs.Common.{arith, refl, sym}
use Rattle.text.proofs.Puts.{gets_both}
use Rattle.shift_lines.proofs.Walk.{filled}
use Rattle.shift_lines.proofs.byte_lines.Goals as goal

pub returns : goal.returns
returns c =
    let h = rw c.start_text-begin.ensures at c.put_line.ensures in
    let g = gets_both h c.put_steps.ensures (omega arith) in
    let s = sym g.same_page in
    let w = filled c.args.check c.args.byte refl refl g in
    grind (arith, s, w)
