-- `answering::put_lines`: one line more.
-- Assumes nothing.
use Rattle.std.proofs.Common.{take, length-take, arith}
use Rattle.text.proofs.Puts.{gets_both, gets_all}
use Rattle.answering.proofs.Orders.{one_more_lem, lines_length}
use Rattle.answering.proofs.put_lines.Goals as goal

pub loop-word-preserved : goal.loop-word-preserved
loop-word-preserved c =
    let words = c.args.words.now in
    let i = c.loop-word.word-index in
    let t = lines_length (take i words) in
    let u = length-take i words in
    let x = c.loop-word.invariant in
    let y = gets_all 5 (omega (arith, t, u, x.long, x.puts.place)) (rw c.hex_line.ensures at c.put.ensures) in
    let n = one_more_lem words i (omega arith) in
    rw n at (gets_both x y (omega (arith, t, u)))
