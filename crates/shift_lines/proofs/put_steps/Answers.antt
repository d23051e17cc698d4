-- `shift_lines::put_steps` meets its contract: each step's line takes it on, and at its end nothing is to come.
-- Assumes nothing.
use Rattle.std.proofs.Common.{◌∙◌, arith}
use Rattle.shift_lines.proofs.Walk.{step_length, again, ended}
use Rattle.shift_lines.proofs.put_steps.Goals as goal

pub loop-k-preserved : goal.loop-k-preserved
loop-k-preserved c =
    let l = c.loop-k in
    let h = rw (c.step_text-begin.ensures, c.shift_step-x.ensures) at c.put_line.ensures in
    let n = step_length l.k l.x in
    let e = again l.k l.x (omega arith) (omega arith) h ∙ l.invariant.lines in
    record {
      same_page = h.same_page ∙ l.invariant.same_page;
      place = omega (arith, h.puts.place, n);
      long = h.long ∙ l.invariant.long;
      lines = rw c.shift_step-x.ensures e;
    }

pub returns : goal.returns
returns c =
    let l = c.loop-k in
    record {
      same_page = l.invariant.same_page;
      long = l.invariant.long;
      puts = ended l.k l.x c.args.byte (omega arith) (omega arith) l.invariant.place l.invariant.lines;
    }
