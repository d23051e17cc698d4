-- `shift_lines::put_steps`: the lines of the steps to come, put at the place, make the lines of all eight, put where the call began.
-- Assumes nothing.
use Rattle.std.proofs.Common.{◌≡◌, ◌+◌, ◌*◌, ◌-◌, length}
use Rattle.text.specs.Page.{put}
use Rattle.shift_lines.specs.Lines.{step_lines}
use Rattle.shift_lines.proofs.put_steps.Given as goal

abbrev pub invariant-loop-k : goal.invariant-loop-k
invariant-loop-k l =
    record {
      same_page : l.page.bytes.ghost_name ≡ l.initial.page.bytes.ghost_name;
      place : l.page.at + 33 ≡ l.initial.page.at + 33 * l.k;
      long : length l.page.bytes.now ≡ length l.initial.page.bytes.now;
      lines : put l.page.at (step_lines (9 - l.k) l.k l.x) l.page.bytes.now ≡ put l.initial.page.at (step_lines 8 1 l.fn.byte) l.initial.page.bytes.now;
    }
