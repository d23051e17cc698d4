-- The functions of a rig and a desk, of which the demands are said; ours; and the two sorts of fill.
-- Keeps 01 whole. Assumes nothing.
use Rattle.std.specs.Prelude.{List, ℕ, replicate}
use Rattle.frame.specs.declared.Item.{Item}
use Rattle.frame.specs.Items.{row_of}
use Rattle.desk.specs.declared.Desk.{Desk}
use Rattle.cell.specs.Shapes.{Shown}
use Rattle.desk.specs.declared.Received.{Received}
use Rattle.desk.specs.Desk.{fresh_desk, slot_of, missed_of, shows}
use Rattle.rig.specs.declared.Rig.{Rig}
use Rattle.sending.specs.declared.Built.{Built}
use Rattle.sending.specs.Sending.{built_of, filled_of, next_frame}
use Rattle.laws.specs.Runs.{Machine, ours}

-- The functions of a rig and a desk. The demands are said of any such.
pub record Outfit : Type 0 where
  pub rig : Machine
  -- the next frame; what building it at a place of a buffer answers, and what the buffer then holds
  pub frame : Rig → List ℕ
  pub build : Rig → List ℕ → ℕ → Built
  pub filled : Rig → List ℕ → ℕ → List ℕ
  pub fresh : Desk
  pub slot : Desk → List ℕ → Received
  pub missed : Desk → Desk
  pub look : Desk → Item → Shown

-- Ours: what the contracts of our functions leave them (specs/Ours).
abbrev pub proved : Outfit
proved =
    record {
      rig = ours;
      frame = next_frame;
      build = built_of;
      filled = filled_of;
      fresh = fresh_desk;
      slot = slot_of;
      missed = missed_of;
      look = λ d item. shows d (row_of item);
    }

-- fill: 40 equal bytes C0h or FFh, which is a missed slot
abbrev pub fill_c0 : List ℕ
fill_c0 = replicate 40 0xC0

-- the other fill
abbrev pub fill_ff : List ℕ
fill_ff = replicate 40 0xFF
