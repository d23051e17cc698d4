-- What is held of one item, and what it shows (01, "The 40-byte frame", the paragraph "The desk takes slots").
-- Assumes nothing.
use Rattle.std.specs.Prelude.{ltb, Some, None}
use Rattle.base.specs.Pick.{pick}
use Rattle.base.specs.Counts.{frames, ceiling, slot_older}
use Rattle.cell.specs.Shapes.{Shown, known}
use Rattle.cell.specs.declared.Cell.{Cell}

-- one slot later: ages stop at 65,535
abbrev pub aged_of : Shown → Shown
aged_of None = None
aged_of (Some k) = known k.value (slot_older k.age)

-- after a slot that by itself shows the first: "each newly complete value replaces the older one"
abbrev pub latest_of : Shown → Shown → Shown
latest_of (Some k) old = Some k
latest_of None old = aged_of old

-- an unknown item: no age passes 65,535, so this one stands for none
abbrev pub blank : Cell
blank = record { value = 0; age = frames 65536 }

-- what is shown, as a cell holds it
abbrev pub cell_of : Shown → Cell
cell_of None = blank
cell_of (Some k) = record { value = k.value; age = k.age }

-- what a cell shows
abbrev pub shown_by : Cell → Shown
shown_by c = pick (ltb ceiling c.age.0) None (known c.value c.age)

-- a cell after a slot that by itself shows s of its item
abbrev pub cell_after : Shown → Cell → Cell
cell_after s c = cell_of (latest_of s (shown_by c))
