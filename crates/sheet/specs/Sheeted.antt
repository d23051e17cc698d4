-- The sheet of what a desk shows: none until bias and ground are both known, else the volts of their bytes.
-- Keeps 01 "Volts". Assumes nothing.
use Rattle.std.specs.Prelude.{◌≡◌, ◌%◌, Some, None}
use Rattle.cell.specs.Shapes.{Shown}
use Rattle.volts.specs.declared.Sheet.{Sheet}
use Rattle.volts.specs.Volts.{Shows}
use Rattle.sheet.specs.Shapes.{Sheeted}

abbrev pub InVolts : Shown → Shown → Sheeted → Type 0
InVolts None g r = r ≡ None
InVolts (Some b) None r = r ≡ None
InVolts (Some b) (Some g) r = (s : Sheet) × (r ≡ Some s) × Shows (b.value % 256) (g.value % 256) s
