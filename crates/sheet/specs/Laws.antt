-- What is true of the sheet of a desk, in numbers: which reading is which, and that one reading alone makes no sheet.
-- Keeps 01 "Volts". Assumes nothing.
use Rattle.std.specs.Prelude.{◌≡◌, pos, negsuc, Some, None}
use Rattle.base.specs.declared.Frames.{Frames}
use Rattle.cell.specs.Shapes.{Shown}
use Rattle.volts.specs.declared.Sheet.{Sheet}
use Rattle.volts.specs.Volts.{Makes}
use Rattle.sheet.specs.Shapes.{Sheeted}
use Rattle.sheet.specs.Sheeted.{InVolts}
use Rattle.cell.specs.Shapes.{known}

pub record Laws : Type 0 where
  -- bias 00h and ground 81h, at whatever age: 128 × 277 256ths, and -10
  pub both : (a c : Frames) (r : Sheeted) → InVolts (known 0x00 a) (known 0x81 c) r
      → (s : Sheet) × (r ≡ Some s) × Makes s.bias (pos 35456) × Makes s.ground (negsuc 9)
  -- until both are known there is none
  pub no_bias : (g : Shown) (r : Sheeted) → InVolts None g r → r ≡ None
  pub no_ground : (b : Shown) (r : Sheeted) → InVolts b None r → r ≡ None
