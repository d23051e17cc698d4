-- The laws of the sheet hold.
-- Assumes nothing.
use Rattle.std.specs.Prelude.{Some, None}
use mathlib.Core.Path.{◌≡◌}
use Rattle.cell.specs.Shapes.{Shown}
use Rattle.sheet.specs.Shapes.{Sheeted}
use Rattle.sheet.specs.Sheeted.{InVolts}
use Rattle.sheet.specs.Laws.{Laws}

no_ground : (b : Shown) (r : Sheeted) → InVolts b None r → r ≡ None
no_ground None r m = m
no_ground (Some k) r m = m

pub laws : Laws
laws = record { both = λ a c r m. (m.0, m.1, m.2.bias, m.2.ground); no_bias = λ g r m. m; no_ground = no_ground }
