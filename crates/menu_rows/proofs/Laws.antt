-- The row and the settings of a command that fits give it back.
-- Assumes nothing.
use mathlib.Core.Path.{◌≡◌, refl}
use native.Mathlib.Omega.{arith}
use Prim.Native.Nat.{ℕ, ◌+◌, ◌<◌}
use Rattle.judge.specs.declared.Which.{Which}
use Rattle.judge.specs.declared.Which.TheVariants.{Stop, Start, Deflection}
use Rattle.wording.specs.declared.Command.TheVariants.{Relay, Iel, HeadMask, Target, Limit, Mode, Stepping, Multiplexers, DirectionWindow, EnergyWindow}
use Rattle.wording.proofs.Sent.{two_bits, fits_two}
use Rattle.menu_names.specs.Names.{rows}
use Rattle.menu_rows.specs.Rows.{wanted, made, first_row, entry_of, Back}

-- the three rows of a supply are in the menu, and each takes one setting
pub in_menu : (x : Which) → first_row x + 2 < rows
in_menu Stop = omega arith
in_menu Start = omega arith
in_menu Deflection = omega arith

pub takes_one : (x : Which) → (wanted (first_row x) ≡ 1) × (wanted (first_row x + 1) ≡ 1) × (wanted (first_row x + 2) ≡ 1)
takes_one Stop = (refl, refl, refl)
takes_one Start = (refl, refl, refl)
takes_one Deflection = (refl, refl, refl)

-- and they are its target, its limit and its stepping
pub supply_back : (x : Which) (a : ℕ) → (made (first_row x) a 0 ≡ Target x a) × (made (first_row x + 1) a 0 ≡ Limit x a) × (made (first_row x + 2) a 0 ≡ Stepping x a)
unfolding made
supply_back Stop a = (refl, refl, refl)
supply_back Start a = (refl, refl, refl)
supply_back Deflection a = (refl, refl, refl)

pub back : Back
unfolding made
back (Relay on off) f =
    let h = fits_two on 2 off 2 f in
    two_bits (λ x y. let e = entry_of (Relay x y) in (made e.row e.first e.second ≡ Relay x y) × (e.row < rows))
    (refl, omega arith) (refl, omega arith) (refl, omega arith) (refl, omega arith) on off h.0 h.1
back (Iel clock enable) f = (refl, omega arith)
back (HeadMask mask) f = (refl, omega arith)
back (Target x target) f = let h = in_menu x in ((supply_back x target).0, omega arith)
back (Limit x limit) f = let h = in_menu x in ((supply_back x limit).1, omega arith)
back (Mode low) f = (refl, omega arith)
back (Stepping x low) f = ((supply_back x low).2, in_menu x)
back (Multiplexers byte bit) f = (refl, omega arith)
back (DirectionWindow start stop) f = (refl, omega arith)
back (EnergyWindow start stop) f = (refl, omega arith)
