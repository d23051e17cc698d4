-- The rows of the menu: four for the relay, which take no setting; eleven with one setting, three of them for each supply (02 (iv)); four with two.
-- Assumes nothing.
use Rattle.std.specs.Prelude.{ℕ, ◌+◌, ◌<◌, ◌≡◌, true, eqb, ltb}
use Rattle.base.specs.Pick.{pick}
use Rattle.menu_names.specs.Names.{rows}
use Rattle.judge.specs.declared.Which.{Which}
use Rattle.judge.specs.declared.Which.TheVariants.{Stop, Start, Deflection}
use Rattle.wording.specs.declared.Command.{Command}
use Rattle.wording.specs.declared.Command.TheVariants.{Relay, Iel, HeadMask, Target, Limit, Mode, Stepping, Multiplexers, DirectionWindow, EnergyWindow}
use Rattle.wording.specs.Written.{fits}
use Rattle.menu_rows.specs.declared.Entry.{Entry}

-- how many settings go with a row
abbrev pub wanted : ℕ → ℕ
wanted row = pick (ltb row 4) 0 (pick (ltb row 15) 1 2)

-- the command of a row, with its settings
unfoldable pub made : ℕ → ℕ → ℕ → Command
made row a b =
    pick (eqb row 0) (Relay 1 0) ( -- on
    pick (eqb row 1) (Relay 0 1) ( -- off
    pick (eqb row 2) (Relay 1 1) ( -- both bits
    pick (eqb row 3) (Relay 0 0) ( -- neither
    pick (eqb row 4) (HeadMask a) (
    pick (eqb row 5) (Target Stop a) (
    pick (eqb row 6) (Limit Stop a) (
    pick (eqb row 7) (Stepping Stop a) (
    pick (eqb row 8) (Target Start a) (
    pick (eqb row 9) (Limit Start a) (
    pick (eqb row 10) (Stepping Start a) (
    pick (eqb row 11) (Target Deflection a) (
    pick (eqb row 12) (Limit Deflection a) (
    pick (eqb row 13) (Stepping Deflection a) (
    pick (eqb row 14) (Mode a) (
    pick (eqb row 15) (Iel a b) (
    pick (eqb row 16) (Multiplexers a b) (
    pick (eqb row 17) (DirectionWindow a b) (
    EnergyWindow a b))))))))))))))))))

-- the row of the relay's two bits
abbrev pub relay_row : ℕ → ℕ → ℕ
relay_row on off = pick (eqb on 1) (pick (eqb off 1) 2 0) (pick (eqb off 1) 1 3)

-- the row of a supply's target; its limit and its stepping stand in the next two
abbrev pub first_row : Which → ℕ
first_row Stop = 5
first_row Start = 8
first_row Deflection = 11

-- the row of a command, and its settings
abbrev pub entry_at : ℕ → ℕ → ℕ → Entry
entry_at row a b = record { row = row; first = a; second = b }

abbrev pub entry_of : Command → Entry
entry_of (Relay on off) = entry_at (relay_row on off) 0 0
entry_of (HeadMask mask) = entry_at 4 mask 0
entry_of (Target x target) = entry_at (first_row x) target 0
entry_of (Limit x limit) = entry_at (first_row x + 1) limit 0
entry_of (Stepping x low) = entry_at (first_row x + 2) low 0
entry_of (Mode low) = entry_at 14 low 0
entry_of (Iel clock enable) = entry_at 15 clock enable
entry_of (Multiplexers byte bit) = entry_at 16 byte bit
entry_of (DirectionWindow start stop) = entry_at 17 start stop
entry_of (EnergyWindow start stop) = entry_at 18 start stop

-- The row and the settings of a command that fits give it back, and the row is one of the menu's.
abbrev pub Back : Type 0
Back = (c : Command) → fits c ≡ true → let e = entry_of c in (made e.row e.first e.second ≡ c) × (e.row < rows)
