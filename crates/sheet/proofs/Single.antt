-- Single outcome: two sheets that meet the contract of `sheet_at` at one desk are equal.
-- Stated of the contract that the checker makes of the source (`Reads.Post`). Assumes nothing.
use Rattle.std.specs.Prelude.{Some, None}
use mathlib.Core.Path.{◌≡◌, sym, ap, ◌∙◌}
use Rattle.frame.specs.declared.Item.TheVariants.{Bias, Ground}
use Rattle.frame.specs.Items.{row_of}
use Rattle.desk.specs.declared.Desk.{Desk}
use Rattle.desk.specs.Desk.{shows}
use Rattle.cell.specs.Shapes.{Shown}
use Prim.Native.Nat.{◌%◌}
use Rattle.volts.proofs.Single.{sheet_of_one}
use Rattle.sheet.specs.Shapes.{Sheeted}
use Rattle.sheet.specs.Sheeted.{InVolts}
use Rattle.sheet.proofs.sheet_at.Reads as sheet-at

one : (b g : Shown) (r q : Sheeted) → InVolts b g r → InVolts b g q → r ≡ q
one None g r q m n = m ∙ sym n
one (Some b) None r q m n = m ∙ sym n
one (Some b) (Some g) r q m n = m.1 ∙ ap Some (sheet_of_one (b.value % 256) (g.value % 256) m.0 n.0 m.2 n.2) ∙ sym n.1

pub sheet_at_one : (d : Desk) (r q : Sheeted) → sheet-at.Post tt (d, tt) r (d, tt) → sheet-at.Post tt (d, tt) q (d, tt) → r ≡ q
sheet_at_one d r q m n = one (shows d (row_of Bias)) (shows d (row_of Ground)) r q m n
