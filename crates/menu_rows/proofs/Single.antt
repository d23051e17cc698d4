-- Single outcome: two results that meet a function's own contract at the same arguments are equal.
-- Assumes nothing.
use mathlib.Core.Path.{◌≡◌}
use Prim.Native.Nat.{ℕ}
use Rattle.base.proofs.Single.{same}
use Rattle.wording.specs.declared.Command.{Command}
use Rattle.menu_rows.specs.declared.Entry.{Entry}
use Rattle.menu_rows.proofs.settings.Reads as settings
use Rattle.menu_rows.proofs.command.Reads as command
use Rattle.menu_rows.proofs.entry_of.Reads as entry_of

pub settings_one : (row x y : ℕ) → settings.Post tt (row, tt) x (row, tt) → settings.Post tt (row, tt) y (row, tt) → x ≡ y
settings_one row x y m n = same m n

pub command_one : (e : Entry) (x y : Command) → command.Post tt (e, tt) x (e, tt) → command.Post tt (e, tt) y (e, tt) → x ≡ y
command_one e x y m n = same m n

pub entry_of_one : (c : Command) (x y : Entry) → entry_of.Post tt (c, tt) x (c, tt) → entry_of.Post tt (c, tt) y (c, tt) → x ≡ y
entry_of_one c x y m n = same m n
