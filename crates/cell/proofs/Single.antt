-- Single outcome: two results that meet a function's own contract at the same arguments are equal.
-- Stated of the contract that the checker makes of the source (`Reads.Post`). Assumes nothing.
use mathlib.Core.Path.{◌≡◌}
use Rattle.base.proofs.Single.{same}
use Rattle.cell.specs.Shapes.{Shown}
use Rattle.cell.specs.declared.Cell.{Cell}
use Rattle.cell.proofs.blank.Reads as blank
use Rattle.cell.proofs.shown_by.Reads as shown_by
use Rattle.cell.proofs.next.Reads as next

pub blank_one : (r q : Cell) → blank.Post tt tt r tt → blank.Post tt tt q tt → r ≡ q
blank_one r q m n = same m n

pub shown_by_one : (c : Cell) (r q : Shown) → shown_by.Post tt (c, tt) r (c, tt) → shown_by.Post tt (c, tt) q (c, tt) → r ≡ q
shown_by_one c r q m n = same m n

pub next_one : (s : Shown) (c r q : Cell) → next.Post tt (s, (c, tt)) r (s, (c, tt)) → next.Post tt (s, (c, tt)) q (s, (c, tt)) → r ≡ q
next_one s c r q m n = same m n
