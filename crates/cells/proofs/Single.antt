-- Single outcome: two results that meet a function's own contract at the same arguments are equal.
-- Stated of the contract that the checker makes of the source (`Reads.Post`). Assumes nothing.
use mathlib.Core.Path.{◌≡◌}
use mathlib.Core.List.{List}
use Prim.Native.Nat.{ℕ}
use Rattle.base.proofs.Single.{same}
use Rattle.cell.specs.declared.Cell.{Cell}
use Rattle.cells.proofs.cell_at.Reads as Cell-at
use Rattle.cells.proofs.older.Reads as older

pub cell_at_one : (cs : List Cell) (k : ℕ) (r q : Cell) → Cell-at.Post tt (cs, (k, tt)) r (cs, (k, tt)) → Cell-at.Post tt (cs, (k, tt)) q (cs, (k, tt)) → r ≡ q
cell_at_one cs k r q m n = same m n

pub older_one : (cs : List Cell) (r q : List Cell) → older.Post tt (cs, tt) r (cs, tt) → older.Post tt (cs, tt) q (cs, tt) → r ≡ q
older_one cs r q m n = same m n
