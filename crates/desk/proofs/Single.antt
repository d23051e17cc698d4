-- Single outcome: two results that meet a function's own contract at the same arguments are equal.
-- Stated of the contract that the checker makes of the source (`Reads.Post`). A slice that is only read has nothing to fix. Assumes nothing.
use mathlib.Core.Path.{◌≡◌}
use contract.Lifetimes.{Lfts}
use denote.Triple.Clauses.{AtExit}
use borrow.Fn.Kinds.{Dens, ended_of}
use Rattle.base.proofs.Single.{same}
use Rattle.frame.specs.declared.Item.{Item}
use Rattle.cell.specs.Shapes.{Shown}
use Rattle.desk.specs.declared.Desk.{Desk}
use Rattle.desk.specs.declared.Received.{Received}
use Rattle.desk.proofs.fresh.Reads as fresh
use Rattle.desk.proofs.look.Reads as look
use Rattle.desk.proofs.missed.Reads as missed
use Rattle.desk.proofs.slot.Kinds as slot-kinds
use Rattle.desk.proofs.slot.Reads as slot

pub fresh_one : (r q : Desk) → fresh.Post tt tt r tt → fresh.Post tt tt q tt → r ≡ q
fresh_one r q m n = same m n

pub look_one : (d : Desk) (x : Item) (r q : Shown) → look.Post tt (d, (x, tt)) r (d, (x, tt)) → look.Post tt (d, (x, tt)) q (d, (x, tt)) → r ≡ q
look_one d x r q m n = same m n

pub missed_one : (d r q : Desk) → missed.Post tt (d, tt) r (d, tt) → missed.Post tt (d, tt) q (d, tt) → r ≡ q
missed_one d r q m n = same m n

pub slot_one : (κs : Lfts 1) (a : Dens κs slot-kinds.ps) (e f : AtExit (ended_of 1 slot-kinds.ps slot-kinds.r) κs) (r q : Received)
    → slot.Post κs a r e → slot.Post κs a q f → r ≡ q
slot_one κs a e f r q m n = same m n
