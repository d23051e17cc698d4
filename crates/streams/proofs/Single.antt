-- Single outcome of `or_say`: two results that meet its own contract at the same arguments are equal.
-- Stated of the contract that the checker makes of the source (`Reads.Post`), so that it cannot drift from it. Assumes nothing.
use mathlib.Core.Path.{◌≡◌, ◌∙◌, sym}
use contract.Lifetimes.{Lfts}
use denote.Triple.Clauses.{AtExit}
use borrow.Fn.Kinds.{Dens, ended_of}
use mir.Syntax.{Dict}
use denote.Param.Laws.{Laws}
use denote.RattleType.{RattleType}
use Rattle.std.specs.declared.io.Eprint.{Ghosts}
use Rattle.streams.proofs.or_say.Kinds as kinds
use Rattle.streams.proofs.or_say.Reads as or-say

pub or_say_one : (T1 T2 : RattleType) (L1 : Laws T1) (L2 : Laws T2) (G : Ghosts T2.Denot) (D E : Dict) (κs : Lfts 4) (a : Dens κs (kinds.ps T1 T2 L1 L2))
    (e f : AtExit (ended_of 4 (kinds.ps T1 T2 L1 L2) (kinds.r T1 T2 L1 L2)) κs) (r q : _)
    → or-say.Post T1 T2 L1 L2 G D E κs a r e → or-say.Post T1 T2 L1 L2 G D E κs a q f → r ≡ q
or_say_one T1 T2 L1 L2 G D E κs a e f r q m n = m ∙ sym n
