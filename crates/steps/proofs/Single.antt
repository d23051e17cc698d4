-- Single outcome: two benches that meet a function's own contract at the same arguments, each in an `Ok`, are equal.
-- Stated of the contract that the checker makes of the source (`Reads.Post`), at any handle that prints. Assumes nothing.
use mathlib.Core.Path.{◌≡◌}
use contract.Lifetimes.{Lfts}
use denote.Param.Laws.{Laws}
use denote.RattleType.{RattleType}
use denote.Triple.Clauses.{AtExit}
use mir.Syntax.{Dict}
use borrow.Fn.Kinds.{Dens, ended_of}
use Rattle.std.specs.Prelude.{Ok}
use Rattle.std.specs.declared.io.Print.{Ghosts}
use Rattle.base.proofs.Single.{same}
use Rattle.bench.specs.declared.Bench.{Bench}
use Rattle.steps.proofs.send.Kinds as send-kinds
use Rattle.steps.proofs.send.Reads as send
use Rattle.steps.proofs.send_all.Kinds as send-all-kinds
use Rattle.steps.proofs.send_all.Reads as send-all
use Rattle.steps.proofs.block.Kinds as block-kinds
use Rattle.steps.proofs.block.Reads as block
use Rattle.steps.proofs.spins.Kinds as spins-kinds
use Rattle.steps.proofs.spins.Reads as spins

pub send_one : (T : RattleType) (L : Laws T) (G : Ghosts T.Denot) (D : Dict) (κs : Lfts 2) (a : Dens κs (send-kinds.ps T L))
    (e f : AtExit (ended_of 2 (send-kinds.ps T L) (send-kinds.r T L)) κs) (r q : Bench)
    → send.Post T L G D κs a (Ok r) e → send.Post T L G D κs a (Ok q) f → r ≡ q
send_one T L G D κs a e f r q m n = same m n

pub send_all_one : (T : RattleType) (L : Laws T) (G : Ghosts T.Denot) (D : Dict) (κs : Lfts 3) (a : Dens κs (send-all-kinds.ps T L))
    (e f : AtExit (ended_of 3 (send-all-kinds.ps T L) (send-all-kinds.r T L)) κs) (r q : Bench)
    → send-all.Post T L G D κs a (Ok r) e → send-all.Post T L G D κs a (Ok q) f → r ≡ q
send_all_one T L G D κs a e f r q m n = same m n

pub block_one : (T : RattleType) (L : Laws T) (G : Ghosts T.Denot) (D : Dict) (κs : Lfts 2) (a : Dens κs (block-kinds.ps T L))
    (e f : AtExit (ended_of 2 (block-kinds.ps T L) (block-kinds.r T L)) κs) (r q : Bench)
    → block.Post T L G D κs a (Ok r) e → block.Post T L G D κs a (Ok q) f → r ≡ q
block_one T L G D κs a e f r q m n = same m n

pub spins_one : (T : RattleType) (L : Laws T) (G : Ghosts T.Denot) (D : Dict) (κs : Lfts 2) (a : Dens κs (spins-kinds.ps T L))
    (e f : AtExit (ended_of 2 (spins-kinds.ps T L) (spins-kinds.r T L)) κs) (r q : Bench)
    → spins.Post T L G D κs a (Ok r) e → spins.Post T L G D κs a (Ok q) f → r ≡ q
spins_one T L G D κs a e f r q m n = same m n
