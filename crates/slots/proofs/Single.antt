-- Single outcome: two results that meet a function's own contract at the same arguments are equal, and so is what a lent buffer then holds.
-- Stated of the contract that the checker makes of the source (`Reads.Post`). A slice that is only read has nothing to fix. Assumes nothing.
use mathlib.Core.Path.{◌≡◌}
use contract.Lifetimes.{Lfts}
use denote.Triple.Clauses.{AtExit}
use borrow.Fn.Kinds.{Dens, ended_of}
use Rattle.base.proofs.Single.{same}
use Rattle.bench.specs.declared.Bench.{Bench}
use Rattle.slots.specs.declared.Sent.{Sent}
use Rattle.slots.specs.declared.Handed.{Handed}
use Rattle.slots.proofs.build.Kinds as build-kinds
use Rattle.slots.proofs.build.Reads as build
use Rattle.slots.proofs.hand.Kinds as hand-kinds
use Rattle.slots.proofs.hand.Reads as hand
use Rattle.slots.proofs.miss.Reads as miss
use Rattle.slots.proofs.pass.Reads as pass
use Rattle.slots.proofs.pass.Kinds as pass-kinds
use Rattle.slots.specs.declared.Slot.{Ghosts}
use mir.Syntax.{Dict}
use denote.Param.Laws.{Laws, IsCopy}
use Rattle.std.specs.declared.clone.Clone.{Ghosts as CloneGhosts}
use denote.RattleType.{RattleType}
use Rattle.slots.specs.declared.Passed.{Passed}

pub miss_one : (b : Bench) (r q : Bench) → miss.Post tt (b, tt) r (b, tt) → miss.Post tt (b, tt) q (b, tt) → r ≡ q
miss_one b r q m n = same m n

module _ (κs : Lfts 1) where
  pub hand_one : (a : Dens κs hand-kinds.ps) (e f : AtExit (ended_of 1 hand-kinds.ps hand-kinds.r) κs) (r q : Handed)
      → hand.Post κs a r e → hand.Post κs a q f → r ≡ q
  hand_one a e f r q m n = same m n

  -- a: the bench, the buffer and the place; e and f: what the call leaves of them, of which the buffer's content is free to change
  pub build_one : (a : Dens κs build-kinds.ps) (e f : AtExit (ended_of 1 build-kinds.ps build-kinds.r) κs) (r q : Sent)
      → build.Post κs a r e → build.Post κs a q f → (r ≡ q) × (e.1.0.now ≡ f.1.0.now)
  build_one a e f r q m n = (same m.0 n.0, same m.1 n.1)

-- of a slot of any sort
pub pass_one : (T : RattleType) (L : Laws T) (C : IsCopy T) (G : Ghosts T.Denot) (D : Dict) (K : CloneGhosts T.Denot) (E : Dict) (κs : Lfts 2)
    (a : Dens κs (pass-kinds.ps T L C)) (e f : AtExit (ended_of 2 (pass-kinds.ps T L C) (pass-kinds.r T L C)) κs) (r q : Passed)
    → pass.Post T L C G D K E κs a r e → pass.Post T L C G D K E κs a q f → (r ≡ q) × (e.1.0.now ≡ f.1.0.now)
pass_one T L C G D K E κs a e f r q m n = (same m.0 n.0, same m.1 n.1)
