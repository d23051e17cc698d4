-- Single outcome: two results that meet a function's own contract at the same arguments are equal.
-- Assumes nothing.
use mathlib.Core.Path.{◌≡◌}
use Prim.Native.Nat.{ℕ}
use contract.Lifetimes.{Lfts}
use denote.Triple.Clauses.{AtExit}
use borrow.Fn.Kinds.{Dens, ended_of}
use Rattle.base.proofs.Single.{same}
use Rattle.crc.specs.declared.Judged.{Judged}
use Rattle.crc.proofs.judge_of.Reads as judge-of
use Rattle.crc.proofs.shift_step.Reads as shift-step
use Rattle.crc.proofs.next.Reads as next
use Rattle.crc.proofs.check_of.Kinds.{ps, r}
use Rattle.crc.proofs.check_of.Reads as check_of_lem

pub judge_of_one : (c r : ℕ) (j k : Judged) → judge-of.Post tt (c, (r, tt)) j (c, (r, tt)) → judge-of.Post tt (c, (r, tt)) k (c, (r, tt)) → j ≡ k
judge_of_one c r j k m n = same m n

pub shift_step_one : (b x y : ℕ) → shift-step.Post tt (b, tt) x (b, tt) → shift-step.Post tt (b, tt) y (b, tt) → x ≡ y
shift_step_one b x y m n = same m n

pub next_one : (c b x y : ℕ) → next.Post tt (c, (b, tt)) x (c, (b, tt)) → next.Post tt (c, (b, tt)) y (c, (b, tt)) → x ≡ y
next_one c b x y m n = same m n

-- a slice that is only read is as it was, so the exit has nothing to fix
pub check_of_one : (κs : Lfts 1) (s : Dens κs ps) (e f : AtExit (ended_of 1 ps r) κs) (x y : ℕ) → check_of_lem.Post κs s x e → check_of_lem.Post κs s y f → x ≡ y
check_of_one κs s e f x y m n = same m n
