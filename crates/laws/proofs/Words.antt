-- One walk of the decoder: what a word can come to. The laws go by these few cases, so that no other proof walks the decoder.
-- Assumes nothing.
use Rattle.std.specs.Prelude.{Err, Option, Some, None}
use Prim.Native.Nat.{ℕ, ◌<◌, ◌≤◌}
use mathlib.Core.Path.{◌≡◌, refl, subst}
use mathlib.Core.Bool.{Bool, true, false, ◌&&◌}
use lib.Dec.{ltb}
use borrow.Author.Tests.{ltb-true, ltb-false}
use Rattle.crc.specs.Judged.{judge_of}
use Rattle.judge.specs.Shapes.{Verdict}
use Rattle.judge.specs.declared.Refusal.TheVariants.{StrayWord, WrongCount}
use Rattle.judge.specs.Commands.{single_of}
use Rattle.rig.specs.declared.Kind.{Kind}
use Rattle.rig.specs.declared.Kind.TheVariants.{Single, Head, Data, End}
use Rattle.rig.specs.declared.Pending.{Pending}
use Rattle.rig.specs.declared.Rig.{Rig}
use Rattle.rig.specs.declared.Answer.TheVariants.{Waiting}
use Rattle.rig.specs.declared.Reply.TheVariants.{Plain, Swallowed}
use Rattle.rig.specs.declared.Taken.{Taken}
use Rattle.rig.specs.Records.{with_pending, with_check}
use Rattle.rig.specs.Words.{high_of, low_of, kind_of, code_of, nothing_pending, new_block, one_more, settled_of, head_of, fresh_of, same_code, keeps, closes, verdict_of, closed_of, after_drop, drop_block, dropped_of, pending_of, take_with, take_of}
use Rattle.laws.proofs.Tests.{by_test, and_right}
use Rattle.laws.proofs.WordKinds.{single_code, is_end, closes_as, closes_it}
use Rattle.laws.proofs.Commands.{KeepsSingle, KeepsBlock, single_keeps, verdict_keeps}

-- the decoder's first choice, for a word of a known kind
pub takes : (r : Rig) (w : ℕ) {o : Option Pending} {k : Kind} → r.pending ≡ o → kind_of (high_of w) ≡ k
    → take_of r w ≡ take_with r o k (high_of w) (low_of w)
unfolding take_of
takes r w e f = cc

-- a word judged with nothing pending: a verdict, or a new block
pub data Fresh (r : Rig) (high low : ℕ) : Taken → Type 0 where
  judged : (v : Verdict) → KeepsSingle r.core high v → Fresh r high low (settled_of r high v)
  begun : low ≤ 79 → Fresh r high low (record { rig = with_pending r (Some (new_block high low)); reply = Plain Waiting })

-- a word taken; the test says whether it closes the pending block
pub data Case (r : Rig) (high low : ℕ) : Bool → Taken → Type 0 where
  idle : r.pending ≡ None → (t : Taken) → Fresh r high low t → Case r high low false t
  kept : (p : Pending) → r.pending ≡ Some p → p.got < p.n
      → Case r high low false (record { rig = with_pending r (Some (one_more p low)); reply = Plain Waiting })
  closed : (p : Pending) → r.pending ≡ Some p → (v : Verdict) → KeepsBlock r.core (code_of p.head) p.first p.second v
      → Case r high low true (settled_of (with_check (with_pending r nothing_pending) p.check) p.head v)
  swallowed : (p : Pending) → r.pending ≡ Some p → Case r high low false (record { rig = drop_block r p; reply = Swallowed })
  again : (p : Pending) → r.pending ≡ Some p → (t : Taken) → Fresh (drop_block r p) high low t → Case r high low false (after_drop t)

fresh_is : (r : Rig) (k : Kind) (high low : ℕ) → kind_of high ≡ k → Fresh r high low (fresh_of r k high low)
unfolding fresh_of head_of
fresh_is r Single high low e =
    let v = single_of r.core (code_of high) low in
    judged v (subst (λ (code : ℕ). KeepsSingle r.core code v) (single_code high e) (single_keeps r.core (code_of high) low))
fresh_is r Head high low e = by_test (Fresh r high low) (ltb 79 low) (λ f. judged (Err WrongCount) tt) (λ f. begun (ltb-false 79 low f))
fresh_is r Data high low e = judged (Err StrayWord) tt
fresh_is r End high low e = judged (Err StrayWord) tt

module _ (r : Rig) (p : Pending) (w : r.pending ≡ Some p) where
  data_is : (high low : ℕ) (b : Bool) → keeps p high ≡ b → Case r high low false (pending_of r p Data high low)
  unfolding pending_of dropped_of
  data_is high low true e = rw e (kept p w (ltb-true _ _ (and_right (same_code p high) _ e)))
  data_is high low false e = rw e (swallowed p w)

  end_is : (high low : ℕ) (b : Bool) → closes p high ≡ b → Case r high low b (pending_of r p End high low)
  unfolding pending_of dropped_of closed_of
  end_is high low true e = rw e (closed p w (verdict_of (judge_of p.check low) r.core p) (verdict_keeps (judge_of p.check low) r.core p))
  end_is high low false e = rw e (swallowed p w)

  pending_is : (k : Kind) (high low : ℕ) → kind_of high ≡ k → Case r high low (is_end k && closes p high) (pending_of r p k high low)
  unfolding pending_of dropped_of
  pending_is Single high low e = again p w (fresh_of (drop_block r p) Single high low) (fresh_is (drop_block r p) Single high low e)
  pending_is Head high low e = again p w (fresh_of (drop_block r p) Head high low) (fresh_is (drop_block r p) Head high low e)
  pending_is Data high low e = data_is high low (keeps p high) refl
  pending_is End high low e = end_is high low (closes p high) refl

by_pending : (r : Rig) (o : Option Pending) (k : Kind) (high low : ℕ) → r.pending ≡ o → kind_of high ≡ k
    → Case r high low (closes_as o k high) (take_with r o k high low)
unfolding take_with
by_pending r None k high low w e = idle w (fresh_of r k high low) (fresh_is r k high low e)
by_pending r (Some p) k high low w e = pending_is r p w k high low e

pub case : (r : Rig) (w : ℕ) → Case r (high_of w) (low_of w) (closes_it r w) (take_of r w)
unfolding take_of
case r w = by_pending r r.pending (kind_of (high_of w)) (high_of w) (low_of w) refl refl
