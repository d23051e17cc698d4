-- Each plain item that a frame carries reads back from its word, modulo its width.
-- Assumes nothing.
use mathlib.Core.Path.{◌≡◌}
use mathlib.Core.Bool.{true}
use Prim.Native.Nat.{ℕ, ◌%◌}
use native.Mathlib.Omega.{arith}
use Rattle.frame.specs.declared.Held.{Held}
use Rattle.frame.specs.Items.{held_at}
use Rattle.frame.specs.Write.{quarter_of, ground_at, mux_of, frame_of}
use Rattle.frame.specs.Read.{rem_of, period_of, phase_of, is_plain, field_of}
use Rattle.frame.proofs.Each.{◌&◌, end}
use Rattle.frame.proofs.Rows.{each_plain, spread}

module _ (h : Held) (i l : ℕ) where
  abbrev Back : ℕ → Type 0
  Back k = i % period_of k ≡ phase_of k → field_of (frame_of h i l) k ≡ held_at h k % rem_of k

  pub field_back : (k : ℕ) → is_plain k ≡ true → Back k
  unfolding frame_of quarter_of ground_at mux_of is_plain
  field_back =
      each_plain Back (
      (λ p e. omega arith)
      & (λ p e. omega arith)
      & (λ p e. omega arith)
      & (λ p e. omega arith)
      & (λ p e. omega arith)
      & (λ p e. omega arith)
      & (λ p e. omega arith)
      & (λ p e. omega arith)
      & (λ p e. omega arith)
      & (λ p e. omega arith)
      & (λ p e. omega arith)
      & (λ p e. omega arith)
      & (λ p e. omega arith)
      & (λ p e. omega arith)
      & (λ p e. rw e (omega arith))
      & (λ p e. rw e (omega arith))
      & (λ p e. rw e (omega arith))
      & (λ p e. rw e (omega arith))
      & (λ p e. rw e (omega arith))
      & (λ p e. rw e (omega arith))
      & (λ p e. rw e (omega arith))
      & (λ p e. rw e (omega arith))
      & (λ p e. rw e (omega arith))
      & (λ p e. rw e (omega arith))
      & (λ p e. rw e (omega arith))
      & spread
      & spread
      & (λ p e. rw e (omega arith))
      & (λ p e. rw e (omega arith))
      & (λ p e. rw e (omega arith))
      & (λ p e. rw e (omega arith))
      & (λ p e. rw e (omega arith))
      & (λ p e. rw e (omega arith))
      & end)
