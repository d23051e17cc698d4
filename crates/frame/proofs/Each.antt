-- What holds at each number below a bound, from a proof for each of them, one by one.
-- Assumes nothing.
use mathlib.Core.Path.{subst, sym}
use Prim.Native.Nat.{ℕ, suc, ◌<◌, ◌≤◌}
use native.Mathlib.Decide.{ℕ_discrete}
use native.Mathlib.Omega.{arith}

-- P at k, and at each number after it up to n
infixr 5 ◌&◌
pub data From (P : ℕ → Type 0) : ℕ → ℕ → Type 0 where
  end : {n : ℕ} → From P n n
  ◌&◌ : {k n : ℕ} → P k → From P (suc k) n → From P k n

from : (P : ℕ → Type 0) {k n : ℕ} → From P k n → (j : ℕ) → k ≤ j → j < n → P j
from P end j lo hi = absurd (omega arith)
from P (◌&◌ {k = k} p ps) j lo hi =
    elim (ℕ_discrete j k) [ yes e ↦ subst P (sym e) p | no ne ↦ from P ps j (omega arith) hi ]

pub each : (P : ℕ → Type 0) (n : ℕ) → From P 0 n → (k : ℕ) → k < n → P k
each P n a k h = from P a k (omega arith) h
