-- Shift steps one after the other, counted. A loop of eight goes by these.
-- Assumes nothing.
use mathlib.Core.Path.{◌≡◌, refl}
use Prim.Native.Nat.{ℕ, zero, suc, ◌+◌}
use native.Mathlib.Numerals.{unary_clauses}
use Rattle.crc.specs.Crc.{shift, shift8}

unfoldable pub shifts : ℕ → ℕ → ℕ
shifts zero x = x
shifts (suc k) x = shift (shifts k x)

pub one_more_lem : (k x : ℕ) → shifts (k + 1) x ≡ shift (shifts k x)
unfolding shifts
one_more_lem k x = simp unary_clauses refl

pub eight : (x : ℕ) → shifts 8 x ≡ shift8 x
unfolding shifts
eight x = refl
