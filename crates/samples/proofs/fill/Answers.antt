-- One byte more is its own position.
-- Assumes nothing.
use Rattle.std.proofs.Common.{ℕ, List, refl, ap, ◌%◌, slice_set}
use Rattle.std.proofs.Math.Numerals.{unary_clauses}
use Rattle.samples.specs.Made.{positions}
use Rattle.samples.proofs.fill.Goals as goal

pub loop-i-init : goal.loop-i-init
unfolding positions
loop-i-init c = refl

pub loop-i-preserved : goal.loop-i-preserved
unfolding positions
loop-i-preserved c =
    let l = c.loop-i in
    simp unary_clauses (ap (λ (x : List ℕ). slice_set x l.i (l.i % 256)) l.invariant)
