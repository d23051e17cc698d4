-- The positions, and each byte that 01 names stored in its place.
-- Assumes nothing.
use Rattle.std.proofs.Common.{◌≡◌, List, ℕ, slice_set, replicate}
use Rattle.block.specs.declared.Kind.{Kind}
use Rattle.block.specs.declared.Kind.TheVariants.{Nm, Bm1}
use Rattle.block.specs.Kinds.{marker_of, second_at}
use Rattle.samples.specs.Made.{positions, made_of}
use Rattle.samples.proofs.made.Goals as goal
use Rattle.samples.proofs.made.Goals.{in-Nm, in-Bm1}

-- on the positions p: marker and descriptors, and then the inner markers
abbrev begun : List ℕ → ℕ → ℕ → ℕ → ℕ → List ℕ
begun p m d1 s d2 = slice_set (slice_set (slice_set (slice_set (slice_set p 0 0x14) 1 0x6F) 2 m) 4 d1) s d2

abbrev ended : List ℕ → List ℕ
ended b = slice_set (slice_set (slice_set (slice_set (slice_set (slice_set b 0x212 0x4C) 0x213 0x43) 0x214 0xE2) 0x475 0x54) 0x476 0xE1) 0x477 0xE1

stored : (p q b : List ℕ) (k l : Kind) (m d1 d2 : ℕ) → p ≡ q → m ≡ marker_of k → k ≡ l → b ≡ begun p m d1 (second_at l) d2
    → ended b ≡ ended (begun q (marker_of k) d1 (second_at k) d2)
stored p q b k l m d1 d2 e f g h = cc

pub returns : goal.returns
unfolding made_of
returns c =
    let p = positions 2304 (replicate 2304 0) in
    elim c.match-kind.branch [
      | in-Nm w ↦ stored _ p c.match-kind.b c.args.kind Nm _ c.args.d1 c.args.d2 c.fill.ensures c.marker_of.ensures w.in-Nm.is w.b-is
      | in-Bm1 w ↦ stored _ p c.match-kind.b c.args.kind Bm1 _ c.args.d1 c.args.d2 c.fill.ensures c.marker_of.ensures w.in-Bm1.is w.b-is
    ]
