-- A sample block: each byte its own position, but for the markers and the descriptors (01, "Data blocks").
-- Assumes nothing.
use Rattle.std.specs.Prelude.{List, [], ◌∷◌, ℕ, zero, suc, ◌%◌, replicate, set}
use Rattle.block.specs.declared.Kind.{Kind}
use Rattle.block.specs.Kinds.{marker_of, second_at}

-- each of the first so many bytes its own position, its low eight bits
unfoldable pub positions : ℕ → List ℕ → List ℕ
positions zero b = b
positions (suc n) b = set (positions n b) n (n % 256)

-- bytes put at their places, one after the other
abbrev pub put : List ℕ → List (ℕ × ℕ) → List ℕ
put b [] = b
put b (p ∷ ps) = put (set b p.0 p.1) ps

-- as many bytes as the longest block has; the inner markers stand in each kind
unfoldable pub made_of : Kind → ℕ → ℕ → List ℕ
made_of k d1 d2 =
    put (positions 2304 (replicate 2304 0)) (
    (0, 0x14) ∷ (1, 0x6F) ∷ (2, marker_of k) ∷ (4, d1) ∷ (second_at k, d2)
    ∷ (0x212, 0x4C) ∷ (0x213, 0x43) ∷ (0x214, 0xE2) ∷ (0x475, 0x54) ∷ (0x476, 0xE1) ∷ (0x477, 0xE1) ∷ [])
