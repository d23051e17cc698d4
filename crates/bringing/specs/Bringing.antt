-- What a frame's bytes show of each item, as the code asks for them (01, "The 40-byte frame", the paragraph "The desk takes slots").
-- `desk` `reading_of` says it of a whole frame in 01's order, and `reading_is` of its proofs that the two are one. Assumes nothing.
use Rattle.std.specs.Prelude.{List, ℕ, Some, None}
use Rattle.base.specs.Pick.{pick}
use Rattle.base.specs.Counts.{frames}
use Rattle.frame.specs.Shapes.{Reading}
use Rattle.frame.specs.Read.{phase_of, born_of, is_plain, read_of}
use Rattle.cell.specs.Shapes.{Shown, known}
use Rattle.half.specs.Shapes.{Half}
use Rattle.half.specs.Half.{spread_of}

-- a plain item is as old as its frame
abbrev pub plain_of : Reading → Shown
plain_of None = None
plain_of (Some v) = known v (frames 0)

-- what bytes that came with index i and byte 39 b show of the item in row k: a plain item as `frame` reads it; a spread number at the age of its
-- first frame
abbrev pub told_by : Half → List ℕ → ℕ → ℕ → ℕ → Shown
told_by half f i b k = pick (is_plain k) (plain_of (read_of f k)) (spread_of half i b (phase_of k) (frames (born_of k)))
