-- A number spread over frames: its bytes so far, and when it is complete (01, "The 40-byte frame", the paragraph "The desk takes slots").
-- Assumes nothing.
use Rattle.std.specs.Prelude.{Bool, ◌||◌, ℕ, ◌+◌, ◌*◌, ◌%◌, eqb, ltb, Some, None}
use Rattle.base.specs.Pick.{pick}
use Rattle.base.specs.declared.Frames.{Frames}
use Rattle.cell.specs.Shapes.{Shown, known}
use Rattle.half.specs.Shapes.{Half, SoFar, part}

-- the bytes so far (their low 24 bits, so that four never pass 32) with byte b of the frame of index i; "an index that isn't the next one discards a half-read spread number"
abbrev pub joined : Half → ℕ → ℕ → SoFar
joined None i b = None
joined (Some p) i b = pick (eqb p.next i) (Some (p.bytes % 0x1000000 * 256 + b)) None

-- "a spread number begins only at its first frame": 0 for the long EDB counter, 27 for the free time
abbrev pub begins : ℕ → Bool
begins i = eqb i 0 || eqb i 27

abbrev pub grown_of : Half → ℕ → ℕ → SoFar
grown_of half i b = pick (begins i) (Some b) (joined half i b)

-- a number that is complete, at age a
abbrev pub born_at : Frames → SoFar → Shown
born_at a None = None
born_at a (Some v) = known v a

-- a spread number, complete at the frame of index `last`, its first frame then of age a
abbrev pub spread_of : Half → ℕ → ℕ → ℕ → Frames → Shown
spread_of half i b last a = pick (eqb i last) (born_at a (grown_of half i b)) None

abbrev pub kept_at : ℕ → SoFar → Half
kept_at i None = None
kept_at i (Some v) = part (i + 1) v

-- frames after which a spread number is half read: 0, 1, 2 and 27
abbrev pub partly : ℕ → Bool
partly i = ltb i 3 || eqb i 27

-- what is half read after a whole frame, of index i with byte 39 b
abbrev pub half_at : Half → ℕ → ℕ → Half
half_at half i b = pick (partly i) (kept_at i (grown_of half i b)) None
