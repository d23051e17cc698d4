-- What functions answer, by the names that the rules use: std's Option and Result over the types of this crate.
-- No rule stands here. Assumes nothing.
use Rattle.std.specs.Prelude.{ℕ, Option, Some}
use Rattle.half.specs.declared.Part.{Part}

-- what is half read of a spread number, if anything is
abbrev pub Half : Type 0
Half = Option Part

-- the number that the bytes so far make, if there are any
abbrev pub SoFar : Type 0
SoFar = Option ℕ

-- the index that must come next, and the number that the bytes so far make
abbrev pub part : ℕ → ℕ → Half
part n acc = Some (record { next = n; bytes = acc })
