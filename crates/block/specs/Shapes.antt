-- What functions answer, by the names that the rules use: std's Option and Result over the types of this crate.
-- No rule stands here. Assumes nothing.
use Rattle.std.specs.Prelude.{ℕ, Result, Ok}
use Rattle.block.specs.declared.Kind.{Kind}
use Rattle.block.specs.declared.Refusal.{Refusal}
use Rattle.block.specs.declared.Layout.{Layout}
use Rattle.block.specs.declared.Place.{Place}

-- what a block is, or why it is refused
abbrev pub Found : Type 0
Found = Result Layout Refusal

-- where a part stands, or why it is refused
abbrev pub Located : Type 0
Located = Result Place Refusal

-- a part's first byte and its length
abbrev pub at_place : ℕ → ℕ → Located
at_place a n = Ok (record { at = a; len = n })

-- a kind with the two content descriptors
abbrev pub laid_out : Kind → ℕ → ℕ → Found
laid_out k x y = Ok (record { kind = k; d1 = x; d2 = y })
