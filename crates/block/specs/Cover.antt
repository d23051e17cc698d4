-- Which bytes of a block are held by what (01, "Data blocks"; G 2.1): the parts, the inner markers, and the spare bytes.
-- Assumes nothing.
use Rattle.std.specs.Prelude.{◌&&◌, List, [], ◌∷◌, ◌++◌, ℕ, ◌+◌, leb, ltb}
use Rattle.base.specs.Pick.{pick}
use Rattle.block.specs.declared.Kind.{Kind}
use Rattle.block.specs.declared.Kind.TheVariants.{Nm, Bm1}
use Rattle.block.specs.Kinds.{inner_of}
use Rattle.block.specs.Tables.{Row, rows_of}

-- a stretch of bytes: position and length
abbrev pub Bytes : Type 0
Bytes = ℕ × ℕ

-- G: 009h and 155h of BM1 are spare
abbrev pub spares_of : Kind → List Bytes
spares_of Nm = []
spares_of Bm1 = (0x009, 1) ∷ (0x155, 1) ∷ []

abbrev pub of_rows : List Row → List Bytes
of_rows [] = []
of_rows (r ∷ rs) = (r.at, r.length) ∷ of_rows rs

abbrev pub of_markers : List (ℕ × ℕ × ℕ × ℕ) → List Bytes
of_markers [] = []
of_markers (m ∷ ms) = (m.0, 3) ∷ of_markers ms

-- all that a block of a kind holds
abbrev pub held_by : Kind → List Bytes
held_by k = of_rows (rows_of k) ++ (of_markers (inner_of k) ++ spares_of k)

-- in how many of the stretches byte k lies
abbrev pub holders : ℕ → List Bytes → ℕ
holders k [] = 0
holders k (s ∷ ss) = pick (leb s.0 k && ltb k (s.0 + s.1)) 1 0 + holders k ss
