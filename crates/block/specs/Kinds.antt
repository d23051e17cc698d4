-- The kinds of data blocks, and what 01 says of each (01, "Data blocks"): length, markers, and where descriptor 2 stands.
-- Assumes nothing.
use Rattle.std.specs.Prelude.{List, [], ◌∷◌, ℕ}
use Rattle.block.specs.declared.Kind.{Kind}
use Rattle.block.specs.declared.Kind.TheVariants.{Nm, Bm1}

abbrev pub kinds : List Kind
kinds = Nm ∷ Bm1 ∷ []

abbrev pub length_of : Kind → ℕ
length_of Nm = 512
length_of Bm1 = 2304

-- the marker is 14 6F and this
abbrev pub marker_of : Kind → ℕ
marker_of Nm = 0x2E
marker_of Bm1 = 0x3D

-- the inner markers: a place, and the three bytes there
abbrev pub inner_of : Kind → List (ℕ × ℕ × ℕ × ℕ)
inner_of Nm = []
inner_of Bm1 = (0x212, 0x4C, 0x43, 0xE2) ∷ (0x475, 0x54, 0xE1, 0xE1) ∷ []

abbrev pub second_at : Kind → ℕ
second_at Nm = 0x14F
second_at Bm1 = 0x154
