-- G's position tables (G 2.1; 01, "Data blocks": the parts are theirs, less spare bytes and inner markers).
-- Assumes nothing.
use Rattle.std.specs.Prelude.{Bool, false, ◌||◌, List, [], ◌∷◌, ℕ, eqb}
use Rattle.base.specs.Pick.{pick}
use Rattle.block.specs.declared.Kind.{Kind}
use Rattle.block.specs.declared.Kind.TheVariants.{Nm, Bm1}
use Rattle.block.specs.declared.Part.{Part}
use Rattle.block.specs.declared.Part.TheVariants.{Marker, Index, Descriptor1, Calibration, MSigns, Sgl0, DirectEvents, HSpct, ISpct, Sgl1, Sgl2, Sgl3, IPad, I3dd, Mtrx, Descriptor2, EPad, E3dd, M}

-- a row: a part, its position and its length
pub record Row : Type 0 where
  pub part : Part
  pub at : ℕ
  pub length : ℕ

abbrev row : Part → ℕ → ℕ → Row
row p a n = record { part = p; at = a; length = n }

abbrev pub rows_of : Kind → List Row
rows_of Nm =
    row Marker 0x000 3
    ∷ row Index 0x003 1
    ∷ row Descriptor1 0x004 1
    ∷ row Calibration 0x005 2
    ∷ row MSigns 0x007 2
    ∷ row Sgl0 0x009 1
    ∷ row DirectEvents 0x00A 60
    ∷ row HSpct 0x046 8
    ∷ row ISpct 0x04E 4
    ∷ row Sgl1 0x052 1
    ∷ row Sgl2 0x053 3
    ∷ row Sgl3 0x056 1
    ∷ row IPad 0x057 96
    ∷ row I3dd 0x0B7 144
    ∷ row Mtrx 0x147 8
    ∷ row Descriptor2 0x14F 1
    ∷ row EPad 0x150 96
    ∷ row E3dd 0x1B0 72
    ∷ row M 0x1F8 8
    ∷ []
rows_of Bm1 =
    row Marker 0x000 3
    ∷ row Index 0x003 1
    ∷ row Descriptor1 0x004 1
    ∷ row Calibration 0x005 2
    ∷ row MSigns 0x007 2
    ∷ row DirectEvents 0x00A 318
    ∷ row HSpct 0x148 8
    ∷ row ISpct 0x150 4
    ∷ row Descriptor2 0x154 1
    ∷ row Sgl1 0x156 80
    ∷ row Sgl2 0x1A6 9
    ∷ row Sgl3 0x1AF 3
    ∷ row IPad 0x1B2 96
    ∷ row I3dd 0x215 576
    ∷ row Mtrx 0x455 32
    ∷ row E3dd 0x478 1152
    ∷ row M 0x8F8 8
    ∷ []

-- the number of a part: its row in the table of NM, which has them all
abbrev pub row_of : Part → ℕ
row_of Marker = 0
row_of Index = 1
row_of Descriptor1 = 2
row_of Calibration = 3
row_of MSigns = 4
row_of Sgl0 = 5
row_of DirectEvents = 6
row_of HSpct = 7
row_of ISpct = 8
row_of Sgl1 = 9
row_of Sgl2 = 10
row_of Sgl3 = 11
row_of IPad = 12
row_of I3dd = 13
row_of Mtrx = 14
row_of Descriptor2 = 15
row_of EPad = 16
row_of E3dd = 17
row_of M = 18

abbrev pub parts_in : List Row → List Part
parts_in [] = []
parts_in (r ∷ rs) = r.part ∷ parts_in rs

abbrev pub parts : List Part
parts = parts_in (rows_of Nm)

-- a part is one of those listed
abbrev pub among : Part → List Part → Bool
among p [] = false
among p (q ∷ qs) = eqb (row_of p) (row_of q) || among p qs

-- a kind has a part; and the part's row there, which is asked for only then
abbrev pub has : Kind → Part → Bool
has k p = among p (parts_in (rows_of k))

abbrev pub among_rows : Part → List Row → Row
among_rows p [] = row p 0 0
among_rows p (r ∷ rs) = pick (eqb (row_of p) (row_of r.part)) r (among_rows p rs)

abbrev pub row_in : Kind → Part → Row
row_in k p = among_rows p (rows_of k)
