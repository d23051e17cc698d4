-- The name of each part of a data block, and the part of each number (01, "Data blocks").
-- Assumes nothing.
use Rattle.std.specs.Prelude.{List, ℕ, ltb, length, get_or, Some, None}
use Rattle.base.specs.Ascii.{ascii}
use Rattle.base.specs.Pick.{pick}
use Rattle.block.specs.declared.Part.{Part}
use Rattle.block.specs.declared.Part.TheVariants.{Marker, Index, Descriptor1, Calibration, MSigns, Sgl0, DirectEvents, HSpct, ISpct, Sgl1, Sgl2, Sgl3, IPad, I3dd, Mtrx, Descriptor2, EPad, E3dd, M}
use Rattle.block.specs.Tables.{parts}
use Rattle.part_names.specs.Shapes.{Listed}

-- as G's position tables have it
abbrev pub part_name : Part → List ℕ
part_name Marker = ascii "marker              "
part_name Index = ascii "index               "
part_name Descriptor1 = ascii "descriptor1         "
part_name Calibration = ascii "calibration         "
part_name MSigns = ascii "m-signs             "
part_name Sgl0 = ascii "SGL0                "
part_name DirectEvents = ascii "direct-events       "
part_name HSpct = ascii "H-SPCT              "
part_name ISpct = ascii "I-SPCT              "
part_name Sgl1 = ascii "SGL1                "
part_name Sgl2 = ascii "SGL2                "
part_name Sgl3 = ascii "SGL3                "
part_name IPad = ascii "I-PAD               "
part_name I3dd = ascii "I-3DD               "
part_name Mtrx = ascii "MTRX                "
part_name Descriptor2 = ascii "descriptor2         "
part_name EPad = ascii "E-PAD               "
part_name E3dd = ascii "E-3DD               "
part_name M = ascii "m                   "

-- the part of a number, in the order of NM's table; none past the last
abbrev pub part_in : ℕ → Listed
part_in k = pick (ltb k (length parts)) (Some (get_or parts k Marker)) None
