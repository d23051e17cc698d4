-- Single outcome: two sheets that meet the contract of `sheet_of` at the same bytes are equal, since each field is the one float of its count.
-- Assumes nothing.
use mathlib.Core.Path.{◌≡◌}
use Prim.Native.Nat.{ℕ}
use lib.Ieee.{Float}
use Rattle.volts.specs.declared.Sheet.{Sheet}
use Rattle.volts.specs.Volts.{bias_of, ground_of}
use Rattle.volts.proofs.OneFloat.{makes_one}
use Rattle.volts.proofs.sheet_of.Reads as sheet-of

sheet : Float → Float → Sheet
sheet x y = record { bias = x; ground = y }

sheets : {x y u v : Float} → x ≡ u → y ≡ v → sheet x y ≡ sheet u v
sheets p q = cc

pub sheet_of_one : (b g : ℕ) (r q : Sheet) → sheet-of.Post tt (b, (g, tt)) r (b, (g, tt)) → sheet-of.Post tt (b, (g, tt)) q (b, (g, tt)) → r ≡ q
unfolding sheet
sheet_of_one b g r q m n =
    sheets
    (makes_one r.bias q.bias (bias_of b) m.bias n.bias)
    (makes_one r.ground q.ground (ground_of g) m.ground n.ground)
