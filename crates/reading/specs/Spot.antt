-- Where the code looks for an item, out of the rows of `frame` (01, "The 40-byte frame").
-- Assumes nothing.
use Rattle.std.specs.Prelude.{ℕ}
use Rattle.frame.specs.Read.{byte_of, div_of, rem_of, period_of, phase_of, born_of}
use Rattle.reading.specs.declared.Spot.{Spot}

-- what the code keeps of a row
abbrev pub spot : ℕ → ℕ → ℕ → ℕ → ℕ → ℕ → Spot
spot b d m p q a = record { byte = b; div = d; rem = m; period = p; phase = q; born = a }

abbrev pub spot_of : ℕ → Spot
spot_of k = spot (byte_of k) (div_of k) (rem_of k) (period_of k) (phase_of k) (born_of k)
