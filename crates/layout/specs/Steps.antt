-- The kind that the third byte of a marker tells (01, "Data blocks"). No promise cites this.
-- Assumes nothing.
use Rattle.std.specs.Prelude.{Result, Ok, Err, ℕ, eqb}
use Rattle.base.specs.Pick.{pick}
use Rattle.block.specs.declared.Refusal.{Refusal}
use Rattle.block.specs.declared.Refusal.TheVariants.{NoMarker}
use Rattle.block.specs.declared.Kind.{Kind}
use Rattle.block.specs.declared.Kind.TheVariants.{Nm, Bm1}
use Rattle.block.specs.Kinds.{marker_of}

abbrev pub kind_by : ℕ → Result Kind Refusal
kind_by x = pick (eqb x (marker_of Nm)) (Ok Nm) (pick (eqb x (marker_of Bm1)) (Ok Bm1) (Err NoMarker))
