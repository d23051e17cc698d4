-- What the private functions do: the rows of the code's tables, the groups, and the cases of `place_of` (01, "Data blocks"). No promise cites this.
-- Assumes nothing.
use Rattle.std.specs.Prelude.{Bool, false, ◌||◌, Option, Some, None, Ok, Err, [], ◌∷◌, ℕ}
use Rattle.base.specs.Pick.{pick}
use Rattle.block.specs.declared.Refusal.TheVariants.{Beyond, Hidden}
use Rattle.block.specs.declared.Kind.{Kind}
use Rattle.block.specs.declared.Part.{Part}
use Rattle.block.specs.declared.Part.TheVariants.{Descriptor2}
use Rattle.block.specs.declared.Place.{Place}
use Rattle.block.specs.Shapes.{Located}
use Rattle.block.specs.Tables.{among, has, row_in}
use Rattle.block.specs.Layout.{bit}
use Rattle.block.specs.Parts.{opening, electrons}
use Rattle.placing.specs.declared.Group.{Group}
use Rattle.placing.specs.declared.Group.TheVariants.{Open, Whole, Ions, Electrons}

-- the group of a part: `hides_01` of proofs/Laws shows that the groups say what `hidden` of block/specs/Parts says
abbrev pub group_of : Part → Group
group_of p =
    pick (among p opening) Open (pick (among p (Descriptor2 ∷ [])) Whole (pick (among p electrons) Electrons Ions))

-- whether a group is hidden
abbrev pub hides : Group → ℕ → ℕ → Bool
hides Open d1 d2 = false
hides Whole d1 d2 = bit d1 2
hides Ions d1 d2 = bit d1 2 || (bit d1 0 || bit d1 3)
hides Electrons d1 d2 = bit d1 2 || (bit d1 1 || bit d2 7)

-- a part's row in the table of a kind; none where the kind lacks it
abbrev pub row_at : Kind → Part → Option Place
row_at k p = pick (has k p) (Some (record { at = (row_in k p).at; len = (row_in k p).length })) None

-- what is answered of a row, and of whether its group is hidden
abbrev pub found_at : Option Place → Bool → Located
found_at None h = Err Beyond
found_at (Some x) h = pick h (Err Hidden) (Ok x)
