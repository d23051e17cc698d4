-- What the functions of `locating` do: the cases of `layout_of` and of `locate_of` (01, "Data blocks"). No promise cites this.
-- Assumes nothing.
use Rattle.std.specs.Prelude.{List, ℕ, Ok, Err}
use Rattle.block.specs.declared.Kind.{Kind}
use Rattle.block.specs.Shapes.{Found, Located, laid_out}
use Rattle.block.specs.declared.Part.{Part}
use Rattle.block.specs.Refusals.{unless}
use Rattle.block.specs.Layout.{first, second, kind_tests}
use Rattle.block.specs.Parts.{place_of}

-- what follows a kind's marker
unfoldable pub as_kind : List ℕ → Kind → Found
as_kind b k = unless Err (kind_tests b k) (laid_out k (first b) (second b k))

-- a part in a known layout
abbrev pub place_in : Found → Part → Located
place_in (Err r) p = Err r
place_in (Ok l) p = place_of l.kind l.d1 l.d2 p
