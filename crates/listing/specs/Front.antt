-- A text at the front of a page that the caller lends.
-- Assumes nothing.
use Rattle.std.specs.Prelude.{ℕ, ◌≤◌, ◌≡◌, List, ◌++◌, length, take, drop}

-- The rest of the page stays as it was.
abbrev pub at_front : List ℕ → List ℕ → List ℕ
at_front text page = text ++ drop (length text) page

-- n counts bytes at the front of a page. The second part follows from the first; both are what a caller who hands those bytes on has to know.
abbrev pub Within : ℕ → List ℕ → Type 0
Within n page = (n ≤ length page) × (n ≡ length (take n page))
