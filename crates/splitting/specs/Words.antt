-- The words of a line, as a reader sees them.
-- Assumes nothing.
use Rattle.std.specs.Prelude.{ℕ, ◌<◌, ◌≡◌, Bool, not, List, [], ◌∷◌, ◌++◌, eqb, length}
use Rattle.base.specs.Pick.{pick}

abbrev pub space : ℕ
space = 0x20

abbrev pub is_space : ℕ → Bool
is_space b = eqb b space

-- The words: the stretches between spaces that are not empty, `held` being what has come of the first.
abbrev pub stretches : List ℕ → List ℕ → List (List ℕ)
stretches held [] = pick (eqb (length held) 0) [] (held ∷ [])
stretches held (b ∷ line) =
    pick (eqb b space)
    (pick (eqb (length held) 0) (stretches [] line) (held ∷ stretches [] line))
    (stretches (held ++ (b ∷ [])) line)

abbrev pub words_of : List ℕ → List (List ℕ)
words_of line = stretches [] line

-- what stands between two spaces is a word where it is not empty
abbrev pub is_word : List ℕ → Bool
is_word stretch = not (eqb (length stretch) 0)

-- A line that is made of words, one space between each two. A word has a byte at least, and no space in it.
abbrev pub spoken : List (List ℕ) → List ℕ
spoken [] = []
spoken (w ∷ []) = w
spoken (w ∷ v ∷ words) = w ++ (space ∷ spoken (v ∷ words))

abbrev pub NoSpace : List ℕ → Type 0
NoSpace [] = Unit
NoSpace (b ∷ word) = (b ≡ space → ⊥) × NoSpace word

abbrev pub Spellable : List (List ℕ) → Type 0
Spellable [] = Unit
Spellable (w ∷ words) = (0 < length w) × NoSpace w × Spellable words
