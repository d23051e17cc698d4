-- The names of the menu's rows, and the row that the first words of a line name.
-- Assumes nothing.
use Rattle.std.specs.Prelude.{ℕ, zero, suc, ◌<◌, ◌≡◌, Bool, false, ◌&&◌, List, [], ◌∷◌, ◌++◌, get_or, take, replicate, ltb, Option, Some, None}
use Rattle.base.specs.Pick.{pick}
use Rattle.base.specs.Ascii.{ascii}
use Rattle.spelling.specs.Same.{same}
use Rattle.splitting.specs.Words.{space, spoken}

abbrev pub rows : ℕ
rows = 19

-- The names, word by word.
abbrev pub names : List (List (List ℕ))
names =
    (ascii "relay" ∷ ascii "on" ∷ [])
    ∷ (ascii "relay" ∷ ascii "off" ∷ [])
    ∷ (ascii "relay" ∷ ascii "both" ∷ [])
    ∷ (ascii "relay" ∷ ascii "neither" ∷ [])
    ∷ (ascii "head" ∷ ascii "mask" ∷ [])
    ∷ (ascii "stop" ∷ ascii "target" ∷ [])
    ∷ (ascii "stop" ∷ ascii "limit" ∷ [])
    ∷ (ascii "stop" ∷ ascii "stepping" ∷ [])
    ∷ (ascii "start" ∷ ascii "target" ∷ [])
    ∷ (ascii "start" ∷ ascii "limit" ∷ [])
    ∷ (ascii "start" ∷ ascii "stepping" ∷ [])
    ∷ (ascii "deflection" ∷ ascii "target" ∷ [])
    ∷ (ascii "deflection" ∷ ascii "limit" ∷ [])
    ∷ (ascii "deflection" ∷ ascii "stepping" ∷ [])
    ∷ (ascii "mode" ∷ [])
    ∷ (ascii "iel" ∷ [])
    ∷ (ascii "multiplexers" ∷ [])
    ∷ (ascii "direction" ∷ ascii "window" ∷ [])
    ∷ (ascii "energy" ∷ ascii "window" ∷ [])
    ∷ []

-- the words of a row's name; none past the last
unfoldable pub name_words : ℕ → List (List ℕ)
name_words row = get_or names row []

-- the name in 20 bytes: its words with one space between, and blanks behind
unfoldable pub name_of : ℕ → List ℕ
name_of row = take 20 (spoken (name_words row) ++ replicate 20 space)

-- Two words name a row of one word by the first, and one of two words by both.
abbrev pub called : List (List ℕ) → List ℕ → List ℕ → Bool
called [] first second = false
called (a ∷ []) first second = same first a
called (a ∷ b ∷ more) first second = same first a && same second b

-- The first row from a place on, so many rows before the end, that two words name; the end if there is none.
unfoldable pub seek : ℕ → ℕ → List ℕ → List ℕ → ℕ
seek zero row first second = row
seek (suc left) row first second = pick (called (name_words row) first second) row (seek left (suc row) first second)

unfoldable pub find_of : List ℕ → List ℕ → ℕ
find_of first second = seek rows 0 first second

-- that row, where there is one
abbrev pub row_found : List ℕ → List ℕ → Option ℕ
row_found first second = let row = find_of first second in pick (ltb row rows) (Some row) None

-- Each row is found by the words of its name, whatever word stands behind them: so no name begins with another.
abbrev pub Found : Type 0
Found =
    (row : ℕ) → row < rows → (next : List ℕ)
    → let words = name_words row in find_of (get_or words 0 []) (get_or (words ++ (next ∷ [])) 1 []) ≡ row
