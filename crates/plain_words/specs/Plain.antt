-- A command in plain words, as it is told and as it can be typed.
-- Assumes nothing.
use Rattle.std.specs.Prelude.{ℕ, ◌≡◌, true, List, [], ◌∷◌, ◌++◌, eqb}
use Rattle.base.specs.Pick.{pick}
use Rattle.numerals.specs.Decimal.{decimal}
use Rattle.splitting.specs.Words.{space, words_of, spoken}
use Rattle.wording.specs.declared.Command.{Command}
use Rattle.wording.specs.Written.{fits}
use Rattle.menu_names.specs.Names.{name_words}
use Rattle.menu_rows.specs.Rows.{wanted, entry_of}
use Rattle.asking.specs.declared.Asked.TheVariants.{Order}
use Rattle.asking.specs.Asks.{ask_of}

-- A command in plain words: its name and as many settings as its row takes, in decimal, with one space between.
abbrev pub numbers_said : ℕ → ℕ → ℕ → List (List ℕ)
numbers_said n a b = pick (eqb n 0) [] (pick (eqb n 1) (decimal a ∷ []) (decimal a ∷ decimal b ∷ []))

abbrev pub plain_words : Command → List (List ℕ)
plain_words c = let e = entry_of c in name_words e.row ++ numbers_said (wanted e.row) e.first e.second

unfoldable pub plain_of : Command → List ℕ
plain_of c = spoken (plain_words c)

-- the settings behind the name, as the code puts them
abbrev pub settings_said : ℕ → ℕ → ℕ → List ℕ
settings_said n a b = pick (eqb n 0) [] (pick (eqb n 1) (space ∷ decimal a) ((space ∷ decimal a) ++ (space ∷ decimal b)))

-- There and back: what is read can be typed as it is told, and gives the same words.
abbrev pub ThereAndBack : Type 0
ThereAndBack = (c : Command) → fits c ≡ true → ask_of (words_of (plain_of c)) ≡ Order c
