-- What a typed line asks for, by its words: a row of the menu and its settings, in decimal; or words in hex.
-- Assumes nothing.
use Rattle.std.specs.Prelude.{ℕ, Bool, true, false, ◌≡◌, List, [], ◌∷◌, map, eqb, ltb, length, get_or, drop, Some, None, Ok, Err}
use Rattle.base.specs.Pick.{pick}
use Rattle.text.specs.Digits.{hex_word}
use Rattle.numerals.specs.Decimal.{number_of}
use Rattle.numerals.specs.Hex.{word_of}
use Rattle.numerals.specs.declared.BadNumber.{BadNumber}
use Rattle.numerals.specs.declared.BadNumber.TheVariants.{NotANumber, TooLarge}
use Rattle.numerals.specs.Shapes.{Number, Word}
use Rattle.wording.specs.declared.Command.{Command}
use Rattle.wording.specs.declared.Refusal.TheVariants.{NotOne}
use Rattle.wording.specs.Shapes.{Meant}
use Rattle.wording.specs.Written.{fits, words_of}
use Rattle.wording.specs.Meaning.{read_of}
use Rattle.menu_names.specs.Names.{rows, name_words, find_of}
use Rattle.menu_rows.specs.Rows.{wanted, made}
use Rattle.asking.specs.Shapes.{Setting}
use Rattle.asking.specs.declared.Asked.{Asked}
use Rattle.asking.specs.declared.Asked.TheVariants.{Order, TooWide, Means, NotRead}
use Rattle.asking.specs.declared.BadSetting.{BadSetting}
use Rattle.asking.specs.declared.BadSetting.TheVariants.{NoNumber, Wide}

-- a setting: what no byte holds is too wide
abbrev pub bad_setting_of : BadNumber → BadSetting
bad_setting_of NotANumber = NoNumber
bad_setting_of TooLarge = Wide

abbrev pub setting_of : Number → Setting
setting_of (Ok v) = pick (ltb v 256) (Ok v) (Err Wide)
setting_of (Err why) = Err (bad_setting_of why)

-- the setting that a word spells, where there is to be one
abbrev pub setting_in : Bool → List ℕ → Setting
setting_in there text = pick there (setting_of (number_of text)) (Ok 0)

-- The command of a row with two settings. What is no number is not read; then a setting too wide.
abbrev pub ordered_of : ℕ → Setting → Setting → Asked
ordered_of row (Ok x) (Ok y) = Order (made row x y)
ordered_of row (Ok x) (Err Wide) = TooWide
ordered_of row (Ok x) (Err NoNumber) = NotRead
ordered_of row (Err Wide) (Ok y) = TooWide
ordered_of row (Err Wide) (Err Wide) = TooWide
ordered_of row (Err Wide) (Err NoNumber) = NotRead
ordered_of row (Err NoNumber) b = NotRead

-- The words behind the name of a row: as many settings as the row takes, or it is not read.
unfoldable pub order_of : ℕ → List (List ℕ) → Asked
order_of row settings =
    pick (eqb (length settings) (wanted row))
    (ordered_of row (setting_in (ltb 0 (wanted row)) (get_or settings 0 [])) (setting_in (ltb 1 (wanted row)) (get_or settings 1 [])))
    NotRead

-- Words in hex: their values, and whether each is one.
abbrev pub value_of : Word → ℕ
value_of (Some v) = v
value_of None = 0

abbrev pub is_word : Word → Bool
is_word (Some v) = true
is_word None = false

abbrev pub values : List (List ℕ) → List ℕ
values [] = []
values (w ∷ ws) = value_of (word_of w) ∷ values ws

abbrev pub all_words : List (List ℕ) → Bool
all_words [] = true
all_words (w ∷ ws) = pick (is_word (word_of w)) (all_words ws) false

-- What they mean: 38 also where one is not four digits in hex.
unfoldable pub meant_of : List (List ℕ) → Meant
meant_of ws = pick (all_words ws) (read_of (values ws)) (Err NotOne)

abbrev pub four_hex : ℕ → Word → Word → Word → Meant
four_hex a (Some x) (Some y) (Some z) = read_of (a ∷ x ∷ y ∷ z ∷ [])
four_hex a (Some x) (Some y) None = Err NotOne
four_hex a (Some x) None d = Err NotOne
four_hex a None c d = Err NotOne

-- A line that begins with a word in hex; any other is not read.
abbrev pub hexed_of : Word → List (List ℕ) → Asked
hexed_of (Some v) ws = Means (meant_of ws)
hexed_of None ws = NotRead

unfoldable pub hex_of : List (List ℕ) → Asked
hex_of ws = hexed_of (word_of (get_or ws 0 [])) ws

-- The words of a line: a row's name and its settings, or words in hex.
unfoldable pub ask_of : List (List ℕ) → Asked
ask_of ws =
    let row = find_of (get_or ws 0 []) (get_or ws 1 []) in
    pick (ltb row rows) (order_of row (drop (length (name_words row)) ws)) (hex_of ws)

-- The words that are written for a command, typed in hex, are read back as that command.
abbrev pub HexBack : Type 0
HexBack = (c : Command) → fits c ≡ true → ask_of (map hex_word (words_of c)) ≡ Means (Ok c)
