-- The answer to a typed line: a command's words in hex, one a line; what words mean, in plain words; a refusal's number; or that the line is not read.
-- Assumes nothing.
use Rattle.std.specs.Prelude.{ℕ, List, [], ◌∷◌, ◌++◌, leb, length, take, Ok, Err}
use Rattle.base.specs.Pick.{pick}
use Rattle.base.specs.Ascii.{ascii}
use Rattle.text.specs.Digits.{hex_word}
use Rattle.numerals.specs.Decimal.{decimal}
use Rattle.splitting.specs.Words.{words_of as words_in}
use Rattle.cutting.specs.declared.Said.{Said}
use Rattle.cutting.specs.declared.Said.TheVariants.{Line, TooLong, Nothing}
use Rattle.wording.specs.declared.Command.{Command}
use Rattle.wording.specs.declared.Refusal.{Refusal}
use Rattle.wording.specs.declared.Refusal.TheVariants.{TooWide}
use Rattle.wording.specs.Shapes.{Meant}
use Rattle.wording.specs.Refusals.{number_of}
use Rattle.wording.specs.Written.{fits, words_of}
use Rattle.plain_words.specs.Plain.{plain_of}
use Rattle.asking.specs.declared.Asked.{Asked}
use Rattle.asking.specs.declared.Asked.TheVariants as asked
use Rattle.asking.specs.Asks.{ask_of}

-- words in hex, one a line
abbrev pub hex_line : ℕ → List ℕ
hex_line word = hex_word word ++ ascii "\n"

abbrev pub hex_lines : List ℕ → List ℕ
hex_lines [] = []
hex_lines (w ∷ ws) = hex_line w ++ hex_lines ws

-- a refusal by its number
unfoldable pub refused_line : Refusal → List ℕ
refused_line why = ascii "refused " ++ decimal (number_of why) ++ ascii "\n"

-- what words mean
abbrev pub meant_line : Meant → List ℕ
meant_line (Ok c) = plain_of c ++ ascii "\n"
meant_line (Err why) = refused_line why

-- a command's words, or why there are none
unfoldable pub order_lines : Command → List ℕ
order_lines c = pick (fits c) (hex_lines (words_of c)) (refused_line TooWide)

abbrev pub answer_of : Asked → List ℕ
answer_of (asked.Order c) = order_lines c
answer_of asked.TooWide = refused_line TooWide
answer_of (asked.Means m) = meant_line m
answer_of asked.NotRead = ascii "not read\n"

-- the answer to a line: to one that is too long too, and none where there is no line
abbrev pub line_answer : Said → List ℕ → List ℕ
line_answer (Line n) line = pick (leb n (length line)) (answer_of (ask_of (words_in (take n line)))) []
line_answer TooLong line = answer_of asked.NotRead
line_answer Nothing line = []
