-- The lines of a word in a listing, as lists of bytes (01, "Bench cases": the lister's text).
-- Assumes nothing.
use Rattle.std.specs.Prelude.{ℕ, List, ◌++◌}
use Rattle.judge.specs.Refusals.{number_of}
use Rattle.rig.specs.Words.{drop_number}
use Rattle.rig.specs.declared.Answer.{Answer}
use Rattle.rig.specs.declared.Answer.TheVariants.{Accepted, Waiting, Refused}
use Rattle.rig.specs.declared.Reply.{Reply}
use Rattle.rig.specs.declared.Reply.TheVariants.{Plain, Swallowed, Dropped}
use Rattle.base.specs.Ascii.{ascii}
use Rattle.text.specs.Digits.{hex_byte, hex_word}

-- What an answer says: "accepted", "waiting", or "refused" and the paper's number of the refusal.
abbrev pub answer_text : Answer → List ℕ
answer_text Accepted = ascii " accepted"
answer_text Waiting = ascii " waiting"
answer_text (Refused why) = ascii " refused " ++ hex_byte (number_of why)

abbrev pub answer_line : ℕ → Answer → List ℕ
answer_line word a = hex_word word ++ answer_text a ++ ascii "\n"

-- the line of a word that dropped a block: the new word with "dropped 03"
abbrev pub dropped_line : ℕ → List ℕ
dropped_line word = hex_word word ++ ascii " dropped " ++ hex_byte drop_number ++ ascii "\n"

-- A dropped block first prints the new word with "dropped 03"; a swallowed word prints only that.
abbrev pub lines_of : ℕ → Reply → List ℕ
lines_of word (Plain a) = answer_line word a
lines_of word Swallowed = dropped_line word
lines_of word (Dropped a) = dropped_line word ++ answer_line word a
