-- How long the lines get, so that a caller knows what room they take.
-- Assumes nothing.
use Rattle.std.specs.Prelude.{ℕ, ◌+◌}

-- the digits of a word; the longest answer, " refused 0B"
abbrev pub WORD : ℕ
WORD = 4

abbrev pub ANSWER : ℕ
ANSWER = 11

-- the line of a word with an answer, and of one that dropped a block; each ends in a line feed
abbrev pub LINE : ℕ
LINE = WORD + ANSWER + 1

abbrev pub DROP : ℕ
DROP = 16

-- the most that one word brings
abbrev pub PAIR : ℕ
PAIR = DROP + LINE
