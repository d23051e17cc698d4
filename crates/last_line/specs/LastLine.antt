-- The last line of a listing, as a list of bytes, and how long it gets (01, "Bench cases": the lister's text).
-- Assumes nothing.
use Rattle.std.specs.Prelude.{ℕ, ◌+◌, List, ◌++◌}
use Rattle.base.specs.Ascii.{ascii}
use Rattle.rig.specs.declared.Faults.{Faults}
use Rattle.text.specs.Digits.{hex_byte}
use Rattle.numerals.specs.Decimal.{decimal}

-- " last 28 code 06" and the line feed, behind "invalid 255"
abbrev pub CODES : ℕ
CODES = 17

abbrev pub LAST : ℕ
LAST = 11 + CODES

-- The last line: the invalid count is decimal, the rest two hex digits.
abbrev pub codes_of : ℕ → ℕ → List ℕ
codes_of last error = ascii " last " ++ hex_byte last ++ ascii " code " ++ hex_byte error ++ ascii "\n"

abbrev pub last_line : Faults → List ℕ
last_line f = ascii "invalid " ++ decimal f.count ++ codes_of f.last f.error
