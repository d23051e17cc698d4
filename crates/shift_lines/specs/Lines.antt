-- The check followed step by step, as lines of text: the check and the next byte put together, then eight shift steps.
-- Keeps 02 (iii): what a student can be shown. Assumes nothing.
use Rattle.std.specs.Prelude.{ℕ, zero, suc, ◌+◌, ◌/◌, ◌%◌, List, [], ◌∷◌, ◌++◌, ltb}
use Rattle.std.specs.Int.Bits.{bit_xor}
use Rattle.base.specs.Ascii.{ascii}
use Rattle.base.specs.Pick.{pick}
use Rattle.crc.specs.Crc.{polynomial, shift}
use Rattle.text.specs.Digits.{digit, hex_byte}

-- one bit of a byte, `0` (30h) or `1`: 80h names the top one, 01h the lowest
abbrev pub bit : ℕ → ℕ → ℕ
bit x place = 0x30 + x / place % 2

-- the end of a line: eight bits, the top one first, and the same in hex
abbrev pub shown : ℕ → List ℕ
shown x =
    ascii " "
    ++ (bit x 0x80 ∷ bit x 0x40 ∷ bit x 0x20 ∷ bit x 0x10 ∷ bit x 0x08 ∷ bit x 0x04 ∷ bit x 0x02 ∷ bit x 0x01 ∷ [])
    ++ ascii " "
    ++ hex_byte x
    ++ ascii "\n"

-- a byte begins: the check c so far and the data byte b, and the eight bits that they make together
abbrev pub start_text : ℕ → ℕ → List ℕ
start_text c b = ascii "check " ++ hex_byte c ++ ascii " xor byte " ++ hex_byte b

abbrev pub start_line : ℕ → ℕ → List ℕ
start_line c b = start_text c b ++ shown (bit_xor c b)

-- step k from the eight bits x: what falls out at the top, the polynomial if that is a 1, and the eight bits after the step
unfoldable pub step_text : ℕ → ℕ → List ℕ
step_text k x =
    ascii "step "
    ++ (digit (k % 16) ∷ [])
    ++ pick (ltb x 0x80) (ascii " out 0        ") (ascii " out 1 xor " ++ hex_byte polynomial ++ ascii " ")

abbrev pub step_line : ℕ → ℕ → List ℕ
step_line k x = step_text k x ++ shown (shift x)

-- n steps from the eight bits x, the first of them step k
unfoldable pub step_lines : ℕ → ℕ → ℕ → List ℕ
step_lines zero k x = []
step_lines (suc n) k x = step_line k x ++ step_lines n (k + 1) (shift x)

-- all lines of a byte
unfoldable pub byte_lines : ℕ → ℕ → List ℕ
byte_lines c b = start_line c b ++ step_lines 8 1 (bit_xor c b)

-- the last line: the check of all bytes
abbrev pub check_line : ℕ → List ℕ
check_line c = ascii "check " ++ hex_byte c ++ ascii "\n"
