-- The check over a list of bytes: the CRC of width 8, polynomial 07h, start 0, no reflection, no final change.
-- Keeps 01 "Command words". Assumes nothing.
use Rattle.std.specs.Prelude.{ℕ, ◌*◌, ◌%◌, List, [], ◌∷◌, ltb}
use Rattle.std.specs.Int.Bits.{bit_xor}
use Rattle.base.specs.Pick.{pick}

abbrev pub polynomial : ℕ
polynomial = 0x07

-- One shift step of the eight bits x: up by one place, and the polynomial put in if a 1 fell out at the top.
unfoldable pub shift : ℕ → ℕ
shift x = pick (ltb x 0x80) (x * 2) (bit_xor (x * 2 % 0x100) polynomial)

abbrev pub shift8 : ℕ → ℕ
shift8 x = shift (shift (shift (shift (shift (shift (shift (shift x)))))))

-- the check c, and one byte b more
abbrev pub crc_byte : ℕ → ℕ → ℕ
crc_byte c b = shift8 (bit_xor c b)

-- the check c, and the bytes of a list more
unfoldable pub crc_from : ℕ → List ℕ → ℕ
crc_from c [] = c
crc_from c (b ∷ s) = crc_from (crc_byte c b) s

-- the check of a list: from 0
unfoldable pub crc_of : List ℕ → ℕ
crc_of s = crc_from 0 s
