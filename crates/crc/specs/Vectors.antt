-- Worked checks: the two of 01's bench cases a and c, and the catalogue's check value for this CRC, over the digits 1 to 9.
-- Assumes nothing.
use Rattle.std.specs.Prelude.{◌≡◌, refl, [], ◌∷◌}
use Rattle.crc.specs.Crc.{shift, crc_from, crc_of}

pub case_a : crc_of (0x01 ∷ 0x00 ∷ []) ≡ 0x15
unfolding crc_of crc_from shift
case_a = refl

pub case_c : crc_of (0x03 ∷ 0x13 ∷ []) ≡ 0x46
unfolding crc_of crc_from shift
case_c = refl

pub no_bytes : crc_of [] ≡ 0
unfolding crc_of crc_from
no_bytes = refl

pub digits : crc_of (0x31 ∷ 0x32 ∷ 0x33 ∷ 0x34 ∷ 0x35 ∷ 0x36 ∷ 0x37 ∷ 0x38 ∷ 0x39 ∷ []) ≡ 0xF4
unfolding crc_of crc_from shift
digits = refl
