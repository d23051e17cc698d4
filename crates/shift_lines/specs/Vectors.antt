-- The bytes of 01's case a, 01 and 00, followed letter by letter: in the first a 1 falls out once, in the second three times.
-- Worked by hand. Assumes nothing.
use Rattle.std.specs.Prelude.{◌≡◌, refl, ◌++◌}
use Rattle.base.specs.Ascii.{ascii}
use Rattle.crc.specs.Crc.{shift}
use Rattle.text.specs.Digits.{digit}
use Rattle.shift_lines.specs.Lines.{step_text, step_lines, byte_lines, check_line}

pub first_byte : byte_lines 0x00 0x01
    ≡ ascii "check 00 xor byte 01 00000001 01\n"
    ++ ascii "step 1 out 0         00000010 02\n"
    ++ ascii "step 2 out 0         00000100 04\n"
    ++ ascii "step 3 out 0         00001000 08\n"
    ++ ascii "step 4 out 0         00010000 10\n"
    ++ ascii "step 5 out 0         00100000 20\n"
    ++ ascii "step 6 out 0         01000000 40\n"
    ++ ascii "step 7 out 0         10000000 80\n"
    ++ ascii "step 8 out 1 xor 07  00000111 07\n"
unfolding digit shift step_text step_lines byte_lines
first_byte = refl

pub second_byte : byte_lines 0x07 0x00
    ≡ ascii "check 07 xor byte 00 00000111 07\n"
    ++ ascii "step 1 out 0         00001110 0E\n"
    ++ ascii "step 2 out 0         00011100 1C\n"
    ++ ascii "step 3 out 0         00111000 38\n"
    ++ ascii "step 4 out 0         01110000 70\n"
    ++ ascii "step 5 out 0         11100000 E0\n"
    ++ ascii "step 6 out 1 xor 07  11000111 C7\n"
    ++ ascii "step 7 out 1 xor 07  10001001 89\n"
    ++ ascii "step 8 out 1 xor 07  00010101 15\n"
unfolding digit shift step_text step_lines byte_lines
second_byte = refl

pub last : check_line 0x15 ≡ ascii "check 15\n"
unfolding digit
last = refl
