-- What words mean (02 (i)): one single, or one block of right length and check, back to its command and settings; 38 for all else.
-- Bits that 01 does not name are not looked at. Assumes nothing.
use Rattle.std.specs.Prelude.{ℕ, ◌/◌, ◌%◌, Bool, ◌&&◌, List, [], ◌∷◌, eqb, Ok, Err}
use Rattle.std.specs.Int.Bits.{bit_and}
use Rattle.base.specs.Pick.{pick}
use Rattle.crc.specs.Crc.{crc_of}
use Rattle.judge.specs.declared.Which.TheVariants.{Stop, Start, Deflection}
use Rattle.judge.specs.Table.{named_bits, named_bits2}
use Rattle.wording.specs.declared.Command.TheVariants.{Relay, Iel, HeadMask, Target, Limit, Mode, Stepping, Multiplexers, DirectionWindow, EnergyWindow}
use Rattle.wording.specs.declared.Refusal.TheVariants.{NotOne}
use Rattle.wording.specs.Shapes.{Meant}
use Rattle.wording.specs.Written.{single_word, head_word, data_word, end_word, block}

-- The single of a code, by its low byte.
unfoldable pub single_meant : ℕ → ℕ → Meant
single_meant code low =
    pick (eqb code 0x08) (Ok (Relay (low / 0x02 % 2) (low / 0x20 % 2))) (
    pick (eqb code 0x0C) (Ok (Iel (low % 2) (low / 0x02 % 2))) (
    pick (eqb code 0x20) (Ok (Target Start (low % 16))) (
    pick (eqb code 0x21) (Ok (Limit Start (low % 16))) (
    pick (eqb code 0x22) (Ok (Stepping Deflection low)) (
    pick (eqb code 0x23) (Ok (Target Deflection (low % 16))) (
    pick (eqb code 0x24) (Ok (Limit Deflection (low % 16))) (
    pick (eqb code 0x26) (Ok (HeadMask (low % 8))) (
    pick (eqb code 0x28) (Ok (Target Stop (low % 16))) (
    pick (eqb code 0x29) (Ok (Limit Stop (low % 16))) (
    pick (eqb code 0x2B) (Ok (Mode low)) (
    pick (eqb code 0x2C) (Ok (Stepping Start low)) (
    pick (eqb code 0x2D) (Ok (Stepping Stop low)) (
    Err NotOne)))))))))))))

-- The block of a code, by its two bytes.
unfoldable pub block_meant : ℕ → ℕ → ℕ → Meant
block_meant code first second =
    pick (eqb code 0x20) (Ok (Multiplexers first (second % 2))) (
    pick (eqb code 0x23) (Ok (DirectionWindow (first % 32) (second % 32))) (
    pick (eqb code 0x24) (Ok (EnergyWindow (first % 32) (second % 32))) (
    Err NotOne)))

-- Four words are a block if they are those of the head's code with two data words and the check over these as received.
unfoldable pub is_block : ℕ → ℕ → ℕ → ℕ → Bool
is_block head a b end =
    let code = head / 256 % 64 in
    eqb head (head_word code 2)
    && eqb a (data_word code (a % 256))
    && eqb b (data_word code (b % 256))
    && eqb end (end_word code (crc_of (a % 256 ∷ b % 256 ∷ [])))

abbrev pub four_meant : ℕ → ℕ → ℕ → ℕ → Meant
four_meant head a b end = pick (is_block head a b end) (block_meant (head / 256 % 64) (a % 256) (b % 256)) (Err NotOne)

-- By how many words there are: one, four, or any other number.
abbrev pub read_of : List ℕ → Meant
read_of [] = Err NotOne
read_of (w ∷ []) = single_meant (w / 256) (w % 256)
read_of (a ∷ b ∷ []) = Err NotOne
read_of (a ∷ b ∷ c ∷ []) = Err NotOne
read_of (head ∷ a ∷ b ∷ end ∷ []) = four_meant head a b end
read_of (a ∷ b ∷ c ∷ d ∷ e ∷ ws) = Err NotOne

-- The same words with ignored bits at 0, and the check to match.
abbrev pub cleaned : List ℕ → List ℕ
cleaned [] = []
cleaned (w ∷ []) = single_word (w / 256) (bit_and (w % 256) (named_bits (w / 256))) ∷ []
cleaned (a ∷ b ∷ []) = a ∷ b ∷ []
cleaned (a ∷ b ∷ c ∷ []) = a ∷ b ∷ c ∷ []
cleaned (head ∷ a ∷ b ∷ end ∷ []) =
    let code = head / 256 % 64 in
    block code (bit_and (a % 256) (named_bits2 code).0) (bit_and (b % 256) (named_bits2 code).1)
cleaned (a ∷ b ∷ c ∷ d ∷ e ∷ ws) = a ∷ b ∷ c ∷ d ∷ e ∷ ws
