-- The words of a command (02 (i)): the single word, or the whole block with its check; and when a setting is too wide. A supply's commands have the
-- supply x, which tells the code (02 (iv)).
-- Assumes nothing.
use Rattle.std.specs.Prelude.{ℕ, ◌+◌, ◌*◌, ◌^◌, Bool, true, ◌&&◌, List, [], ◌∷◌, ◌++◌, ltb, leb, length, drop, Ok, Err}
use Rattle.base.specs.Pick.{pick}
use Rattle.crc.specs.Crc.{crc_of}
use Rattle.judge.specs.Table.{target_code, limit_code, stepping_code}
use Rattle.wording.specs.declared.Command.{Command}
use Rattle.wording.specs.declared.Command.TheVariants.{Relay, Iel, HeadMask, Target, Limit, Mode, Stepping, Multiplexers, DirectionWindow, EnergyWindow}
use Rattle.wording.specs.declared.Refusal.TheVariants.{TooWide, NoRoom}
use Rattle.wording.specs.Shapes.{Wrote}

-- Each setting, and how many bits 01 reads of it.
abbrev pub settings : Command → List (ℕ × ℕ)
settings (Relay on off) = (on, 1) ∷ (off, 1) ∷ []
settings (Iel clock enable) = (clock, 1) ∷ (enable, 1) ∷ []
settings (HeadMask mask) = (mask, 3) ∷ []
settings (Target x target) = (target, 4) ∷ []
settings (Limit x limit) = (limit, 4) ∷ []
settings (Mode low) = (low, 8) ∷ []
settings (Stepping x low) = (low, 8) ∷ []
settings (Multiplexers byte bit) = (byte, 8) ∷ (bit, 1) ∷ []
settings (DirectionWindow start stop) = (start, 5) ∷ (stop, 5) ∷ []
settings (EnergyWindow start stop) = (start, 5) ∷ (stop, 5) ∷ []

-- A setting fits if it is no wider than its bits; a command if each of its settings does.
abbrev pub all_fit : List (ℕ × ℕ) → Bool
all_fit [] = true
all_fit (s ∷ ss) = ltb s.0 (2 ^ s.1) && all_fit ss

abbrev pub fits : Command → Bool
fits c = all_fit (settings c)

-- A word: its kind in the top two bits and its code in the other six, then the low byte. Kind 0 is a single, 1 a head, 2 data, 3 an end.
abbrev pub single_word : ℕ → ℕ → ℕ
single_word code low = code * 256 + low

abbrev pub head_word : ℕ → ℕ → ℕ
head_word code n = (0x40 + code) * 256 + n

abbrev pub data_word : ℕ → ℕ → ℕ
data_word code b = (0x80 + code) * 256 + b

abbrev pub end_word : ℕ → ℕ → ℕ
end_word code k = (0xC0 + code) * 256 + k

abbrev pub single : ℕ → ℕ → List ℕ
single code low = single_word code low ∷ []

-- A block of two data words: the head tells 2, the end has the check over both low bytes.
abbrev pub block : ℕ → ℕ → ℕ → List ℕ
block code first second =
    head_word code 2 ∷ data_word code first ∷ data_word code second ∷ end_word code (crc_of (first ∷ second ∷ [])) ∷ []

-- The words of a command.
abbrev pub words_of : Command → List ℕ
words_of (Relay on off) = single 0x08 (on * 0x02 + off * 0x20)  -- bit 1 on, bit 5 off
words_of (Iel clock enable) = single 0x0C (clock * 0x01 + enable * 0x02)  -- bit 0 clock, bit 1 enable
words_of (HeadMask mask) = single 0x26 mask
words_of (Target x target) = single (target_code x) target
words_of (Limit x limit) = single (limit_code x) limit
words_of (Mode low) = single 0x2B low
words_of (Stepping x low) = single (stepping_code x) low
words_of (Multiplexers byte bit) = block 0x20 byte bit
words_of (DirectionWindow start stop) = block 0x23 start stop
words_of (EnergyWindow start stop) = block 0x24 start stop

-- Words put at the front of a buffer: 26 where there is too little room, and the buffer is untouched. Words behind them stay.
abbrev pub put_answer : List ℕ → ℕ → Wrote
put_answer ws room = pick (leb (length ws) room) (Ok (length ws)) (Err NoRoom)

abbrev pub put_into : List ℕ → List ℕ → List ℕ
put_into ws out = pick (leb (length ws) (length out)) (ws ++ drop (length ws) out) out

-- A command written: 25 comes first, and leaves the buffer untouched too.
unfoldable pub wrote_of : Command → ℕ → Wrote
wrote_of c room = pick (fits c) (put_answer (words_of c) room) (Err TooWide)

unfoldable pub written_of : Command → List ℕ → List ℕ
written_of c out = pick (fits c) (put_into (words_of c) out) out
