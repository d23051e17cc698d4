-- The number of every refusal, as 01 "What the numbers mean" and 02 (i) list them: on the left what our definitions give, on the right the paper's.
-- Assumes nothing.
use Rattle.std.specs.Prelude.{◌≡◌, List, [], ◌∷◌, ℕ}
use Rattle.supply.specs.Rules as supply
use Rattle.supply.specs.declared.Refusal.TheVariants as supply_refusal
use Rattle.judge.specs.Refusals as judge
use Rattle.judge.specs.declared.Refusal.TheVariants.{RelayOff, Disabled, OverLimit, StrayWord, RelayBits, WrongCheck, Unsettled, OutOfRange, WrongCount, UnknownCode}
use Rattle.rig.specs.declared.Reply.TheVariants.{Swallowed}
use Rattle.rig.specs.Replies.{refusals_of}
use Rattle.frame.specs.Items as frame
use Rattle.frame.specs.declared.Refusal.TheVariants.{NotForty, NoRoom}
use Rattle.block.specs.Refusals as block
use Rattle.block.specs.declared.Refusal.TheVariants.{NoMarker, WrongLength, InnerMarker, Beyond, Hidden, NotIfft}
use Rattle.wording.specs.Refusals as wording
use Rattle.wording.specs.declared.Refusal.TheVariants as wording_refusal

abbrev pub numbers : List (ℕ × ℕ)
numbers =
    -- single 28h: relay off, stepping disabled, target > limit
    (judge.number_of RelayOff, 0x04)
    ∷ (judge.number_of Disabled, 0x05)
    ∷ (judge.number_of OverLimit, 0x06)
    -- a data or end word with nothing pending; 08h with both bits or neither; a wrong check
    ∷ (judge.number_of StrayWord, 0x0B)
    ∷ (judge.number_of RelayBits, 0x0B)
    ∷ (judge.number_of WrongCheck, 0x0B)
    -- single 29h: level ≠ target; 29h: limit > 15, 2Bh and 2Dh: neither 0 nor 1
    ∷ (judge.number_of Unsettled, 0x0C)
    ∷ (judge.number_of OutOfRange, 0x0D)
    -- n over 79, or wrong for its code; a code of no row
    ∷ (judge.number_of WrongCount, 0x0E)
    ∷ (judge.number_of UnknownCode, 0x0F)
    -- the supply's own, by the same numbers
    ∷ (supply.number_of supply_refusal.RelayOff, 0x04)
    ∷ (supply.number_of supply_refusal.Disabled, 0x05)
    ∷ (supply.number_of supply_refusal.OverLimit, 0x06)
    ∷ (supply.number_of supply_refusal.RelayBits, 0x0B)
    ∷ (supply.number_of supply_refusal.Unsettled, 0x0C)
    ∷ (supply.number_of supply_refusal.OutOfRange, 0x0D)
    -- a frame not of 40 bytes; no room for a frame
    ∷ (frame.number_of NotForty, 17)
    ∷ (frame.number_of NoRoom, 18)
    -- a block: no marker, a wrong length, an inner marker; beyond the last or not in this layout, hidden; not such an IFFT block
    ∷ (block.number_of NoMarker, 19)
    ∷ (block.number_of WrongLength, 20)
    ∷ (block.number_of InnerMarker, 21)
    ∷ (block.number_of Beyond, 22)
    ∷ (block.number_of Hidden, 23)
    ∷ (block.number_of NotIfft, 24)
    -- a command's words: a setting too wide, too few words of room; words that are not one command
    ∷ (wording.number_of wording_refusal.TooWide, 25)
    ∷ (wording.number_of wording_refusal.NoRoom, 26)
    ∷ (wording.number_of wording_refusal.NotOne, 38)
    ∷ []

abbrev pub Same : List (ℕ × ℕ) → Type 0
Same [] = Unit {0}
Same (x ∷ xs) = (x.0 ≡ x.1) × Same xs

-- each number is the paper's, and a dropped block gives 03h
abbrev pub Numbers : Type 0
Numbers = (refusals_of Swallowed ≡ 0x03 ∷ []) × Same numbers
