-- The numbers of the refusals (01, "Command words" and "What the numbers mean").
-- Assumes nothing.
use Rattle.std.specs.Prelude.{ℕ}
use Rattle.supply.specs.declared.Refusal.{Refusal as SupplyRefusal}
use Rattle.supply.specs.declared.Refusal.TheVariants as supply
use Rattle.judge.specs.declared.Refusal.{Refusal}
use Rattle.judge.specs.declared.Refusal.TheVariants.{RelayOff, Disabled, OverLimit, StrayWord, RelayBits, WrongCheck, Unsettled, OutOfRange, WrongCount, UnknownCode}

-- the paper's number of each refusal
abbrev pub number_of : Refusal → ℕ
number_of RelayOff = 0x04  -- a target with the relay off
number_of Disabled = 0x05  -- a target with stepping disabled
number_of OverLimit = 0x06  -- a target over the limit
number_of StrayWord = 0x0B  -- a data or end word with nothing pending
number_of RelayBits = 0x0B  -- 08h: both bits or neither
number_of WrongCheck = 0x0B  -- a closed block's check is wrong
number_of Unsettled = 0x0C  -- a limit: level ≠ target
number_of OutOfRange = 0x0D  -- a limit > 15; a mode or a stepping switch: neither 0 nor 1
number_of WrongCount = 0x0E  -- a head with n over 79; n wrong for a closed block's code
number_of UnknownCode = 0x0F  -- a single or a closed block of no listed code

-- the supply's refusals are among them, with the same numbers
abbrev pub raised : SupplyRefusal → Refusal
raised supply.RelayOff = RelayOff
raised supply.Disabled = Disabled
raised supply.OverLimit = OverLimit
raised supply.RelayBits = RelayBits
raised supply.Unsettled = Unsettled
raised supply.OutOfRange = OutOfRange
