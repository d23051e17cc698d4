-- The items (01, "The 40-byte frame": the numbers and switches placed in its first paragraph; 02 (iv): those of the start and deflection supplies), each in
-- its row, and the refusals' numbers.
-- Assumes nothing.
use Rattle.std.specs.Prelude.{List, [], ◌∷◌, ℕ, eqb, length, get_or}
use Rattle.base.specs.Pick.{pick}
use Rattle.frame.specs.declared.Held.{Held}
use Rattle.frame.specs.declared.Item.{Item}
use Rattle.frame.specs.declared.Item.TheVariants.{Parallel, Multiplexer1, Multiplexer2, Multiplexer3, ErrorCode, DirectionStop, DirectionStart, EnergyStop, EnergyStart, LastInvalidCode, IelEnable, ReducedCounter, Bias, Relay, Ground, StopStepping, StopLimit, StopLevel, Flap1, Flap2, Flap3, IelClock, LastCheck, InvalidCount, HeadMask, LongCounter, FreeTime, StartStepping, StartLimit, StartLevel, DeflectionStepping, DeflectionLimit, DeflectionLevel}
use Rattle.frame.specs.declared.Refusal.{Refusal}
use Rattle.frame.specs.declared.Refusal.TheVariants.{NotForty, NoRoom}

-- the row of an item, in `held_at` and in the table `rows`
abbrev pub row_of : Item → ℕ
row_of Parallel = 0
row_of Multiplexer1 = 1
row_of Multiplexer2 = 2
row_of Multiplexer3 = 3
row_of ErrorCode = 4
row_of DirectionStop = 5
row_of DirectionStart = 6
row_of EnergyStop = 7
row_of EnergyStart = 8
row_of LastInvalidCode = 9
row_of IelEnable = 10
row_of ReducedCounter = 11
row_of Bias = 12
row_of Relay = 13
row_of Ground = 14
row_of StopStepping = 15
row_of StopLimit = 16
row_of StopLevel = 17
row_of Flap1 = 18
row_of Flap2 = 19
row_of Flap3 = 20
row_of IelClock = 21
row_of LastCheck = 22
row_of InvalidCount = 23
row_of HeadMask = 24
row_of LongCounter = 25
row_of FreeTime = 26
row_of StartStepping = 27
row_of StartLimit = 28
row_of StartLevel = 29
row_of DeflectionStepping = 30
row_of DeflectionLimit = 31
row_of DeflectionLevel = 32

-- all of them, in the order of their rows
abbrev pub all_items : List Item
all_items =
    Parallel ∷ Multiplexer1 ∷ Multiplexer2 ∷ Multiplexer3 ∷ ErrorCode ∷ DirectionStop ∷ DirectionStart ∷ EnergyStop ∷ EnergyStart
    ∷ LastInvalidCode ∷ IelEnable ∷ ReducedCounter ∷ Bias ∷ Relay ∷ Ground ∷ StopStepping ∷ StopLimit ∷ StopLevel
    ∷ Flap1 ∷ Flap2 ∷ Flap3 ∷ IelClock ∷ LastCheck ∷ InvalidCount ∷ HeadMask ∷ LongCounter ∷ FreeTime
    ∷ StartStepping ∷ StartLimit ∷ StartLevel ∷ DeflectionStepping ∷ DeflectionLimit ∷ DeflectionLevel ∷ []

-- how many there are
abbrev pub items : ℕ
items = length all_items

-- the value held of the item in row k; 0 past the last row
abbrev pub held_at : Held → ℕ → ℕ
held_at h k =
    get_or
    (h.parallel ∷ h.mux1 ∷ h.mux2 ∷ h.mux3 ∷ h.error ∷ h.dstop ∷ h.dstart ∷ h.estop ∷ h.estart
    ∷ h.last ∷ h.enable ∷ h.reduced ∷ h.bias ∷ h.relay ∷ h.ground ∷ h.stopstepping ∷ h.stoplimit ∷ h.stoplevel
    ∷ h.flap1 ∷ h.flap2 ∷ h.flap3 ∷ h.clock ∷ h.check ∷ h.count ∷ h.mask ∷ h.long ∷ h.free
    ∷ h.startstepping ∷ h.startlimit ∷ h.startlevel ∷ h.deflectionstepping ∷ h.deflectionlimit ∷ h.deflectionlevel ∷ [])
    k 0

-- 01's number of each refusal
abbrev pub number_of : Refusal → ℕ
number_of NotForty = 17
number_of NoRoom = 18

-- the refusal that has the number n
abbrev pub numbered : ℕ → Refusal
numbered n = pick (eqb n (number_of NotForty)) NotForty NoRoom
