-- The name of each item, and the item of each row (01, "The 40-byte frame"; 02 (iv)).
-- Assumes nothing.
use Rattle.std.specs.Prelude.{List, ℕ, ltb, get_or, Some, None}
use Rattle.base.specs.Ascii.{ascii}
use Rattle.base.specs.Pick.{pick}
use Rattle.frame.specs.declared.Item.{Item}
use Rattle.frame.specs.declared.Item.TheVariants.{Parallel, Multiplexer1, Multiplexer2, Multiplexer3, ErrorCode, DirectionStop, DirectionStart, EnergyStop, EnergyStart, LastInvalidCode, IelEnable, ReducedCounter, Bias, Relay, Ground, StopStepping, StopLimit, StopLevel, Flap1, Flap2, Flap3, IelClock, LastCheck, InvalidCount, HeadMask, LongCounter, FreeTime, StartStepping, StartLimit, StartLevel, DeflectionStepping, DeflectionLimit, DeflectionLevel}
use Rattle.frame.specs.Items.{items, all_items}
use Rattle.item_names.specs.Shapes.{InRow}

abbrev pub name_of : Item → List ℕ
name_of Parallel = ascii "Parallel            "
name_of Multiplexer1 = ascii "Multiplexer1        "
name_of Multiplexer2 = ascii "Multiplexer2        "
name_of Multiplexer3 = ascii "Multiplexer3        "
name_of ErrorCode = ascii "ErrorCode           "
name_of DirectionStop = ascii "DirectionStop       "
name_of DirectionStart = ascii "DirectionStart      "
name_of EnergyStop = ascii "EnergyStop          "
name_of EnergyStart = ascii "EnergyStart         "
name_of LastInvalidCode = ascii "LastInvalidCode     "
name_of IelEnable = ascii "IelEnable           "
name_of ReducedCounter = ascii "ReducedCounter      "
name_of Bias = ascii "Bias                "
name_of Relay = ascii "Relay               "
name_of Ground = ascii "Ground              "
name_of StopStepping = ascii "StopStepping        "
name_of StopLimit = ascii "StopLimit           "
name_of StopLevel = ascii "StopLevel           "
name_of Flap1 = ascii "Flap1               "
name_of Flap2 = ascii "Flap2               "
name_of Flap3 = ascii "Flap3               "
name_of IelClock = ascii "IelClock            "
name_of LastCheck = ascii "LastCheck           "
name_of InvalidCount = ascii "InvalidCount        "
name_of HeadMask = ascii "HeadMask            "
name_of LongCounter = ascii "LongCounter         "
name_of FreeTime = ascii "FreeTime            "
name_of StartStepping = ascii "StartStepping       "
name_of StartLimit = ascii "StartLimit          "
name_of StartLevel = ascii "StartLevel          "
name_of DeflectionStepping = ascii "DeflectionStepping  "
name_of DeflectionLimit = ascii "DeflectionLimit     "
name_of DeflectionLevel = ascii "DeflectionLevel     "

-- the item in a row; none past the last
abbrev pub item_in : ℕ → InRow
item_in k = pick (ltb k items) (Some (get_or all_items k Parallel)) None
