-- The three blocks that order something of the sensor, and what their two data bytes order.
-- Keeps 01 "Command words" (20h, 23h, 24h) and 02 (ii): a command sets what was ordered. Said in numbers, apart from the decoder. Assumes nothing.
use Rattle.std.specs.Prelude.{Bool, true, false, ℕ, ◌%◌, eqb, Option, Some, None}
use Rattle.base.specs.Pick.{pick}
use Rattle.judge.specs.declared.Sensor.{Sensor}
use Rattle.rig.specs.declared.Pending.{Pending}
use Rattle.rig.specs.declared.Answer.TheVariants.{Accepted, Waiting, Refused}
use Rattle.rig.specs.declared.Reply.{Reply}
use Rattle.rig.specs.declared.Reply.TheVariants.{Plain, Swallowed, Dropped}

pub data Order : Type 0 where
  multiplexers : Order
  direction : Order
  energy : Order

-- the code of its block
abbrev pub order_code : Order → ℕ
order_code multiplexers = 0x20
order_code direction = 0x23
order_code energy = 0x24

-- its part of a sensor, as two numbers: the multiplexers' byte and their ninth bit; a window's start and stop
abbrev pub pair_of : Order → Sensor → ℕ × ℕ
pair_of multiplexers x = (x.mux.byte, pick x.mux.bit 1 0)
pair_of direction x = (x.direction.start, x.direction.stop)
pair_of energy x = (x.energy.start, x.energy.stop)

-- what the data bytes x and y order: byte 1, then bit 0 of byte 2; start, then stop, bits 4-0 of each
abbrev pub asked_by : Order → ℕ → ℕ → ℕ × ℕ
asked_by multiplexers x y = (x, y % 2)
asked_by direction x y = (x % 32, y % 32)
asked_by energy x y = (x % 32, y % 32)

-- of the block that is pending, if one is: whether its code is that order's, and what its first two bytes order
abbrev pub is_of : Order → Option Pending → Bool
is_of p None = false
is_of p (Some b) = eqb (b.head % 64) (order_code p)

abbrev pub asked_in : Order → Option Pending → ℕ × ℕ
asked_in p None = (0, 0)
asked_in p (Some b) = asked_by p b.first b.second

-- a word that closes a block is answered so where the block is accepted
abbrev pub is_accepted : Reply → Bool
is_accepted (Plain Accepted) = true
is_accepted (Plain Waiting) = false
is_accepted (Plain (Refused why)) = false
is_accepted Swallowed = false
is_accepted (Dropped a) = false
