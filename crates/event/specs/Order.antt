-- The numbers of events and items: what demand 1 says of `direct_tests` and `ifft_tests`, 01's order 20 (under 3), 19, 20, 21, 24, 22, 23.
-- Assumes nothing.
use Rattle.std.specs.Prelude.{ℕ, Ok, Err}
use Rattle.block.specs.Refusals.{number_of}
use Rattle.event.specs.Shapes.{Evented, Itemed}

-- the number of an answer: 0 where there is an event, an item
abbrev pub event_number : Evented → ℕ
event_number (Ok e) = 0
event_number (Err r) = number_of r

abbrev pub item_number : Itemed → ℕ
item_number (Ok i) = 0
item_number (Err r) = number_of r
