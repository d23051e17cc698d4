-- What the readers refuse with is the first of 01's numbers, in 01's order, whose test holds.
-- Assumes nothing.
use Rattle.std.specs.Prelude.{Ok, Err}
use mathlib.Core.Path.{◌≡◌}
use mathlib.Core.List.{List}
use Prim.Native.Nat.{ℕ, ◌+◌, ◌*◌}
use Rattle.block.specs.declared.Part.TheVariants.{DirectEvents}
use Rattle.block.specs.Refusals.{first_of}
use Rattle.block.specs.Tables.{row_in}
use Rattle.block.specs.Layout.{kind_of}
use Rattle.block.proofs.Laws.{through}
use Rattle.event.specs.Event.{event_at, direct_tests, direct_of}
use Rattle.event.specs.Ifft.{ifft_tests, event_of, item_at, item_of}
use Rattle.event.specs.Order.{event_number, item_number}

module _ (b : List ℕ) (n : ℕ) where
  pub direct_order : event_number (direct_of b n) ≡ first_of (direct_tests b n)
  unfolding direct_of
  direct_order = through event_number Err (direct_tests b n) (Ok (event_at b ((row_in (kind_of b) DirectEvents).at + 3 * n)))

  pub event_order : event_number (event_of b n) ≡ first_of (ifft_tests b n 5 85)
  unfolding event_of
  event_order = through event_number Err (ifft_tests b n 5 85) (Ok (event_at b (0x020 + 3 * n)))

  pub item_order : item_number (item_of b n) ≡ first_of (ifft_tests b n 6 64)
  unfolding item_of
  item_order = through item_number Err (ifft_tests b n 6 64) (Ok (item_at b (0x020 + 4 * n)))
