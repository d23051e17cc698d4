-- Demand 1 holds of our rig and desk: the laws of the crates below, gathered.
-- Assumes nothing.
use Rattle.std.specs.Prelude.{Ok, Err}
use mathlib.Core.Path.{◌≡◌, ap}
use mathlib.Core.List.{List}
use Prim.Native.Nat.{ℕ, ◌+◌, ◌≤◌, ◌<◌}
use lib.ListN.{length}
use borrow.Author.Tests.{lt-ltb, le-ltb}
use Rattle.frame.specs.Items.{numbered}
use Rattle.frame.proofs.Place.{short, room}
use Rattle.desk.specs.declared.Received.{Received}
use Rattle.desk.proofs.Laws.{laws as desk-laws}
use Rattle.rig.specs.declared.Rig.{Rig}
use Rattle.sending.specs.declared.Built.{Built}
use Rattle.sending.specs.Sending.{held_of, next_latch, sent, built_of}
use Rattle.laws.proofs.Replies.{reply_laws}
use Rattle.block.proofs.Order.{place_order}
use Rattle.block.proofs.Laws.{part_length, part_none}
use Rattle.demands.specs.Outfit.{proved}
use Rattle.demands.specs.Demand1.{Demand1For}
use Rattle.demands.proofs.Numbers.{all_numbers}
use Rattle.demands.proofs.Orders.{part_order, event_order_01, ifft_event_order, ifft_item_order}
use Rattle.demands.proofs.Menu.{write_order, write_untouched, write_put, read_none, read_some}

with_room : (r : Rig) (b : List ℕ) (at : ℕ) → at + 40 ≤ length b → ◌≡◌ {A = Built} (built_of r b at) (record { rig = sent r; wrote = Ok tt })
with_room r b at h = simp (le-ltb _ _ h)

no_room_lem : (r : Rig) (b : List ℕ) (at : ℕ) → length b < at + 40 → ◌≡◌ {A = Built} (built_of r b at) (record { rig = r; wrote = Err (numbered 18) })
no_room_lem r b at h = simp (lt-ltb _ _ h)

pub demand_1 : Demand1For proved
demand_1 =
    record {
      numbers = all_numbers;
      words = reply_laws;
      frame17 = λ d f n. desk-laws.refused d f n;
      fill = λ d. (desk-laws.fill_c0_lem d, desk-laws.fill_ff_lem d);
      heard = λ d f w. ap (λ (t : Received). t.answer) (desk-laws.whole d f w.forty w.not_c0 w.not_ff);
      room18 = λ r b at h. (no_room_lem r b at h, (short (held_of r) r.sending.next (next_latch r) at b h).1);
      room = λ r b at h. (with_room r b at h, (room (held_of r) r.sending.next (next_latch r) at b h).1);
      part = part_order;
      place = place_order;
      event = event_order_01;
      ifft_event = ifft_event_order;
      ifft_item = ifft_item_order;
      empty = part_none;
      filled = part_length;
      write = write_order;
      untouched = write_untouched;
      written = write_put;
      read38 = read_none;
      read = read_some;
    }
