-- Demand 2 holds of our rig: the laws of the crates below, gathered.
-- Assumes nothing.
use mathlib.Core.Path.{◌≡◌, refl}
use mathlib.Core.Bool.{true}
use mathlib.Core.List.{[], ◌∷◌}
use lib.Count.{ones, ones_in}
use Rattle.judge.proofs.Table.{laws as table-laws}
use Rattle.volts.proofs.Single.{sheet_of_one}
use Rattle.supply.proofs.Laws.{laws as supply-laws}
use Rattle.frame.proofs.Laws.{laws as frame-laws}
use Rattle.laws.proofs.Rows.{row_laws}
use Rattle.laws.proofs.Blocks.{block_laws}
use Rattle.laws.proofs.Parts.{parts}
use Rattle.laws.proofs.Supplies.{supply_words}
use Rattle.laws.proofs.Runs.{run_laws}
use Rattle.laws.proofs.Register.{register_laws}
use Rattle.block.proofs.Cover.{cover}
use Rattle.block.proofs.Unread.{unread_alike}
use Rattle.event.specs.Ifft.{item_at}
use Rattle.event.proofs.Directions.{reader_inverts, gives_back}
use Rattle.wording.proofs.Sent.{sends}
use Rattle.wording.proofs.Laws.{laws as wording-laws}
use Rattle.demands.specs.Outfit.{proved}
use Rattle.demands.specs.Demand2.{Demand2For}
use Rattle.demands.proofs.Held.{held_table, settles}
use Rattle.demands.proofs.Register.{shows, shown_when}
use Rattle.demands.proofs.AnyDesk.{slot_laws}

-- ones in 8004h: two, so that it is good
word_8004 : item_at (0x12 ∷ 0x34 ∷ 0x80 ∷ 0x04 ∷ []) 0 ≡ record { first = 0x1234; second = 0x8004; good = true }
unfolding ones ones_in
word_8004 = refl

pub demand_2 : Demand2For proved
demand_2 =
    record {
      rows = row_laws;
      blocks = block_laws;
      menu = sends;
      wording = wording-laws;
      table = table-laws;
      parts = parts;
      start = refl;
      supply = supply-laws;
      supplies = supply_words;
      runs = run_laws;
      frame = λ r. refl;
      shown = shows;
      register = register_laws;
      when = shown_when;
      layout = frame-laws;
      held = held_table;
      settles = settles;
      desk = slot_laws;
      cover = cover;
      dump = unread_alike;
      event = refl;
      item = word_8004;
      direction = reader_inverts;
      back = gives_back;
      volts = sheet_of_one;
    }
