-- Demand 2: each command word, spin and power cut changes the rig as the Guide, with our rules for its gaps, says. Frames are written and read by its
-- layout; nominal and burst blocks are taken apart by its tables. What is written of a command reaches the judgement of its settings. Assumes nothing.
use Rattle.std.specs.Prelude.{◌≡◌, true, not, List, [], ◌∷◌, ℕ, ◌<◌, T, length, get_or, Some}
use Rattle.supply.specs.Laws.{SupplyLaws}
use Rattle.judge.specs.Table.{TableLaws}
use Rattle.volts.specs.declared.Sheet.{Sheet}
use Rattle.volts.specs.Volts.{Shows}
use Rattle.frame.specs.Write.{latch_of, frame_of}
use Rattle.frame.specs.Items.{held_at}
use Rattle.frame.specs.Read.{is_plain, carries, read_of}
use Rattle.frame.specs.Laws.{Laws}
use Rattle.rig.specs.declared.Rig.{Rig}
use Rattle.rig.specs.Start.{start_rig}
use Rattle.sending.specs.Sending.{held_of}
use Rattle.laws.specs.Rows.{RowLaws}
use Rattle.laws.specs.Supplies.{SupplyWords}
use Rattle.laws.specs.Blocks.{BlockLaws}
use Rattle.laws.specs.Parts.{Parts}
use Rattle.laws.specs.Runs.{Happening, rig_reached, RunLaws}
use Rattle.laws.specs.Register.{RegisterLaws}
use Rattle.block.specs.declared.Kind.{Kind}
use Rattle.block.specs.declared.Part.{Part}
use Rattle.block.specs.Kinds.{length_of}
use Rattle.block.specs.Layout.{dumped}
use Rattle.block.specs.Parts.{locate_of, part_of}
use Rattle.block.specs.Cover.{holders, held_by}
use Rattle.block.specs.Order.{unread}
use Rattle.event.specs.declared.Direction.{Direction}
use Rattle.event.specs.declared.Direction.TheVariants.{Head}
use Rattle.event.specs.Event.{d_of, has_d, direction_of, event_at}
use Rattle.event.specs.Ifft.{item_at}
use Rattle.wording.specs.Laws.{Sends, WordingLaws}
use Rattle.demands.specs.Outfit.{Outfit}
use Rattle.demands.specs.Held.{HeldTable, Settles}
use Rattle.demands.specs.Register.{ShownWhen}
use Rattle.demands.specs.AnyDesk.{SlotLaws}

-- demand 2, of any rig and desk
pub record Demand2For (o : Outfit) : Type 0 where
  -- each row of the command table: accepted exactly if .., and then exactly this moves; heads, data and end words, closed and swallowed blocks
  pub rows : RowLaws o.rig.take
  -- a whole block, from its head to its end word, by the list of its data bytes
  pub blocks : BlockLaws o.rig.take
  -- the words that are written of a command, sent with nothing pending: all but the last wait, and the last reaches 01's judgement of the settings
  pub menu : Sends o.rig.take
  -- what is written is read back as it was; what is read is written with ignored bits at 0 and the check to match
  pub wording : WordingLaws
  -- the lists of codes, the bits that are read and those that are not
  pub table : TableLaws
  -- one part of a record replaced, and no other: what every rule is written with
  pub parts : Parts
  -- the start, as 01 lists it
  pub start : o.rig.start ≡ start_rig
  -- any supply: its commands, its spins, how far they bring the level
  pub supply : SupplyLaws
  -- the three: a command to one changes neither of the others, the relay is common and off brings all three to 0
  pub supplies : SupplyWords o.rig.take
  -- over every run: counts, codes, last check, long EDB counter, the bounds of every field; and for every rig, what a setting, a frame built,
  -- a spin and a power cut do
  pub runs : RunLaws o.rig
  -- a frame shows what the rig holds as it is built; a spread number is latched at its first frame and written from the latch
  pub frame : (r : Rig) → o.frame r ≡ frame_of (held_of r) r.sending.next (latch_of (held_of r) r.sending.next r.sending.latch)
  -- of every rig that a run has reached, each plain item that its next frame carries is read back as it is held
  pub shown : (es : List Happening) (k : ℕ) → is_plain k ≡ true → carries k (rig_reached o.rig es).sending.next ≡ true
      → read_of (o.frame (rig_reached o.rig es)) k ≡ Some (held_at (held_of (rig_reached o.rig es)) k)
  -- accepted settings show in the next frame that carries them, but for windows and multiplexers: these go into the sensor's register at a spin, and frames
  -- show the register
  pub register : RegisterLaws o.rig
  pub when : ShownWhen o
  -- what is written is what is read, item by item, and nothing else is told; the bits that are read, and those that are not
  pub layout : Laws
  -- what each item is held as, and where a frame has it, by example, so that no two can be swapped
  pub held : HeldTable o (λ r k. held_at (held_of r) k)
  pub settles : Settles
  -- one slot from any desk, whatever bytes it brings
  pub desk : SlotLaws o
  -- blocks: every byte of a block lies in exactly one part, inner marker or spare
  pub cover : (x : Kind) (k : ℕ) → k < length_of x → holders k (held_by x) ≡ 1
  -- with descriptor 1 bit 2 set neither descriptor 2 nor the inner markers are looked at
  pub dump : (b c : List ℕ) → length b ≡ length c → dumped b ≡ true → ((k : ℕ) → T (not (unread k)) → get_or b k 0 ≡ get_or c k 0)
      → (p : Part) → (locate_of b p ≡ locate_of c p) × (part_of b p ≡ part_of c p)
  -- a direct event, and a matrix item, byte by byte
  pub event : event_at (0x12 ∷ 0x34 ∷ 0x5B ∷ []) 0 ≡ record { energy = 0x12; time = 0x34; sector = 5; direction = Head 3 3 }
  pub item : item_at (0x12 ∷ 0x34 ∷ 0x80 ∷ 0x04 ∷ []) 0 ≡ record { first = 0x1234; second = 0x8004; good = true }
  -- D and its direction: each gives the other back
  pub direction : (d : ℕ) → d < 16 → d_of (direction_of d) ≡ d
  pub back : (x : Direction) → T (has_d x) → direction_of (d_of x) ≡ x
  -- the sheet's promise leaves one sheet
  pub volts : (b g : ℕ) (s t : Sheet) → Shows b g s → Shows b g t → s ≡ t
