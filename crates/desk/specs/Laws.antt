-- What a slot does to a desk, for every desk and all bytes (01, "The 40-byte frame", the paragraph on the desk).
-- Assumes nothing.
use Rattle.std.specs.Prelude.{◌≡◌, List, ℕ, ◌<◌, length, get_or, replicate}
use Rattle.frame.specs.declared.Held.{Held}
use Rattle.frame.specs.Shapes.{whole as whole_frame}
use Rattle.frame.specs.Items.{items, numbered}
use Rattle.frame.specs.Write.{frame_of}
use Rattle.frame.specs.Read.{arrived_of}
use Rattle.frame.specs.Laws.{Alike}
use Rattle.desk.specs.declared.Desk.{Desk}
use Rattle.desk.specs.declared.Answer.{Answer}
use Rattle.desk.specs.declared.Answer.TheVariants.{Heard, Missed, Refused}
use Rattle.desk.specs.declared.Received.{Received}
use Rattle.cell.specs.Cell.{aged_of, latest_of, blank, cell_of}
use Rattle.desk.specs.Desk.{reading_of, shows, missed_of, heard_of, slot_of}

abbrev pub answered : Answer → Desk → Received
answered a d = record { answer = a; desk = d }

pub record Laws : Type 0 where
  -- not 40 bytes: 17, and nothing changes
  pub refused : (d : Desk) (f : List ℕ) → (length f ≡ 40 → ⊥) → slot_of d f ≡ answered (Refused (numbered 17)) d
  -- 40 equal bytes C0h or FFh are a miss
  pub fill_c0_lem : (d : Desk) → slot_of d (replicate 40 0xC0) ≡ answered Missed (missed_of d)
  pub fill_ff_lem : (d : Desk) → slot_of d (replicate 40 0xFF) ≡ answered Missed (missed_of d)
  -- all other 40 bytes are heard, whoever built them
  pub whole : (d : Desk) (f : List ℕ) → length f ≡ 40 → (f ≡ replicate 40 0xC0 → ⊥) → (f ≡ replicate 40 0xFF → ⊥) → slot_of d f ≡ answered Heard (heard_of d f)
  -- every frame that a rig builds is heard
  pub built : (d : Desk) (h : Held) (i l : ℕ) → slot_of d (frame_of h i l) ≡ answered Heard (heard_of d (frame_of h i l))
  -- of two whole frames that differ in unread bits alone the desk makes the same
  pub unread : (d : Desk) (f g : List ℕ) (i b j c : ℕ) → Alike f g → arrived_of f ≡ whole_frame i b → arrived_of g ≡ whole_frame j c → slot_of d f ≡ slot_of d g
  -- item by item: a miss makes it one slot older; a whole frame shows what it brings, else the same
  pub at_miss : (d : Desk) (k : ℕ) → k < items → shows (missed_of d) k ≡ aged_of (shows d k)
  pub at_frame : (d : Desk) (f : List ℕ) (k : ℕ) → k < items → shows (heard_of d f) k ≡ latest_of (reading_of d.half f k) (shows d k)
  -- a cell after a slot is the one that holds what it shows: an unknown item is held in one way
  pub held_miss : (d : Desk) (k : ℕ) → k < items → get_or (missed_of d).cells k blank ≡ cell_of (shows (missed_of d) k)
  pub held_frame : (d : Desk) (f : List ℕ) (k : ℕ) → k < items → get_or (heard_of d f).cells k blank ≡ cell_of (shows (heard_of d f) k)
