-- The laws of the desk hold.
-- Assumes nothing.
use mathlib.Core.Path.{◌≡◌, refl, sym, ap, ◌∙◌}
use mathlib.Core.List.{List}
use Prim.Native.Nat.{ℕ}
use lib.ListN.{length, replicate}
use borrow.Author.Tests.{ne_eqb}
use Rattle.frame.specs.Shapes.{whole as whole_frame}
use Rattle.frame.specs.Items.{numbered}
use Rattle.frame.specs.Write.{frame_of}
use Rattle.frame.specs.Read.{arrived_of, all_are}
use Rattle.frame.specs.Laws.{Alike}
use Rattle.frame.proofs.Came.{no_other}
use Rattle.frame.proofs.Tells.{whole}
use Rattle.desk.specs.declared.Answer.TheVariants.{Heard, Missed, Refused}
use Rattle.desk.specs.declared.Desk.{Desk}
use Rattle.cells.specs.Cells.{nothing}
use Rattle.desk.specs.Desk.{reading_of, missed_of, heard_of, slot_of}
use Rattle.desk.specs.Laws.{answered, Laws}
use Rattle.cells.proofs.Cells.{at_slot, one_way}
use Rattle.desk.proofs.Readings.{reading_fits}
use Rattle.desk.proofs.Unread.{heard_same}

module _ (d : Desk) where
  refused : (f : List ℕ) → (length f ≡ 40 → ⊥) → slot_of d f ≡ answered (Refused (numbered 17)) d
  unfolding slot_of arrived_of
  refused f n = rw (ne_eqb (length f) 40 n)

  fill_c0_lem : slot_of d (replicate 40 0xC0) ≡ answered Missed (missed_of d)
  unfolding slot_of arrived_of all_are
  fill_c0_lem = refl

  fill_ff_lem : slot_of d (replicate 40 0xFF) ≡ answered Missed (missed_of d)
  unfolding slot_of arrived_of all_are
  fill_ff_lem = refl

  heard_whole : (f : List ℕ) (i b : ℕ) → arrived_of f ≡ whole_frame i b → slot_of d f ≡ answered Heard (heard_of d f)
  unfolding slot_of
  heard_whole f i b e = rw e

  unread : (f g : List ℕ) (i b j c : ℕ) → Alike f g → arrived_of f ≡ whole_frame i b → arrived_of g ≡ whole_frame j c → slot_of d f ≡ slot_of d g
  unread f g i b j c a p q = heard_whole f i b p ∙ ap (answered Heard) (heard_same d f g a) ∙ sym (heard_whole g j c q)

pub laws : Laws
laws =
    record {
      refused = refused;
      fill_c0_lem = fill_c0_lem;
      fill_ff_lem = fill_ff_lem;
      whole = λ d f l a b. heard_whole d f _ _ (no_other f l a b);
      built = λ d h i l. heard_whole d (frame_of h i l) _ _ (whole h i l);
      unread = unread;
      at_miss = λ d k h. at_slot nothing d.cells k h tt;
      at_frame = λ d f k h. at_slot (reading_of d.half f) d.cells k h (reading_fits d.half f k h);
      held_miss = λ d k h. one_way nothing d.cells k h tt;
      held_frame = λ d f k h. one_way (reading_of d.half f) d.cells k h (reading_fits d.half f k h);
    }
