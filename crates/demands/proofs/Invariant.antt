-- After any run of events the desk shows what the history says.
-- Assumes nothing.
use mathlib.Core.Path.{◌≡◌, refl, ◌∙◌, sym, ap, subst}
use mathlib.Core.List.{List, [], ◌∷◌, ◌++◌}
use Prim.Native.Nat.{ℕ, ◌+◌, ◌<◌}
use native.Mathlib.Omega.{arith}
use lib.ListN.{length, get_or-replicate}
use borrow.Author.Tests.{lt-ltb}
use Rattle.frame.specs.Items.{items}
use Rattle.cell.specs.Shapes.{Shown}
use Rattle.desk.specs.declared.Desk.{Desk}
use Rattle.desk.specs.declared.Received.{Received}
use Rattle.half.specs.Shapes.{Half}
use Rattle.cell.specs.Cell.{latest_of, blank, shown_by}
use Rattle.cells.specs.Cells.{nothing}
use Rattle.desk.specs.Desk.{reading_of, half_after, slot_of, missed_of, heard_of, shows}
use Rattle.rig.specs.declared.Rig.{Rig}
use Rattle.rig.specs.Words.{take_of}
use Rattle.power.specs.Power.{spun_of, set_of}
use Rattle.sending.specs.Sending.{held_of, next_latch, sent, built_of, next_frame}
use Rattle.laws.specs.Runs.{ours, rig_reached}
use Rattle.laws.specs.Runs as ran
use Rattle.laws.proofs.Replies.{reply_laws}
use Rattle.laws.proofs.Runs.{run_laws}
use Rattle.demands.specs.History.{Slot, missed, whole}
use Rattle.demands.specs.Outfit.{proved, fill_c0, fill_ff}
use Rattle.demands.specs.AtOnce.{Turn, word, spin, set, cut, arrives, lost, lost_c0, lost_ff, idle, idle_c0, idle_ff, no_room, torn, World, start, next, run}
use Rattle.demands.proofs.Shown.{brought, shown_of}
use Rattle.desk.proofs.Laws.{laws as desk-laws}
use Rattle.demands.proofs.Half.{Good, half_of, Linked, half_step, reads, linked_built, linked_missed}

-- a rig that some run of the rig's own events reaches
pub record Made (r : Rig) : Type 0 where
  pub by : List ran.Happening
  pub is : r ≡ rig_reached ours by

-- a run, and one event more
run_more : (r : Rig) (es : List ran.Happening) (e : ran.Happening) → ran.rig_after ours r (es ++ (e ∷ [])) ≡ ran.happened ours (ran.rig_after ours r es) e
unfolding ran.rig_after
run_more r [] e = refl
run_more r (x ∷ es) e = run_more (ran.happened ours r x) es e

pub made_more : (r : Rig) (e : ran.Happening) → Made r → Made (ran.happened ours r e)
made_more r e m =
    record {
      by = m.by ++ (e ∷ []);
      is = ap (λ (x : Rig). ran.happened ours x e) m.is ∙ sym (run_more ours.start m.by e);
    }

pub good : (r : Rig) → Made r → Good r
good r m =
    subst Good (sym m.is)
    (record {
      next = (run_laws.bounds m.by).next;
      latch = (run_laws.bounds m.by).latch;
      long = (run_laws.bounds m.by).edbs;
      free = (run_laws.bounds m.by).free;
      widths = run_laws.widths m.by;
    })

pub record Inv (w : World) : Type 0 where
  pub made : Made w.rig
  pub linked : Linked w.rig w.past
  pub half : w.desk.half ≡ half_of w.past
  pub shown : (k : ℕ) → k < items → shows w.desk k ≡ shown_of k w.past

-- the desk that bytes in a slot leave: a built frame is heard, fill is a miss, bytes of another length change nothing
abbrev desk_of : Received → Desk
desk_of a = a.desk

taken : (d : Desk) (r : Rig) → (slot_of d (next_frame r)).desk ≡ heard_of d (next_frame r)
taken d r = ap desk_of (desk-laws.built d (held_of r) r.sending.next (next_latch r))

fill_c0_lem : (d : Desk) → (slot_of d fill_c0).desk ≡ missed_of d
fill_c0_lem d = ap desk_of (desk-laws.fill_c0_lem d)

fill_ff_lem : (d : Desk) → (slot_of d fill_ff).desk ≡ missed_of d
fill_ff_lem d = ap desk_of (desk-laws.fill_ff_lem d)

torn_stays : (d : Desk) (f : List ℕ) → (length f ≡ 40 → ⊥) → (slot_of d f).desk ≡ d
torn_stays d f n = ap desk_of (desk-laws.refused d f n)

-- what a desk n shows after a slot that by itself shows f k of item k
slot_step : (f : ℕ → Shown) (d n : Desk) (h : List Slot) (s : Slot) → ((k : ℕ) → k < items → shows n k ≡ latest_of (f k) (shows d k))
    → ((k : ℕ) → k < items → shows d k ≡ shown_of k h) → ((k : ℕ) → k < items → f k ≡ brought k (s ∷ h))
    → (k : ℕ) → k < items → shows n k ≡ shown_of k (s ∷ h)
unfolding shown_of
slot_step f d n h s a e b k l = a k l ∙ rw (b k l, e k l)

-- an event that is no slot: the next frame and what is latched stay
quiet : (w : World) (r : Rig) → Inv w → Made r → r.sending ≡ w.rig.sending → Inv (record { rig = r; desk = w.desk; past = w.past })
quiet w r i g n =
    record {
      made = g;
      half = i.half;
      shown = i.shown;
      linked = λ j p m r0 q. ap (λ s. s.latch) n ∙ i.linked j p (sym (ap (λ s. s.next) n) ∙ m) r0 q;
    }

-- a power cut: the next frame is frame 0, which goes on with nothing
cut_off : (w : World) → Inv w → Inv (next proved w cut)
cut_off w i =
    record {
      made = made_more w.rig ran.cut i.made;
      half = i.half;
      shown = i.shown;
      linked = λ j p m r0 q. absurd (omega (arith, m));
    }

heard : (w : World) → Inv w
    → Inv (record { rig = sent w.rig; desk = heard_of w.desk (next_frame w.rig); past = whole w.rig ∷ w.past })
heard w i =
    let g : Good w.rig = good w.rig i.made in
    record {
      made = made_more w.rig ran.frame i.made;
      linked = linked_built w.rig w.past g i.linked;
      half = ap (λ (x : Half). half_after x (next_frame w.rig)) i.half ∙ half_step w.rig w.past g i.linked;
      shown =
          slot_step (reading_of w.desk.half (next_frame w.rig)) w.desk (heard_of w.desk (next_frame w.rig)) w.past (whole w.rig)
          (desk-laws.at_frame w.desk (next_frame w.rig)) i.shown
          (λ k l. ap (λ (x : Half). reading_of x (next_frame w.rig) k) i.half ∙ reads w.rig w.past g i.linked k l);
    }

-- a slot missed, whether a frame was built or not
unheard : (w : World) (r : Rig) → Inv w → Made r → Inv (record { rig = r; desk = missed_of w.desk; past = missed ∷ w.past })
unfolding brought
unheard w r i m =
    record {
      made = m;
      linked = linked_missed r w.past;
      half = refl;
      shown = slot_step nothing w.desk (missed_of w.desk) w.past missed (desk-laws.at_miss w.desk) i.shown (λ k l. refl);
    }

-- the same invariant, of the desk as a slot leaves it
left : (r : Rig) (h : List Slot) {a b : Desk} → a ≡ b → Inv (record { rig = r; desk = b; past = h }) → Inv (record { rig = r; desk = a; past = h })
left r h e i = subst (λ (d : Desk). Inv (record { rig = r; desk = d; past = h })) (sym e) i

-- a build with no room leaves the rig
no_room_lem : (r : Rig) (b : List ℕ) (at : ℕ) → length b < at + 40 → (built_of r b at).rig ≡ r
no_room_lem r b at h = simp (lt-ltb _ _ h)

step : (w : World) (e : Turn) → Inv w → Inv (next proved w e)
step w (word x h) i = quiet w (take_of w.rig x).rig i (made_more w.rig (ran.word x h) i.made) (reply_laws.apart w.rig x).sending
step w spin i = quiet w (spun_of w.rig) i (made_more w.rig ran.spin i.made) refl
step w (set s h) i = quiet w (set_of w.rig s) i (made_more w.rig (ran.set s h) i.made) (unfold set_of in refl)
step w cut i = cut_off w i
step w arrives i = left (sent w.rig) (whole w.rig ∷ w.past) (taken w.desk w.rig) (heard w i)
step w lost i = unheard w (sent w.rig) i (made_more w.rig ran.frame i.made)
step w lost_c0 i =
    left (sent w.rig) (missed ∷ w.past) (fill_c0_lem w.desk) (unheard w (sent w.rig) i (made_more w.rig ran.frame i.made))
step w lost_ff i =
    left (sent w.rig) (missed ∷ w.past) (fill_ff_lem w.desk) (unheard w (sent w.rig) i (made_more w.rig ran.frame i.made))
step w idle i = unheard w w.rig i i.made
step w idle_c0 i = left w.rig (missed ∷ w.past) (fill_c0_lem w.desk) (unheard w w.rig i i.made)
step w idle_ff i = left w.rig (missed ∷ w.past) (fill_ff_lem w.desk) (unheard w w.rig i i.made)
step w (no_room b at h) i =
    subst (λ (r : Rig). Inv (record { rig = r; desk = w.desk; past = w.past })) (sym (no_room_lem w.rig b at h)) i
step w (torn f h) i = left w.rig w.past (torn_stays w.desk f h) i

pub runs : (w : World) (es : List Turn) → Inv w → Inv (run proved w es)
unfolding run
runs w [] i = i
runs w (e ∷ es) i = runs (next proved w e) es (step w e i)

begin : Inv (start proved)
unfolding shown_of ran.rig_after
begin =
    record {
      made = record { by = []; is = refl };
      half = refl;
      linked = λ j p m r0 q. absurd (omega (arith, m));
      shown = λ k l. ap shown_by (get_or-replicate items k blank blank l);
    }

pub after : (es : List Turn) → Inv (run proved (start proved) es)
after es = runs (start proved) es begin

-- after any run of events the desk shows of each item what the history of slots says
pub desk_shows : (es : List Turn) (k : ℕ) → k < items → shows (run proved (start proved) es).desk k ≡ shown_of k (run proved (start proved) es).past
desk_shows es k l = (after es).shown k l
