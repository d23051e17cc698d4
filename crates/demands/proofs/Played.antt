-- Each step of a run is what the functions of `bench`, `slots`, `passing` and `losing` do: from their contracts, and what a buffer with room holds once a frame is built.
-- Assumes nothing.
use Rattle.std.specs.Prelude.{Ok, Err}
use mathlib.Core.Path.{◌≡◌, refl, ◌∙◌, ap, sym}
use mathlib.Core.List.{List, []}
use Prim.Native.Nat.{ℕ, ◌+◌, ◌≤◌, ◌<◌}
use lib.ListN.{length, take, drop}
use borrow.Author.Tests.{lt-ltb}
use Rattle.frame.specs.Shapes.{Wrote}
use Rattle.frame.specs.Items.{numbered}
use Rattle.frame.specs.Write.{wrote_of}
use Rattle.frame.proofs.Place.{room, short}
use Rattle.desk.specs.declared.Answer.{Answer}
use Rattle.desk.specs.declared.Answer.TheVariants.{Heard, Missed}
use Rattle.desk.specs.Desk.{slot_of, missed_of}
use Rattle.desk.specs.declared.Received.{Received}
use Rattle.desk.proofs.Laws.{laws as desk-laws}
use Rattle.rig.specs.declared.Rig.{Rig}
use Rattle.sending.specs.Sending.{held_of, next_latch, filled_of, next_frame, sent}
use Rattle.bench.specs.declared.Bench.{Bench}
use Rattle.bench.specs.declared.Worded.{Worded}
use Rattle.slots.specs.declared.Sent.{Sent}
use Rattle.slots.specs.declared.Handed.{Handed}
use Rattle.slots.specs.declared.Passed.{Passed}
use Rattle.slots.specs.Slots.{built_bench, handed_of, passed_if}
use Rattle.slots.proofs.Place.{stands}
use Rattle.demands.specs.Outfit.{proved}
use Rattle.demands.specs.Queue.{Line, marked, C0, FF, built, came, gone, arrive, lose}
use Rattle.demands.specs.Played.{bench_at, then, Written, WrittenOn, NoRoom, NoSlot, PlayedAlone, PlayedSlots}

-- a buffer with room is written; one without is refused
writes : (r : Rig) (s : List ℕ) (at : ℕ) → at + 40 ≤ length s → wrote_of at s ≡ Ok tt
writes r s at h = (room (held_of r) 0 0 at s h).0

no_room_lem : (s : List ℕ) (at : ℕ) → length s < at + 40 → ◌≡◌ {A = Wrote} (wrote_of at s) (Err (numbered 18))
no_room_lem s at h = simp (lt-ltb _ _ h)

abbrev sent_bench : Sent → Bench
sent_bench t = t.bench

abbrev passed_bench : Passed → Bench
passed_bench t = t.bench

abbrev handed_bench : Handed → Bench
handed_bench t = t.bench

pub played_alone : PlayedAlone
played_alone =
    record {
      fresh = λ b m. m;
      words = λ l x h t m. (ap (λ (t : Worded). t.bench) m, ap (λ (t : Worded). t.reply) m);
      spins = λ l b m. m;
      sets = λ l s h b m. m;
      cuts = λ l b m. m;
      asks_fresh = tt;
      asks_word = λ b x. tt;
      asks_spin = λ b. tt;
      asks_set = λ b s. tt;
      asks_cut = λ b. tt;
    }

-- what is built, at a buffer with room
built_bench_lem : (l : Line) (s : List ℕ) (at : ℕ) → at + 40 ≤ length s → (built_bench (bench_at l) s at).bench ≡ bench_at (then l built)
built_bench_lem l s at h = rw (writes l.rig s at h) refl

-- what is handed over, at the bench of a line
handed_at : (l : Line) (b : Bench) (f g : List ℕ) (t : Handed) → b ≡ bench_at l → f ≡ g → t ≡ handed_of b f → t ≡ handed_of (bench_at l) g
handed_at l b f g t p q m = m ∙ ap (λ (x : Bench). handed_of x f) p ∙ ap (handed_of (bench_at l)) q

-- the bytes that a build left at its place are the frame
left : (r q : Rig) (s e : List ℕ) (at : ℕ) → q ≡ r → at + 40 ≤ length s → e ≡ filled_of q s at → take 40 (drop at e) ≡ next_frame r
left r q s e at p h m = ap (λ (x : List ℕ). take 40 (drop at x)) (m ∙ ap (λ (x : Rig). filled_of x s at) p) ∙ stands r s at h

-- what a call that writes leaves, from its contract: the answer is `by` of bench, buffer and place
module _ (by : Bench → List ℕ → ℕ → Sent) (l : Line) (b : Bench) (s left : List ℕ) (at : ℕ) (t : Sent) (p : b ≡ bench_at l)
    (m : t ≡ by b s at) (n : left ≡ filled_of b.rig s at) where
  at_line : t ≡ by (bench_at l) s at
  at_line = m ∙ ap (λ (x : Bench). by x s at) p

  wrote_it : (k : Line) → at + 40 ≤ length s → (by (bench_at l) s at).wrote ≡ wrote_of at s → (by (bench_at l) s at).bench ≡ bench_at k → Written l k s at t left
  wrote_it k h u v = (
    ap sent_bench at_line ∙ v,
    ap (λ (x : Sent). x.wrote) at_line ∙ u ∙ writes l.rig s at h,
    n ∙ ap (λ (x : Bench). filled_of x.rig s at) p,
  )

  wrote_none : length s < at + 40 → (by (bench_at l) s at).wrote ≡ wrote_of at s → (by (bench_at l) s at).bench ≡ bench_at l → NoRoom l s t left
  wrote_none h u v = (
    ap sent_bench at_line ∙ v,
    ap (λ (x : Sent). x.wrote) at_line ∙ u ∙ no_room_lem s at h,
    n ∙ (short (held_of b.rig) b.rig.sending.next (next_latch b.rig) at s h).1,
  )

-- the same of a call that also passes the slot, of which the desk makes `slot`
module _ (slot : Bench → Received) (l : Line) (b : Bench) (s left : List ℕ) (at : ℕ) (t : Passed) (p : b ≡ bench_at l)
    (m : t ≡ passed_if (wrote_of at s) b (slot b)) (n : left ≡ filled_of b.rig s at) where
  on_line : t ≡ passed_if (wrote_of at s) (bench_at l) (slot (bench_at l))
  on_line = m ∙ ap (λ (x : Bench). passed_if (wrote_of at s) x (slot x)) p

  passed_on : (k : Line) (a : Answer) → at + 40 ≤ length s → (slot (bench_at l)).answer ≡ a
      → ◌≡◌ {A = Bench} (record { rig = sent l.rig; desk = (slot (bench_at l)).desk }) (bench_at k) → WrittenOn l k s at a t left
  passed_on k a h u v =
      let e : t ≡ passed_if (Ok tt) (bench_at l) (slot (bench_at l)) = on_line ∙ ap (λ (w : Wrote). passed_if w (bench_at l) (slot (bench_at l))) (writes l.rig s at h) in (
        ap passed_bench e ∙ v,
        ap (λ (x : Passed). x.outcome) e ∙ ap Ok u,
        n ∙ ap (λ (x : Bench). filled_of x.rig s at) p,
      )

  no_slot : length s < at + 40 → NoSlot l s t left
  no_slot h =
      let e : t ≡ passed_if (Err (numbered 18)) (bench_at l) (slot (bench_at l)) = on_line ∙ ap (λ (w : Wrote). passed_if w (bench_at l) (slot (bench_at l))) (no_room_lem s at h) in (
        ap passed_bench e,
        ap (λ (x : Passed). x.outcome) e,
        n ∙ (short (held_of b.rig) b.rig.sending.next (next_latch b.rig) at s h).1,
      )

-- what the desk makes of the rig's next frame, and of a miss
abbrev heard_slot : Bench → Received
heard_slot b = slot_of b.desk (next_frame b.rig)

abbrev missed_slot : Bench → Received
missed_slot b = record { answer = Missed; desk = missed_of b.desk }

-- with nothing on its way, the frame that is built is the one whose slot passes
arrived_line : (l : Line) → l.way ≡ [] → ◌≡◌ {A = Bench} (record { rig = sent l.rig; desk = (heard_slot (bench_at l)).desk }) (bench_at (then (then l built) came))
arrived_line l e = rw e refl

lost_line : (l : Line) → l.way ≡ [] → ◌≡◌ {A = Bench} (record { rig = sent l.rig; desk = (missed_slot (bench_at l)).desk }) (bench_at (then (then l built) (gone marked)))
lost_line l e = rw e refl

-- with no room the bench is as it was
built_none : (l : Line) (s : List ℕ) (at : ℕ) → length s < at + 40 → (built_bench (bench_at l) s at).bench ≡ bench_at l
built_none l s at h = rw (no_room_lem s at h) refl

pub played_slots : PlayedSlots
played_slots =
    record {
      builds = λ l κs a e t p h m.
          let s = a.1.0.now in
          let at = a.1.1.0 in
          wrote_it built_bench l a.0 s e.1.0.now at t p m.0 m.1 (then l built) h refl (built_bench_lem l s at h);
      room18 = λ l κs a e t p h m.
          let s = a.1.0.now in
          let at = a.1.1.0 in
          (ap sent_bench (m.0 ∙ ap (λ (b : Bench). built_bench b s at) p), wrote_none built_bench l a.0 s e.1.0.now at t p m.0 m.1 h refl (built_none l s at h));
      any = λ l f κs a e t p g m. let k = handed_at l a.0 a.1.0.now f t p g m in (ap handed_bench k, ap (λ (t : Handed). t.answer) k);
      hands = λ l r rs o κs a e q x h m κt b f t p g n.
          let k = handed_at l b.0 b.1.0.now (next_frame r) t p (g ∙ left r a.0.rig a.1.0.now e.1.0.now a.1.1.0 x h m.1) n in (
            ap handed_bench k ∙ sym (ap (λ (x : List Rig). bench_at (arrive proved l x)) o),
            ap (λ (t : Handed). t.answer) k ∙ ap (λ (t : Received). t.answer) (desk-laws.built l.desk (held_of r) r.sending.next (next_latch r)),
          );
      misses = λ l r rs o b m. m ∙ sym (ap (λ (x : List Rig). bench_at (lose proved l marked x)) o);
      fills_c0 = λ l r rs o κs a e t p g m.
          let k = handed_at l a.0 a.1.0.now _ t p g m in (
            ap handed_bench k ∙ sym (ap (λ (x : List Rig). bench_at (lose proved l C0 x)) o),
            ap (λ (t : Handed). t.answer) k ∙ ap (λ (t : Received). t.answer) (desk-laws.fill_c0_lem l.desk),
          );
      fills_ff = λ l r rs o κs a e t p g m.
          let k = handed_at l a.0 a.1.0.now _ t p g m in (
            ap handed_bench k ∙ sym (ap (λ (x : List Rig). bench_at (lose proved l FF x)) o),
            ap (λ (t : Handed). t.answer) k ∙ ap (λ (t : Received). t.answer) (desk-laws.fill_ff_lem l.desk),
          );
      idles = λ l b m. m;
      idles_c0 = λ l κs a e t p g m.
          let k = handed_at l a.0 a.1.0.now _ t p g m in
          (ap handed_bench k, ap (λ (t : Handed). t.answer) k ∙ ap (λ (t : Received). t.answer) (desk-laws.fill_c0_lem l.desk));
      idles_ff = λ l κs a e t p g m.
          let k = handed_at l a.0 a.1.0.now _ t p g m in
          (ap handed_bench k, ap (λ (t : Handed). t.answer) k ∙ ap (λ (t : Received). t.answer) (desk-laws.fill_ff_lem l.desk));
      frame17 = λ l f n κs a e t p g m.
          let k = handed_at l a.0 a.1.0.now f t p g m in
          (ap handed_bench k, ap (λ (t : Handed). t.answer) k ∙ ap (λ (t : Received). t.answer) (desk-laws.refused l.desk f n));
      whole = λ l o κs a e t p h m.
          passed_on heard_slot l a.0 a.1.0.now e.1.0.now a.1.1.0 t p m.0 m.1 (then (then l built) came) Heard h
          (ap (λ (t : Received). t.answer) (desk-laws.built l.desk (held_of l.rig) l.rig.sending.next (next_latch l.rig))) (arrived_line l o);
      lost = λ l o κs a e t p h m.
          passed_on missed_slot l a.0 a.1.0.now e.1.0.now a.1.1.0 t p m.0 m.1 (then (then l built) (gone marked)) Missed h refl
          (lost_line l o);
      whole18 = λ l κs a e t p h m. no_slot heard_slot l a.0 a.1.0.now e.1.0.now a.1.1.0 t p m.0 m.1 h;
      lost18 = λ l κs a e t p h m. no_slot missed_slot l a.0 a.1.0.now e.1.0.now a.1.1.0 t p m.0 m.1 h;
      asks_build = λ κs a. tt;
      asks_hand = λ κs a. tt;
      asks_miss = λ b. tt;
      asks_arrives = λ κs a. tt;
      asks_lost = λ κs a. tt;
    }
