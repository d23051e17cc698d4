-- Where the frame stands in the caller's buffer once it is built.
-- Assumes nothing.
use Rattle.std.specs.Prelude.{Ok}
use mathlib.Core.Path.{◌≡◌, ap, ◌∙◌}
use mathlib.Core.List.{List, ◌++◌}
use Prim.Native.Nat.{ℕ, ◌+◌, ◌-◌, ◌≤◌}
use native.Mathlib.Omega.{arith}
use lib.Dec.{ltb}
use lib.ListN.{length, take, drop}
use lib.Seq.{length-take-le, drop_at, take_at}
use borrow.Author.Tests.{ltb-false}
use Rattle.base.proofs.Cases.{split}
use Rattle.frame.specs.Shapes.{Wrote}
use Rattle.frame.specs.Write.{wrote_of, frame_of}
use Rattle.frame.proofs.Place.{frame_length, room}
use Rattle.rig.specs.declared.Rig.{Rig}
use Rattle.sending.specs.Sending.{held_of, next_latch, next_frame, sent_with, filled_of}
use Rattle.desk.specs.declared.Desk.{Desk}
use Rattle.desk.specs.declared.Received.{Received}
use Rattle.bench.specs.declared.Bench.{Bench}
use Rattle.bench.specs.Bench.{with_rig, with_desk}
use Rattle.slots.specs.declared.Passed.{Passed}
use Rattle.slots.specs.Slots.{built_bench, passed_if, passed_by}

-- the 40 bytes from the named place on are the frame
pub stands : (r : Rig) (s : List ℕ) (at : ℕ) → at + 40 ≤ length s → take 40 (drop at (filled_of r s at)) ≡ next_frame r
stands r s at h =
    let i = r.sending.next in
    let l = next_latch r in
    ap (λ (x : List ℕ). take 40 (drop at x)) (room (held_of r) i l at s h).1
    ∙ ap (take 40) (drop_at (take at s) (frame_of (held_of r) i l ++ drop (at + 40) s) at (length-take-le at s (omega arith)))
    ∙ take_at (frame_of (held_of r) i l) (drop (at + 40) s) 40 (frame_length (held_of r) i l)

-- a frame that was written had room
had_room : (at : ℕ) (s : List ℕ) → wrote_of at s ≡ Ok tt → at + 40 ≤ length s
had_room at s e =
    split (ltb (length s) (at + 40))
    (λ t. let z : ◌≡◌ {A = ℕ} 0 1 = cc (simp t at e) in absurd (omega arith))
    (λ f. ltb-false _ _ f)

-- the bytes from the named place to its end
part : (s : List ℕ) (at : ℕ) → take (at + 40 - at) (drop at s) ≡ take 40 (drop at s)
part s at = let e : at + 40 - at ≡ 40 = omega arith in rw e

-- the bench once the frame is written, and the desk has made t of its slot
passed : (x : Wrote) (b : Bench) (t : Received) → x ≡ Ok tt
    → ◌≡◌ {A = Passed} (record { bench = with_desk (with_rig b (sent_with x b.rig (next_latch b.rig))) t.desk; outcome = Ok t.answer }) (passed_if x b t)
passed x b t e = rw e

abbrev on_from : (Desk → List ℕ → Received) → Bench → List ℕ → ℕ → List ℕ → Passed
on_from made b s at x =
    record { bench = with_desk (built_bench b s at).bench (made b.desk x).desk; outcome = Ok (made b.desk x).answer }

-- a frame built, of whose bytes in the buffer the desk makes what it makes of the frame
pub passed_on : (made : Desk → List ℕ → Received) (b : Bench) (s : List ℕ) (at : ℕ) → wrote_of at s ≡ Ok tt
    → on_from made b s at (take (at + 40 - at) (drop at (filled_of b.rig s at))) ≡ passed_by made b s at
passed_on made b s at e =
    let f : take (at + 40 - at) (drop at (filled_of b.rig s at)) ≡ next_frame b.rig =
    part (filled_of b.rig s at) at ∙ stands b.rig s at (had_room at s e) in
    ap (λ (x : List ℕ). on_from made b s at x) f ∙ passed (wrote_of at s) b (made b.desk (next_frame b.rig)) e
