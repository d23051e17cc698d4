-- The laws of `wrote_of` and `written`: where there is no room, where there is, and from the part that is lent to the whole.
-- Assumes nothing.
use Rattle.std.specs.Prelude.{Ok, Err}
use mathlib.Core.Path.{◌≡◌, refl, sym, ap, ◌∙◌}
use mathlib.Core.List.{List, [], ◌++◌, append-nil}
use Prim.Native.Nat.{ℕ, ◌+◌, ◌-◌, ◌≤◌, ◌<◌}
use native.Mathlib.Nat.{le_of_eq}
use native.Mathlib.Decide.{dec_lt}
use native.Mathlib.Omega.{arith}
use borrow.Author.Tests.{lt-ltb, le-ltb}
use lib.ListN.{length, take, drop, length-drop, take-append-drop, drop_of_length-le}
use lib.Seq.{take_all, drop-drop}
use Rattle.frame.specs.declared.Held.{Held}
use Rattle.frame.specs.declared.Refusal.TheVariants.{NoRoom}
use Rattle.frame.specs.Write.{frame_of, wrote_of, written}

module _ (h : Held) (i l : ℕ) where
  pub frame_length : length (frame_of h i l) ≡ 40
  unfolding frame_of
  frame_length = refl

  pub short : (at : ℕ) (b : List ℕ) → length b < at + 40 → (wrote_of at b ≡ Err NoRoom) × (written h i l at b ≡ b)
  short at b n = simp (lt-ltb _ _ n) (refl, refl)

  pub room : (at : ℕ) (b : List ℕ) → at + 40 ≤ length b
      → (wrote_of at b ≡ (Ok tt)) × (written h i l at b ≡ take at b ++ (frame_of h i l ++ drop (at + 40) b))
  room at b n = simp (le-ltb _ _ n) (refl, refl)

  -- the writer's answer and bytes at the part from `at` on are those of the whole
  module _ (at : ℕ) (b : List ℕ) (in_it : at ≤ length b) where
    part-is : take (length b - at) (drop at b) ≡ drop at b
    part-is = take_all (length b - at) (drop at b) (le_of_eq (length-drop at b))

    rest-is : drop (length b - at) (drop at b) ≡ []
    rest-is = drop_of_length-le (drop at b) (le_of_eq (length-drop at b))

    go : Dec (length b < at + 40)
        → (wrote_of 0 (drop at b) ≡ wrote_of at b) × (take at b ++ (written h i l 0 (drop at b) ++ []) ≡ written h i l at b)
    go (yes n) =
        let p = short 0 (drop at b) (simp length-drop (omega arith)) in
        let w = short at b n in
        (p.0 ∙ sym w.0, rw append-nil (ap (λ (x : List ℕ). take at b ++ x) p.1 ∙ take-append-drop at b ∙ sym w.1))
    go (no n) =
        let p = room 0 (drop at b) (simp length-drop (omega arith)) in
        let w = room at b (omega arith) in (
          p.0 ∙ sym w.0,
          rw append-nil (ap (λ (x : List ℕ). take at b ++ x) (p.1 ∙ ap (λ (x : List ℕ). frame_of h i l ++ x) (drop-drop 40 at b)) ∙ sym w.1),
        )

    pub placed : (wrote_of 0 (take (length b - at) (drop at b)) ≡ wrote_of at b)
        × (take at b ++ (written h i l 0 (take (length b - at) (drop at b)) ++ drop (length b - at) (drop at b)) ≡ written h i l at b)
    placed = rw (part-is, rest-is) (go (dec_lt (length b) (at + 40)))
