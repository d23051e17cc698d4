-- The tests of `block` and `event` give 01's numbers in 01's order: by the marker, and by bit 2 of descriptor 1.
-- Assumes nothing.
use mathlib.Core.Path.{◌≡◌, refl, ◌∙◌}
use mathlib.Core.Bool.{Bool, true, false, not, ◌&&◌}
use mathlib.Core.List.{List, [], ◌∷◌}
use Prim.Native.Nat.{ℕ}
use lib.Dec.{T, ltb}
use lib.ListN.{length}
use Rattle.base.proofs.Cases.{split}
use Rattle.block.specs.declared.Kind.TheVariants.{Nm, Bm1}
use Rattle.block.specs.declared.Part.{Part}
use Rattle.block.specs.declared.Part.TheVariants.{Sgl0, EPad}
use Rattle.block.specs.Refusals.{first_of}
use Rattle.block.specs.Tables.{among, has}
use Rattle.block.specs.Layout.{marker, kind_of, bit}
use Rattle.block.specs.Order.{number_in, part_tests}
use Rattle.block.specs.Parts.{locate_of}
use Rattle.block.proofs.Laws.{every_part}
use Rattle.block.proofs.Order.{order}
use Rattle.event.specs.Event.{direct_tests, direct_of}
use Rattle.event.specs.Ifft.{ifft_tests, wrong, event_of, item_of}
use Rattle.event.specs.Order.{event_number, item_number}
use Rattle.event.proofs.Order.{direct_order, event_order, item_order}
use Rattle.demands.specs.Orders.{first_in, nm, bm1, d1, of_part, of_event, of_ifft}

-- two tests that come out alike
abbrev alike : Bool → Bool → Bool
alike true b = b
alike false b = not b

alike_same : (a b : Bool) → T (alike a b) → a ≡ b
alike_same true true t = refl
alike_same true false t = absurd t
alike_same false true t = absurd t
alike_same false false t = refl

nm_has : (p : Part) → has Nm p ≡ true
nm_has p = alike_same (has Nm p) true (every_part (λ q. alike (has Nm q) true) tt p)

bm1_has : (p : Part) → has Bm1 p ≡ not (among p (Sgl0 ∷ EPad ∷ []))
bm1_has p = alike_same _ _ (every_part (λ q. alike (has Bm1 q) (not (among q (Sgl0 ∷ EPad ∷ [])))) tt p)

not_not : (b : Bool) → not (not b) ≡ b
not_not true = refl
not_not false = refl

and_true : (b : Bool) → b && true ≡ b
and_true true = refl
and_true false = refl

module _ (b : List ℕ) where
  -- a goal by what the tests ask: under 3 bytes, the marker, a memory dump
  by_block : {P : Type 0} → (ltb (length b) 3 ≡ true → P)
      → ((d : Bool) → ltb (length b) 3 ≡ false → nm b ≡ true → bit (d1 b) 2 ≡ d → P)
      → ((d : Bool) → ltb (length b) 3 ≡ false → nm b ≡ false → bm1 b ≡ true → bit (d1 b) 2 ≡ d → P)
      → (ltb (length b) 3 ≡ false → nm b ≡ false → bm1 b ≡ false → P) → P
  by_block short is_nm isBm1 none =
      split (ltb (length b) 3) short
      (λ s. split (nm b) (λ n. is_nm (bit (d1 b) 2) s n refl) (λ n. split (bm1 b) (λ m. isBm1 (bit (d1 b) 2) s n m refl) (none s n)))

  part_numbers : (p : Part) → first_of (part_tests b p) ≡ first_in (of_part b p)
  unfolding kind_of
  part_numbers p =
      by_block (λ s. rw s) nm-case (λ d s n m e. bm1-case d s n m e) (λ s n m. rw (s, n, m))
    where
      nm-case : (d : Bool) → ltb (length b) 3 ≡ false → nm b ≡ true → bit (d1 b) 2 ≡ d → first_of (part_tests b p) ≡ first_in (of_part b p)
      nm-case true s n e = rw (s, n, e, nm_has p)
      nm-case false s n e = rw (s, n, e, nm_has p)

      bm1-case : (d : Bool) → ltb (length b) 3 ≡ false → nm b ≡ false → bm1 b ≡ true → bit (d1 b) 2 ≡ d → first_of (part_tests b p) ≡ first_in (of_part b p)
      bm1-case true s n m e = rw (s, n, m, e, bm1_has p, not_not (among p (Sgl0 ∷ EPad ∷ [])))
      bm1-case false s n m e = rw (s, n, m, e, and_true (marker b 0x475 0x54 0xE1 0xE1), bm1_has p, not_not (among p (Sgl0 ∷ EPad ∷ [])))

  event_numbers : (n : ℕ) → first_of (direct_tests b n) ≡ first_in (of_event b n)
  unfolding kind_of
  event_numbers k =
      by_block (λ s. rw s) nm-case bm1-case (λ s n m. rw (s, n, m))
    where
      nm-case : (d : Bool) → ltb (length b) 3 ≡ false → nm b ≡ true → bit (d1 b) 2 ≡ d → first_of (direct_tests b k) ≡ first_in (of_event b k)
      nm-case true s n e = rw (s, n, e)
      nm-case false s n e = rw (s, n, e)

      bm1-case : (d : Bool) → ltb (length b) 3 ≡ false → nm b ≡ false → bm1 b ≡ true → bit (d1 b) 2 ≡ d → first_of (direct_tests b k) ≡ first_in (of_event b k)
      bm1-case true s n m e = rw (s, n, m, e)
      bm1-case false s n m e = rw (s, n, m, e, and_true (marker b 0x475 0x54 0xE1 0xE1))

  ifft_numbers : (n from most : ℕ) → first_of (ifft_tests b n from most) ≡ first_in (of_ifft b n from most)
  unfolding kind_of wrong
  ifft_numbers k from most =
      by_block (λ s. rw s) nm-case bm1-case (λ s n m. rw (s, n, m))
    where
      nm-case : (d : Bool) → ltb (length b) 3 ≡ false → nm b ≡ true → bit (d1 b) 2 ≡ d → first_of (ifft_tests b k from most) ≡ first_in (of_ifft b k from most)
      nm-case true s n e = rw (s, n, e)
      nm-case false s n e = rw (s, n, e)

      bm1-case : (d : Bool) → ltb (length b) 3 ≡ false → nm b ≡ false → bm1 b ≡ true → bit (d1 b) 2 ≡ d
          → first_of (ifft_tests b k from most) ≡ first_in (of_ifft b k from most)
      bm1-case true s n m e = rw (s, n, m, e)
      bm1-case false s n m e = rw (s, n, m, e, and_true (marker b 0x475 0x54 0xE1 0xE1))

  pub part_order : (p : Part) → number_in (locate_of b p) ≡ first_in (of_part b p)
  part_order p = order b p ∙ part_numbers p

  pub event_order_01 : (n : ℕ) → event_number (direct_of b n) ≡ first_in (of_event b n)
  event_order_01 n = direct_order b n ∙ event_numbers n

  pub ifft_event_order : (n : ℕ) → event_number (event_of b n) ≡ first_in (of_ifft b n 5 85)
  ifft_event_order n = event_order b n ∙ ifft_numbers n 5 85

  pub ifft_item_order : (n : ℕ) → item_number (item_of b n) ≡ first_in (of_ifft b n 6 64)
  ifft_item_order n = item_order b n ∙ ifft_numbers n 6 64
