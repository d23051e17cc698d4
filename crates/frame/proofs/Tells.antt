-- What a frame tells: the plain items that it carries, the latch at the frames of the spread numbers, and no more.
-- Assumes nothing.
use mathlib.Core.Path.{◌≡◌, refl, sym, ap, ◌∙◌}
use mathlib.Core.Bool.{Bool, true, false}
use mathlib.Core.List.{List}
use Prim.Native.Nat.{ℕ, ◌+◌, ◌*◌, ◌/◌, ◌%◌, ◌^◌, ◌<◌}
use native.Mathlib.Decide.{ℕ_discrete}
use native.Mathlib.Omega.{arith}
use lib.Dec.{eqb}
use lib.ListN.{get_or, replicate}
use borrow.Author.Tests.{ne_eqb, eqb-true, eqb-false}
use Rattle.base.specs.Pick.{pick}
use Rattle.frame.specs.declared.Held.{Held}
use Rattle.frame.specs.Shapes.{whole as whole_frame}
use Rattle.frame.specs.declared.Item.TheVariants.{Parallel, Multiplexer1, Multiplexer2, Multiplexer3, ErrorCode, DirectionStop, DirectionStart, EnergyStop, EnergyStart, LastInvalidCode, IelEnable, ReducedCounter, Bias, Relay, Ground, StopStepping, StopLimit, StopLevel, Flap1, Flap2, Flap3, IelClock, LastCheck, InvalidCount, HeadMask, StartStepping, StartLimit, StartLevel, DeflectionStepping, DeflectionLimit, DeflectionLevel}
use Rattle.frame.specs.Items.{row_of, held_at}
use Rattle.frame.specs.Write.{quarter_of, ground_at, mux_of, frame_of, latch_of}
use Rattle.frame.specs.Read.{period_of, phase_of, is_plain, carries, all_are, arrived_of}
use Rattle.frame.specs.Laws.{byte39, spreads}

-- a choice by a test is the same where it is the same in each arm that the test can take
pub pick_same : {A : Type 0} (b : Bool) {x y u v : A} → (b ≡ true → x ≡ y) → (b ≡ false → u ≡ v) → pick b x u ≡ pick b y v
pick_same true p q = p refl
pick_same false p q = q refl

module _ (h g : Held) (i l : ℕ) where
  -- they agree on each plain item that the frame of index i carries
  abbrev Agree : Type 0
  Agree = (k : ℕ) → is_plain k ≡ true → i % period_of k ≡ phase_of k → held_at h k ≡ held_at g k

  module _ (a : Agree) where
    quarter-same : quarter_of h (i % 4) ≡ quarter_of g (i % 4)
    unfolding quarter_of is_plain
    quarter-same =
        pick_same (eqb (i % 4) 0)
        (λ e. let q = eqb-true _ _ e in rw (a (row_of StopStepping) refl q, a (row_of StartStepping) refl q, a (row_of DeflectionStepping) refl q))
        (λ n. pick_same (eqb (i % 4) 1)
        (λ e. let q = eqb-true _ _ e in rw (a (row_of DeflectionLimit) refl q, a (row_of DeflectionLevel) refl q))
        (λ n. pick_same (eqb (i % 4) 2) (λ e. let q = eqb-true _ _ e in rw (a (row_of StopLimit) refl q, a (row_of StartLimit) refl q))
        (λ n. pick_same (eqb (i % 4) 3) (λ e. let q = eqb-true _ _ e in rw (a (row_of StopLevel) refl q, a (row_of StartLevel) refl q)) (λ n. refl))))

    ground-same : ground_at h (i % 8) ≡ ground_at g (i % 8)
    unfolding ground_at is_plain
    ground-same = pick_same (eqb (i % 8) 0) (λ e. a (row_of Ground) refl (eqb-true _ _ e)) (λ n. refl)

    mux_same : mux_of h l (i % 32) ≡ mux_of g l (i % 32)
    unfolding mux_of is_plain
    mux_same =
        pick_same (eqb (i % 32) 0) (λ e. refl)
        (λ n. pick_same (eqb (i % 32) 1) (λ e. refl)
        (λ n. pick_same (eqb (i % 32) 2) (λ e. refl)
        (λ n. pick_same (eqb (i % 32) 3) (λ e. refl)
        (λ n. pick_same (eqb (i % 32) 12)
        (λ e. let q = eqb-true _ _ e in rw (a (row_of Flap1) refl q, a (row_of Flap2) refl q, a (row_of Flap3) refl q, a (row_of IelClock) refl q))
        (λ n. pick_same (eqb (i % 32) 21) (λ e. a (row_of LastCheck) refl (eqb-true _ _ e))
        (λ n. pick_same (eqb (i % 32) 22) (λ e. a (row_of InvalidCount) refl (eqb-true _ _ e))
        (λ n. pick_same (eqb (i % 32) 27) (λ e. refl)
        (λ n. pick_same (eqb (i % 32) 28) (λ e. refl)
        (λ n. pick_same (eqb (i % 32) 31) (λ e. rw (a (row_of HeadMask) refl (eqb-true _ _ e))) (λ n. refl))))))))))

    pub tells-only : frame_of h i l ≡ frame_of g i l
    unfolding frame_of is_plain
    tells-only =
        let z : i % 1 ≡ 0 = omega arith in
        rw (
          quarter-same,
          ground-same,
          mux_same,
          a (row_of Parallel) refl z,
          a (row_of Multiplexer1) refl z,
          a (row_of Multiplexer2) refl z,
          a (row_of Multiplexer3) refl z,
          a (row_of ErrorCode) refl z,
          a (row_of DirectionStop) refl z,
          a (row_of DirectionStart) refl z,
          a (row_of EnergyStop) refl z,
          a (row_of EnergyStart) refl z,
          a (row_of LastInvalidCode) refl z,
          a (row_of IelEnable) refl z,
          a (row_of ReducedCounter) refl z,
          a (row_of Bias) refl z,
          a (row_of Relay) refl z,
        )

  pub hides : (k : ℕ) → ((j : ℕ) → (j ≡ k → ⊥) → held_at h j ≡ held_at g j) → carries k i ≡ false → frame_of h i l ≡ frame_of g i l
  hides k same off =
      tells-only
      (λ j b e.
      elim (ℕ_discrete j k) [
        | yes q ↦ absurd (eqb-false (i % period_of k) (phase_of k) off (sym (ap (λ (m : ℕ). i % period_of m) q) ∙ e ∙ ap phase_of q))
        | no q ↦ same j q
      ])

-- a number's bytes, high first, joined
pub join_32 : (n : ℕ) → n < 2 ^ 32 → ((n / 256 / 256 / 256 % 256 * 256 + n / 256 / 256 % 256) * 256 + n / 256 % 256) * 256 + n % 256 ≡ n
join_32 n h = omega arith

pub join_16 : (n : ℕ) → n < 2 ^ 16 → n / 256 % 256 * 256 + n % 256 ≡ n
join_16 n h = omega arith

pub long_is : (a b c d : Held) (m : ℕ) → a.long < 2 ^ 32 → (l₀ l₁ l₂ l₃ : ℕ)
    → l₀ ≡ latch_of a 0 m → l₁ ≡ latch_of b 1 l₀ → l₂ ≡ latch_of c 2 l₁ → l₃ ≡ latch_of d 3 l₂
    → ((byte39 (frame_of a 0 l₀) * 256 + byte39 (frame_of b 1 l₁)) * 256 + byte39 (frame_of c 2 l₂)) * 256 + byte39 (frame_of d 3 l₃) ≡ a.long
unfolding frame_of mux_of
long_is a b c d m h l₀ l₁ l₂ l₃ p q r s = rw (s, r, q, p) (join_32 a.long h)

pub free_is : (a b : Held) (m : ℕ) → a.free < 2 ^ 16 → (l₀ l₁ : ℕ) → l₀ ≡ latch_of a 27 m → l₁ ≡ latch_of b 28 l₀
    → byte39 (frame_of a 27 l₀) * 256 + byte39 (frame_of b 28 l₁) ≡ a.free
unfolding frame_of mux_of
free_is a b m h l₀ l₁ p q = rw (q, p) (join_16 a.free h)

module _ (h : Held) (i l : ℕ) where
  pub unlatched : (m : ℕ) → spreads (i % 32) ≡ false → frame_of h i l ≡ frame_of h i m
  unfolding frame_of mux_of
  unlatched m off =
      rw (
        ne_eqb (i % 32) 0 (not 0 refl),
        ne_eqb (i % 32) 1 (not 1 refl),
        ne_eqb (i % 32) 2 (not 2 refl),
        ne_eqb (i % 32) 3 (not 3 refl),
        ne_eqb (i % 32) 27 (not 27 refl),
        ne_eqb (i % 32) 28 (not 28 refl),
      )
    where
      not : (j : ℕ) → spreads j ≡ true → i % 32 ≡ j → ⊥
      not j on e = let z : true ≡ false = sym on ∙ sym (ap spreads e) ∙ off in let y : ◌≡◌ {A = ℕ} 0 1 = cc in omega arith

  pub stays : (i % 32 ≡ 0 → ⊥) → (i % 32 ≡ 27 → ⊥) → latch_of h i l ≡ l
  stays n m = rw (ne_eqb (i % 32) 0 n, ne_eqb (i % 32) 27 m)

  pub whole : arrived_of (frame_of h i l) ≡ whole_frame (i % 32) (byte39 (frame_of h i l))
  unfolding arrived_of frame_of all_are
  whole =
      let m : i % 32 % 32 ≡ i % 32 = omega arith in
      rw (ne_eqb (i % 32) 0xC0 (λ e. omega arith), ne_eqb (i % 32) 0xFF (λ e. omega arith), m)

  pub no_fill : (x : ℕ) → 0 < x → frame_of h i l ≡ replicate 40 x → ⊥
  unfolding frame_of
  no_fill x p e = let z : 0 ≡ x = ap (λ (f : List ℕ). get_or f 3 0) e in omega arith
