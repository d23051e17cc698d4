-- What `arrived_of` says of the bytes where it says that a frame came whole, and when it says so.
-- Assumes nothing.
use Rattle.std.specs.Prelude.{Ok, Err}
use mathlib.Core.Path.{◌≡◌, refl, ap, sym, ◌∙◌}
use mathlib.Core.Bool.{Bool, true, false, true≢false}
use mathlib.Core.List.{List, [], ◌∷◌}
use Prim.Native.Nat.{ℕ}
use native.Mathlib.Omega.{arith}
use lib.Dec.{eqb}
use lib.ListN.{length, get_or, replicate}
use borrow.Author.Tests.{eqb-true, eq-eqb}
use Rattle.base.specs.Pick.{pick}
use Rattle.base.proofs.Cases.{split}
use Rattle.frame.specs.declared.Turn.{Turn}
use Rattle.frame.specs.declared.Arrived.TheVariants.{Whole, FillC0, FillFF}
use Rattle.frame.specs.Shapes.{whole}
use Rattle.frame.specs.Items.{numbered}
use Rattle.frame.specs.Read.{index_of, turn_of, all_are, arrived_of}

-- 40 bytes, and their turn
pub record Came (f : List ℕ) (t : Turn) : Type 0 where
  pub forty : length f ≡ 40
  pub turn : t ≡ turn_of f

by_tests : (f : List ℕ) (t : Turn) (n c d : Bool) → eqb (length f) 40 ≡ n
    → pick n (pick c (Ok FillC0) (pick d (Ok FillFF) (Ok (Whole (turn_of f))))) (Err (numbered 17)) ≡ Ok (Whole t)
    → Came f t
by_tests f t false c d l e = let z : ◌≡◌ {A = ℕ} 0 1 = cc in absurd (omega arith)
by_tests f t true true d l e = let z : ◌≡◌ {A = ℕ} 0 1 = cc in absurd (omega arith)
by_tests f t true false true l e = let z : ◌≡◌ {A = ℕ} 0 1 = cc in absurd (omega arith)
by_tests f t true false false l e =
    let p : t ≡ turn_of f = cc in
    record { forty = eqb-true _ _ l; turn = p }

pub came_whole : (f : List ℕ) (t : Turn) → arrived_of f ≡ Ok (Whole t) → Came f t
unfolding arrived_of
came_whole f t e = by_tests f t (eqb (length f) 40) (all_are 0xC0 f) (all_are 0xFF f) refl e

-- bytes that are all x are that many x
all_alike : (x : ℕ) (f : List ℕ) → all_are x f ≡ true → f ≡ replicate (length f) x
unfolding all_are
all_alike x [] e = refl
all_alike x (y ∷ f) e =
    split (eqb y x)
    (λ t. let q : y ≡ x = eqb-true y x t in rw q (ap (x ∷◌) (all_alike x f (sym (ap (λ (b : Bool). pick b (all_are x f) false) t) ∙ e))))
    (λ t. absurd (true≢false (sym e ∙ ap (λ (b : Bool). pick b (all_are x f) false) t)))

-- 40 bytes that are not 40 times x are not all x
not_all : (x : ℕ) (f : List ℕ) → length f ≡ 40 → (f ≡ replicate 40 x → ⊥) → all_are x f ≡ false
not_all x f l n = split (all_are x f) (λ t. absurd (n (all_alike x f t ∙ ap (λ (k : ℕ). replicate k x) l))) (λ t. t)

pub no_other : (f : List ℕ) → length f ≡ 40 → (f ≡ replicate 40 0xC0 → ⊥) → (f ≡ replicate 40 0xFF → ⊥) → arrived_of f ≡ whole (index_of f) (get_or f 39 0)
unfolding arrived_of
no_other f l a b = rw (eq-eqb (length f) 40 l, not_all 0xC0 f l a, not_all 0xFF f l b)
