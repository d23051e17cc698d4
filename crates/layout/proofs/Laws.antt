-- A block by its first three bytes, which the proof of `layout_of` stands on.
-- Assumes nothing.
use Rattle.std.specs.Prelude.{Result, Ok, Err}
use mathlib.Core.Path.{◌≡◌, sym, ap, ◌∙◌}
use Prim.Native.Nat.{ℕ, ◌≤◌}
use borrow.Author.Tests.{le-ltb, eq-eqb, eqb-true}
use lib.Dec.{eqb}
use lib.ListN.{length, get_or}
use mathlib.Core.List.{List}
use Rattle.base.proofs.Cases.{split}
use Rattle.block.specs.declared.Refusal.{Refusal}
use Rattle.block.specs.declared.Refusal.TheVariants.{NoMarker}
use Rattle.block.specs.declared.Kind.{Kind}
use Rattle.block.specs.declared.Kind.TheVariants.{Nm, Bm1}
use Rattle.block.specs.Kinds.{marker_of}
use Rattle.block.specs.Layout.{marker, layout_of}
use Rattle.block.specs.Steps.{as_kind}
use Rattle.block.proofs.Laws.{marked, third}
use Rattle.layout.specs.Steps.{kind_by}

-- three bytes that are a kind's marker: the rest is that kind's own; and the first two of one with another third
module _ (b : List ℕ) (l : 3 ≤ length b) (e : get_or b 0 0 ≡ 0x14) (f : get_or b 1 0 ≡ 0x6F) where
  own : (k : Kind) → get_or b 2 0 ≡ marker_of k → layout_of b ≡ as_kind b k
  own k t = sym (marked b k (le-ltb _ _ l) (third b (eq-eqb _ _ e) (eq-eqb _ _ f) k t))

  pub begun : (k : Kind) → kind_by (get_or b 2 0) ≡ Ok k → layout_of b ≡ as_kind b k
  begun k t =
      let x = get_or b 2 0 in
      split (eqb x (marker_of Nm))
      (λ s. let u : ◌≡◌ {A = Result Kind Refusal} (Ok Nm) (Ok k) = simp s at t in let v : Nm ≡ k = cc in own k (eqb-true _ _ s ∙ ap marker_of v))
      (λ s. split (eqb x (marker_of Bm1))
      (λ m. let u : ◌≡◌ {A = Result Kind Refusal} (Ok Bm1) (Ok k) = simp (s, m) at t in let v : Bm1 ≡ k = cc in own k (eqb-true _ _ m ∙ ap marker_of v))
      (λ m. absurd (let u : ◌≡◌ {A = Result Kind Refusal} (Err NoMarker) (Ok k) = simp (s, m) at t in cc)))

  pub unknown : (r : Refusal) → kind_by (get_or b 2 0) ≡ Err r → layout_of b ≡ Err r
  unfolding layout_of marker
  unknown r t =
      let x = get_or b 2 0 in
      split (eqb x (marker_of Nm))
      (λ s. absurd (let u : ◌≡◌ {A = Result Kind Refusal} (Ok Nm) (Err r) = simp s at t in cc))
      (λ s. split (eqb x (marker_of Bm1))
      (λ m. absurd (let u : ◌≡◌ {A = Result Kind Refusal} (Ok Bm1) (Err r) = simp (s, m) at t in cc))
      (λ m. let u : ◌≡◌ {A = Result Kind Refusal} (Err NoMarker) (Err r) = simp (s, m) at t in let v : NoMarker ≡ r = cc in simp (le-ltb _ _ l, e, f, s, m) (ap Err v)))
