-- The kind of a word, by arithmetic and as the decoder has it; and what the decoder's helpers come to in the words of the laws.
-- Assumes nothing.
use Rattle.std.specs.Prelude.{Ok, Err, Option, Some, None}
use mathlib.Core.Path.{◌≡◌, refl, ap, sym, subst, ◌∙◌}
use mathlib.Core.Bool.{Bool, true, false, ◌&&◌}
use Prim.Native.Nat.{ℕ, ◌/◌, ◌≤◌}
use native.Mathlib.Omega.{arith}
use lib.Dec.{eqb, leb}
use borrow.Author.Tests.{eqb-true, eqb-false, ne_eqb, le-leb}
use Rattle.base.specs.Pick.{pick}
use Rattle.supply.specs.Shapes.{Change}
use Rattle.judge.specs.declared.Which.{Which}
use Rattle.judge.specs.Shapes.{Verdict}
use Rattle.judge.specs.Commands.{carried}
use Rattle.rig.specs.declared.Kind.{Kind}
use Rattle.rig.specs.declared.Kind.TheVariants.{Single, Head, Data, End}
use Rattle.rig.specs.declared.Pending.{Pending}
use Rattle.rig.specs.declared.Rig.{Rig}
use Rattle.rig.specs.Words.{high_of, kind_of, code_of, closes, settled_of, refused_of}
use Rattle.laws.specs.Results.{outcome, supplied}
use Rattle.laws.specs.Replies.{closing_of, closing}
use Rattle.laws.proofs.Tests.{by_test}

-- the number of a kind: all from 3 on are end words
abbrev pub IsKind : ℕ → Kind → Type 0
IsKind q Single = q ≡ 0
IsKind q Head = q ≡ 1
IsKind q Data = q ≡ 2
IsKind q End = 3 ≤ q

abbrev kind_by : ℕ → Kind
kind_by q = pick (eqb q 0) Single (pick (eqb q 1) Head (pick (eqb q 2) Data End))

is_kind : (q : ℕ) → IsKind q (kind_by q)
is_kind q =
    by_test (IsKind q) (eqb q 0) (λ e. eqb-true q 0 e) (λ a.
    by_test (IsKind q) (eqb q 1) (λ e. eqb-true q 1 e) (λ b.
    by_test (IsKind q) (eqb q 2) (λ e. eqb-true q 2 e) (λ c.
    let x = eqb-false q 0 a in let y = eqb-false q 1 b in let z = eqb-false q 2 c in omega arith)))

by_number : (w : ℕ) → kind_of (high_of w) ≡ kind_by (w / 0x4000)
unfolding kind_of
by_number w = let e : high_of w / 64 ≡ w / 0x4000 = omega arith in ap kind_by e

-- a word of that kind
pub kind_of_lem : (w : ℕ) (k : Kind) → kind_of (high_of w) ≡ k → IsKind (w / 0x4000) k
kind_of_lem w k e = rw (sym e ∙ by_number w) (is_kind (w / 0x4000))

pub of_kind : (w : ℕ) (k : Kind) → IsKind (w / 0x4000) k → kind_of (high_of w) ≡ k
of_kind w Single h = by_number w ∙ simp h
of_kind w Head h = by_number w ∙ simp h
of_kind w Data h = by_number w ∙ simp h
of_kind w End h =
    let a : w / 0x4000 ≡ 0 → ⊥ = λ e. omega arith in
    let b : w / 0x4000 ≡ 1 → ⊥ = λ e. omega arith in
    let c : w / 0x4000 ≡ 2 → ⊥ = λ e. omega arith in
    by_number w ∙ simp (ne_eqb _ _ a, ne_eqb _ _ b, ne_eqb _ _ c)

-- of a single the high byte is the code
pub single_code : (high : ℕ) → kind_of high ≡ Single → code_of high ≡ high
unfolding kind_of
single_code high e = let z = subst (IsKind (high / 64)) e (is_kind (high / 64)) in omega arith

-- is it an end word, a head, a data word?
abbrev pub is_end : Kind → Bool
is_end Single = false
is_end Head = false
is_end Data = false
is_end End = true

abbrev pub is_head : Kind → Bool
is_head Single = false
is_head Head = true
is_head Data = false
is_head End = false

abbrev pub is_data : Kind → Bool
is_data Single = false
is_data Head = false
is_data Data = true
is_data End = false

-- what holds of every kind that a word can be of, holds of its kind
by_kind : (w : ℕ) (P : Kind → Type 0) → ((k : Kind) → IsKind (w / 0x4000) k → P k) → P (kind_of (high_of w))
by_kind w P f = f (kind_of (high_of w)) (kind_of_lem w (kind_of (high_of w)) refl)

pub end_test : (w : ℕ) → leb 3 (w / 0x4000) ≡ is_end (kind_of (high_of w))
end_test w = by_kind w (λ k. leb 3 (w / 0x4000) ≡ is_end k) goes
  where
    goes : (k : Kind) → IsKind (w / 0x4000) k → leb 3 (w / 0x4000) ≡ is_end k
    goes Single e = rw e
    goes Head e = rw e
    goes Data e = rw e
    goes End h = le-leb 3 (w / 0x4000) h

pub head_test : (w : ℕ) → eqb (w / 0x4000) 1 ≡ is_head (kind_of (high_of w))
head_test w = by_kind w (λ k. eqb (w / 0x4000) 1 ≡ is_head k) goes
  where
    goes : (k : Kind) → IsKind (w / 0x4000) k → eqb (w / 0x4000) 1 ≡ is_head k
    goes Single e = rw e
    goes Head e = rw e
    goes Data e = rw e
    goes End h = ne_eqb _ _ (λ (e : w / 0x4000 ≡ 1). omega arith)

pub data_test : (w : ℕ) → eqb (w / 0x4000) 2 ≡ is_data (kind_of (high_of w))
data_test w = by_kind w (λ k. eqb (w / 0x4000) 2 ≡ is_data k) goes
  where
    goes : (k : Kind) → IsKind (w / 0x4000) k → eqb (w / 0x4000) 2 ≡ is_data k
    goes Single e = rw e
    goes Head e = rw e
    goes Data e = rw e
    goes End h = ne_eqb _ _ (λ (e : w / 0x4000 ≡ 2). omega arith)

-- whether the word closes the pending block, as the decoder has it
abbrev pub closes_as : Option Pending → Kind → ℕ → Bool
closes_as None k high = false
closes_as (Some p) k high = is_end k && closes p high

abbrev pub closes_it : Rig → ℕ → Bool
closes_it r w = closes_as r.pending (kind_of (high_of w)) (high_of w)

closing_as : (o : Option Pending) (w : ℕ) → closing_of o w ≡ closes_as o (kind_of (high_of w)) (high_of w)
closing_as None w = refl
closing_as (Some p) w = ap (λ (b : Bool). b && closes p (high_of w)) (end_test w)

pub closing_is : (r : Rig) (w : ℕ) → closing r w ≡ closes_it r w
closing_is r w = closing_as r.pending w

-- a verdict carried out, and the supply's answer
pub settled_is : (r : Rig) (high : ℕ) (v : Verdict) → settled_of r high v ≡ outcome r high v
unfolding settled_of refused_of
settled_is r high (Ok c) = refl
settled_is r high (Err why) = refl

pub supplied_is : (x : Which) (r : Rig) (high : ℕ) (ch : Change) → settled_of r high (carried r.core x ch) ≡ supplied r high x ch
unfolding settled_of refused_of carried
supplied_is x r high (Ok s) = refl
supplied_is x r high (Err why) = refl
