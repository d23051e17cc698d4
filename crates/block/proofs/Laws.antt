-- What the proofs of `layout`, `locating` and `event` stand on: a law of tests in order; a row of G's tables has a length exactly where its kind
-- has the part; and a part that is located is not empty and lies in its block. Assumes nothing.
use Rattle.std.specs.Prelude.{Result, Ok, Err}
use mathlib.Core.Path.{◌≡◌, refl, sym, ap, subst, ◌∙◌}
use mathlib.Core.Bool.{Bool, true, false, not}
use mathlib.Core.List.{List, [], ◌∷◌}
use Prim.Native.Nat.{ℕ, zero, suc, ◌+◌, ◌≤◌, ◌<◌}
use native.Mathlib.Omega.{arith}
use borrow.Author.Tests.{eqb-true, eq-eqb, le-leb}
use lib.Dec.{T, eqb, ltb, leb, leb→le, ltb→lt}
use lib.ListN.{length, get_or, length-take, length-drop}
use Rattle.base.proofs.Cases.{split}
use Rattle.base.proofs.Table.{both, both_left, both_right}
use Rattle.base.specs.Pick.{pick}
use Rattle.block.specs.declared.Refusal.{Refusal}
use Rattle.block.specs.declared.Refusal.TheVariants.{NoMarker}
use Rattle.block.specs.declared.Kind.{Kind}
use Rattle.block.specs.declared.Kind.TheVariants.{Nm, Bm1}
use Rattle.block.specs.declared.Layout.{Layout}
use Rattle.block.specs.declared.Place.{Place}
use Rattle.block.specs.Shapes.{Found, at_place, laid_out}
use Rattle.block.specs.declared.Part.{Part}
use Rattle.block.specs.declared.Part.TheVariants.{Marker, Index, Descriptor1, Calibration, MSigns, Sgl0, DirectEvents, HSpct, ISpct, Sgl1, Sgl2, Sgl3, IPad, I3dd, Mtrx, Descriptor2, EPad, E3dd, M}
use Rattle.block.specs.Refusals.{Tests, unless}
use Rattle.block.specs.Kinds.{kinds, length_of, marker_of, second_at}
use Rattle.block.specs.Tables.{parts, row_of, has, row_in}
use Rattle.block.specs.Layout.{marker, known, inner, kind_of, first, dumped, second, block_tests, layout_of}
use Rattle.block.specs.Parts.{hidden, place_tests, place_of, locate_of, part_of}
use Rattle.block.specs.Steps.{as_kind, place_in}

-- what is made of an answer is made of it after the same tests
pub through : {A B : Type 0} (f : A → B) (refused : Refusal → A) (ts : Tests) (a : A) → f (unless refused ts a) ≡ unless (λ (r : Refusal). f (refused r)) ts (f a)
through f refused [] a = refl
through f refused (t ∷ ts) a = split t.0 (λ e. simp e) (λ e. simp e (through f refused ts a))

-- an answer that is no refusal has passed every test
abbrev pub Passed : Tests → Type 0
Passed [] = Unit {0}
Passed (t ∷ ts) = (t.0 ≡ false) × Passed ts

pub passed : {A : Type 0} (refused : Refusal → A) (ts : Tests) (a x : A) → ((r : Refusal) → refused r ≡ x → ⊥) → unless refused ts a ≡ x → Passed ts × (a ≡ x)
passed refused [] a x none e = (tt, e)
passed refused (t ∷ ts) a x none e =
    split t.0 (λ s. absurd (none t.1 (simp s at e)))
    (λ s. let p = passed refused ts a x none (simp s at e) in ((s, p.0), p.1))

never : true ≡ false → ⊥
never e = let z : ◌≡◌ {A = ℕ} 0 1 = cc in omega arith

holds : (x : Bool) → not x ≡ false → x ≡ true
holds true e = refl
holds false e = absurd (never e)

-- what two equal answers hold is equal
same_ok : {A : Type 0} → {x y : A} → ◌≡◌ {A = Result A Refusal} (Ok x) (Ok y) → x ≡ y
same_ok e = cc

-- what a layout tells of its block
pub no_layout : (k : Kind) (d1 d2 : ℕ) (r : Refusal) → Err r ≡ laid_out k d1 d2 → ⊥
no_layout k d1 d2 r e = let z : ◌≡◌ {A = ℕ} 0 1 = cc in omega arith

pub layout_is_lem : (b : List ℕ) (k : Kind) (d1 d2 : ℕ) → layout_of b ≡ laid_out k d1 d2 → (length b ≡ length_of k) × (kind_of b ≡ k) × (first b ≡ d1)
unfolding layout_of
layout_is_lem b k d1 d2 e =
    let p = passed Err (block_tests b) (laid_out (kind_of b) (first b) (second b (kind_of b))) (laid_out k d1 d2) (no_layout k d1 d2) e in
    let l : length b ≡ length_of (kind_of b) = eqb-true _ _ (holds (eqb (length b) (length_of (kind_of b))) p.0.1.1.0) in
    let f = same_ok {A = Layout} p.1 in
    let g = ap (λ (x : Layout). x.kind) f in
    (l ∙ ap length_of g, g, ap (λ (x : Layout). x.d1) f)

-- a block by its first bytes: no known marker; or a kind's, and then the rest is that kind's own
pub unmarked : (b : List ℕ) → ltb (length b) 3 ≡ false → known b kinds ≡ false → Err NoMarker ≡ layout_of b
unfolding layout_of
unmarked b s n = simp (s, n)

pub marked : (b : List ℕ) (k : Kind) → ltb (length b) 3 ≡ false → (known b kinds ≡ true) × (kind_of b ≡ k) → as_kind b k ≡ layout_of b
unfolding layout_of as_kind
marked b k s n = simp (s, n.0, n.1)

pub third : (b : List ℕ) → eqb (get_or b 0 0) 0x14 ≡ true → eqb (get_or b 1 0) 0x6F ≡ true → (k : Kind) → get_or b 2 0 ≡ marker_of k
    → (known b kinds ≡ true) × (kind_of b ≡ k)
unfolding kind_of marker
third b e f Nm t = (simp (e, f, t), simp (e, f, t))
third b e f Bm1 t = (simp (e, f, t), simp (e, f, t))

-- what follows a kind's marker, in a memory dump and else
pub as_dump : (b : List ℕ) (k : Kind) → length b ≡ length_of k → dumped b ≡ true → laid_out k (first b) 0 ≡ as_kind b k
unfolding as_kind
as_dump b k l d = simp (eq-eqb _ _ l, d)

pub as_whole : (b : List ℕ) (k : Kind) (x : ℕ) → length b ≡ length_of k → dumped b ≡ false → inner b k ≡ true → x ≡ second_at k
    → laid_out k (first b) (get_or b x 0) ≡ as_kind b k
unfolding as_kind
as_whole b k x l d i e = simp (eq-eqb _ _ l, d, i) (ap (λ (y : ℕ). laid_out k (first b) (get_or b y 0)) e)

-- the descriptors stand in the block
pub second_in : (k : Kind) → (4 < length_of k) × (second_at k < length_of k)
second_in Nm = (omega arith, omega arith)
second_in Bm1 = (omega arith, omega arith)

-- a test that passes at each listed part passes at every part: none is left out of the list
abbrev pub all_of : (Part → Bool) → List Part → Bool
all_of f [] = true
all_of f (q ∷ qs) = both (f q) (all_of f qs)

all_at : (f : Part → Bool) (qs : List Part) → T (all_of f qs) → T (f Marker) → (k : ℕ) → T (f (get_or qs k Marker))
all_at f [] t m k = m
all_at f (q ∷ qs) t m zero = both_left (f q) (all_of f qs) t
all_at f (q ∷ qs) t m (suc k) = all_at f qs (both_right (f q) (all_of f qs) t) m k

pub ranked : (p : Part) → get_or parts (row_of p) Marker ≡ p
ranked Marker = refl
ranked Index = refl
ranked Descriptor1 = refl
ranked Calibration = refl
ranked MSigns = refl
ranked Sgl0 = refl
ranked DirectEvents = refl
ranked HSpct = refl
ranked ISpct = refl
ranked Sgl1 = refl
ranked Sgl2 = refl
ranked Sgl3 = refl
ranked IPad = refl
ranked I3dd = refl
ranked Mtrx = refl
ranked Descriptor2 = refl
ranked EPad = refl
ranked E3dd = refl
ranked M = refl

pub every_part : (f : Part → Bool) → T (all_of f parts) → (p : Part) → T (f p)
every_part f t p = subst (λ (q : Part). T (f q)) (ranked p) (all_at f parts t (both_left (f Marker) _ t) (row_of p))

-- a row of a kind ends in its block, and has the length 0 exactly where the kind lacks the part
abbrev fits : Kind → Part → Bool
fits k p = both (leb ((row_in k p).at + (row_in k p).length) (length_of k)) (pick (has k p) (ltb 0 (row_in k p).length) (eqb (row_in k p).length 0))

all_fit_lem : (k : Kind) (p : Part) → T (fits k p)
all_fit_lem Nm p = every_part (fits Nm) tt p
all_fit_lem Bm1 p = every_part (fits Bm1) tt p

pub ends_in : (k : Kind) (p : Part) → (row_in k p).at + (row_in k p).length ≤ length_of k
ends_in k p = leb→le _ _ (both_left (leb ((row_in k p).at + (row_in k p).length) (length_of k)) _ (all_fit_lem k p))

pub full : (k : Kind) (p : Part) → has k p ≡ true → 0 < (row_in k p).length
full k p e = ltb→lt 0 (row_in k p).length (rw e at (both_right (leb ((row_in k p).at + (row_in k p).length) (length_of k)) _ (all_fit_lem k p)))

-- what is located in a block: the block's layout, then the place there
pub located_as : (b : List ℕ) (p : Part) → place_in (layout_of b) p ≡ locate_of b p
unfolding locate_of layout_of
located_as b p = through (λ (l : Found). place_in l p) Err (block_tests b) (laid_out (kind_of b) (first b) (second b (kind_of b)))

pub unlocated : (b : List ℕ) (p : Part) (r : Refusal) → layout_of b ≡ Err r → locate_of b p ≡ Err r
unlocated b p r e = sym (located_as b p) ∙ ap (λ (x : Found). place_in x p) e

pub located_by : (b : List ℕ) (p : Part) (l : Layout) → layout_of b ≡ Ok l → locate_of b p ≡ place_of l.kind l.d1 l.d2 p
located_by b p l e = sym (located_as b p) ∙ ap (λ (x : Found). place_in x p) e

-- what was found is the row's own place, shown, not empty, and in its block
pub refused_at : (a n : ℕ) (r : Refusal) → Err r ≡ at_place a n → ⊥
refused_at a n r h = let z : ◌≡◌ {A = ℕ} 0 1 = cc in omega arith

pub placed : (k : Kind) (d1 d2 : ℕ) (p : Part) (a n : ℕ) → place_of k d1 d2 p ≡ at_place a n
    → (has k p ≡ true) × (hidden p d1 d2 ≡ false) × ((row_in k p).at ≡ a) × ((row_in k p).length ≡ n)
unfolding place_of
placed k d1 d2 p a n e =
    let q = passed Err (place_tests k d1 d2 p) (at_place (row_in k p).at (row_in k p).length) (at_place a n) (refused_at a n) e in
    let f = same_ok {A = Place} q.1 in
    (holds (has k p) q.0.0, q.0.1.0, ap (λ (x : Place). x.at) f, ap (λ (x : Place). x.len) f)

pub located_is : (b : List ℕ) (p : Part) (a n : ℕ) → locate_of b p ≡ at_place a n
    → (length b ≡ length_of (kind_of b)) × (place_of (kind_of b) (first b) (second b (kind_of b)) p ≡ at_place a n)
unfolding locate_of
located_is b p a n e =
    let q = passed Err (block_tests b) (place_of (kind_of b) (first b) (second b (kind_of b)) p) (at_place a n) (refused_at a n) e in
    (eqb-true _ _ (holds (eqb (length b) (length_of (kind_of b))) q.0.1.1.0), q.1)

pub located_in : (b : List ℕ) (p : Part) (a n : ℕ) → locate_of b p ≡ at_place a n → (0 < n) × (a + n ≤ length b)
located_in b p a n e =
    let l = located_is b p a n e in
    let f = placed (kind_of b) (first b) (second b (kind_of b)) p a n l.1 in
    let s = full (kind_of b) p f.0 in
    let w = ends_in (kind_of b) p in
    (omega (arith, f.3), omega (arith, f.2, f.3, l.0))

-- so a part is as long as `locate` says, and it is empty exactly where `locate` refuses
pub part_length : (b : List ℕ) (p : Part) (a n : ℕ) → locate_of b p ≡ at_place a n → (0 < n) × (length (part_of b p) ≡ n)
unfolding part_of
part_length b p a n e =
    let i = located_in b p a n e in
    (i.0, rw e (simp (le-leb _ _ i.1, length-take, length-drop) (omega (arith, i.1))))

pub part_none : (b : List ℕ) (p : Part) (r : Refusal) → locate_of b p ≡ Err r → part_of b p ≡ []
unfolding part_of
part_none b p r e = rw e
