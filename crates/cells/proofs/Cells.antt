-- The cells after a slot, one by one.
-- Assumes nothing.
use Rattle.std.specs.Prelude.{Some, None}
use mathlib.Core.Path.{◌≡◌, refl, sym, ap, ◌∙◌}
use mathlib.Core.Bool.{Bool}
use mathlib.Core.List.{List, [], ◌∷◌}
use Prim.Native.Nat.{ℕ, zero, suc, ◌+◌, ◌<◌, ◌≤◌}
use native.Mathlib.Nat.{not-suc-le-zero, le_of_suc-le-suc, add-zero}
use native.Mathlib.Omega.{arith}
use lib.Dec.{eqb, ltb}
use lib.ListN.{length, get_or, set, length-set}
use lib.Seq.{get_or-set_same, get_or-set_other, ext_get_or}
use borrow.Author.Tests.{le-ltb, lt-ltb, eqb-true, eqb-false, ltb-true, ltb-false}
use Rattle.base.specs.Pick.{pick}
use Rattle.base.proofs.Cases.{split}
use Rattle.base.specs.Counts.{ceiling}
use Rattle.frame.specs.Items.{items}
use Rattle.cell.specs.Shapes.{Shown}
use Rattle.cell.specs.declared.Cell.{Cell}
use Rattle.cell.specs.Cell.{aged_of, latest_of, blank, cell_of, shown_by, cell_after}
use Rattle.cells.specs.Cells.{cells_from, cells_after, nothing}

-- within a list it is all one what stands beyond it
pub within : (cs : List Cell) (k : ℕ) (a b : Cell) → k < length cs → get_or cs k a ≡ get_or cs k b
within [] k a b h = absurd (not-suc-le-zero h)
within (c ∷ cs) zero a b h = refl
within (c ∷ cs) (suc k) a b h = within cs k a b (le_of_suc-le-suc h)

cons : {x y : Cell} {xs ys : List Cell} → x ≡ y → xs ≡ ys → x ∷ xs ≡ y ∷ ys
cons p q = rw (p, q)

-- one cell more of a literal whose cells are those of g
pub row : (g : ℕ → Cell) (k : ℕ) {x : Cell} {xs ys : List Cell} → x ≡ g k → xs ≡ ys → x ∷ xs ≡ g k ∷ ys
row g k p q = cons p q

from_same : (g h : ℕ → Cell) (k n : ℕ) → ((j : ℕ) → j < k + n → g j ≡ h j) → cells_from g k n ≡ cells_from h k n
from_same g h k zero e = refl
from_same g h k (suc n) e = cons (e k (omega arith)) (from_same g h (suc k) n (λ j l. e j (omega arith)))

pub cells_same : (p q : ℕ → Shown) (cs : List Cell) → ((k : ℕ) → k < items → p k ≡ q k) → cells_after p cs ≡ cells_after q cs
unfolding cells_after
cells_same p q cs e =
    from_same (λ k. cell_after (p k) (get_or cs k blank)) (λ k. cell_after (q k) (get_or cs k blank)) 0 items (λ j l. rw (e j (omega arith)))

from_at : (g : ℕ → Cell) (k n j : ℕ) → j < n → get_or (cells_from g k n) j blank ≡ g (k + j)
from_at g k zero j h = absurd (not-suc-le-zero h)
from_at g k (suc n) zero h = ap g (sym (add-zero k))
from_at g k (suc n) (suc j) h = from_at g (suc k) n j (le_of_suc-le-suc h) ∙ ap g (omega arith)

at_cell : (f : ℕ → Shown) (cs : List Cell) (k : ℕ) → k < items → get_or (cells_after f cs) k blank ≡ cell_after (f k) (get_or cs k blank)
unfolding cells_after
at_cell f cs k h =
    let z : 0 + k ≡ k = omega arith in
    from_at (λ k. cell_after (f k) (get_or cs k blank)) 0 items k h ∙ ap (λ (k : ℕ). cell_after (f k) (get_or cs k blank)) z

-- an age that a cell can hold
abbrev pub Fits : Shown → Type 0
Fits None = Unit
Fits (Some k) = k.age.0 ≤ ceiling

-- a cell shows what was put into it
held : (s : Shown) → Fits s → shown_by (cell_of s) ≡ s
held None h = refl
held (Some k) h = rw (le-ltb ceiling k.age.0 h)

aged_fits : (s : Shown) → Fits (aged_of s)
aged_fits None = tt
aged_fits (Some k) = omega arith

latest_fits : (s t : Shown) → Fits s → Fits (latest_of s t)
latest_fits None t h = aged_fits t
latest_fits (Some k) t h = h

-- what is shown after a slot, of the item in row k
pub at_slot : (f : ℕ → Shown) (cs : List Cell) (k : ℕ) → k < items → Fits (f k)
    → shown_by (get_or (cells_after f cs) k blank) ≡ latest_of (f k) (shown_by (get_or cs k blank))
at_slot f cs k h t = ap shown_by (at_cell f cs k h) ∙ held _ (latest_fits (f k) (shown_by (get_or cs k blank)) t)

-- and its cell is the one that holds it
pub one_way : (f : ℕ → Shown) (cs : List Cell) (k : ℕ) → k < items → Fits (f k)
    → get_or (cells_after f cs) k blank ≡ cell_of (shown_by (get_or (cells_after f cs) k blank))
one_way f cs k h t = at_cell f cs k h ∙ sym (ap cell_of (at_slot f cs k h t))

-- The cells of `old` of which the first k are a slot older.
abbrev pub Aged : List Cell → ℕ → List Cell → Type 0
Aged old k cs =
    (length cs ≡ length old) × ((j : ℕ) → get_or cs j blank ≡ pick (ltb j k) (cell_after None (get_or old j blank)) (get_or old j blank))

pub aged_none : (old : List Cell) → Aged old 0 old
aged_none old = (refl, λ j. rw (le-ltb j 0 (omega arith)))

pub aged_next : (old : List Cell) (k : ℕ) (cs : List Cell) (d v : Cell) → k < length old → Aged old k cs → v ≡ cell_after None (get_or cs k d)
    → Aged old (k + 1) (set cs k v)
aged_next old k cs d v h a e = (length-set cs k v ∙ a.0, rows)
  where
    in_it : k < length cs
    in_it = rw a.0 h

    at-k : get_or (set cs k v) k blank ≡ cell_after None (get_or old k blank)
    at-k =
        get_or-set_same cs k v blank in_it
        ∙ e
        ∙ ap (cell_after None) (within cs k d blank in_it ∙ a.1 k ∙ ap (λ (b : Bool). pick b (cell_after None (get_or old k blank)) (get_or old k blank)) (le-ltb k k (omega arith)))

    rows : (j : ℕ) → get_or (set cs k v) j blank ≡ pick (ltb j (k + 1)) (cell_after None (get_or old j blank)) (get_or old j blank)
    rows j =
        split (eqb j k) (λ t. let q : j ≡ k = eqb-true j k t in rw (q, lt-ltb k (k + 1) (omega arith)) at-k)
        (λ f.
        let n : j ≡ k → ⊥ = eqb-false j k f in
        get_or-set_other cs k j v blank n
        ∙ a.1 j
        ∙ split (ltb j k)
        (λ t. let l : j < k = ltb-true j k t in rw (t, lt-ltb j (k + 1) (omega arith)))
        (λ t. let l : k ≤ j = ltb-false j k t in rw (t, le-ltb j (k + 1) (omega (arith, n)))))

length_from : (g : ℕ → Cell) (k n : ℕ) → length (cells_from g k n) ≡ n
length_from g k zero = refl
length_from g k (suc n) = ap suc (length_from g (suc k) n)

length_after : (f : ℕ → Shown) (cs : List Cell) → length (cells_after f cs) ≡ items
unfolding cells_after
length_after f cs = length_from (λ k. cell_after (f k) (get_or cs k blank)) 0 items

pub aged_all : (old : List Cell) (k : ℕ) (cs : List Cell) → length old ≡ items → items ≤ k → Aged old k cs → cs ≡ cells_after nothing old
aged_all old k cs l h a =
    ext_get_or blank cs (cells_after nothing old) (a.0 ∙ l ∙ sym (length_after nothing old))
    (λ i t.
    let b : i < items = rw (sym (a.0 ∙ l)) t in
    a.1 i
    ∙ ap (λ (b : Bool). pick b (cell_after None (get_or old i blank)) (get_or old i blank)) (lt-ltb i k (omega arith))
    ∙ sym (at_cell nothing old i b))
