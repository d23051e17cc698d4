-- With descriptor 1 bit 2 set neither descriptor 2 nor the inner markers are looked at: what such a block answers goes by its
-- length and its first five bytes alone. Assumes nothing.
use Rattle.std.specs.Prelude.{Ok, Err}
use mathlib.Core.Path.{◌≡◌, refl, ◌∙◌, ap}
use mathlib.Core.Bool.{Bool, true, false, not}
use mathlib.Core.List.{List, []}
use Prim.Native.Nat.{ℕ, ◌+◌, ◌≤◌, ◌<◌}
use native.Mathlib.Omega.{arith}
use lib.Dec.{T, leb, leb→le}
use lib.ListN.{length, get_or, take, drop, length-take, length-drop}
use lib.Seq.{ext_get_or, get_or-take, get_or-drop}
use Rattle.base.proofs.Cases.{split}
use Rattle.base.proofs.Table.{below}
use Rattle.base.specs.Pick.{pick}
use Rattle.block.specs.declared.Kind.{Kind}
use Rattle.block.specs.declared.Kind.TheVariants.{Nm, Bm1}
use Rattle.block.specs.declared.Part.{Part}
use Rattle.block.specs.Shapes.{Located, at_place}
use Rattle.block.specs.Tables.{among, row_in}
use Rattle.block.specs.Layout.{marker, kind_of, bit, first, dumped, second}
use Rattle.block.specs.Parts.{opening, hidden, locate_of, bytes_of, part_of}
use Rattle.block.specs.Order.{unread}
use Rattle.block.proofs.Laws.{every_part, placed, located_is}

-- only marker, index and descriptor 1 are located then, and they lie in the first five bytes
never : true ≡ false → ⊥
never e = let z : ◌≡◌ {A = ℕ} 0 1 = cc in omega arith

shown : (p : Part) (d1 d2 : ℕ) → bit d1 2 ≡ true → hidden p d1 d2 ≡ false → among p opening ≡ true
shown p d1 d2 e h = split (among p opening) (λ t. t) (λ t. absurd (never (simp (t, e) at h)))

abbrev low : Kind → Part → Bool
low k p = pick (among p opening) (leb ((row_in k p).at + (row_in k p).length) 5) true

all_low : (k : Kind) (p : Part) → T (low k p)
all_low Nm p = every_part (low Nm) tt p
all_low Bm1 p = every_part (low Bm1) tt p

pub dumped_early : (b : List ℕ) (p : Part) (a n : ℕ) → dumped b ≡ true → locate_of b p ≡ at_place a n → a + n ≤ 5
dumped_early b p a n d e =
    let k = kind_of b in
    let f = placed k (first b) (second b k) p a n (located_is b p a n e).1 in
    let s = shown p (first b) (second b k) d f.1 in
    let t : T (leb ((row_in k p).at + (row_in k p).length) 5) = rw s at (all_low k p) in
    let w = leb→le ((row_in k p).at + (row_in k p).length) 5 t in
    omega (arith, f.2, f.3)

module _ (b c : List ℕ) (n : length b ≡ length c) (d : dumped b ≡ true) where
  pub same_places : ((k : ℕ) → k < 5 → get_or b k 0 ≡ get_or c k 0) → (p : Part) → locate_of b p ≡ locate_of c p
  unfolding locate_of kind_of marker
  same_places h p =
      let h0 = h 0 (omega arith) in
      let h1 = h 1 (omega arith) in
      let h2 = h 2 (omega arith) in
      let h4 = h 4 (omega arith) in
      let e : dumped c ≡ true = rw h4 at d in
      simp (e, n, h0, h1, h2, h4)

  same_part : ((k : ℕ) → k < 5 → get_or b k 0 ≡ get_or c k 0) → (a m : ℕ) → a + m ≤ 5 → take m (drop a b) ≡ take m (drop a c)
  same_part h a m w =
      ext_get_or 0 (take m (drop a b)) (take m (drop a c)) (simp (length-take, length-drop, n))
      (λ (i : ℕ) (l : i < length (take m (drop a b))).
      let v : i < m = omega (arith, simp length-take at l) in
      rw (get_or-take m (drop a b) i 0 v, get_or-take m (drop a c) i 0 v, get_or-drop a b i 0, get_or-drop a c i 0) (h (a + i) (omega arith)))

  same_bytes : ((k : ℕ) → k < 5 → get_or b k 0 ≡ get_or c k 0) → (l : Located) → ((a m : ℕ) → l ≡ at_place a m → a + m ≤ 5) → bytes_of b l ≡ bytes_of c l
  same_bytes h (Err r) s = refl
  same_bytes h (Ok x) s = rw n (ap (λ (l : List ℕ). pick (leb (x.at + x.len) (length c)) l []) (same_part h x.at x.len (s x.at x.len refl)))

  -- so blocks that differ at most there answer alike: the same place and the same bytes for every part
  pub unread_alike : ((k : ℕ) → T (not (unread k)) → get_or b k 0 ≡ get_or c k 0) → (p : Part) → (locate_of b p ≡ locate_of c p) × (part_of b p ≡ part_of c p)
  unfolding part_of
  unread_alike h p =
      let g : (k : ℕ) → k < 5 → get_or b k 0 ≡ get_or c k 0 = (λ (k : ℕ) (l : k < 5). h k (below (λ (j : ℕ). not (unread j)) 5 tt k l)) in
      let e = same_places g p in
      (e, same_bytes g (locate_of b p) (λ (a m : ℕ). dumped_early b p a m d) ∙ ap (bytes_of c) e)
