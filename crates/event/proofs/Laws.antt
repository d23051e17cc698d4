-- What the readers' proofs stand on: an entry that is refused on no ground lies in the block; and what is asked of a block is asked of its layout.
-- Assumes nothing.
use Rattle.std.specs.Prelude.{Ok, Err}
use mathlib.Core.Path.{◌≡◌, refl, ap, ◌∙◌, sym}
use mathlib.Core.Bool.{Bool, true, false, not, ◌||◌}
use mathlib.Core.List.{List, [], ◌∷◌}
use Prim.Native.Nat.{ℕ, suc, ◌+◌, ◌*◌, ◌/◌, ◌≤◌, ◌<◌}
use native.Mathlib.Nat.{mul-le-mul, mul-le-mul_left, mul-suc}
use native.Mathlib.Omega.{arith}
use borrow.Author.Tests.{eqb-true, ltb-false, leb-false, le-leb, lt-leb, not-false}
use lib.Dec.{eqb, leb, ltb}
use lib.ListN.{length, get_or}
use Rattle.base.proofs.Cases.{split}
use Rattle.base.specs.Pick.{pick}
use Rattle.block.specs.declared.Refusal.{Refusal}
use Rattle.block.specs.declared.Refusal.TheVariants.{Beyond, Hidden, NotIfft}
use Rattle.block.specs.declared.Kind.{Kind}
use Rattle.block.specs.declared.Kind.TheVariants.{Nm, Bm1}
use Rattle.block.specs.declared.Layout.{Layout}
use Rattle.block.specs.declared.Place.{Place}
use Rattle.block.specs.Shapes.{Found, Located, at_place, laid_out}
use Rattle.block.specs.declared.Part.TheVariants.{DirectEvents}
use Rattle.block.specs.Refusals.{Tests, unless}
use Rattle.block.specs.Kinds.{length_of}
use Rattle.block.specs.Tables.{row_in}
use Rattle.block.specs.Layout.{bit, kind_of, first, second, block_tests, layout_of}
use Rattle.block.specs.Parts.{hidden, place_of}
use Rattle.block.proofs.Laws.{Passed, layout_is_lem, through, placed, refused_at}
use Rattle.event.specs.Shapes.{Entry, Evented, Itemed}
use Rattle.event.specs.Event.{event_at, event_in, events_in, direct_tests, direct_of}
use Rattle.event.specs.Ifft.{is_nm, turn, wrong, ifft_tests, event_of, item_at, item_of}
use Rattle.event.specs.Steps.{direct_at, ifft_at, reach}

pub nm_events : events_in Nm ≡ 20
nm_events = refl

pub bm1_events : events_in Bm1 ≡ 106
bm1_events = refl

-- the part of the direct events stands in every kind, and they lie in it
pub direct_place : (k : Kind) (d1 d2 : ℕ) → place_of k d1 d2 DirectEvents
    ≡ pick (hidden DirectEvents d1 d2) (Err Hidden) (at_place (row_in k DirectEvents).at (row_in k DirectEvents).length)
unfolding place_of
direct_place Nm d1 d2 = refl
direct_place Bm1 d1 d2 = refl

longest : (k : Kind) → length_of k ≤ 2304
longest Nm = omega arith
longest Bm1 = omega arith

pub direct_fits : (k : Kind) (n : ℕ) → n < events_in k → (row_in k DirectEvents).at + 3 * n + 3 ≤ length_of k
direct_fits Nm n h = omega arith
direct_fits Bm1 n h = omega arith

-- what is asked of a block, once its layout is known
abbrev pub direct_in : ℕ → Found → Entry
direct_in n (Err r) = Err r
direct_in n (Ok l) =
    unless Err ((leb (events_in l.kind) n, Beyond) ∷ (hidden DirectEvents l.d1 l.d2, Hidden) ∷ []) (Ok ((row_in l.kind DirectEvents).at + 3 * n))

pub direct_as : (b : List ℕ) (n : ℕ) (l : Found) → layout_of b ≡ l → direct_in n l ≡ direct_at b n
unfolding direct_at layout_of
direct_as b n l e =
    ap (direct_in n) (sym e) ∙ through (direct_in n) Err (block_tests b) (laid_out (kind_of b) (first b) (second b (kind_of b)))

module _ (b : List ℕ) (n from most size : ℕ) where
  abbrev pub ifft_in : Found → Entry
  ifft_in (Err r) = Err r
  ifft_in (Ok l) =
      unless Err ((wrong l.kind l.d1 (get_or b 5 0) (get_or b 6 0) from most, NotIfft) ∷ (leb (get_or b 6 0) n, Beyond) ∷ []) (Ok (0x020 + size * n))

  pub ifft_as : (l : Found) → layout_of b ≡ l → ifft_in l ≡ ifft_at b n from most size
  unfolding ifft_at layout_of
  ifft_as l e = ap ifft_in (sym e) ∙ through ifft_in Err (block_tests b) (laid_out (kind_of b) (first b) (second b (kind_of b)))

  pub ifft_refused : (r : Refusal) → layout_of b ≡ Err r → ifft_at b n from most size ≡ Err r
  ifft_refused r e = sym (ifft_as (Err r) e)

  module _ (l : Layout) (e : layout_of b ≡ Ok l) where
    pub ifft_wrong : wrong l.kind l.d1 (get_or b 5 0) (get_or b 6 0) from most ≡ true → ifft_at b n from most size ≡ Err NotIfft
    ifft_wrong w = sym (ifft_as (Ok l) e) ∙ simp w

    pub ifft_beyond : wrong l.kind l.d1 (get_or b 5 0) (get_or b 6 0) from most ≡ false → get_or b 6 0 ≤ n → ifft_at b n from most size ≡ Err Beyond
    ifft_beyond w h = sym (ifft_as (Ok l) e) ∙ simp (w, le-leb _ _ h)

    pub ifft_found : wrong l.kind l.d1 (get_or b 5 0) (get_or b 6 0) from most ≡ false → n < get_or b 6 0 → ifft_at b n from most size ≡ Ok (0x020 + size * n)
    ifft_found w h = sym (ifft_as (Ok l) e) ∙ simp (w, lt-leb _ _ h)

-- bytes 5 and 6 stand in every kind
shortest : (k : Kind) → 6 < length_of k
shortest Nm = omega arith
shortest Bm1 = omega arith

pub counters_in : (b : List ℕ) (l : Layout) → layout_of b ≡ Ok l → 6 < length b
counters_in b l e = let s = shortest l.kind in omega (arith, (layout_is_lem b l.kind l.d1 l.d2 e).0)

pub times : (s n : ℕ) → s ≤ 4 → n < 256 → s * n ≤ 1024
times s n h g = let m : n ≤ 256 = omega arith in mul-le-mul h m

-- an entry that passed every test ends where it may
reaches : (ts : Tests) (a z l : ℕ) → (Passed ts → a + z ≤ l) → reach (unless Err ts (Ok a)) z ≤ l
reaches [] a z l f = f tt
reaches (t ∷ ts) a z l f =
    split t.0 (λ e. simp e (omega arith)) (λ e. simp e (reaches ts a z l (λ (p : Passed ts). f (e, p))))

sized : (b : List ℕ) → not (eqb (length b) (length_of (kind_of b))) ≡ false → length b ≡ length_of (kind_of b)
sized b e = eqb-true _ _ (not-false (eqb (length b) (length_of (kind_of b))) e)

pub direct_ends : (b : List ℕ) (n : ℕ) → reach (direct_at b n) 3 ≤ length b
unfolding direct_at
direct_ends b n =
    reaches (direct_tests b n) ((row_in (kind_of b) DirectEvents).at + 3 * n) 3 (length b)
    (λ (p : Passed (direct_tests b n)).
    let l = sized b p.1.1.0 in
    let f = direct_fits (kind_of b) n (leb-false (events_in (kind_of b)) n p.1.1.1.1.0) in
    omega arith)

-- what is not wrong is NM, with no more entries than there can be
or_none : (x y : Bool) → x || y ≡ false → (x ≡ false) × (y ≡ false)
or_none false y e = (refl, e)
or_none true y e = (e, split y (λ t. t ∙ e) (λ t. t))

pub right_nm : (k : Kind) (d1 spin count from most : ℕ) → wrong k d1 spin count from most ≡ false → (length_of k ≡ 512) × (count ≤ most)
unfolding wrong
right_nm Nm d1 spin count from most e =
    (refl, ltb-false most count (or_none (not (is_nm Nm) || not (bit d1 0) || bit d1 2 || not (turn from spin)) (ltb most count) e).1)
right_nm Bm1 d1 spin count from most e = let z : ◌≡◌ {A = Bool} true false = e in absurd (let w : ◌≡◌ {A = ℕ} 0 1 = cc in omega arith)

pub ifft_ends : (b : List ℕ) (n from most size : ℕ) → 0x020 + size * most ≤ 512 → reach (ifft_at b n from most size) size ≤ length b
unfolding ifft_at
ifft_ends b n from most size h =
    reaches (ifft_tests b n from most) (0x020 + size * n) size (length b)
    (λ (p : Passed (ifft_tests b n from most)).
    let l = sized b p.1.1.0 in
    let w = right_nm (kind_of b) (first b) (get_or b 5 0) (get_or b 6 0) from most p.1.1.1.1.0 in
    let c = leb-false (get_or b 6 0) n p.1.1.1.1.1.0 in
    let i : suc n ≤ most = omega (arith, w.1) in
    let m : size * suc n ≤ size * most = mul-le-mul_left size i in
    omega (arith, w.0, mul-suc size n))

-- the direct events: how many, and where one of a number begins
abbrev here : Kind → ℕ → ℕ → Located
here k d1 d2 = place_of k d1 d2 DirectEvents

shown : (k : Kind) → here k 0 0 ≡ at_place (row_in k DirectEvents).at (row_in k DirectEvents).length
unfolding place_of
shown Nm = refl
shown Bm1 = refl

pub counted : (k : Kind) (x : Place) → here k 0 0 ≡ Ok x → x.len / 3 ≡ events_in k
counted k x e = let f = placed k 0 0 DirectEvents x.at x.len e in ap (λ (m : ℕ). m / 3) (sym f.3)

pub always : (k : Kind) (r : Refusal) → here k 0 0 ≡ Err r → ⊥
always k r e = refused_at (row_in k DirectEvents).at (row_in k DirectEvents).length r (sym e ∙ shown k)

module _ (b : List ℕ) (n : ℕ) where
  pub direct_refused : (r : Refusal) → layout_of b ≡ Err r → direct_at b n ≡ Err r
  direct_refused r e = sym (direct_as b n (Err r) e)

  module _ (l : Layout) (e : layout_of b ≡ Ok l) where
    pub direct_beyond : events_in l.kind ≤ n → direct_at b n ≡ Err Beyond
    direct_beyond h = sym (direct_as b n (Ok l) e) ∙ simp (le-leb _ _ h)

    pub direct_found : (x : Place) → n < events_in l.kind → here l.kind l.d1 l.d2 ≡ Ok x → direct_at b n ≡ Ok (x.at + 3 * n)
    direct_found x h p =
        let f = placed l.kind l.d1 l.d2 DirectEvents x.at x.len p in
        sym (direct_as b n (Ok l) e) ∙ simp (lt-leb _ _ h, f.1) (ap (λ (y : ℕ). Ok (y + 3 * n)) f.2)

    pub direct_hidden : (r : Refusal) → n < events_in l.kind → here l.kind l.d1 l.d2 ≡ Err r → direct_at b n ≡ Err r
    direct_hidden r h p =
        let q = sym (direct_place l.kind l.d1 l.d2) ∙ p in
        split (hidden DirectEvents l.d1 l.d2)
        (λ t. let s : Err Hidden ≡ Err r = simp t at q in let u : Hidden ≡ r = cc in sym (direct_as b n (Ok l) e) ∙ simp (lt-leb _ _ h, t) (ap Err u))
        (λ t. absurd (refused_at (row_in l.kind DirectEvents).at (row_in l.kind DirectEvents).length r (sym (simp t at q))))

pub direct_small : (k : Kind) (d1 d2 n : ℕ) (x : Place) → n < events_in k → here k d1 d2 ≡ Ok x → x.at + 3 * n ≤ 2304
direct_small k d1 d2 n x h p =
    let f = placed k d1 d2 DirectEvents x.at x.len p in
    let g = direct_fits k n h in
    let w = longest k in
    omega (arith, f.2)

-- an event whose bytes are all there
abbrev whole_in : List ℕ → Entry → Evented
whole_in b (Ok at) = Ok (event_at b at)
whole_in b (Err r) = Err r

whole : (b : List ℕ) (e : Entry) → reach e 3 ≤ length b → event_in b e ≡ whole_in b e
whole b (Ok at) h = simp (le-leb (at + 3) (length b) h)
whole b (Err r) h = refl

-- what is read at an entry is what is asked for
pub direct_is : (b : List ℕ) (n : ℕ) → event_in b (direct_at b n) ≡ direct_of b n
unfolding direct_at direct_of
direct_is b n =
    whole b (direct_at b n) (direct_ends b n)
    ∙ through (whole_in b) Err (direct_tests b n) (Ok ((row_in (kind_of b) DirectEvents).at + 3 * n))

pub event_is : (b : List ℕ) (n : ℕ) → event_in b (ifft_at b n 5 85 3) ≡ event_of b n
unfolding ifft_at event_of
event_is b n =
    whole b (ifft_at b n 5 85 3) (ifft_ends b n 5 85 3 (omega arith))
    ∙ through (whole_in b) Err (ifft_tests b n 5 85) (Ok (0x020 + 3 * n))

abbrev pub item_in : List ℕ → Entry → Itemed
item_in b (Ok at) = Ok (item_at b at)
item_in b (Err r) = Err r

pub item_is : (b : List ℕ) (n : ℕ) → item_in b (ifft_at b n 6 64 4) ≡ item_of b n
unfolding ifft_at item_of
item_is b n = through (item_in b) Err (ifft_tests b n 6 64) (Ok (0x020 + 4 * n))

module _ (b : List ℕ) (n : ℕ) where
  pub item_refused : (r : Refusal) → ifft_at b n 6 64 4 ≡ Err r → item_of b n ≡ Err r
  item_refused r e = sym (item_is b n) ∙ ap (item_in b) e

  pub item_found : (at : ℕ) → ifft_at b n 6 64 4 ≡ Ok at → item_of b n ≡ Ok (item_at b at)
  item_found at e = sym (item_is b n) ∙ ap (item_in b) e

  pub item_ends : (at : ℕ) → ifft_at b n 6 64 4 ≡ Ok at → at + 4 ≤ length b
  item_ends at e = rw e at (ifft_ends b n 6 64 4 (omega arith))
