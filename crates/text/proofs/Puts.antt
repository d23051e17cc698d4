-- The laws of `put` and `Puts`: two texts put one after the other are one text put; nothing put; and from the part that is lent to the whole.
-- Assumes nothing.
use mathlib.Core.Path.{◌≡◌, refl, sym, ap, ◌∙◌}
use mathlib.Core.List.{List, [], ◌++◌, append_assoc}
use Prim.Native.Nat.{ℕ, ◌+◌, ◌≤◌}
use native.Mathlib.Nat.{add-zero, add_assoc}
use native.Mathlib.Omega.{arith}
use borrow.Author.Tests.{le-leb}
use mathlib.Core.Bool.{true, false}
use lib.Dec.{leb}
use lib.ListN.{length, take, drop, length-append, take-append-drop}
use lib.Seq.{take-append_seam, drop-append-add, length-take-le, drop-drop}
use Rattle.text.specs.declared.Page.{Page}
use Rattle.text.specs.Page.{put, Puts, fitting, Gets, RoomFor, as_fits}

-- after a list of n elements, a text at n goes behind it
behind : (x y t : List ℕ) (n : ℕ) → length x ≡ n → take n (x ++ y) ++ (t ++ drop (n + length t) (x ++ y)) ≡ x ++ (t ++ drop (length t) y)
behind x y t n h = rw (← h) (rw (take-append_seam, drop-append-add))

module _ (at : ℕ) (s p : List ℕ) (room : at + length s ≤ length p) where
  head_length : length (take at p ++ s) ≡ at + length s
  head_length = simp (length-append, length-take-le at p (omega arith))

  grouped : put at s p ≡ (take at p ++ s) ++ drop (at + length s) p
  grouped = sym (append_assoc (take at p) s (drop (at + length s) p))

  put_put : (t : List ℕ) → put (at + length s) t (put at s p) ≡ put at (s ++ t) p
  put_put t =
      ap (λ (x : List ℕ). take (at + length s) x ++ (t ++ drop (at + length s + length t) x)) grouped
      ∙ behind (take at p ++ s) (drop (at + length s) p) t (at + length s) head_length
      ∙ simp (append_assoc, length-append, drop-drop, add_assoc)

-- two texts, one after the other
pub chain : {at a b : ℕ} {s t p q r : List ℕ} → Puts at s p a q → Puts a t q b r → at + length s ≤ length p → Puts at (s ++ t) p b r
chain {at} {a} {b} {s} {t} {p} h k room =
    record {
      place = simp length-append (omega arith);
      content = k.content ∙ rw (h.place, h.content) (put_put at s p room t);
    }

pub put_nil : (at : ℕ) (p : List ℕ) → Puts at [] p at p
put_nil at p = record { place = sym (add-zero at); content = rw add-zero (sym (take-append-drop at p)) }

-- where the page has room for the most that a text may be, all of it is put; elsewhere nothing
module _ (most at : ℕ) {n : ℕ} {s p q : List ℕ} where
  pub fits : at + most ≤ length p → Puts at (fitting most at p s) p n q → Puts at s p n q
  unfolding fitting
  fits room h = rw (le-leb (at + most) (length p) room) at h

  pub fit : leb (at + most) (length p) ≡ true → Puts at s p n q → Puts at (fitting most at p s) p n q
  unfolding fitting
  fit e h = rw e h

pub left_out : (most at : ℕ) (s p : List ℕ) → leb (at + most) (length p) ≡ false → Puts at (fitting most at p s) p at p
unfolding fitting
left_out most at s p e = rw e (put_nil at p)

-- the same of a page: two texts, one after the other, and a text that has room
pub gets_both : {s t : List ℕ} {p q r : Page} → Gets s p q → Gets t q r → RoomFor (length s) p → Gets (s ++ t) p r
gets_both h k room =
    record { same_page = k.same_page ∙ h.same_page; long = k.long ∙ h.long; puts = chain h.puts k.puts room }

pub gets_all : (most : ℕ) {s : List ℕ} {p q : Page} → RoomFor most p → Gets (as_fits most p s) p q → Gets s p q
gets_all most {p = p} room h = record { same_page = h.same_page; long = h.long; puts = fits most p.at room h.puts }

pub gets_none : (p : Page) → Gets [] p p
gets_none p = record { same_page = refl; long = refl; puts = put_nil p.at p.bytes.now }

-- two texts put one after the other on a page that has room for both
pub gets_two : (s t : List ℕ) {p q r : Page} → Gets (as_fits (length s) p s) p q → Gets (as_fits (length t) q t) q r
    → RoomFor (length s + length t) p → Gets (s ++ t) p r
gets_two s t {p} {q} h k room =
    let a : RoomFor (length s) p = omega arith in
    let m = gets_all (length s) {s = s} {p = p} a h in
    let e = m.puts.place in
    gets_both m (gets_all (length t) (omega (arith, m.long)) k) a
