-- A text put at the start of a page stands at its front, and its length counts bytes of the page.
-- Assumes nothing.
use mathlib.Core.Path.{◌≡◌, refl, sym}
use mathlib.Core.Bool.{true, true≢false}
use mathlib.Core.List.{List}
use Prim.Native.Nat.{ℕ, ◌≤◌}
use native.Mathlib.Nat.{zero-add}
use native.Mathlib.Omega.{arith}
use lib.ListN.{length, length-append}
use lib.Seq.{take-append_seam}
use Rattle.text.specs.Page.{Puts}
use Rattle.std.specs.Prelude.{Some, None}
use Rattle.std.specs.Option.{is_some}
use Rattle.listing.specs.Shapes.{Lone}
use Rattle.listing.specs.Listing.{odd_line, odd_of}
use Rattle.listing.specs.Front.{at_front, Within}

within : (s p : List ℕ) → Within (length s) (at_front s p)
within s p = (simp length-append (omega arith), rw take-append_seam)

pub front : {s p q : List ℕ} {n : ℕ} → Puts 0 s p n q → (n ≡ length s) × (q ≡ at_front s p) × Within n q
front {s} {p} h =
    let e = rw zero-add at h.place in
    let f = rw zero-add at h.content in
    (e, f, rw (e, f) (within s p))

-- the line of a lone byte, where there is one
pub odd_short : (lone : Lone) → length (odd_of lone) ≤ 9
odd_short None = omega arith
odd_short (Some h) = omega arith

pub odd_told : (lone : Lone) → is_some lone ≡ true → odd_of lone ≡ odd_line
odd_told None e = absurd (true≢false (sym e))
odd_told (Some h) e = refl
