-- The laws of the check (specs/Laws.antt): the check of a joined list is that of its second part from the check of its first.
-- Assumes nothing.
use mathlib.Core.Path.{◌≡◌, refl, sym, ◌∙◌}
use mathlib.Core.List.{List, [], ◌∷◌, ◌++◌}
use Prim.Native.Nat.{ℕ, ◌<◌}
use native.Mathlib.Omega.{arith}
use borrow.Author.Tests.{eq-eqb, ne_eqb}
use Rattle.crc.specs.Crc.{crc_byte, crc_from, crc_of}
use Rattle.crc.specs.Laws.{Bytes, CheckLaws}
use Rattle.crc.proofs.Undo.{byte_lt, byte_one, byte_one_before}

from_join : (c : ℕ) (p q : List ℕ) → crc_from c (p ++ q) ≡ crc_from (crc_from c p) q
unfolding crc_from
from_join c [] q = refl
from_join c (b ∷ p) q = from_join (crc_byte c b) p q

from_lt : (c : ℕ) (s : List ℕ) → c < 0x100 → Bytes s → crc_from c s < 0x100
unfolding crc_from
from_lt c [] hc hs = hc
from_lt c (b ∷ s) hc hs = from_lt (crc_byte c b) s (byte_lt c b hc hs.0) hs.1

-- two checks that the same bytes bring to one were one
from_one : (c d : ℕ) (s : List ℕ) → c < 0x100 → d < 0x100 → Bytes s → crc_from c s ≡ crc_from d s → c ≡ d
unfolding crc_from
from_one c d [] hc hd hs e = e
from_one c d (b ∷ s) hc hd hs e =
    byte_one_before c d b hc hd hs.0
    (from_one (crc_byte c b) (crc_byte d b) s (byte_lt c b hc hs.0) (byte_lt d b hd hs.0) hs.1 e)

more : (s : List ℕ) (b : ℕ) → crc_of (s ++ (b ∷ [])) ≡ crc_byte (crc_of s) b
unfolding crc_of crc_from
more s b = from_join 0 s (b ∷ [])

changed : (p q : List ℕ) (x y : ℕ) → Bytes p → Bytes q → x < 0x100 → y < 0x100 → (x ≡ y → ⊥) → crc_of (p ++ (x ∷ q)) ≡ crc_of (p ++ (y ∷ q)) → ⊥
unfolding crc_of crc_from
changed p q x y hp hq hx hy ne e =
    let c = crc_from 0 p in
    let hc : c < 0x100 = from_lt 0 p (omega arith) hp in
    ne
    (byte_one c x y hc hx hy
    (from_one (crc_byte c x) (crc_byte c y) q (byte_lt c x hc hx) (byte_lt c y hc hy) hq
    (sym (from_join 0 p (x ∷ q)) ∙ e ∙ from_join 0 p (y ∷ q))))

pub laws : CheckLaws
laws =
    record {
      fits = from_lt;
      more = more;
      changed = changed;
      right = λ c r e. simp (eq-eqb _ _ e);
      wrong = λ c r ne. simp (ne_eqb _ _ ne);
    }
