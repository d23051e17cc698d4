-- Pieces of the stream: two pieces are one, and one byte more.
-- Assumes nothing.
use mathlib.Core.Path.{◌≡◌, refl, sym, ap, ◌∙◌}
use mathlib.Core.List.{List, [], ◌∷◌, ◌++◌, append_assoc, append-nil}
use Prim.Native.Nat.{ℕ, ◌+◌, ◌<◌, ◌≤◌, min}
use native.Mathlib.Numerals.{add-one}
use native.Mathlib.Decide.{dec_le}
use native.Mathlib.Omega.{arith}
use lib.ListN.{length, take, get_or}
use lib.Seq.{take-suc, take_all}
use Rattle.listing.specs.declared.Lister.{Lister}
use Rattle.listing.specs.declared.Listed.{Listed}
use Rattle.listing.specs.Listing.{fed_byte, said_byte, fed, said, listed}
use Rattle.listing.specs.Front.{at_front, Within}
use Rattle.text.specs.Page.{Puts}
use Rattle.listing.proofs.Front.{front}

pub fed_append : (l : Lister) (xs ys : List ℕ) → fed l (xs ++ ys) ≡ fed (fed l xs) ys
fed_append l [] ys = refl
fed_append l (x ∷ xs) ys = fed_append (fed_byte l x) xs ys

pub said_append : (l : Lister) (xs ys : List ℕ) → said l (xs ++ ys) ≡ said l xs ++ said (fed l xs) ys
said_append l [] ys = refl
said_append l (x ∷ xs) ys = rw append_assoc (ap (λ (r : List ℕ). said_byte l x ++ r) (said_append (fed_byte l x) xs ys))

module _ (l : Lister) (s : List ℕ) (i : ℕ) (h : i < length s) where
  pub fed_more : fed l (take (i + 1) s) ≡ fed_byte (fed l (take i s)) (get_or s i 0)
  fed_more = rw (add-one, take-suc s i 0) (fed_append l (take i s) (get_or s i 0 ∷ []))

  pub said_more : said l (take (i + 1) s) ≡ said l (take i s) ++ said_byte (fed l (take i s)) (get_or s i 0)
  said_more = rw (add-one, take-suc s i 0) (said_append l (take i s) (get_or s i 0 ∷ []) ∙ simp append-nil)

-- the first i bytes are the first n, where i is n or all
pub cut : (n i : ℕ) (s : List ℕ) → i ≡ min n (length s) → take i s ≡ take n s
cut n i s e = go (dec_le n (length s))
  where
    go : Dec (n ≤ length s) → take i s ≡ take n s
    go (yes k) = let same : i ≡ n = omega arith in rw same
    go (no k) = take_all i s (omega arith) ∙ sym (take_all n s (omega arith))

-- an answer by its two parts
abbrev of : Lister → ℕ → Listed
of l n = record { lister = l; len = n }

pub made : (r : Listed) {l : Lister} {text p q : List ℕ} → r.lister ≡ l → Puts 0 text p r.len q
    → (r ≡ listed l text) × (q ≡ at_front text p) × Within r.len q
made r {l} e h =
    let f = front h in
    (ap (λ (x : Lister). of x r.len) e ∙ ap (λ (n : ℕ). of l n) f.0, f.1, f.2)
