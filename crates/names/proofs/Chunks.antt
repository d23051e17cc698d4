-- The chunk in a row: as many bytes as one has, from behind those before it.
-- Assumes nothing.
use Rattle.std.proofs.Common.{◌≡◌, ℕ, zero, suc, ◌+◌, ◌*◌, ◌<◌, List, slice_index_or, take, drop, refl, ap, ◌∙◌, arith}
use Rattle.std.specs.Simd.{first_chunks}
use native.Mathlib.Nat.{not-suc-le-zero, le_of_suc-le-suc}
use lib.Seq.{drop-drop}

pub chunk_at : (n m k : ℕ) (xs d : List ℕ) → k < m → slice_index_or (first_chunks n m xs) k d ≡ take n (drop (n * k) xs)
chunk_at n zero k xs d h = absurd (not-suc-le-zero h)
chunk_at n (suc m) zero xs d h =
    let z : n * 0 ≡ 0 = omega arith in
    rw z refl
chunk_at n (suc m) (suc k) xs d h =
    let e : n + n * k ≡ n * suc k = omega arith in
    chunk_at n m k (drop n xs) d (le_of_suc-le-suc h)
    ∙ ap (take n) (drop-drop (n * k) n xs)
    ∙ ap (λ (j : ℕ). take n (drop j xs)) e
