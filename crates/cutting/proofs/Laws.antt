-- In whatever pieces a stream comes, the lines given are those of the whole stream.
-- Assumes nothing.
use mathlib.Core.Path.{◌≡◌, refl, sym, ap, ◌∙◌}
use mathlib.Core.Bool.{false}
use mathlib.Core.List.{List, [], ◌∷◌, ◌++◌, map}
use Prim.Native.Nat.{ℕ, suc, ◌+◌, ◌-◌, ◌<◌, ◌≤◌, min}
use native.Mathlib.Numerals.{add-one}
use native.Mathlib.Decide.{dec_lt, dec_le, ℕ_discrete}
use native.Mathlib.Omega.{arith}
use borrow.Author.Tests.{lt-ltb, le-ltb, eq-eqb, ne_eqb}
use lib.Dec.{eqb}
use lib.ListN.{length, get_or, take, drop, length-append, length-set, drop_of_length-le}
use lib.Seq.{take_all, take-take, take-suc-set, take-append-le, get_or-take, drop-nil, drop-drop, length-take-le}
use Rattle.base.proofs.Cases.{split}
use Rattle.cutting.specs.Lines.{Line, newline, carriage_return, stretches, trimmed, line_of}
use Rattle.cutting.specs.Cut.{Cut, grown, kept, said_of, last_of, cut, step_of}
use Rattle.cutting.specs.Pieces.{told, Gives, joined, InPieces}
use Rattle.cutting.specs.Pieces.Gives.{calls, turns, ends}

-- What has come of a line is held: its bytes are counted up to 129, and those that there is room for are at the front of the buffer.
pub record Holds (held : List ℕ) (got : ℕ) (line : List ℕ) : Type 0 where
  pub counted : got ≡ min (length held) 129
  pub kept : take got line ≡ take 128 held
  pub size : length line ≡ 128

pub holds_none : (line : List ℕ) → length line ≡ 128 → Holds [] 0 line
holds_none line h = record { counted = omega arith; kept = refl; size = h }

-- one byte more
pub holds_more : {held : List ℕ} {got : ℕ} {line : List ℕ} (b : ℕ) → Holds held got line → Holds (held ++ (b ∷ [])) (grown got) (kept got b line)
holds_more {held} {got} {line} b h = go (dec_lt (length held) 128)
  where
    go : Dec (length held < 128) → Holds (held ++ (b ∷ [])) (grown got) (kept got b line)
    go (yes k) =
        let n : got ≡ length held = omega (arith, h.counted) in
        let t : got < 128 = omega arith in
        let m : got < length line = omega (arith, h.size) in
        let w : take got line ≡ held = h.kept ∙ take_all 128 held (omega arith) in
        let a : take 128 (held ++ (b ∷ [])) ≡ held ++ (b ∷ []) = take_all 128 (held ++ (b ∷ [])) (simp length-append (omega arith)) in
        rw (lt-ltb got 128 t)
        record {
          counted = simp length-append (omega arith);
          kept = rw (add-one got) (take-suc-set line got b m ∙ rw (w, a));
          size = simp length-set h.size;
        }
    go (no k) =
        let g : 128 ≤ got = omega (arith, h.counted) in
        let w : take got line ≡ line = take_all got line (omega (arith, h.size)) in
        let v : take 129 line ≡ line = take_all 129 line (omega (arith, h.size)) in
        let x : take 128 (held ++ (b ∷ [])) ≡ take 128 held = take-append-le 128 held (b ∷ []) (omega arith) in
        rw (le-ltb got 128 g)
        record {
          counted = simp length-append (omega arith);
          kept = v ∙ sym w ∙ h.kept ∙ sym x;
          size = h.size;
        }

-- the end of a line: what is said, with the buffer, is the line
pub trim_le : (n : ℕ) (text : List ℕ) → trimmed n text ≤ n
trim_le n text =
    split (eqb n 0)
    (λ e. rw e (omega arith))
    (λ e. rw e (split (eqb (get_or text (n - 1) 0) carriage_return) (λ f. rw f (omega arith)) (λ f. rw f (omega arith))))

trim_take : (n : ℕ) (text : List ℕ) → trimmed n (take n text) ≡ trimmed n text
trim_take n text = go (dec_lt 0 n)
  where
    go : Dec (0 < n) → trimmed n (take n text) ≡ trimmed n text
    go (yes h) = rw (get_or-take n text (n - 1) 0 (omega arith))
    go (no h) = let z : n ≡ 0 = omega arith in rw z

shown : (n : ℕ) (text : List ℕ) → n ≤ length text → take (trimmed n text) text ≡ take (trimmed (length (take n text)) (take n text)) (take n text)
shown n text h = rw (length-take-le n text h, trim_take n text) (sym (take-take (trimmed n text) n text (trim_le n text)))

pub said_line : {held : List ℕ} {got : ℕ} {line : List ℕ} → Holds held got line → told (said_of got line) line ≡ line_of held ∷ []
said_line {held} {got} {line} h = go (dec_le (length held) 128)
  where
    go : Dec (length held ≤ 128) → told (said_of got line) line ≡ line_of held ∷ []
    go (yes k) =
        let n : got ≤ 128 = omega (arith, h.counted) in
        let m : got ≤ length line = omega (arith, h.size) in
        let w : take got line ≡ held = h.kept ∙ take_all 128 held k in
        let s : take (trimmed got line) line ≡ take (trimmed (length held) held) held = rw w at (shown got line m) in
        rw (le-ltb 128 got n, le-ltb 128 (length held) k) (rw s)
    go (no k) =
        let n : 128 < got = omega (arith, h.counted) in
        rw (lt-ltb 128 got n, lt-ltb 128 (length held) (omega arith))

last_of_lem : (n : ℕ) (line : List ℕ) → eqb n 0 ≡ false → told (last_of n line) line ≡ told (said_of n line) line
last_of_lem n line e = rw e

pub said_last : {held : List ℕ} {got : ℕ} {line : List ℕ} → Holds held got line → told (last_of got line) line ≡ map line_of (stretches held [])
said_last {held} {got} {line} h = go (ℕ_discrete (length held) 0)
  where
    go : Dec (length held ≡ 0) → told (last_of got line) line ≡ map line_of (stretches held [])
    go (yes e) =
        let n : got ≡ 0 = omega (arith, h.counted) in
        rw (eq-eqb (length held) 0 e) (rw n)
    go (no e) =
        let n = ne_eqb got 0 (λ z. omega (arith, h.counted)) in
        let s = said_line h in
        rw (ne_eqb (length held) 0 e) (last_of_lem got line n ∙ s)

-- A call: what is held after it, what it said, and what is left of the piece, make up the lines that were to come.
-- `more` is whatever follows the piece.
record Stepped (held bytes more : List ℕ) (at : ℕ) (c : Cut) : Type 0 where
  now_held : List ℕ
  holds : Holds now_held (step_of c).held.0 c.line
  onward : at ≤ (step_of c).at
  lines : map line_of (stretches held (bytes ++ more))
      ≡ told (step_of c).said c.line ++ map line_of (stretches now_held (drop ((step_of c).at - at) bytes ++ more))

stepped : (bytes more held : List ℕ) (got : ℕ) (line : List ℕ) (at : ℕ) → Holds held got line → Stepped held bytes more at (cut got line at bytes)
stepped [] more held got line at h =
    record { now_held = held; holds = h; onward = omega arith; lines = rw (drop-nil (at - at)) }
stepped (b ∷ bytes) more held got line at h =
    split (eqb b newline)
    (λ e.
    let z : at + 1 - at ≡ 1 = omega arith in
    rw e
    record {
      now_held = [];
      holds = holds_none line h.size;
      onward = omega arith;
      lines = rw (e, z) (rw (said_line h));
    })
    (λ e.
    let s = stepped bytes more (held ++ (b ∷ [])) (grown got) (kept got b line) (at + 1) (holds_more b h) in
    let o = s.onward in
    let p = (step_of (cut (grown got) (kept got b line) (at + 1) bytes)).at in
    let z : p - at ≡ suc (p - (at + 1)) = omega arith in
    rw e
    record {
      now_held = s.now_held;
      holds = s.holds;
      onward = omega arith;
      lines = rw (e, z) s.lines;
    })

-- from anything that is held
pub given : {held : List ℕ} {got : ℕ} {line piece : List ℕ} {at : ℕ} {pieces : List (List ℕ)} {out : List Line}
    → Holds held got line → Gives got line piece at pieces out → out ≡ map line_of (stretches held (drop at piece ++ joined pieces))
given {held} {got} {line} {piece} {at} {pieces} h (calls g) =
    let c = cut got line at (drop at piece) in
    let s = stepped (drop at piece) (joined pieces) held got line at h in
    let o = s.onward in
    let z : at + ((step_of c).at - at) ≡ (step_of c).at = omega arith in
    ap (λ (r : List Line). told (step_of c).said c.line ++ r) (given {held = s.now_held} s.holds g)
    ∙ sym (s.lines ∙ rw (drop-drop ((step_of c).at - at) at piece, z))
given {held} {piece = piece} {at = at} h (turns k g) = rw (drop_of_length-le piece {i = at} k) (given {held = held} h g)
given {held} {piece = piece} {at = at} h (ends k) = rw (drop_of_length-le piece {i = at} k) (said_last h)

pub in_pieces : InPieces
in_pieces line size pieces out g = given (holds_none line size) g
