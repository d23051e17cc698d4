-- What a caller's loop needs: a call gets on in the piece and stays within it, and a line that is told is within the buffer.
-- Assumes nothing.
use mathlib.Core.Path.{◌≡◌, refl, ap}
use mathlib.Core.Bool.{false}
use mathlib.Core.List.{List, [], ◌∷◌}
use Prim.Native.Nat.{ℕ, zero, suc, ◌+◌, ◌-◌, ◌<◌, ◌≤◌}
use native.Mathlib.Decide.{dec_lt}
use native.Mathlib.Omega.{arith}
use borrow.Author.Tests.{ltb-false}
use lib.Dec.{eqb, ltb}
use lib.ListN.{length, drop, length-drop}
use Rattle.base.proofs.Cases.{split}
use Rattle.cutting.specs.Lines.{Line, newline, room, trimmed}
use Rattle.cutting.specs.Cut.{Cut, grown, kept, said_of, last_of, cut, step_of}
use Rattle.cutting.specs.Pieces.{Gives}
use Rattle.cutting.specs.Pieces.Gives.{calls, turns, ends}
use Rattle.cutting.specs.declared.Said.{Said}
use Rattle.cutting.specs.declared.Said.TheVariants as said
use Rattle.cutting.proofs.Laws.{trim_le}

cut_within : (got : ℕ) (line : List ℕ) (at : ℕ) (bytes : List ℕ)
    → (at ≤ (step_of (cut got line at bytes)).at) × ((step_of (cut got line at bytes)).at ≤ at + length bytes)
cut_within got line at [] = (omega arith, omega arith)
cut_within got line at (b ∷ bytes) =
    split (eqb b newline)
    (λ e. rw e (omega arith, omega arith))
    (λ e. let s = cut_within (grown got) (kept got b line) (at + 1) bytes in rw e (omega arith, omega arith))

cut_ahead : (got : ℕ) (line : List ℕ) (at : ℕ) (bytes : List ℕ) → 0 < length bytes → at < (step_of (cut got line at bytes)).at
cut_ahead got line at [] h = absurd (omega arith)
cut_ahead got line at (b ∷ bytes) h =
    split (eqb b newline)
    (λ e. rw e (omega arith))
    (λ e. let s = cut_within (grown got) (kept got b line) (at + 1) bytes in rw e (omega arith))

-- from a place within the piece a call gets on by a byte at least, and no further than the piece's end
module _ (got : ℕ) (line piece : List ℕ) (at : ℕ) (h : at < length piece) where
  pub ahead : at < (step_of (cut got line at (drop at piece))).at
  ahead = cut_ahead got line at (drop at piece) (simp length-drop (omega arith))

  pub within : (step_of (cut got line at (drop at piece))).at ≤ length piece
  within = let s = (cut_within got line at (drop at piece)).1 in let n = length-drop at piece in omega arith

-- what is said is one of three
abbrev is_line : Said → ℕ
is_line (said.Line n) = 1
is_line said.TooLong = 0
is_line said.Nothing = 0

no_line : (s : Said) (n : ℕ) → is_line s ≡ 0 → s ≡ said.Line n → ⊥
no_line s n z e = let k = ap is_line e in omega arith

-- a line that is told is at most as long as the buffer
said_room : (got n : ℕ) (line : List ℕ) → said_of got line ≡ said.Line n → n ≤ 128
said_room got n line e =
    split (ltb room got)
    (λ f. absurd (no_line said.TooLong n refl (rw f at e)))
    (λ f.
    let k : said.Line (trimmed got line) ≡ said.Line n = rw f at e in
    let m : trimmed got line ≡ n = cc in
    let g = ltb-false room got f in
    let t = trim_le got line in
    omega arith)

pub line_room : (c : Cut) (n : ℕ) → (step_of c).said ≡ said.Line n → n ≤ 128
line_room c n e =
    split c.ended
    (λ f. said_room c.got n c.line (rw f at e))
    (λ f. absurd (no_line said.Nothing n refl (rw f at e)))

pub last_room : (got n : ℕ) (line : List ℕ) → last_of got line ≡ said.Line n → n ≤ 128
last_room got n line e =
    split (eqb got 0)
    (λ f. absurd (no_line said.Nothing n refl (rw f at e)))
    (λ f. said_room got n line (last-said got n line f e))
  where
    last-said : (got n : ℕ) (line : List ℕ) → eqb got 0 ≡ false → last_of got line ≡ said.Line n → said_of got line ≡ said.Line n
    last-said got n line f e = rw f (rw f at e)

-- Every stream in pieces gives some lines: the calls come to an end.
pub record Given (got : ℕ) (line piece : List ℕ) (at : ℕ) (pieces : List (List ℕ)) : Type 0 where
  pub out : List Line
  pub gives : Gives got line piece at pieces out

-- a piece to its end, and then what follows it
to_end : (pieces : List (List ℕ))
    → ((got : ℕ) (line piece : List ℕ) (at : ℕ) → length piece ≤ at → Given got line piece at pieces)
    → (fuel got : ℕ) (line piece : List ℕ) (at : ℕ) → length piece - at ≤ fuel → Given got line piece at pieces
to_end pieces rest zero got line piece at h = rest got line piece at (omega arith)
to_end pieces rest (suc fuel) got line piece at h =
    let c = cut got line at (drop at piece) in
    elim (dec_lt at (length piece)) [
      | yes k ↦
          let s = ahead got line piece at k in
          let r = to_end pieces rest fuel (step_of c).held.0 c.line piece (step_of c).at (omega arith) in
          record { out = _; gives = calls r.gives }
      | no k ↦ rest got line piece at (omega arith)
    ]

pub always : (pieces : List (List ℕ)) (got : ℕ) (line piece : List ℕ) (at : ℕ) → Given got line piece at pieces
always [] got line piece at = to_end [] (λ g l p a k. record { out = _; gives = ends k }) (length piece) got line piece at (omega arith)
always (next ∷ pieces) got line piece at =
    to_end (next ∷ pieces)
    (λ g l p a k. let r = always pieces g l next 0 in record { out = r.out; gives = turns k r.gives })
    (length piece) got line piece at (omega arith)
