-- A call goes on by one byte, and comes to its end.
-- Assumes nothing.
use mathlib.Core.Path.{◌≡◌}
use mathlib.Core.Bool.{true, false}
use mathlib.Core.List.{List}
use Prim.Native.Nat.{ℕ, ◌+◌, ◌<◌, ◌≤◌}
use native.Mathlib.Numerals.{add-one}
use borrow.Author.Tests.{eq-eqb, ne_eqb}
use lib.ListN.{length, get_or, drop, drop_of_length-le}
use lib.Seq.{drop-cons}
use Rattle.cutting.specs.Lines.{newline}
use Rattle.cutting.specs.Cut.{Cut, cut, grown, kept}

abbrev pub stop : ℕ → List ℕ → ℕ → Cut
stop got line at = record { got = got; line = line; at = at; ended = true }

abbrev pub pause : ℕ → List ℕ → ℕ → Cut
pause got line at = record { got = got; line = line; at = at; ended = false }

module _ (got : ℕ) (line piece : List ℕ) (at : ℕ) where
  pub at_newline : at < length piece → get_or piece at 0 ≡ newline → cut got line at (drop at piece) ≡ stop got line (at + 1)
  at_newline h e = rw (drop-cons piece at 0 h) (rw (eq-eqb (get_or piece at 0) newline e))

  pub at_byte : at < length piece → (get_or piece at 0 ≡ newline → ⊥)
      → cut got line at (drop at piece) ≡ cut (grown got) (kept got (get_or piece at 0) line) (at + 1) (drop (at + 1) piece)
  at_byte h e = rw (drop-cons piece at 0 h) (rw (ne_eqb (get_or piece at 0) newline e, add-one at))

  pub at_end : length piece ≤ at → cut got line at (drop at piece) ≡ pause got line at
  at_end h = rw (drop_of_length-le piece {i = at} h)
