-- The lines that a stream in pieces gives, call by call.
-- Assumes nothing.
use Rattle.std.specs.Prelude.{ℕ, ◌≤◌, ◌≡◌, List, [], ◌∷◌, ◌++◌, length, take, drop}
use Rattle.cutting.specs.Lines.{Line, room, lines_of}
use Rattle.cutting.specs.Lines.Line.{Text, TooLong}
use Rattle.cutting.specs.Cut.{last_of, cut, step_of}
use Rattle.cutting.specs.declared.Said.{Said}
use Rattle.cutting.specs.declared.Said.TheVariants as said

-- The line that is told, with the buffer as it then is.
abbrev pub told : Said → List ℕ → List Line
told (said.Line n) line = Text (take n line) ∷ []
told said.TooLong line = TooLong ∷ []
told said.Nothing line = []

-- `Gives got line piece at pieces out`: from what is held, the piece in hand from its place on and the pieces that come after it give the lines out.
pub data Gives : ℕ → List ℕ → List ℕ → ℕ → List (List ℕ) → List Line → Type 0 where
  -- the piece is not at its end: a call
  calls : {got : ℕ} {line piece : List ℕ} {at : ℕ} {pieces : List (List ℕ)} {out : List Line}
      → Gives (step_of (cut got line at (drop at piece))).held.0 (cut got line at (drop at piece)).line piece (step_of (cut got line at (drop at piece))).at pieces out
      → Gives got line piece at pieces (told (step_of (cut got line at (drop at piece))).said (cut got line at (drop at piece)).line ++ out)
  -- it is: the next piece
  turns : {got : ℕ} {line piece next : List ℕ} {at : ℕ} {pieces : List (List ℕ)} {out : List Line}
      → length piece ≤ at → Gives got line next 0 pieces out → Gives got line piece at (next ∷ pieces) out
  -- there is none: the end of the stream
  ends : {got : ℕ} {line piece : List ℕ} {at : ℕ} → length piece ≤ at → Gives got line piece at [] (told (last_of got line) line)

abbrev pub joined : List (List ℕ) → List ℕ
joined [] = []
joined (piece ∷ pieces) = piece ++ joined pieces

-- In whatever pieces a stream comes, and whatever the buffer holds at first, the lines given are those of the whole stream.
abbrev pub InPieces : Type 0
InPieces = (line : List ℕ) → length line ≡ room → (pieces : List (List ℕ)) (out : List Line) → Gives 0 line [] 0 pieces out → out ≡ lines_of (joined pieces)
