-- What one call does: it goes on in the piece, byte by byte, to the end of the line or of the piece.
-- Assumes nothing.
use Rattle.std.specs.Prelude.{ℕ, ◌+◌, Bool, true, false, List, [], ◌∷◌, eqb, ltb, set}
use Rattle.base.specs.Pick.{pick}
use Rattle.cutting.specs.Lines.{newline, room, trimmed}
use Rattle.cutting.specs.declared.Held.{Held}
use Rattle.cutting.specs.declared.Said.{Said}
use Rattle.cutting.specs.declared.Said.TheVariants.{Line, TooLong, Nothing}
use Rattle.cutting.specs.declared.Step.{Step}

abbrev pub held : ℕ → Held
held n = record { 0 = n }

abbrev pub start : Held
start = held 0

-- One byte more is held: up to room, and one more for all that is longer.
abbrev pub grown : ℕ → ℕ
grown got = pick (ltb got room) (got + 1) (room + 1)

-- A byte goes into the buffer behind those that are held, where there is room.
abbrev pub kept : ℕ → ℕ → List ℕ → List ℕ
kept got b line = pick (ltb got room) (set line got b) line

-- What is said of a line at its end.
abbrev pub said_of : ℕ → List ℕ → Said
said_of got line = pick (ltb room got) TooLong (Line (trimmed got line))

-- What is said at the end of the stream.
abbrev pub last_of : ℕ → List ℕ → Said
last_of got line = pick (eqb got 0) Nothing (said_of got line)

-- Where a call stands: how many bytes are held, the buffer, the place in the piece, and whether the line has ended.
pub record Cut : Type 0 where
  pub got : ℕ
  pub line : List ℕ
  pub at : ℕ
  pub ended : Bool

-- The bytes from the place on.
abbrev pub cut : ℕ → List ℕ → ℕ → List ℕ → Cut
cut got line at [] = record { got = got; line = line; at = at; ended = false }
cut got line at (b ∷ bytes) =
    pick (eqb b newline) (record { got = got; line = line; at = at + 1; ended = true }) (cut (grown got) (kept got b line) (at + 1) bytes)

-- The answer of the call.
abbrev pub step_of : Cut → Step
step_of c =
    pick c.ended
    (record { held = held 0; at = c.at; said = said_of c.got c.line })
    (record { held = held c.got; at = c.at; said = Nothing })
