-- A fold over the pieces of a stream.
-- Assumes nothing.
use Rattle.std.specs.Prelude.{ℕ, List, [], ◌++◌, take, Result, Ok}

-- The step as it is called: what it is, the state, the piece and how many bytes of it came, what it answers, and what it then is.
-- From the first step and the start, the bytes read and the step and the state after them: each call answered the next state.
pub data Folded {F S E : Type 0} (step : F → S → List ℕ → ℕ → Result S E → F → Type 0) (first : F) (start : S) : List ℕ → F → S → Type 0 where
  begins : Folded step first start [] first start
  goes_on : {read : List ℕ} {f g : F} {s t : S} {piece : List ℕ} {n : ℕ}
      → Folded step first start read f s → step f s piece n (Ok t) g → Folded step first start (read ++ take n piece) g t
