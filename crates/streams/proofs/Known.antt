-- Known bytes of an input: nothing read leaves them, and what is read twice is read one behind the other.
-- Assumes nothing.
use mathlib.Core.Path.{refl, ◌∙◌, sym}
use mathlib.Core.List.{List, [], ◌++◌, append_assoc}
use Prim.Native.Nat.{ℕ}
use Rattle.std.specs.Prelude.{Option, Some, None}
use Rattle.std.specs.Io.KnownBytes.{Consumes}

pub none_read : (x : Option (List ℕ)) → Consumes x x []
none_read None = tt
none_read (Some xs) = refl

pub read_on : (x y z : Option (List ℕ)) (a b : List ℕ) → Consumes x y a → Consumes y z b → Consumes x z (a ++ b)
read_on None y z a b h k = tt
read_on (Some xs) None z a b h k = absurd h
read_on (Some xs) (Some ys) None a b h k = absurd k
read_on (Some xs) (Some ys) (Some zs) a b h k = h ∙ rw k (sym (append_assoc a b zs))
