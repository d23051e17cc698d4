-- Single outcome: two results that meet a function's own contract at the same arguments are equal.
-- Assumes nothing.
use mathlib.Core.Path.{◌≡◌}
use mathlib.Core.List.{List}
use Prim.Native.Nat.{ℕ}
use Rattle.base.proofs.Single.{same}
use Rattle.shift_lines.proofs.byte_lines.Reads as byte-lines
use Rattle.shift_lines.proofs.check_line.Reads as check-line

pub byte_lines_one : (c b : ℕ) (r q : List ℕ) → byte-lines.Post tt (c, (b, tt)) r (c, (b, tt)) → byte-lines.Post tt (c, (b, tt)) q (c, (b, tt)) → r ≡ q
byte_lines_one c b r q m n = same m n

pub check_line_one : (c : ℕ) (r q : List ℕ) → check-line.Post tt (c, tt) r (c, tt) → check-line.Post tt (c, tt) q (c, tt) → r ≡ q
check_line_one c r q m n = same m n
