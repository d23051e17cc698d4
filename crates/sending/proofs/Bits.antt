-- A switch as a number, as std has it and as the rules do.
-- Assumes nothing.
use Rattle.std.specs.Prelude.{◌≡◌, Bool, true, false, refl}
use Rattle.std.specs.Int.{from_bool}
use Rattle.sending.specs.Sending.{bit}

pub bit_is : (b : Bool) → from_bool b ≡ bit b
bit_is true = refl
bit_is false = refl
