-- Proofs by a test: of a choice, of two tests at once, and of an option; and proofs of each supply.
-- Assumes nothing.
use Rattle.std.specs.Prelude.{Option, Some, None}
use mathlib.Core.Path.{◌≡◌, refl}
use mathlib.Core.Bool.{Bool, true, false, ◌&&◌, ◌||◌}
use Rattle.base.specs.Pick.{pick}
use Rattle.judge.specs.declared.Which.{Which}
use Rattle.judge.specs.declared.Which.TheVariants.{Stop, Start, Deflection}

-- what holds of both choices, each where its test holds, holds of the choice
pub by_test : {A : Type 0} {x y : A} (P : A → Type 0) (b : Bool) → (b ≡ true → P x) → (b ≡ false → P y) → P (pick b x y)
by_test P true f g = f refl
by_test P false f g = g refl

-- what holds whether there is a value or none
pub by_option : {A P : Type 0} (o : Option A) → (o ≡ None → P) → ((x : A) → o ≡ Some x → P) → P
by_option None f g = f refl
by_option (Some x) f g = g x refl

pub and_right : (a b : Bool) → a && b ≡ true → b ≡ true
and_right true b e = e
and_right false b e = cc

pub not_both : (a b : Bool) → b ≡ false → a && b ≡ false
not_both true b e = e
not_both false b e = refl

pub or_true : (a : Bool) → a || true ≡ true
or_true true = refl
or_true false = refl

-- what holds of each of the three supplies holds of any
pub each : (P : Which → Type 0) → P Stop → P Start → P Deflection → (x : Which) → P x
each P a b c Stop = a
each P a b c Start = b
each P a b c Deflection = c
