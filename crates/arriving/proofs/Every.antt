-- `frame`'s test of all bytes is std's `list_all`.
-- Assumes nothing.
use Rattle.std.proofs.Common.{◌≡◌, ℕ, Bool, true, false, ◌&&◌, List, [], ◌∷◌, refl}
use Rattle.std.specs.Prelude.{◌==◌}
use Rattle.std.specs.List.{list_all}
use Rattle.base.specs.Pick.{pick}
use Rattle.frame.specs.Read.{all_are}

both : (c d : Bool) → pick c d false ≡ c && d
both true d = refl
both false d = refl

pub all_are_is : (b : ℕ) (f : List ℕ) → all_are b f ≡ list_all (λ x. x == b) f
unfolding all_are
all_are_is b [] = refl
all_are_is b (x ∷ f) = rw (all_are_is b f) (both (x == b) (list_all (λ x. x == b) f))
