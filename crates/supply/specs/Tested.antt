-- The row of a limit without its refusal 0Dh, "limit > 15", beside `limited` of Rules, which has it. No word is judged by this one: it stands so that
-- SupplyLaws can say what the test comes to.
-- Keeps 02 (v), a refusal nobody can get. Assumes nothing.
use Rattle.std.specs.Prelude.{ℕ, min, not, eqb, Ok, Err}
use Rattle.base.specs.Pick.{pick}
use Rattle.supply.specs.Rules.{bits3_0, with_target, with_limit}
use Rattle.supply.specs.declared.Supply.{Supply}
use Rattle.supply.specs.declared.Refusal.TheVariants.{Unsettled}
use Rattle.supply.specs.Shapes.{Change}

unfoldable pub limit_untested : Supply → ℕ → Change
limit_untested s low =
    pick (not (eqb s.level s.target)) (Err Unsettled) (
    Ok (with_target (with_limit s (bits3_0 low)) (min s.target (bits3_0 low))))
