-- Of three codes, that of a supply, as the code tells it; `Rattle.judge.specs.Table` has the codes by name.
-- Assumes nothing.
use Rattle.std.specs.Prelude.{ℕ}
use Rattle.judge.specs.declared.Which.{Which}
use Rattle.judge.specs.declared.Which.TheVariants.{Stop, Start, Deflection}

abbrev pub of_supply : Which → ℕ → ℕ → ℕ → ℕ
of_supply Stop stop start deflection = stop
of_supply Start stop start deflection = start
of_supply Deflection stop start deflection = deflection
