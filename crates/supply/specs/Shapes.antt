-- What functions answer, by the names that the rules use: std's Option and Result over the types of this crate.
-- No rule stands here. Assumes nothing.
use Rattle.std.specs.Prelude.{Bool, Result}
use Rattle.supply.specs.declared.Supply.{Supply}
use Rattle.supply.specs.declared.Refusal.{Refusal}

-- what a command makes of a supply, or why it is refused
abbrev pub Change : Type 0
Change = Result Supply Refusal

-- what a relay word orders: on or off, or why it is refused
abbrev pub RelayWord : Type 0
RelayWord = Result Bool Refusal
