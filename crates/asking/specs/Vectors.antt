-- What each row of the menu means, typed with settings that tell it from all others: names, commands and settings cannot trade places unseen.
-- Assumes nothing.
use Rattle.std.specs.Prelude.{◌≡◌, refl, List, [], ◌∷◌, ℕ}
use Rattle.base.specs.Ascii.{ascii}
use Rattle.judge.specs.declared.Which.{Which}
use Rattle.judge.specs.declared.Which.TheVariants.{Stop, Start, Deflection}
use Rattle.wording.specs.declared.Command.{Command}
use Rattle.wording.specs.declared.Command.TheVariants.{Relay, Iel, HeadMask, Target, Limit, Mode, Stepping, Multiplexers, DirectionWindow, EnergyWindow}
use Rattle.numerals.specs.Letters.{digit_of}
use Rattle.menu_names.specs.Names.{name_words, seek, find_of}
use Rattle.menu_rows.specs.Rows.{made}
use Rattle.asking.specs.declared.Asked.TheVariants.{Order, TooWide, NotRead}
use Rattle.asking.specs.Asks.{order_of, ask_of}

-- a line of two words, of three and of four, and the command that it is
abbrev two : List ℕ → List ℕ → Command → Type 0
two a b c = ask_of (a ∷ b ∷ []) ≡ Order c

abbrev three : List ℕ → List ℕ → List ℕ → Command → Type 0
three a b x c = ask_of (a ∷ b ∷ x ∷ []) ≡ Order c

abbrev four : List ℕ → List ℕ → List ℕ → List ℕ → Command → Type 0
four a b x y c = ask_of (a ∷ b ∷ x ∷ y ∷ []) ≡ Order c

pub relay : two (ascii "relay") (ascii "on") (Relay 1 0) × two (ascii "relay") (ascii "off") (Relay 0 1)
    × two (ascii "relay") (ascii "both") (Relay 1 1) × two (ascii "relay") (ascii "neither") (Relay 0 0)
unfolding ask_of find_of seek name_words order_of made digit_of
relay = (refl, refl, refl, refl)

pub one_setting : three (ascii "head") (ascii "mask") (ascii "5") (HeadMask 5) × two (ascii "mode") (ascii "5") (Mode 5)
unfolding ask_of find_of seek name_words order_of made digit_of
one_setting = (refl, refl)

-- the three rows of a supply, by its name
abbrev of_supply : List ℕ → Which → Type 0
of_supply name x =
    three name (ascii "target") (ascii "5") (Target x 5) × three name (ascii "limit") (ascii "5") (Limit x 5) × three name (ascii "stepping") (ascii "5") (Stepping x 5)

pub supplies : of_supply (ascii "stop") Stop × of_supply (ascii "start") Start × of_supply (ascii "deflection") Deflection
unfolding ask_of find_of seek name_words order_of made digit_of
supplies = ((refl, refl, refl), (refl, refl, refl), (refl, refl, refl))

pub two_settings : three (ascii "iel") (ascii "1") (ascii "0") (Iel 1 0) × three (ascii "multiplexers") (ascii "1") (ascii "0") (Multiplexers 1 0)
    × four (ascii "direction") (ascii "window") (ascii "1") (ascii "0") (DirectionWindow 1 0)
    × four (ascii "energy") (ascii "window") (ascii "1") (ascii "0") (EnergyWindow 1 0)
unfolding ask_of find_of seek name_words order_of made digit_of
two_settings = (refl, refl, refl, refl)

-- a setting that no byte holds, and one too few
pub others : (ask_of (ascii "mode" ∷ ascii "256" ∷ []) ≡ TooWide) × (ask_of (ascii "stop" ∷ ascii "target" ∷ []) ≡ NotRead)
unfolding ask_of find_of seek name_words order_of made digit_of
others = (refl, refl)
