-- Answers, letter by letter.
-- Assumes nothing.
use Rattle.std.specs.Prelude.{◌≡◌, refl, Ok, Err}
use Rattle.base.specs.Ascii.{ascii}
use Rattle.crc.specs.Crc.{shift, crc_from, crc_of}
use Rattle.text.specs.Digits.{digit}
use Rattle.numerals.specs.Decimal.{decimal}
use Rattle.menu_names.specs.Names.{name_words}
use Rattle.judge.specs.declared.Which.TheVariants.{Start, Deflection}
use Rattle.wording.specs.declared.Command.TheVariants.{HeadMask, Target, Stepping, DirectionWindow, EnergyWindow}
use Rattle.wording.specs.declared.Refusal.TheVariants.{NotOne}
use Rattle.plain_words.specs.Plain.{plain_of}
use Rattle.asking.specs.declared.Asked.TheVariants.{Order, TooWide, Means}
use Rattle.answering.specs.Answers.{refused_line, order_lines, answer_of}

-- the block of case a
pub energy : answer_of (Order (EnergyWindow 1 0)) ≡ ascii "6402\nA401\nA400\nE415\n"
unfolding order_lines digit crc_of crc_from shift
energy = refl

-- of the start and the deflection supply: a word written; a command told, by the longest name (02 (iv))
pub start : answer_of (Order (Target Start 5)) ≡ ascii "2005\n"
unfolding order_lines digit
start = refl

pub deflection : answer_of (Means (Ok (Stepping Deflection 255))) ≡ ascii "deflection stepping 255\n"
unfolding plain_of name_words decimal digit
deflection = refl

-- a setting too wide
pub wide : (answer_of (Order (HeadMask 8)) ≡ ascii "refused 25\n") × (answer_of TooWide ≡ ascii "refused 25\n")
unfolding order_lines refused_line decimal digit
wide = (refl, refl)

-- the block of case c, told in plain words; words that are not one command
pub direction : answer_of (Means (Ok (DirectionWindow 3 19))) ≡ ascii "direction window 3 19\n"
unfolding plain_of name_words decimal digit
direction = refl

pub not_one : answer_of (Means (Err NotOne)) ≡ ascii "refused 38\n"
unfolding refused_line decimal digit
not_one = refl
