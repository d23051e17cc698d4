-- The words that are written for a command, typed in hex, are read back as that command (specs/Asks `HexBack`).
-- Assumes nothing.
use mathlib.Core.Path.{◌≡◌, refl, ap, ◌∙◌}
use mathlib.Core.Bool.{true}
use mathlib.Core.List.{List, [], ◌∷◌, map}
use Prim.Native.Nat.{ℕ, ◌/◌, ◌%◌, ◌<◌}
use native.Mathlib.Omega.{arith}
use lib.Dec.{ltb}
use lib.ListN.{length, get_or}
use Rattle.base.proofs.Cases.{split}
use Rattle.text.specs.Digits.{digit, hex_word}
use Rattle.numerals.proofs.Laws.{word_back}
use Rattle.menu_names.proofs.Rows.{none_found}
use Rattle.wording.specs.declared.Command.{Command}
use Rattle.wording.specs.declared.Command.TheVariants.{Relay, Iel, HeadMask, Target, Limit, Mode, Stepping, Multiplexers, DirectionWindow, EnergyWindow}
use Rattle.wording.specs.Written.{fits, words_of, block}
use Rattle.wording.specs.Meaning.{read_of}
use Rattle.wording.proofs.Sent.{codes, fits_one, fits_two, check_fits}
use Rattle.wording.proofs.Laws.{laws}
use Rattle.asking.specs.declared.Asked.TheVariants.{Means}
use Rattle.asking.specs.Asks.{values, all_words, meant_of, hex_of, ask_of, HexBack}

-- each is a word of 16 bits
abbrev Sixteen : List ℕ → Type 0
Sixteen [] = Unit
Sixteen (w ∷ ws) = (w < 65536) × Sixteen ws

block_sixteen : (code a b : ℕ) → code < 64 → a < 256 → b < 256 → Sixteen (block code a b)
block_sixteen code a b h la lb = let k = check_fits a b la lb in (omega arith, (omega arith, (omega arith, (omega arith, tt))))

sixteen : (c : Command) → fits c ≡ true → Sixteen (words_of c)
sixteen (Relay on off) f = let h = fits_two on 2 off 2 f in (omega arith, tt)
sixteen (Iel clock enable) f = let h = fits_two clock 2 enable 2 f in (omega arith, tt)
sixteen (HeadMask mask) f = let h = fits_one mask 8 f in (omega arith, tt)
sixteen (Target x target) f = let h = fits_one target 16 f in (omega (arith, (codes x).0), tt)
sixteen (Limit x limit) f = let h = fits_one limit 16 f in (omega (arith, (codes x).1), tt)
sixteen (Mode low) f = let h = fits_one low 256 f in (omega arith, tt)
sixteen (Stepping x low) f = let h = fits_one low 256 f in (omega (arith, (codes x).2), tt)
sixteen (Multiplexers byte bit) f = let h = fits_two byte 256 bit 2 f in block_sixteen 0x20 byte bit (omega arith) h.0 (omega arith)
sixteen (DirectionWindow start stop) f = let h = fits_two start 32 stop 32 f in block_sixteen 0x23 start stop (omega arith) (omega arith) (omega arith)
sixteen (EnergyWindow start stop) f = let h = fits_two start 32 stop 32 f in block_sixteen 0x24 start stop (omega arith) (omega arith) (omega arith)

-- words in hex have their values
all_read : (ws : List ℕ) → Sixteen ws → (all_words (map hex_word ws) ≡ true) × (values (map hex_word ws) ≡ ws)
all_read [] h = (refl, refl)
all_read (w ∷ ws) h =
    let r = all_read ws h.1 in
    let e = word_back w h.0 in
    (rw e r.0, rw e (ap (λ (t : List ℕ). w ∷ t) r.1))

-- a digit is no small letter
low_digit : (d : ℕ) → d < 16 → digit d < 0x64
unfolding digit
low_digit d h = split (ltb d 10) (λ e. rw e (omega arith)) (λ e. rw e (omega arith))

meant_is : (ws : List ℕ) → Sixteen ws → meant_of (map hex_word ws) ≡ read_of ws
unfolding meant_of
meant_is ws h = let r = all_read ws h in rw r.0 (ap read_of r.1)

typed : (ws : List ℕ) → 0 < length ws → Sixteen ws → ask_of (map hex_word ws) ≡ Means (read_of ws)
unfolding ask_of hex_of
typed [] k h = absurd (omega arith)
typed (w ∷ ws) k h =
    let l = h.0 in
    let n =
    none_found (digit (w / 256 / 16)) (digit (w / 256 % 16) ∷ digit (w % 256 / 16) ∷ digit (w % 256 % 16) ∷ []) (get_or (map hex_word (w ∷ ws)) 1 []) (low_digit (w / 256 / 16) (omega arith)) in
    rw (n, word_back w l) (ap Means (meant_is (w ∷ ws) h))

some_word : (c : Command) → 0 < length (words_of c)
some_word (Relay on off) = omega arith
some_word (Iel clock enable) = omega arith
some_word (HeadMask mask) = omega arith
some_word (Target x target) = omega arith
some_word (Limit x limit) = omega arith
some_word (Mode low) = omega arith
some_word (Stepping x low) = omega arith
some_word (Multiplexers byte bit) = omega arith
some_word (DirectionWindow start stop) = omega arith
some_word (EnergyWindow start stop) = omega arith

pub hex_back : HexBack
hex_back c f = typed (words_of c) (some_word c) (sixteen c f) ∙ ap Means (laws.back c f)
