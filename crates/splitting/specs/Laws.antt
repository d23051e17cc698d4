-- What a caller relies on: words put together are read back. It is proved in proofs/Spoken.antt.
-- Assumes nothing.
use Rattle.std.specs.Prelude.{◌≡◌, List, ℕ}
use Rattle.splitting.specs.Words.{words_of, spoken, Spellable}

-- Words put together with one space between are read back as those words.
abbrev pub SpokenBack : Type 0
SpokenBack = (words : List (List ℕ)) → Spellable words → words_of (spoken words) ≡ words
