-- Where the steps lead. Proved in proofs/Laws.antt.
-- Keeps 02 (iii): what is shown step by step is the check of 01. Assumes nothing.
use Rattle.std.specs.Prelude.{◌≡◌, List, ◌++◌, ℕ}
use Rattle.crc.specs.Crc.{crc_byte}
use Rattle.shift_lines.specs.Lines.{shown, byte_lines}

-- the lines of a byte end with the check after that byte
abbrev pub Leads : Type 0
Leads = (c b : ℕ) → (front : List ℕ) × (byte_lines c b ≡ front ++ shown (crc_byte c b))
