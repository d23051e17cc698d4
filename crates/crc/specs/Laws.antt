-- What a student relies on: the laws of the check of 01 "Command words". They are proved in proofs/Laws.antt.
-- Assumes nothing.
use Rattle.std.specs.Prelude.{◌≡◌, List, [], ◌∷◌, ◌++◌, ℕ, ◌<◌}
use Rattle.crc.specs.declared.Judged.TheVariants.{Right, Wrong}
use Rattle.crc.specs.Crc.{crc_byte, crc_from, crc_of}
use Rattle.crc.specs.Judged.{judge_of}

-- each element of a list is a byte
abbrev pub Bytes : List ℕ → Type 0
Bytes [] = Unit
Bytes (b ∷ s) = (b < 0x100) × Bytes s

pub record CheckLaws : Type 0 where
  -- the check is a byte, from whatever byte it starts
  pub fits : (c : ℕ) (s : List ℕ) → c < 0x100 → Bytes s → crc_from c s < 0x100
  -- the check over a list and one more byte at its end
  pub more : (s : List ℕ) (b : ℕ) → crc_of (s ++ (b ∷ [])) ≡ crc_byte (crc_of s) b
  -- a single changed byte changes the check, in every list and at every place
  pub changed : (p q : List ℕ) (x y : ℕ) → Bytes p → Bytes q → x < 0x100 → y < 0x100 → (x ≡ y → ⊥) → crc_of (p ++ (x ∷ q)) ≡ crc_of (p ++ (y ∷ q)) → ⊥
  -- right exactly if equal
  pub right : (c r : ℕ) → r ≡ c → judge_of c r ≡ Right
  pub wrong : (c r : ℕ) → (r ≡ c → ⊥) → judge_of c r ≡ Wrong
