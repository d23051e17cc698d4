-- The three supplies: which words move which, and the refusal that no limit command gives. For every rig and every word, also rigs that no run reaches.
-- Keeps 02 (iv): a command to one changes neither of the others; the relay is common, and off brings all three to 0. Keeps 02 (v). Assumes nothing.
use Rattle.std.specs.Prelude.{◌≡◌, Bool, true, false, ◌&&◌, ◌||◌, ℕ, ◌/◌, ◌%◌, eqb}
use Rattle.supply.specs.When.{relay_set}
use Rattle.judge.specs.declared.Which.{Which}
use Rattle.judge.specs.Records.{supply_at}
use Rattle.judge.specs.Table.{target_code, limit_code, stepping_code}
use Rattle.rig.specs.declared.Rig.{Rig}
use Rattle.rig.specs.declared.Answer.TheVariants.{Accepted, Waiting, Refused}
use Rattle.rig.specs.declared.Reply.{Reply}
use Rattle.rig.specs.declared.Reply.TheVariants.{Plain, Swallowed, Dropped}
use Rattle.rig.specs.declared.Taken.{Taken}
use Rattle.rig.specs.Replies.{refusals_of}
use Rattle.laws.specs.Replies.{Never}

-- Is the high byte that of a single to the supply x: of its target, its limit, its stepping? And that of a relay word? (A single's top two bits are 0.)
abbrev pub commands : Which → ℕ → Bool
commands x high = eqb high (target_code x) || (eqb high (limit_code x) || eqb high (stepping_code x))

abbrev pub is_relay : ℕ → Bool
is_relay high = eqb high 0x08

-- accepted, also where the word dropped a block first
abbrev pub was_accepted : Reply → Bool
was_accepted (Plain Accepted) = true
was_accepted (Plain Waiting) = false
was_accepted (Plain (Refused why)) = false
was_accepted Swallowed = false
was_accepted (Dropped Accepted) = true
was_accepted (Dropped Waiting) = false
was_accepted (Dropped (Refused why)) = false

-- what a word does to each supply, and what a limit command is never answered, of any function that takes words
pub record SupplyWords (take : Rig → ℕ → Taken) : Type 0 where
  -- a word that is neither an accepted command to x nor an accepted relay word leaves x as it was
  pub left : (r : Rig) (w : ℕ) (x : Which)
      → was_accepted (take r w).reply && (is_relay (w / 256) || commands x (w / 256)) ≡ false
      → supply_at (take r w).rig.core x ≡ supply_at r.core x
  -- so a command to one, whatever its answer, changes neither of the others
  pub others : (r : Rig) (w : ℕ) (x y : Which) → (x ≡ y → ⊥) → commands y (w / 256) ≡ true
      → supply_at (take r w).rig.core x ≡ supply_at r.core x
  -- an accepted relay word switches all three, on by bit 1; off brings level and target of each to 0, and leaves its limit and stepping
  pub relay : (r : Rig) (w : ℕ) (x : Which) → is_relay (w / 256) ≡ true → was_accepted (take r w).reply ≡ true
      → supply_at (take r w).rig.core x ≡ relay_set (supply_at r.core x) (eqb (w / 2 % 2) 1)
  -- 02 (v): 0Dh is not among the refusals that a limit command gives, to any of the three, whatever the rig holds, a pending block or none
  pub limit_never_0d : (r : Rig) (w : ℕ) (x : Which) → w / 256 ≡ limit_code x → Never 0x0D (refusals_of (take r w).reply)
