-- Demand 1: each entry point takes every word, frame and buffer length and ends with a definite answer. Bad input is refused by a number of 01 or 02,
-- and what a refusal changes in the rig, the desk and a lent buffer is exactly what the rules list. That each function answers at all is what its proof
-- says; the fields below say how, where it refuses. They hold for every rig, desk, buffer and block, also those that no run reaches. Assumes nothing.
use Rattle.std.specs.Prelude.{◌≡◌, ◌⊎◌, List, [], ◌++◌, ℕ, ◌+◌, ◌≤◌, ◌<◌, length, take, drop, Ok, Err}
use Rattle.frame.specs.Items.{numbered}
use Rattle.desk.specs.declared.Desk.{Desk}
use Rattle.desk.specs.declared.Answer.TheVariants as desk
use Rattle.desk.specs.Laws.{answered}
use Rattle.rig.specs.declared.Rig.{Rig}
use Rattle.laws.specs.Replies.{ReplyLaws}
use Rattle.block.specs.declared.Kind.{Kind}
use Rattle.block.specs.declared.Part.{Part}
use Rattle.block.specs.declared.Refusal.{Refusal}
use Rattle.block.specs.Refusals.{first_of}
use Rattle.block.specs.Parts.{place_tests, place_of, locate_of, part_of}
use Rattle.block.specs.Order.{number_in}
use Rattle.event.specs.Event.{direct_of}
use Rattle.event.specs.Ifft.{event_of, item_of}
use Rattle.event.specs.Order.{event_number, item_number}
use Rattle.wording.specs.declared.Command.{Command}
use Rattle.wording.specs.Written.{words_of, wrote_of, written_of}
use Rattle.wording.specs.Meaning.{read_of}
use Rattle.wording.specs.Laws.{OneSingle, OneBlock}
use Rattle.demands.specs.Orders.{first_in, of_part, of_event, of_ifft, need, of_write, write_number, read_number}
use Rattle.demands.specs.Outfit.{Outfit, fill_c0, fill_ff}
use Rattle.demands.specs.Numbers.{Numbers}
use Rattle.demands.specs.AnyDesk.{IsWhole}
use Rattle.block.specs.Shapes.{at_place}

-- demand 1, of any rig and desk
pub record Demand1For (o : Outfit) : Type 0 where
  -- the numbers of the refusals
  pub numbers : Numbers
  -- 03h-0Fh: what a word may move, by the reply it gets; a refusal moves error code, last invalid code and count, and ends a
  -- pending block
  pub words : ReplyLaws o.rig.take
  -- 17, a frame not of 40 bytes: nothing changes
  pub frame17 : (d : Desk) (f : List ℕ) → (length f ≡ 40 → ⊥) → o.slot d f ≡ answered (desk.Refused (numbered 17)) d
  -- every 40 bytes, also those that no rig built: fill is a miss and told as one, all else is heard
  pub fill : (d : Desk) → (o.slot d fill_c0 ≡ answered desk.Missed (o.missed d)) × (o.slot d fill_ff ≡ answered desk.Missed (o.missed d))
  pub heard : (d : Desk) (f : List ℕ) → IsWhole f → (o.slot d f).answer ≡ desk.Heard
  -- 18, fewer than 40 bytes from the named place on, or the place past the end: nothing changes in the rig or the buffer, no frame is used up
  pub room18 : (r : Rig) (b : List ℕ) (at : ℕ) → length b < at + 40
      → (o.build r b at ≡ record { rig = r; wrote = Err (numbered 18) }) × (o.filled r b at ≡ b)
  -- with room, the frame stands at the named place, the bytes outside stay the same, and one frame is used up
  pub room : (r : Rig) (b : List ℕ) (at : ℕ) → at + 40 ≤ length b
      → (o.build r b at ≡ record { rig = o.rig.sent r; wrote = Ok tt }) × (o.filled r b at ≡ take at b ++ (o.frame r ++ drop (at + 40) b))
  -- 19 to 24, of any bytes, in 01's order: the first whose condition holds; 0 stands for an answer that is no refusal
  pub part : (b : List ℕ) (p : Part) → number_in (locate_of b p) ≡ first_in (of_part b p)
  pub place : (k : Kind) (d1 d2 : ℕ) (p : Part) → number_in (place_of k d1 d2 p) ≡ first_of (place_tests k d1 d2 p)
  pub event : (b : List ℕ) (n : ℕ) → event_number (direct_of b n) ≡ first_in (of_event b n)
  pub ifft_event : (b : List ℕ) (n : ℕ) → event_number (event_of b n) ≡ first_in (of_ifft b n 5 85)
  pub ifft_item : (b : List ℕ) (n : ℕ) → item_number (item_of b n) ≡ first_in (of_ifft b n 6 64)
  -- a refused part is handed back empty, and a located one is not empty
  pub empty : (b : List ℕ) (p : Part) (r : Refusal) → locate_of b p ≡ Err r → part_of b p ≡ []
  pub filled : (b : List ℕ) (p : Part) (at n : ℕ) → locate_of b p ≡ at_place at n → (0 < n) × (length (part_of b p) ≡ n)
  -- 25 and 26, of any command and any buffer, in 02's order: 25 a setting too wide, then 26 fewer words of room than the command has
  pub write : (c : Command) (out : List ℕ) → write_number (wrote_of c (length out)) ≡ first_in (of_write c out)
  -- a refused write leaves the buffer; one that is not refused puts the command's words at its front and leaves those behind them
  pub untouched : (c : Command) (out : List ℕ) → (write_number (wrote_of c (length out)) ≡ 0 → ⊥) → written_of c out ≡ out
  pub written : (c : Command) (out : List ℕ) → write_number (wrote_of c (length out)) ≡ 0
      → (wrote_of c (length out) ≡ Ok (need c)) × (written_of c out ≡ words_of c ++ drop (need c) out)
  -- 38, of any words: exactly if they are neither one single nor one block of 01
  pub read38 : (ws : List ℕ) → (OneSingle ws → ⊥) → (OneBlock ws → ⊥) → read_number (read_of ws) ≡ 38
  pub read : (ws : List ℕ) → OneSingle ws ⊎ OneBlock ws → read_number (read_of ws) ≡ 0
