-- The demands leave one rig and one desk (01, "How tight each promise is"): whatever meets them takes every word, hears all bytes and shows every item as ours
-- does. This is how they catch a fraud: one word, or one slot, at which the fraud differs from ours is enough. Assumes nothing.
use Rattle.std.specs.Prelude.{◌≡◌, List, [], ◌∷◌, ℕ}
use Rattle.frame.specs.declared.Item.{Item}
use Rattle.desk.specs.declared.Desk.{Desk}
use Rattle.cell.specs.Shapes.{Shown}
use Rattle.desk.specs.declared.Received.{Received}
use Rattle.desk.specs.Desk.{fresh_desk, slot_of}
use Rattle.power.specs.declared.PanelSetting.{PanelSetting}
use Rattle.rig.specs.declared.Rig.{Rig}
use Rattle.rig.specs.declared.Taken.{Taken}
use Rattle.rig.specs.Words.{take_of}
use Rattle.rig.specs.Start.{start_rig}
use Rattle.power.specs.Power.{spun_of, set_of, cut_of}
use Rattle.sending.specs.Sending.{sent, built_of, filled_of, next_frame}
use Rattle.laws.specs.Runs.{Machine, ours}
use Rattle.demands.specs.History.{Slot, Told}
use Rattle.demands.specs.Outfit.{Outfit, proved}
use Rattle.demands.specs.Queue.{Step}
use Rattle.demands.specs.Demand1.{Demand1For}
use Rattle.demands.specs.Demand2.{Demand2For}
use Rattle.demands.specs.Demand3.{Demand3For, reached}

-- our rig with the functions of any desk
abbrev pub desk_of : Desk → (Desk → List ℕ → Received) → (Desk → Desk) → (Desk → Item → Shown) → Outfit
desk_of fresh slot missed look = record { rig = ours; frame = next_frame; build = built_of; filled = filled_of; fresh = fresh; slot = slot; missed = missed; look = look }

-- our desk with the functions of any rig, and any frames
abbrev pub machine_of : Machine → (Rig → List ℕ) → (Rig → List ℕ → ℕ → List ℕ) → Outfit
machine_of m frame filled =
    record {
      rig = m;
      frame = frame;
      build = built_of;
      filled = filled;
      fresh = proved.fresh;
      slot = proved.slot;
      missed = proved.missed;
      look = proved.look;
    }

-- ours with any function that takes words
abbrev pub rig_of : (Rig → ℕ → Taken) → Outfit
rig_of take = machine_of (record { start = start_rig; take = take; spin = spun_of; set = set_of; cut = cut_of; sent = sent }) next_frame filled_of

-- the history of slots leaves one thing to be shown
abbrev pub OneTold : Type 0
OneTold = (k : ℕ) (h : List Slot) (s t : Shown) → Told k h s → Told k h t → s ≡ t

-- a desk that meets demand 3 shows what ours shows, after every run
abbrev pub OneDesk : Type 0
OneDesk =
    (fresh : Desk) (slot : Desk → List ℕ → Received) (missed : Desk → Desk) (look : Desk → Item → Shown)
    → Demand3For (desk_of fresh slot missed look) → (ss : List Step) (item : Item)
    → look (reached (desk_of fresh slot missed look) ss).desk item ≡ proved.look (reached proved ss).desk item

-- functions that meet demands 1 and 2 take every word, spin, setting and cut as ours do, at every rig, and build the same frames at every place
pub record AsOurs (o : Outfit) : Type 0 where
  pub start : o.rig.start ≡ start_rig
  pub take : (r : Rig) (w : ℕ) → o.rig.take r w ≡ take_of r w
  pub spin : (r : Rig) → o.rig.spin r ≡ spun_of r
  pub set : (r : Rig) (s : PanelSetting) → o.rig.set r s ≡ set_of r s
  pub cut : (r : Rig) → o.rig.cut r ≡ cut_of r
  pub sent : (r : Rig) → o.rig.sent r ≡ sent r
  pub frame : (r : Rig) → o.frame r ≡ next_frame r
  pub build : (r : Rig) (b : List ℕ) (at : ℕ) → o.build r b at ≡ built_of r b at
  pub filled : (r : Rig) (b : List ℕ) (at : ℕ) → o.filled r b at ≡ filled_of r b at

abbrev pub OneRig : Type 0
OneRig = (o : Outfit) → Demand1For o → Demand2For o → AsOurs o

-- what comes to a desk: any bytes, or a slot marked missed
pub data Came : Type 0 where
  bytes : List ℕ → Came
  miss : Came

module _ (o : Outfit) where
  abbrev pub comes : Desk → Came → Desk
  comes d (bytes f) = (o.slot d f).desk
  comes d miss = o.missed d

  unfoldable pub all_come : Desk → List Came → Desk
  all_come d [] = d
  all_come d (c ∷ cs) = all_come (comes d c) cs

-- functions that meet demands 1 and 2 answer all bytes as ours do, at every desk, and after any slots show what ours show: foreign frames too
pub record HearsAsOurs (o : Outfit) : Type 0 where
  pub answers : (d : Desk) (f : List ℕ) → (o.slot d f).answer ≡ (slot_of d f).answer
  pub shows : (cs : List Came) (item : Item) → o.look (all_come o o.fresh cs) item ≡ proved.look (all_come proved fresh_desk cs) item

abbrev pub OneHearing : Type 0
OneHearing = (o : Outfit) → Demand1For o → Demand2For o → HearsAsOurs o
