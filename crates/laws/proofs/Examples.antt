-- That the laws say something: runs computed, and two frauds that no function under the laws can be.
-- Assumes nothing.
use Prim.Native.Nat.{ℕ, ◌%◌}
use mathlib.Core.Path.{◌≡◌, refl, ap}
use mathlib.Core.Bool.{true}
use mathlib.Core.List.{List, [], ◌∷◌, ◌++◌}
use native.Mathlib.Omega.{arith}
use lib.ListN.{replicate}
use Rattle.supply.specs.Rules.{relay_of, targeted}
use Rattle.crc.specs.Crc.{shift, crc_from, crc_of}
use Rattle.judge.specs.declared.Refusal.{Refusal}
use Rattle.judge.specs.declared.Refusal.TheVariants.{StrayWord}
use Rattle.judge.specs.Commands.{carried, single_of, counted_of, block_of}
use Rattle.rig.specs.declared.Rig.{Rig}
use Rattle.rig.specs.declared.Answer.TheVariants.{Accepted, Refused}
use Rattle.rig.specs.declared.Reply.{Reply}
use Rattle.rig.specs.declared.Reply.TheVariants.{Plain}
use Rattle.rig.specs.declared.Taken.{Taken}
use Rattle.rig.specs.Words.{kind_of, refused_of, settled_of, head_of, fresh_of, verdict_of, closed_of, dropped_of, pending_of, take_with, take_of}
use Rattle.rig.specs.Start.{start_rig}
use Rattle.laws.specs.Ordered.{energy, pair_of}
use Rattle.laws.specs.Replies.{ReplyLaws}
use Rattle.laws.specs.Rows.{RowLaws}
use Rattle.laws.specs.Runs.{Happening, word, spin, cut, ours, rig_after, ledger, rig_reached, given}
use Rattle.laws.specs.Register.{ordered_in, orders}
use Rattle.laws.proofs.Replies.{reply_laws}
use Rattle.laws.proofs.Rows.{row_laws}
use Rattle.laws.proofs.One.{one_take}

-- the happening of a word, its low 16 bits
abbrev send : ℕ → Happening
send w = word (w % 0x10000) (omega arith)

-- what a run leaves: invalid count, error code, last invalid code, last check
abbrev left : List Happening → List ℕ
left es = let r = rig_reached ours es in r.faults.count ∷ r.faults.error ∷ r.faults.last ∷ r.check ∷ []

-- what the ledger says of it: refusals given, number and byte of the latest, check of the latest closing
abbrev told : List Happening → List ℕ
told es = let l = given ours es in l.refusals ∷ l.error ∷ l.last ∷ l.check ∷ []

runs :
    -- 2805 at the start, 255 times: 255 refusals 04h; one more brings the count to 0
    (left (replicate 255 (send 0x2805)) ≡ 255 ∷ 0x04 ∷ 0x28 ∷ 0x00 ∷ [])
    × (left (replicate 256 (send 0x2805)) ≡ 0 ∷ 0x04 ∷ 0x28 ∷ 0x00 ∷ [])
    × (told (replicate 256 (send 0x2805)) ≡ 256 ∷ 0x04 ∷ 0x28 ∷ 0x00 ∷ [])
    -- a power cut clears, and what comes after counts from 0
    × (left (send 0x2805 ∷ send 0x6402 ∷ cut ∷ []) ≡ 0 ∷ 0x00 ∷ 0xFF ∷ 0x00 ∷ [])
    × (left (send 0x2805 ∷ cut ∷ send 0xA400 ∷ []) ≡ 1 ∷ 0x0B ∷ 0xA4 ∷ 0x00 ∷ [])
    -- a block dropped by a head that is refused: two refusals by one word, the last code the new head's
    × (left (send 0x6402 ∷ send 0x4450 ∷ []) ≡ 2 ∷ 0x0E ∷ 0x44 ∷ 0x00 ∷ [])
    × (told (send 0x6402 ∷ send 0x4450 ∷ []) ≡ 2 ∷ 0x0E ∷ 0x44 ∷ 0x00 ∷ [])
    -- a block dropped by a single that is accepted: the last code the old head's
    × (left (send 0x6402 ∷ send 0x0802 ∷ []) ≡ 1 ∷ 0x03 ∷ 0x64 ∷ 0x00 ∷ [])
    -- closed and accepted; closed with a wrong check; ended too early, which closes nothing
    × (left (send 0x6402 ∷ send 0xA401 ∷ send 0xA400 ∷ send 0xE415 ∷ []) ≡ 0 ∷ 0x00 ∷ 0xFF ∷ 0x15 ∷ [])
    × (left (send 0x6402 ∷ send 0xA401 ∷ send 0xA400 ∷ send 0xE407 ∷ []) ≡ 1 ∷ 0x0B ∷ 0x64 ∷ 0x15 ∷ [])
    × (left (send 0x6402 ∷ send 0xA401 ∷ send 0xE415 ∷ []) ≡ 1 ∷ 0x03 ∷ 0x64 ∷ 0x00 ∷ [])
unfolding rig_after ledger take_of take_with pending_of dropped_of closed_of verdict_of fresh_of head_of settled_of refused_of kind_of single_of block_of counted_of carried relay_of targeted crc_of crc_from shift
runs = (refl, refl, refl, refl, refl, refl, refl, refl, refl, refl, refl)

-- the blocks of an energy window from 1 to 0 and of one from 19 to 29, without their end words
abbrev window : List Happening
window = send 0x6402 ∷ send 0xA401 ∷ send 0xA400 ∷ []

abbrev other : List Happening
other = send 0x6402 ∷ send 0xA413 ∷ send 0xA41D ∷ []

-- of the energy window, what a run leaves ordered and in the register, and what the ledger says of both
abbrev sensed : List Happening → List (ℕ × ℕ)
sensed es =
    let r = rig_reached ours es in
    let l = given ours es in
    pair_of energy (ordered_in r) ∷ pair_of energy r.register ∷ l.ordered energy ∷ l.register energy ∷ []

-- so many ordered, and so many in the register, in the rig and in the ledger alike
abbrev all : ℕ × ℕ → ℕ × ℕ → List (ℕ × ℕ)
all ordered register = ordered ∷ register ∷ ordered ∷ register ∷ []

registers :
    -- ordered, and not yet in the register; an order it is, so that the law of the spin is about something
    (orders ours energy (rig_reached ours window) 0xE415 ≡ true)
    × (sensed (window ++ (send 0xE415 ∷ [])) ≡ all (1, 0) (0, 0))
    -- a spin copies it; the next order waits again, and of two the later is copied
    × (sensed (window ++ (send 0xE415 ∷ spin ∷ [])) ≡ all (1, 0) (1, 0))
    × (sensed (window ++ (send 0xE415 ∷ spin ∷ (other ++ (send 0xE43B ∷ [])))) ≡ all (19, 29) (1, 0))
    × (sensed (other ++ (send 0xE43B ∷ (window ++ (send 0xE415 ∷ spin ∷ [])))) ≡ all (1, 0) (1, 0))
    -- a spin amid the block's words copies what was ordered before it
    × (sensed (window ++ (spin ∷ send 0xE415 ∷ [])) ≡ all (1, 0) (0, 0))
    -- a wrong check, and a block dropped by a single, order nothing
    × (sensed (window ++ (send 0xE407 ∷ spin ∷ [])) ≡ all (0, 0) (0, 0))
    × (sensed (window ++ (send 0x0802 ∷ send 0xE415 ∷ spin ∷ [])) ≡ all (0, 0) (0, 0))
    -- a power cut clears both
    × (sensed (window ++ (send 0xE415 ∷ spin ∷ cut ∷ [])) ≡ all (0, 0) (0, 0))
unfolding rig_after ledger take_of take_with pending_of dropped_of closed_of verdict_of fresh_of head_of settled_of refused_of kind_of single_of block_of counted_of relay_of crc_of crc_from shift
registers = (refl, refl, refl, refl, refl, refl, refl, refl, refl)

-- 0C00 at the start is accepted, 8000 is refused 0Bh, by every function under the laws
accepts : (take_of start_rig 0x0C00).reply ≡ Plain Accepted
unfolding take_of take_with fresh_of settled_of kind_of single_of
accepts = refl

refuses : (take_of start_rig 0x8000).reply ≡ Plain (Refused StrayWord)
unfolding take_of take_with fresh_of settled_of kind_of
refuses = refl

replies : (take : Rig → ℕ → Taken) → RowLaws take → ReplyLaws take → (w : ℕ) → (take start_rig w).reply ≡ (take_of start_rig w).reply
replies take a b w = ap (λ (t : Taken). t.reply) (one_take take take_of a b row_laws reply_laws start_rig w)

-- so none refuses everything,
refuses_all : (take : Rig → ℕ → Taken) (why : Rig → ℕ → Refusal) → ((r : Rig) (w : ℕ) → (take r w).reply ≡ Plain (Refused (why r w)))
    → RowLaws take → ReplyLaws take → ⊥
refuses_all take why all a b =
    let z : ◌≡◌ {A = ℕ} 0 1 = cc (all start_rig 0x0C00, replies take a b 0x0C00, accepts) in
    omega arith

-- and none answers every word alike
all_alike : (take : Rig → ℕ → Taken) (y : Reply) → ((r : Rig) (w : ℕ) → (take r w).reply ≡ y) → RowLaws take → ReplyLaws take → ⊥
all_alike take y all a b =
    let z : ◌≡◌ {A = ℕ} 0 1 = cc (all start_rig 0x0C00, replies take a b 0x0C00, accepts, all start_rig 0x8000, replies take a b 0x8000, refuses) in
    omega arith
