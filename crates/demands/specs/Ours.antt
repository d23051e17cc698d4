-- What we call ours is what our functions do: said of each function's own contract, as the checker makes it of the source (`Reads.Pre`, `Reads.Post`),
-- so that a changed `requires` or `ensures` is seen here. A function asks nothing, and what meets its contract is the one thing named. Assumes nothing.
use Rattle.std.specs.Prelude.{◌≡◌, List, ℕ, length}
use contract.Lifetimes.{Lfts}
use Rattle.std.specs.Borrow.{Bor}
use denote.Triple.Clauses.{AtExit}
use borrow.Fn.Kinds.{Dens, ended_of}
use Rattle.crc.specs.Crc.{crc_of}
use Rattle.crc.proofs.check_of.Reads as check-fn
use Rattle.judge.specs.declared.Refusal.{Refusal}
use Rattle.judge.specs.Refusals.{number_of}
use Rattle.judge.proofs.number.Reads as word-number-fn
use Rattle.volts.specs.declared.Sheet.{Sheet}
use Rattle.volts.specs.Volts.{Shows}
use Rattle.volts.proofs.sheet_of.Reads as sheet-fn
use Rattle.frame.specs.declared.Item.{Item}
use Rattle.frame.specs.declared.Refusal.{Refusal as FrameRefusal}
use Rattle.frame.specs.Items as items
use Rattle.frame.proofs.number.Reads as frame-number-fn
use Rattle.power.specs.declared.PanelSetting.{PanelSetting}
use Rattle.power.proofs.spin.Reads as spin-fn
use Rattle.power.proofs.set.Reads as set_fn
use Rattle.power.proofs.power_cut.Reads as cut-fn
use Rattle.rig.specs.declared.Rig.{Rig}
use Rattle.rig.specs.declared.Taken.{Taken}
use Rattle.rig.proofs.start.Reads as start-fn
use Rattle.words.proofs.take.Reads as take_fn
use Rattle.sending.specs.declared.Built.{Built}
use Rattle.sending.proofs.build.Reads as build-fn
use Rattle.sending.proofs.build.Kinds as build-kinds
use Rattle.desk.specs.declared.Desk.{Desk}
use Rattle.cell.specs.Shapes.{Shown}
use Rattle.desk.specs.declared.Received.{Received}
use Rattle.desk.proofs.fresh.Reads as fresh-fn
use Rattle.desk.proofs.slot.Reads as slot-fn
use Rattle.desk.proofs.slot.Kinds as slot-kinds
use Rattle.desk.proofs.missed.Reads as missed-fn
use Rattle.desk.proofs.look.Reads as look-fn
use Rattle.block.specs.declared.Layout.{Layout}
use Rattle.block.specs.declared.Part.{Part}
use Rattle.block.specs.Shapes.{Located}
use Rattle.block.specs.declared.Refusal.{Refusal as BlockRefusal}
use Rattle.block.specs.Refusals as blocks
use Rattle.block.specs.Parts.{place_of, locate_of, part_of}
use Rattle.block.proofs.number.Reads as block-number-fn
use Rattle.placing.proofs.place_of.Reads as place-fn
use Rattle.locating.proofs.locate.Reads as locate-fn
use Rattle.locating.proofs.slice_of.Reads as slice-fn
use Rattle.event.specs.Shapes.{Evented, Itemed}
use Rattle.event.specs.Event.{direct_of}
use Rattle.event.specs.Ifft.{event_of, item_of}
use Rattle.event.proofs.direct_event.Reads as event-fn
use Rattle.ifft.proofs.ifft_event.Reads as ifft-event-fn
use Rattle.ifft.proofs.ifft_item.Reads as ifft-item-fn
use Rattle.wording.specs.declared.Refusal.{Refusal as WordingRefusal}
use Rattle.wording.specs.Shapes.{Wrote, Meant}
use Rattle.wording.specs.Refusals as wording
use Rattle.wording.specs.Written.{wrote_of, written_of}
use Rattle.wording.specs.Meaning.{read_of}
use Rattle.wording.proofs.number.Reads as wording-number-fn
use Rattle.word_writer.proofs.write.Reads as write-fn
use Rattle.word_writer.proofs.write.Kinds as write-kinds
use Rattle.word_reader.proofs.read.Reads as read-fn
use Rattle.demands.specs.Outfit.{proved}

-- The functions of the outfit `proved`. Its `frame` and `sent` no function answers alone: `build` and `filled` tie them (Demand1, `room`).
pub record OurOutfit : Type 0 where
  pub start : (r : Rig) → start-fn.Post tt tt r tt → r ≡ proved.rig.start
  pub take : (r : Rig) (w : ℕ) (t : Taken) → take_fn.Post tt (r, (w, tt)) t (r, (w, tt)) → t ≡ proved.rig.take r w
  pub spin : (r q : Rig) → spin-fn.Post tt (r, tt) q (r, tt) → q ≡ proved.rig.spin r
  pub set : (r : Rig) (s : PanelSetting) (q : Rig) → set_fn.Post tt (r, (s, tt)) q (r, (s, tt)) → q ≡ proved.rig.set r s
  pub cut : (r q : Rig) → cut-fn.Post tt (r, tt) q (r, tt) → q ≡ proved.rig.cut r
  -- a is the rig, the buffer and the place; e what the call leaves of them
  pub build : (κs : Lfts 1) (a : Dens κs build-kinds.ps) (e : AtExit (ended_of 1 build-kinds.ps build-kinds.r) κs) (b : Built) → build-fn.Post κs a b e
      → (b ≡ proved.build a.0 a.1.0.now a.1.1.0) × (e.1.0.now ≡ proved.filled a.0 a.1.0.now a.1.1.0)
  pub fresh : (d : Desk) → fresh-fn.Post tt tt d tt → d ≡ proved.fresh
  pub slot : (κs : Lfts 1) (a : Dens κs slot-kinds.ps) (e : AtExit (ended_of 1 slot-kinds.ps slot-kinds.r) κs) (x : Received) → slot-fn.Post κs a x e
      → x ≡ proved.slot a.0 a.1.0.now
  pub missed : (d q : Desk) → missed-fn.Post tt (d, tt) q (d, tt) → q ≡ proved.missed d
  pub look : (d : Desk) (item : Item) (x : Shown) → look-fn.Post tt (d, (item, tt)) x (d, (item, tt)) → x ≡ proved.look d item
  -- they ask nothing
  pub asks_start : start-fn.Pre tt tt
  pub asks_take : (r : Rig) (w : ℕ) → take_fn.Pre tt (r, (w, tt))
  pub asks_spin : (r : Rig) → spin-fn.Pre tt (r, tt)
  pub asks_set : (r : Rig) (s : PanelSetting) → set_fn.Pre tt (r, (s, tt))
  pub asks_cut : (r : Rig) → cut-fn.Pre tt (r, tt)
  pub asks_build : (κs : Lfts 1) (a : Dens κs build-kinds.ps) → build-fn.Pre κs a
  pub asks_fresh : fresh-fn.Pre tt tt
  pub asks_slot : (κs : Lfts 1) (a : Dens κs slot-kinds.ps) → slot-fn.Pre κs a
  pub asks_missed : (d : Desk) → missed-fn.Pre tt (d, tt)
  pub asks_look : (d : Desk) (item : Item) → look-fn.Pre tt (d, (item, tt))

-- The functions that take blocks apart, the check, the sheet, and the numbers that the refusals are told by: what demands 1 and 2 say of their definitions they say
-- of the code. b is the lent slice.
pub record OurBlocks : Type 0 where
  pub locate : (κs : Lfts 1) (b : Bor (List ℕ)) (p : Part) (x : Located) → locate-fn.Post κs (b, (p, tt)) x (b, (p, tt)) → x ≡ locate_of b.now p
  pub place : (l : Layout) (p : Part) (x : Located) → place-fn.Post tt (l, (p, tt)) x (l, (p, tt)) → x ≡ place_of l.kind l.d1 l.d2 p
  -- a part is the slice at what was located
  pub part : (κs : Lfts 1) (b : Bor (List ℕ)) (p : Part) (l : Located) (x : Bor (List ℕ)) → locate-fn.Post κs (b, (p, tt)) l (b, (p, tt))
      → slice-fn.Post κs (b, (l, tt)) x (b, (l, tt)) → x.now ≡ part_of b.now p
  pub event : (κs : Lfts 1) (b : Bor (List ℕ)) (n : ℕ) (x : Evented) → event-fn.Post κs (b, (n, tt)) x (b, (n, tt)) → x ≡ direct_of b.now n
  pub ifft_event : (κs : Lfts 1) (b : Bor (List ℕ)) (n : ℕ) (x : Evented) → ifft-event-fn.Post κs (b, (n, tt)) x (b, (n, tt)) → x ≡ event_of b.now n
  pub ifft_item : (κs : Lfts 1) (b : Bor (List ℕ)) (n : ℕ) (x : Itemed) → ifft-item-fn.Post κs (b, (n, tt)) x (b, (n, tt)) → x ≡ item_of b.now n
  pub check : (κs : Lfts 1) (b : Bor (List ℕ)) (x : ℕ) → check-fn.Post κs (b, tt) x (b, tt) → x ≡ crc_of b.now
  pub sheet : (x y : ℕ) (s : Sheet) → sheet-fn.Post tt (x, (y, tt)) s (x, (y, tt)) → Shows x y s
  pub word_number : (r : Refusal) (n : ℕ) → word-number-fn.Post tt (r, tt) n (r, tt) → n ≡ number_of r
  pub frame_number : (r : FrameRefusal) (n : ℕ) → frame-number-fn.Post tt (r, tt) n (r, tt) → n ≡ items.number_of r
  pub block_number : (r : BlockRefusal) (n : ℕ) → block-number-fn.Post tt (r, tt) n (r, tt) → n ≡ blocks.number_of r
  -- they ask nothing
  pub asks_locate : (κs : Lfts 1) (b : Bor (List ℕ)) (p : Part) → locate-fn.Pre κs (b, (p, tt))
  pub asks_place : (l : Layout) (p : Part) → place-fn.Pre tt (l, (p, tt))
  pub asks_slice : (κs : Lfts 1) (b : Bor (List ℕ)) (l : Located) → slice-fn.Pre κs (b, (l, tt))
  pub asks_event : (κs : Lfts 1) (b : Bor (List ℕ)) (n : ℕ) → event-fn.Pre κs (b, (n, tt))
  pub asks_ifft_event : (κs : Lfts 1) (b : Bor (List ℕ)) (n : ℕ) → ifft-event-fn.Pre κs (b, (n, tt))
  pub asks_ifft_item : (κs : Lfts 1) (b : Bor (List ℕ)) (n : ℕ) → ifft-item-fn.Pre κs (b, (n, tt))
  pub asks_check : (κs : Lfts 1) (b : Bor (List ℕ)) → check-fn.Pre κs (b, tt)
  pub asks_sheet : (x y : ℕ) → sheet-fn.Pre tt (x, (y, tt))
  pub asks_word_number : (r : Refusal) → word-number-fn.Pre tt (r, tt)
  pub asks_frame_number : (r : FrameRefusal) → frame-number-fn.Pre tt (r, tt)
  pub asks_block_number : (r : BlockRefusal) → block-number-fn.Pre tt (r, tt)

-- The writer of a command's words, the reader, and the number that their refusals are told by. a is the command and the buffer; e what the call leaves of them.
pub record OurWords : Type 0 where
  pub write : (κs : Lfts 1) (a : Dens κs write-kinds.ps) (e : AtExit (ended_of 1 write-kinds.ps write-kinds.r) κs) (x : Wrote) → write-fn.Post κs a x e
      → (x ≡ wrote_of a.0 (length a.1.0.now)) × (e.1.0.now ≡ written_of a.0 a.1.0.now)
  pub read : (κs : Lfts 1) (ws : Bor (List ℕ)) (x : Meant) → read-fn.Post κs (ws, tt) x (ws, tt) → x ≡ read_of ws.now
  pub wording_number : (r : WordingRefusal) (n : ℕ) → wording-number-fn.Post tt (r, tt) n (r, tt) → n ≡ wording.number_of r
  -- they ask nothing
  pub asks_write : (κs : Lfts 1) (a : Dens κs write-kinds.ps) → write-fn.Pre κs a
  pub asks_read : (κs : Lfts 1) (ws : Bor (List ℕ)) → read-fn.Pre κs (ws, tt)
  pub asks_wording_number : (r : WordingRefusal) → wording-number-fn.Pre tt (r, tt)
