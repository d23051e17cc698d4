-- What passes between rig and desk: each moves by its own rule, and a frame built and heard moves both.
-- Keeps 01 "The 40-byte frame"; the rules are those of `sending` and `desk`. Assumes nothing.
use Rattle.std.specs.Prelude.{ℕ, List, Ok, Err}
use Rattle.frame.specs.Shapes.{Wrote}
use Rattle.frame.specs.Write.{wrote_of}
use Rattle.desk.specs.declared.Answer.TheVariants.{Missed}
use Rattle.desk.specs.declared.Desk.{Desk}
use Rattle.desk.specs.declared.Received.{Received}
use Rattle.desk.specs.Desk.{slot_of, missed_of}
use Rattle.sending.specs.Sending.{next_frame, sent, built_of}
use Rattle.bench.specs.declared.Bench.{Bench}
use Rattle.bench.specs.Bench.{with_rig, with_desk}
use Rattle.slots.specs.declared.Sent.{Sent}
use Rattle.slots.specs.declared.Handed.{Handed}
use Rattle.slots.specs.declared.Passed.{Passed}

-- the next frame built at a place of the buffer s: the rig alone moves; where there is no room it stays as it was (18)
abbrev pub built_bench : Bench → List ℕ → ℕ → Sent
built_bench b s at = record { bench = with_rig b (built_of b.rig s at).rig; wrote = (built_of b.rig s at).wrote }

-- bytes handed to the desk: the desk alone moves; bytes that are not 40 leave it as it was (17)
abbrev pub handed_of : Bench → List ℕ → Handed
handed_of b f = record { bench = with_desk b (slot_of b.desk f).desk; answer = (slot_of b.desk f).answer }

-- a slot marked missed: every known item is a slot older, and a number half read is forgotten
abbrev pub missed_bench : Bench → Bench
missed_bench b = with_desk b (missed_of b.desk)

-- once the frame is written, its slot passes, and the desk makes t of it; where there was no room (18), nothing happens and no slot passes
abbrev pub passed_if : Wrote → Bench → Received → Passed
passed_if (Ok tt) b t = record { bench = record { rig = sent b.rig; desk = t.desk }; outcome = Ok t.answer }
passed_if (Err why) b t = record { bench = b; outcome = Err why }

-- the next frame built at a place of the buffer s, and its slot passed: `made` is what the desk makes of the frame's bytes
abbrev pub passed_by : (Desk → List ℕ → Received) → Bench → List ℕ → ℕ → Passed
passed_by made b s at = passed_if (wrote_of at s) b (made b.desk (next_frame b.rig))

-- the next frame built at a place of the buffer s and handed on whole
abbrev pub arrived_bench : Bench → List ℕ → ℕ → Passed
arrived_bench b s at = passed_by slot_of b s at

-- a slot marked missed, whatever frame was built for it
abbrev pub missed_slot : Desk → List ℕ → Received
missed_slot d f = record { answer = Missed; desk = missed_of d }

-- the next frame built at a place of the buffer s, and its slot marked missed
abbrev pub lost_bench : Bench → List ℕ → ℕ → Passed
lost_bench b s at = passed_by missed_slot b s at
