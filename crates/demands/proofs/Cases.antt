-- The bench cases a to l, computed.
-- Assumes nothing.
use mathlib.Core.Path.{refl}
use lib.Count.{ones, ones_in}
use Rattle.supply.specs.Rules.{relay_of, targeted, limited, switched}
use Rattle.crc.specs.Crc.{shift, crc_from, crc_of}
use Rattle.judge.specs.Commands.{carried, mode_cmd, single_of, counted_of, block_of}
use Rattle.frame.specs.Write.{quarter_of, ground_at, mux_of, frame_of}
use Rattle.rig.specs.Words.{kind_of, refused_of, settled_of, head_of, fresh_of, verdict_of, closed_of, dropped_of, pending_of, take_with, take_of}
use Rattle.volts.proofs.Cases.{volts_00, volts_ff}
use Rattle.demands.specs.Held.{doing}
use Rattle.demands.specs.Cases.{AllCases}

pub all_cases : AllCases
unfolding doing take_of take_with pending_of dropped_of closed_of verdict_of fresh_of head_of settled_of refused_of kind_of block_of counted_of single_of mode_cmd carried relay_of targeted limited switched crc_of crc_from shift frame_of mux_of ground_at quarter_of ones ones_in
all_cases = ((refl, refl), (refl, ((refl, refl), (refl, (refl, (refl, ((refl, refl), ((refl, refl), ((refl, refl), (refl, (refl, (refl, ((refl, volts_00), ((refl, volts_ff), ((refl, refl), ((refl, refl), ((refl, refl), (refl, (refl, tt)))))))))))))))))))
