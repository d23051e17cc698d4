-- Where the steps lead (specs/Laws.antt): eight steps from the check and the byte put together.
-- Assumes nothing.
use mathlib.Core.List.{◌++◌, append_assoc, append-nil}
use lib.Bits.{bit_xor}
use Rattle.crc.proofs.Steps.{shifts}
use Rattle.shift_lines.specs.Lines.{start_line, step_text, step_lines, byte_lines}
use Rattle.shift_lines.specs.Laws.{Leads}

pub leads : Leads
unfolding step_lines byte_lines shifts
leads c b =
    let x = bit_xor c b in
    (start_line c b ++ (step_lines 7 1 x ++ step_text 8 (shifts 7 x)), simp (append_assoc, append-nil))
