-- `lines::put_pair` meets its contract: a dropped block's line and then the answer's.
-- Assumes nothing.
use Rattle.std.proofs.Common.{arith}
use Rattle.text.proofs.Puts.{gets_both}
use Rattle.lines.proofs.put_pair.Goals as goal

pub returns : goal.returns
returns c = (gets_both c.put_drop.ensures c.put_answer.ensures.0 (omega arith), omega arith)
