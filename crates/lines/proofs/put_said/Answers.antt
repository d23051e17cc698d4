-- `lines::put_said` meets its contract: the word and then the text, on a page that has room for both.
-- Assumes nothing.
use Rattle.std.proofs.Common.{arith}
use Rattle.text.specs.Digits.{hex_word}
use Rattle.text.proofs.Puts.{gets_two}
use Rattle.lines.proofs.put_said.Goals as goal

pub returns : goal.returns
returns c = gets_two (hex_word c.args.word) c.args.said.now (rw c.hex_word-digits.ensures at c.put.ensures) c.put-2.ensures (omega arith)
