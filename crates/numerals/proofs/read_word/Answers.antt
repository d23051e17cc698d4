-- `numerals::read_word`: a number of four hex digits is a word.
-- Assumes nothing.
use Rattle.std.proofs.Common.{arith, sym}
use Rattle.numerals.proofs.Reading.{few_digits}
use Rattle.numerals.proofs.read_word.Goals as goal

pub overflow_cast-result : goal.overflow_cast-result
overflow_cast-result c = omega (arith, few_digits c.args.text.now c.in-Ok.n 4 (omega arith) (sym c.in-Ok.ensures))
