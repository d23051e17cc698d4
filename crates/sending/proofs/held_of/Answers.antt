-- `held_of` meets its contract: each switch is 1 or 0, by std's rule for a `bool` made a number.
-- Assumes nothing.
use Rattle.sending.proofs.Bits.{bit_is}
use Rattle.sending.proofs.held_of.Goals as goal

pub returns : goal.returns
returns c =
    simp (
      c.from.ensures,
      c.from-2.ensures,
      c.from-3.ensures,
      c.from-4.ensures,
      c.from-5.ensures,
      c.from-6.ensures,
      c.from-7.ensures,
      c.from-8.ensures,
      c.from-9.ensures,
      c.from-10.ensures,
      c.reduced.ensures,
      bit_is,
    )
