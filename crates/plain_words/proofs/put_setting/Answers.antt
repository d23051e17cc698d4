-- `plain_words::put_setting`: the space, then the digits.
-- Assumes nothing.
use Rattle.std.proofs.Common.{[], ◌∷◌, arith}
use Rattle.text.proofs.Puts.{gets_two}
use Rattle.splitting.specs.Words.{space}
use Rattle.numerals.specs.Decimal.{decimal}
use Rattle.numerals.proofs.Laws.{short}
use Rattle.plain_words.proofs.put_setting.Goals as goal

pub returns : goal.returns
returns c =
    let n = c.args.n in
    let fewest = short 3 n (omega arith) (omega arith) in
    let x = gets_two (space ∷ []) (decimal n) c.put.ensures (rw c.from.ensures at c.put_decimal.ensures) (omega (arith, fewest)) in
    (x, omega (arith, x.puts.place, fewest))
