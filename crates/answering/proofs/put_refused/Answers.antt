-- `answering::put_refused`: the label, the number and the end of the line.
-- Assumes nothing.
use Rattle.std.proofs.Common.{◌<◌, ◌∙◌, length, arith}
use Rattle.text.proofs.Puts.{gets_both, gets_all}
use Rattle.numerals.specs.Decimal.{decimal}
use Rattle.numerals.proofs.Laws.{short}
use Rattle.wording.specs.declared.Refusal.{Refusal}
use Rattle.wording.specs.declared.Refusal.TheVariants.{TooWide, NoRoom, NotOne}
use Rattle.wording.specs.Refusals.{number_of}
use Rattle.answering.specs.Answers.{refused_line}
use Rattle.answering.proofs.put_refused.Goals as goal

-- every number of a refusal has two digits
two_digits : (why : Refusal) → number_of why < 100
two_digits TooWide = omega arith
two_digits NoRoom = omega arith
two_digits NotOne = omega arith

pub returns : goal.returns
unfolding refused_line
returns c =
    let n = number_of c.args.why in
    let fewest = short 2 n (omega arith) (two_digits c.args.why) in
    let label = gets_all 8 (omega arith) c.put.ensures in
    let digits = gets_all (length (decimal n)) (omega (arith, label.long, label.puts.place, fewest)) (rw (c.from.ensures ∙ c.number.ensures) at c.put_decimal.ensures) in
    let end = gets_all 1 (omega (arith, label.long, label.puts.place, digits.long, digits.puts.place, fewest)) c.put-2.ensures in
    let both = gets_both digits end (omega (arith, label.long, label.puts.place, fewest)) in
    (gets_both label both (omega arith), omega (arith, label.puts.place, digits.puts.place, end.puts.place, fewest))
