-- `numerals::number_in` meets its contract: a letter that is no digit, and one digit more.
-- Assumes nothing.
use Rattle.std.proofs.Common.{arith, sym, ◌∙◌, ◌≡◌, ◌+◌, ◌*◌, slice_index_or, drop}
use Prim.Native.Nat.{min}
use Rattle.numerals.specs.Decimal.{bound}
use Rattle.numerals.specs.Letters.{digit_of}
use Rattle.numerals.proofs.Letters.{digit_is_value}
use Rattle.numerals.proofs.Reading.{capped, some, one, none}
use Rattle.numerals.proofs.number_in.Goals as goal

pub returns-in_default : goal.returns-in_default
returns-in_default c =
    let text = c.args.text.now in
    let i = c.loop-b.b-index in
    let d = digit_is_value (slice_index_or text i 0) c.from.result (omega arith) (omega arith) in
    let v = c.in_default.ensures.value in
    sym (some c.args.base text (omega arith) ∙ sym c.loop-b.invariant.1 ∙ none c.args.base text i c.loop-b.n (omega arith) (omega (arith, v, d)))

pub loop-b-preserved : goal.loop-b-preserved
loop-b-preserved c =
    let text = c.args.text.now in
    let i = c.loop-b.b-index in
    let d = digit_is_value (slice_index_or text i 0) c.from.result (omega arith) (omega arith) in
    let v = c.in-Some.ensures.value in
    let digit : c.in-Some.digit ≡ digit_of (slice_index_or text i 0) = omega (arith, v, d) in
    let e : c.min-n.result ≡ min (c.loop-b.n * c.args.base + digit_of (slice_index_or text i 0)) bound
    = c.min-n.ensures ∙ rw (c.from-in-loop-b.ensures, c.from-in-loop-b-2.ensures, digit) in
    let next = one c.args.base text i c.loop-b.n (omega arith) (omega (arith, v, digit)) in
    (omega (arith, e), rw e (capped c.args.base (omega arith) (drop (i + 1) text) (c.loop-b.n * c.args.base + digit_of (slice_index_or text i 0)) ∙ sym next ∙ c.loop-b.invariant.1))
