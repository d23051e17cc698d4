-- The turn of the loop of `splitting::count`.
-- Assumes nothing.
use Rattle.std.proofs.Common.{sym, ap, arith, length}
use Rattle.splitting.proofs.Steps.{letter, word_ends, none_ends}
use Rattle.splitting.proofs.count.Goals.{then-is_space, then-is_word, else-is_word, else-is_space}
use Rattle.splitting.proofs.count.Goals as goal

pub loop-at-preserved : goal.loop-at-preserved
loop-at-preserved c =
    let inv = c.loop-at.invariant in
    let line = c.args.line.now in
    let start = c.loop-at.start in
    let at = c.loop-at.at in
    let test = c.loop-at-test.true in
    elim c.if-is_space.branch [
      | then-is_space w ↦
          elim w.if-is_word.branch [
            | then-is_word v ↦
                let l = ap length (word_ends line start at test (sym w.if-is_space.ensures) (sym v.if-is_word.ensures)) in
                rw (w.words-is, v.words-is, w.start-is) (omega arith, omega (arith, inv.0, inv.1), omega (arith, l, inv.2))
            | else-is_word v ↦
                let l = ap length (none_ends line start at test (sym w.if-is_space.ensures) (sym v.if-is_word.ensures)) in
                rw (w.words-is, v.words-is, w.start-is) (omega arith, omega (arith, inv.0, inv.1), omega (arith, l, inv.2))
          ]
      | else-is_space w ↦
          let l = ap length (letter line start at inv.0 test (sym w.if-is_space.ensures)) in
          rw (w.words-is, w.start-is) (omega (arith, inv.0), inv.1, omega (arith, l, inv.2))
    ]
