-- The turn of the loop of `splitting::word`.
-- Assumes nothing.
use Rattle.std.proofs.Common.{◌∙◌, ◌+◌, [], List, ℕ, get_or, sym, ap, arith}
use Rattle.splitting.proofs.Steps.{letter, word_ends, none_ends, later, held, left}
use Rattle.splitting.proofs.word.Goals.{then-is_space, then-is_word+else-before-eq0, else-is_word, else-is_space}
use Rattle.splitting.proofs.word.Goals as goal

pub loop-at-preserved : goal.loop-at-preserved
loop-at-preserved c =
    let inv = c.loop-at.invariant in
    let line = c.args.line.now in
    let start = c.loop-at.start in
    let at = c.loop-at.at in
    let test = c.loop-at-test.true in
    let one = λ (words : List (List ℕ)). get_or words c.loop-at.before [] in
    elim c.if-is_space.branch [
      | then-is_space w ↦
          elim w.if-is_word.branch [
            | then-is_word+else-before-eq0 v ↦
                let e = ap one (word_ends line start at test (sym w.if-is_space.ensures) (sym v.if-is_word.ensures)) in
                let f = later (held line start at) (left line (at + 1) (at + 1)) c.loop-at.before v.if-before-eq0.false in
                rw (w.before-is, v.before-is, w.start-is) (omega arith, sym f ∙ sym e ∙ inv.1)
            | else-is_word v ↦
                let e = ap one (none_ends line start at test (sym w.if-is_space.ensures) (sym v.if-is_word.ensures)) in
                rw (w.before-is, v.before-is, w.start-is) (omega arith, sym e ∙ inv.1)
          ]
      | else-is_space w ↦
          let e = ap one (letter line start at inv.0 test (sym w.if-is_space.ensures)) in
          rw (w.before-is, w.start-is) (omega (arith, inv.0), sym e ∙ inv.1)
    ]
