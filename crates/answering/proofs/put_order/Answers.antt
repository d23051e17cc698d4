-- `answering::put_order`: the words that were written, or the refusal.
-- Assumes nothing.
use Rattle.std.proofs.Common.{sym, ℕ, List, [], ◌∷◌, take, length-take, refl, arith}
use Rattle.wording.specs.Written.{written_of}
use Rattle.answering.proofs.Orders.{words_told, refusal_told, lines_length}
use Rattle.answering.proofs.put_order.Goals as goal

abbrev zeros : List ℕ
zeros = 0 ∷ 0 ∷ 0 ∷ 0 ∷ []

pub slice_bounds-words-end : goal.slice_bounds-words-end
slice_bounds-words-end c =
    let t = (words_told c.args.c zeros refl c.in-Ok.n (sym c.in-Ok.ensures.0)).0 in
    omega (arith, t)

pub slice_bounds-put_lines-end : goal.slice_bounds-put_lines-end
slice_bounds-put_lines-end c =
    let t = (words_told c.args.c zeros refl c.in-Ok.n (sym c.in-Ok.ensures.0)).0 in
    simp length-take (omega (arith, t))

pub returns-in-Ok : goal.returns-in-Ok
returns-in-Ok c =
    let t = words_told c.args.c zeros refl c.in-Ok.n (sym c.in-Ok.ensures.0) in
    let q = rw c.in-Ok.ensures.1 at c.put_lines.ensures in
    let l = lines_length (take c.in-Ok.n (written_of c.args.c zeros)) in
    let u = length-take c.in-Ok.n (written_of c.args.c zeros) in
    (rw t.1 at q, omega (arith, q.puts.place, l, u, t.0))

pub returns-in-Err : goal.returns-in-Err
returns-in-Err c =
    let t = refusal_told c.args.c zeros refl c.in-Err.why (sym c.in-Err.ensures.0) in
    (rw t at c.put_refused.ensures.0, omega (arith, c.put_refused.ensures.1))
