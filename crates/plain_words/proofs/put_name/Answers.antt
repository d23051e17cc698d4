-- `plain_words::put_name`: the one word, or two with a space between.
-- Assumes nothing.
use Rattle.std.proofs.Common.{◌∙◌, ◌+◌, ◌≤◌, ap, [], length, get_or, arith}
use Rattle.text.proofs.Puts.{gets_both, gets_all}
use Rattle.menu_names.specs.Names.{name_words}
use Rattle.plain_words.proofs.Names.{one_word, two_words, two_long, name_short, word_of_name}
use Rattle.menu_names.proofs.Rows.{at_most_two}
use Rattle.plain_words.proofs.put_name.Goals as goal

pub returns-then-words_in-lt2 : goal.returns-then-words_in-lt2
returns-then-words_in-lt2 c =
    let row = c.args.row in
    let one = one_word (name_words row) (omega arith) in
    let short : length (get_or (name_words row) 0 []) ≤ 20 = omega (arith, ap length one, name_short row) in
    let x = gets_all (length (get_or (name_words row) 0 [])) (omega (arith, short)) (rw (c.word.ensures ∙ word_of_name row 0 _ c.name_of-name.ensures) at c.put.ensures) in
    (rw one at x, omega (arith, short, x.puts.place))

pub returns : goal.returns
returns c =
    let row = c.args.row in
    let ws = name_words row in
    let two = two_words ws (omega arith) (at_most_two row) in
    let size : length (get_or ws 0 []) + (1 + length (get_or ws 1 [])) ≤ 20 = omega (arith, two_long (get_or ws 0 []) (get_or ws 1 []), ap length two, name_short row) in
    let x = gets_all (length (get_or ws 0 [])) (omega (arith, size)) (rw (c.word.ensures ∙ word_of_name row 0 _ c.name_of-name.ensures) at c.put.ensures) in
    let y = gets_all 1 (omega (arith, size, x.long, x.puts.place)) c.put-2.ensures in
    let z = gets_all (length (get_or ws 1 [])) (omega (arith, size, x.long, x.puts.place, y.long, y.puts.place)) (rw (c.word-2.ensures ∙ word_of_name row 1 _ c.name_of-name.ensures) at c.put-3.ensures) in
    let xyz = gets_both x (gets_both y z (omega (arith, size, x.long, x.puts.place))) (omega (arith, size)) in
    (rw two at xyz, omega (arith, size, x.puts.place, y.puts.place, z.puts.place))
