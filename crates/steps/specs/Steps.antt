-- What a bench is after words sent one after the other, and after spins.
-- The rule of each is `bench`'s. Assumes nothing.
use Rattle.std.specs.Prelude.{ℕ, zero, suc, List, [], ◌∷◌}
use Rattle.bench.specs.declared.Bench.{Bench}
use Rattle.bench.specs.Bench.{worded_of, spun_bench}

abbrev pub sent_one : Bench → ℕ → Bench
sent_one b w = (worded_of b w).bench

unfoldable pub sent_all : Bench → List ℕ → Bench
sent_all b [] = b
sent_all b (w ∷ ws) = sent_all (sent_one b w) ws

unfoldable pub spun_times : Bench → ℕ → Bench
spun_times b zero = b
spun_times b (suc n) = spun_times (spun_bench b) n
