-- Single outcome: two results of `spun` that meet its own contract at the same record are equal, and so are two records that `spin` may leave.
-- Stated of the contract that the checker makes of the source, so that it cannot drift from it: `Reads.Post`, and for `spin`, which has none, its clause. Assumes nothing.
use mathlib.Core.Path.{◌≡◌}
use seplogic.Ra.Ura.{Ura}
use base.Logic.{SProp, ent}
use prog.Memory.{Memory}
use prog.Routine.{Routine}
use types.Logic.{Logic}
use contract.Monad.{Fun, conj, conj_l, conj_r, fact, fact_i, fact_use}
use contract.Lifetimes.{Lfts}
use denote.MutBor.{MutBor}
use Rattle.base.proofs.Single.{same}
use Rattle.supply.specs.Rules.{stepped}
use Rattle.supply.specs.declared.Supply.{Supply}
use Rattle.stepping.proofs.spun.Reads as spun
use Rattle.stepping.specs.contracts.spin as spin

pub spun_one : (s r q : Supply) → spun.Post tt (s, tt) r (s, tt) → spun.Post tt (s, tt) q (s, tt) → r ≡ q
spun_one s r q m n = same m n

module _ {M : Type 1} {𝓤 : Ura M} (𝓛 : Logic 𝓤) (at_mem : Memory → SProp 𝓤) (run : Routine → Fun 𝓤) (κs : Lfts 1) (s : MutBor Supply) where
  -- what the contract of `spin` says where s, the reference lent, is left at z
  abbrev SpinPost : MutBor Supply → SProp 𝓤
  SpinPost z = (spin.clauses 𝓛 at_mem run κs (s, tt)).ensures tt tt (z, tt)

  pub spin_one : (x y : MutBor Supply) → ent 𝓤 (conj 𝓤 (SpinPost x) (SpinPost y)) (fact 𝓤 (x.now ≡ y.now))
  spin_one x y =
      fact_use 𝓤 (x.now ≡ stepped s.now) (conj_l 𝓤 (SpinPost x) (SpinPost y)) (λ m.
      fact_use 𝓤 (y.now ≡ stepped s.now) (conj_r 𝓤 (SpinPost x) (SpinPost y)) (λ n. fact_i 𝓤 (x.now ≡ y.now) _ (same m n)))
