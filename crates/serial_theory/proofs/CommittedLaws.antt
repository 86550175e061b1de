-- The nodes: `committed` rises, has exactly the committed transactions, and in a regular log as many as there are commits, since none commits
-- twice.
-- Assumes nothing.
use Prim.Native.Nat.{ℕ}
use native.Mathlib.Omega.{arith}
use mathlib.Core.Path.{◌≡◌, refl}
use mathlib.Core.Logic.{inl, inr, ◌↔◌}
use mathlib.Core.List.Memᴰ
use mathlib.Core.List.{List, [], ◌∷◌}
use lib.ListN.{length}
use Rattle.lists.specs.Member.{◌∈◌, Rising}
use Rattle.lists.proofs.OrderLaws.{in_nil}
use Rattle.lists.proofs.RisingLaws.{insert_rising, in_insert, of_insert, length-insert}
use Rattle.log_format.specs.Events.{Event, begins, reads, writes, commits, aborts}
use Rattle.log_format.specs.Told.{Done}
use Rattle.log_format.proofs.ToldLaws.{done_is}
use Rattle.history_rules.specs.WellFormed.{AllRight, count_commits}
use Rattle.serial_theory.specs.Judged.{committed}
use Rattle.serial_theory.proofs.RegularLaws.{right_after}

pub committed_rising : (log : List Event) → Rising 0 (committed log)
unfolding committed
committed_rising [] = tt
committed_rising (begins t ∷ log) = committed_rising log
committed_rising (reads t x j v ∷ log) = committed_rising log
committed_rising (writes t x v ∷ log) = committed_rising log
committed_rising (commits t ∷ log) = insert_rising t 0 (committed log) (omega arith) (committed_rising log)
committed_rising (aborts t c ∷ log) = committed_rising log

pub committed_is : (log : List Event) (t : ℕ) → (t ∈ committed log) ↔ Done t log
unfolding committed
committed_is [] t = (λ m. in_nil m, λ d. absurd d)
committed_is (begins u ∷ log) t = committed_is log t
committed_is (reads u x j v ∷ log) t = committed_is log t
committed_is (writes u x v ∷ log) t = committed_is log t
committed_is (commits u ∷ log) t =
    let ih = committed_is log t in (
      λ m. elim (in_insert u (committed log) t m) [ inl q ↦ inl q | inr n ↦ inr (ih.0 n) ],
      λ d. of_insert u (committed log) t (elim d [ inl q ↦ inl q | inr e ↦ inr (ih.1 e) ]),
    )
committed_is (aborts u c ∷ log) t = committed_is log t

-- who has committed does not commit again
done_once : (t : ℕ) (past log : List Event) → AllRight past log → commits t ∈ past → ¬ (commits t ∈ log)
done_once t past log r n m = let s = right_after (commits t) (commits t) past log r n m in s.1.1.1 ((done_is t s.0).1 s.2)

pub committed-number : (past log : List Event) → AllRight past log → length (committed log) ≡ count_commits log
unfolding committed
committed-number past [] r = refl
committed-number past (begins t ∷ log) r = omega (arith, committed-number (begins t ∷ past) log r.1)
committed-number past (reads t x j v ∷ log) r = omega (arith, committed-number (reads t x j v ∷ past) log r.1)
committed-number past (writes t x v ∷ log) r = omega (arith, committed-number (writes t x v ∷ past) log r.1)
committed-number past (commits t ∷ log) r =
    let new : ¬ (t ∈ committed log) = λ m. done_once t (commits t ∷ past) log r.1 (Memᴰ.head refl) ((done_is t log).0 ((committed_is log t).0 m)) in
    omega (arith, length-insert t (committed log) new, committed-number (commits t ∷ past) log r.1)
committed-number past (aborts t c ∷ log) r = omega (arith, committed-number (aborts t c ∷ past) log r.1)
