-- Code 27: the test on stages says that a read dangles, the search through the fields finds the first such read, and there is none exactly where
-- whoever a committed transaction reads from commits.
-- Assumes nothing.
use Prim.Native.Nat.{ℕ, ◌+◌}
use mathlib.Core.Path.{◌≡◌, refl, ap, ◌∙◌}
use mathlib.Core.List.Memᴰ
use mathlib.Core.List.{List, [], ◌∷◌, ◌++◌, reverse}
use mathlib.Core.Logic.{◌⊎◌, inl, inr, ◌≢◌}
use mathlib.Core.Bool.{Bool, true, false}
use lib.Dec.{eqb}
use lib.ListN.{length}
use Rattle.lists.specs.Member.{◌∈◌}
use Rattle.log_format.specs.Fields.{encode}
use Rattle.log_format.specs.Events.{Event, begins, reads, writes, commits, aborts, event_of}
use Rattle.log_format.specs.Told.{Got, Done}
use Rattle.log_format.specs.declared.Record.{Record}
use Rattle.log_format.proofs.ToldLaws.{got_is}
use Rattle.history_rules.specs.Faults.{committed, stage}
use Rattle.history_rules.specs.History.{Entry, good, History, refused, dangling, settled}
use Rattle.history_rules.specs.Answers.{Dangles}
use Rattle.history_rules.proofs.Stages.{Views}
use Rattle.history_rules.proofs.Tells.{Tells, fails, by_test, said, says_and, says_not, says_differ}
use Rattle.history_rules.proofs.FaultLaws.{says_committed}
use Rattle.history_rules.proofs.OrderLaws.{retells_reverse, retells_straight}
use Rattle.history_rules.proofs.FieldSteps.{placed}

-- ---- the test

module _ (log : List Event) (g : Views (reverse log)) where
  done_or_not : (t : ℕ) → Tells (Done t log) (¬ Done t log) (eqb (stage (reverse log) t) committed)
  done_or_not t = said ((retells_straight log).done t) (λ n h. n ((retells_reverse log).done t h)) (says_committed (g.stages t))

  pub dangles_or_not : (e : Event) → Tells (Dangles log e) (¬ Dangles log e) (dangling (stage (reverse log)) e)
  dangles_or_not (begins t) = fails (λ h. h)
  dangles_or_not (reads t x j v) = said (λ h. (h.0, h.1.0, h.1.1)) calm (says_and (done_or_not t) (says_and (says_differ j 0) (says_not (done_or_not j))))
    where
      calm : (¬ Done t log) ⊎ ((j ≡ 0) ⊎ Done j log) → ¬ (Done t log × (j ≢ 0) × (¬ Done j log))
      calm (inl n) h = n h.0
      calm (inr (inl z)) h = h.1 z
      calm (inr (inr d)) h = h.2 d
  dangles_or_not (writes t x v) = fails (λ h. h)
  dangles_or_not (commits t) = fails (λ h. h)
  dangles_or_not (aborts t c) = fails (λ h. h)

  -- no read dangles exactly where whoever a committed transaction reads from commits
  pub calm_from : ((e : Event) → e ∈ log → ¬ Dangles log e) → (t x j v : ℕ) → Done t log → Got t x j v log → j ≢ 0 → Done j log
  calm_from c t x j v d r n = by_test (done_or_not j) (λ h. h) (λ m. absurd (c (reads t x j v) ((got_is t x j v log).0 r) (d, n, m)))

pub from_calm : (log : List Event) → ((t x j v : ℕ) → Done t log → Got t x j v log → j ≢ 0 → Done j log) → (e : Event) → e ∈ log → ¬ Dangles log e
from_calm log f (begins t) m h = h
from_calm log f (reads t x j v) m h = h.2 (f t x j v h.0 ((got_is t x j v log).1 m) h.1)
from_calm log f (writes t x v) m h = h
from_calm log f (commits t) m h = h
from_calm log f (aborts t c) m h = h

-- ---- the search

-- a test fails on every record, or there is a first on which it does not
pub data Search (test : Record → Bool) (rs : List Record) : Type 0 where
  nowhere : ((r : Record) → r ∈ rs → test r ≡ false) → Search test rs
  somewhere : (before : List Record) (r : Record) (after : List Record) → rs ≡ before ++ r ∷ after → test r ≡ true
      → ((q : Record) → q ∈ before → test q ≡ false) → Search test rs

-- what fails on the first and on the others fails on all
both : {test : Record → Bool} {r : Record} {rs : List Record} → test r ≡ false → ((q : Record) → q ∈ rs → test q ≡ false) → (q : Record) → q ∈ r ∷ rs
    → test q ≡ false
both {test} e f q m = elim (Memᴰ.cases_cons m) [ inl z ↦ ap test z ∙ e | inr t ↦ f q t ]

pub search : (test : Record → Bool) (rs : List Record) → Search test rs
search test [] = nowhere (λ r m. absurd (Memᴰ.not-nil m))
search test (r ∷ rs) = go (test r) refl (search test rs)
  where
    go : (b : Bool) → test r ≡ b → Search test rs → Search test (r ∷ rs)
    go true e s = somewhere [] r rs refl e (λ q m. absurd (Memᴰ.not-nil m))
    go false e (nowhere f) = nowhere (both e f)
    go false e (somewhere before q after z h f) = somewhere (r ∷ before) q after (ap (λ t. r ∷ t) z) h (both e f)

module _ (st : ℕ → ℕ) (a : History) where
  -- a record that dangles is refused
  pub settle_stop : (p : ℕ) (r : Record) (fs : List Entry) → dangling st (event_of r) ≡ true → settled st a (good p r ∷ fs) ≡ refused 27 p
  unfolding settled
  settle_stop p r fs e = rw e

  -- those that do not are passed
  pub settle_pass : (rs : List Record) (at : ℕ) (fs : List Entry) → ((r : Record) → r ∈ rs → dangling st (event_of r) ≡ false)
      → settled st a (placed at rs ++ fs) ≡ settled st a fs
  unfolding settled
  settle_pass [] at fs f = refl
  settle_pass (r ∷ rs) at fs f = rw (f r (Memᴰ.head refl)) (settle_pass rs (at + length (encode r)) fs (λ q m. f q (Memᴰ.tail m)))
