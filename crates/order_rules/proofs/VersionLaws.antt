-- Which transactions have a committed version of an item, by the tables of a log: `written` says what was put, `committed` who is done, and no right event
-- writes an item over 63.
-- Assumes nothing.
use Prim.Native.Nat.{ℕ, ◌+◌, ◌≤◌, ◌<◌, ◌^◌}
use native.Mathlib.Omega.{arith}
use mathlib.Core.Path.{◌≡◌, refl, sym, subst}
use mathlib.Core.Logic.{inl, inr, ◌↔◌}
use mathlib.Core.List.{List, [], ◌∷◌, reverse, map}
use mathlib.Core.Bool.{Bool, true, false, cond, ◌&&◌}
use lib.Dec.{eqb}
use borrow.Author.Tests.{eq-eqb, eqb-true}
use Rattle.lists.specs.Tests.{any}
use Rattle.lists.proofs.OrderLaws.{in_nil, in_reverse, of_reverse}
use Rattle.lists.proofs.TestLaws.{both_true, any_in, in_any, differ, differs}
use Rattle.log_format.specs.Events.{Event, begins, reads, writes, commits, aborts, event_of}
use Rattle.log_format.specs.Told.{Put, Puts, Done}
use Rattle.log_format.specs.Fields.{Fits}
use Rattle.log_format.specs.Whole.{Good}
use Rattle.log_format.specs.declared.Record.{Record}
use Rattle.log_format.specs.declared.Record.TheVariants.{Begin, Read, Write, Commit, Abort}
use Rattle.log_format.proofs.ToldLaws.{put_is}
use Rattle.history_rules.specs.WellFormed.{most_item, WellFormed}
use Rattle.history_rules.specs.Faults.{written}
use Rattle.serial_theory.specs.Edges.{Version}
use Rattle.serial_theory.specs.Judged.{committed}
use Rattle.serial_theory.proofs.RegularLaws.{right_at}
use Rattle.serial_theory.proofs.CommittedLaws.{committed_is}
use Rattle.order_rules.specs.Right.{is_version}

-- what was put in a log, and in the log read backwards
put-reverse : (t x v : ℕ) (log : List Event) → Put t x v log → Put t x v (reverse log)
put-reverse t x v log p = (put_is t x v (reverse log)).1 (of_reverse log [] (inl ((put_is t x v log).0 p)))

put_forward : (t x v : ℕ) (log : List Event) → Put t x v (reverse log) → Put t x v log
put_forward t x v log p = elim (in_reverse log [] ((put_is t x v (reverse log)).0 p)) [ inl m ↦ (put_is t x v log).1 m | inr m ↦ in_nil m ]

-- what t wrote to x, by the table, is not 0 exactly where it put x
module _ (t x : ℕ) where
  put_written : (past : List Event) → Puts t x past → ¬ (written past t x ≡ 0)
  unfolding written
  put_written [] p = absurd p.1
  put_written (begins u ∷ past) p = put_written past p
  put_written (reads u y j v ∷ past) p = put_written past p
  put_written (writes u y v ∷ past) p = go (eqb t u && eqb x y) refl p (put_written past)
    where
      go : (b : Bool) → (eqb t u && eqb x y) ≡ b → Puts t x (writes u y v ∷ past) → (Puts t x past → ¬ (written past t x ≡ 0))
          → ¬ (cond b (v + 1) (written past t x) ≡ 0)
      go true e q ih z = absurd (omega arith)
      go false e (w, inl q) ih z =
          let f : ◌≡◌ {A = Bool} true false = rw (eq-eqb t u q.0, eq-eqb x y q.1) at e in let n : ◌≡◌ {A = ℕ} 0 1 = cc in omega arith
      go false e (w, inr r) ih z = ih (w, r) z
  put_written (commits u ∷ past) p = put_written past p
  put_written (aborts u c ∷ past) p = put_written past p

  written-put : (past : List Event) → ¬ (written past t x ≡ 0) → Puts t x past
  unfolding written
  written-put [] n = absurd (n refl)
  written-put (begins u ∷ past) n = written-put past n
  written-put (reads u y j v ∷ past) n = written-put past n
  written-put (writes u y v ∷ past) n = go (eqb t u && eqb x y) refl n (written-put past)
    where
      go : (b : Bool) → (eqb t u && eqb x y) ≡ b → ¬ (cond b (v + 1) (written past t x) ≡ 0) → (¬ (written past t x ≡ 0) → Puts t x past)
          → Puts t x (writes u y v ∷ past)
      go true e n ih = let q = both_true (eqb t u) (eqb x y) e in (v, inl (eqb-true t u q.0, eqb-true x y q.1, refl))
      go false e n ih = let p = ih n in (p.0, inr p.1)
  written-put (commits u ∷ past) n = written-put past n
  written-put (aborts u c ∷ past) n = written-put past n

module _ (log : List Event) where
  -- of a whole log
  pub written_puts : (t x : ℕ) → (¬ (written (reverse log) t x ≡ 0)) ↔ Puts t x log
  written_puts t x = (
    (λ n. let p = written-put t x (reverse log) n in (p.0, put_forward t x p.0 log p.1)),
    (λ p. put_written t x (reverse log) (p.0, put-reverse t x p.0 log p.1)),
  )

  -- the test is the fact
  pub version_is : (x i : ℕ) → (is_version (written (reverse log)) (committed log) x i ≡ true) ↔ Version log x i
  version_is x i = (
    λ e. let r = both_true (any (eqb i) (committed log)) _ e in
        ((committed_is log i).0 (any_in i (committed log) r.0), (written_puts i x).0 (differ _ _ r.1)),
    λ v. let a = in_any i (committed log) ((committed_is log i).1 v.0) in rw a (differs _ _ ((written_puts i x).1 v.1)),
  )

-- a right write's item is at most 63
pub put_item : (log : List Event) → WellFormed log → (t x : ℕ) → Puts t x log → x ≤ most_item
put_item log w t x p = (right_at (writes t x p.0) [] log w.right ((put_is t x p.0 log).0 p.1)).1.1.0

-- ---- stamps of a log that was read fit 4 bytes

pub stamps_fit : (rs : List Record) → Good rs → (t : ℕ) → Done t (map event_of rs) → t < 2 ^ 32
unfolding Good Fits
stamps_fit [] g t d = absurd d
stamps_fit (Begin s ∷ rs) g t d = stamps_fit rs g.2 t d
stamps_fit (Read s i v x ∷ rs) g t d = stamps_fit rs g.2 t d
stamps_fit (Write s i x ∷ rs) g t d = stamps_fit rs g.2 t d
stamps_fit (Commit s ∷ rs) g t (inl e) = subst (λ (k : ℕ). k < 2 ^ 32) (sym e) g.0
stamps_fit (Commit s ∷ rs) g t (inr d) = stamps_fit rs g.2 t d
stamps_fit (Abort s k ∷ rs) g t d = stamps_fit rs g.2 t d
