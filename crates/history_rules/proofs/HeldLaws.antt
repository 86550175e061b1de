-- One table in place of two: keys of different transactions and items differ, so noting an event changes what the event changes; and judging by the table
-- is judging by the events, since an item over 63 is refused before the table is asked.
-- Assumes nothing.
use Prim.Native.Nat.{ℕ, ◌+◌, ◌≤◌}
use native.Mathlib.Omega.{arith}
use mathlib.Core.Path.{◌≡◌, refl, ap, ◌∙◌}
use mathlib.Core.List.{List, [], ◌∷◌}
use mathlib.Core.Bool.{Bool, true, false, cond, ◌&&◌, ◌||◌}
use lib.Dec.{eqb, ltb}
use borrow.Author.Tests.{eqb-true, eqb-false, eq-eqb, ne_eqb, ltb-false}
use Rattle.log_format.specs.Events.{Event, begins, reads, writes, commits, aborts, event_of}
use Rattle.history_rules.specs.WellFormed.{most_item, Right}
use Rattle.history_rules.specs.Faults.{running, committed, aborted, stage, written, differ, idle, unread, fault_by, fault}
use Rattle.history_rules.specs.History.{Entry, good, broken, History, dangling, settled}
use Rattle.history_rules.specs.Held.{stage_key, item_key, stage_in, written_in, Holds, put_at, noted, Kept}

-- ---- keys differ

same_stage : (u t : ℕ) → eqb (stage_key u) (stage_key t) ≡ eqb u t
same_stage u t = go (eqb u t) refl
  where
    go : (b : Bool) → eqb u t ≡ b → eqb (stage_key u) (stage_key t) ≡ b
    go true e = let q = eqb-true u t e in eq-eqb (stage_key u) (stage_key t) (omega arith)
    go false e = let q = eqb-false u t e in ne_eqb (stage_key u) (stage_key t) (λ f. q (omega arith))

item_stage : (u x t : ℕ) → x ≤ most_item → eqb (item_key u x) (stage_key t) ≡ false
item_stage u x t h = ne_eqb (item_key u x) (stage_key t) (λ f. omega arith)

stage_item : (u t y : ℕ) → y ≤ most_item → eqb (stage_key u) (item_key t y) ≡ false
stage_item u t y h = ne_eqb (stage_key u) (item_key t y) (λ f. omega arith)

same_item : (u x t y : ℕ) → x ≤ most_item → y ≤ most_item → eqb (item_key u x) (item_key t y) ≡ (eqb u t && eqb x y)
same_item u x t y h k = go (eqb u t) (eqb x y) refl refl
  where
    go : (a b : Bool) → eqb u t ≡ a → eqb x y ≡ b → eqb (item_key u x) (item_key t y) ≡ (a && b)
    go false b e f = let q = eqb-false u t e in ne_eqb (item_key u x) (item_key t y) (λ g. q (omega arith))
    go true false e f =
        let q = eqb-true u t e in
        let w = eqb-false x y f in
        ne_eqb (item_key u x) (item_key t y) (λ g. w (omega arith))
    go true true e f =
        let q = eqb-true u t e in
        let w = eqb-true x y f in
        eq-eqb (item_key u x) (item_key t y) (omega arith)

-- ---- an event noted

-- a table of zeros says that nothing happened
pub holds_none : (table : ℕ → ℕ) → ((k : ℕ) → table k ≡ 0) → Holds [] table
unfolding stage written
holds_none table z = record { stages = λ t. z (stage_key t); writes = λ t x h. z (item_key t x) }

module _ (past : List Event) (table after : ℕ → ℕ) (h : Holds past table) where
  module _ (t v : ℕ) (is : (k : ℕ) → after k ≡ put_at (stage_key t) v table k) where
    stages_put : (u : ℕ) → stage_in after u ≡ cond (eqb u t) v (stage past u)
    stages_put u = is (stage_key u) ∙ rw (same_stage u t, h.stages u)

    writes_kept : (u x : ℕ) → x ≤ most_item → written_in after u x ≡ written past u x
    writes_kept u x l = is (item_key u x) ∙ rw (item_stage u x t l) (h.writes u x l)

  module _ (t y v : ℕ) (k : y ≤ most_item) (is : (i : ℕ) → after i ≡ put_at (item_key t y) (v + 1) table i) where
    stages_kept : (u : ℕ) → stage_in after u ≡ stage past u
    stages_kept u = is (stage_key u) ∙ rw (stage_item u t y k) (h.stages u)

    writes_put : (u x : ℕ) → x ≤ most_item → written_in after u x ≡ cond (eqb u t && eqb x y) (v + 1) (written past u x)
    writes_put u x l = is (item_key u x) ∙ rw (same_item u x t y l k, h.writes u x l)

  -- a table in which an event is noted says one event more
  pub holds_more : (e : Event) → Kept e → ((k : ℕ) → after k ≡ noted e table k) → Holds (e ∷ past) after
  unfolding stage written
  holds_more (begins t) k is = record { stages = stages_put t running is; writes = writes_kept t running is }
  holds_more (reads t x j v) k is = record { stages = λ u. is (stage_key u) ∙ h.stages u; writes = λ u y l. is (item_key u y) ∙ h.writes u y l }
  holds_more (writes t x v) k is = record { stages = stages_kept t x v k is; writes = writes_put t x v k is }
  holds_more (commits t) k is = record { stages = stages_put t committed is; writes = writes_kept t committed is }
  holds_more (aborts t c) k is = record { stages = stages_put t aborted is; writes = writes_kept t aborted is }

-- a right event can be noted
pub right_kept : (past : List Event) (e : Event) → Right past e → Kept e
right_kept past (begins t) r = tt
right_kept past (reads t x j v) r = tt
right_kept past (writes t x v) r = r.1.0
right_kept past (commits t) r = tt
right_kept past (aborts t c) r = tt

-- ---- judged by the table

module _ (past : List Event) (table : ℕ → ℕ) (h : Holds past table) where
  read_same : (t x j v : ℕ) (b : Bool) → ltb most_item x ≡ b
      → cond {A = ℕ} b 24 (cond (unread (stage_in table) (written_in table) t x j v) 25 0) ≡ cond b 24 (cond (unread (stage past) (written past) t x j v) 25 0)
  read_same t x j v true e = refl
  read_same t x j v false e =
      let l = ltb-false most_item x e in
      rw (h.writes t x l, h.writes j x l, h.stages j)

  write_same : (t x : ℕ) (b : Bool) → ltb most_item x ≡ b
      → cond {A = ℕ} (b || differ (written_in table t x) 0) 24 0 ≡ cond (b || differ (written past t x) 0) 24 0
  write_same t x true e = refl
  write_same t x false e = rw (h.writes t x (ltb-false most_item x e))

  -- an event's code by the table is its code by the events
  pub fault_same : (e : Event) → fault_by (stage_in table) (written_in table) e ≡ fault past e
  fault_same (begins t) = rw (h.stages t)
  fault_same (reads t x j v) = rw (h.stages t) (ap (cond (idle (stage past) t) 23) (read_same t x j v (ltb most_item x) refl))
  fault_same (writes t x v) = rw (h.stages t) (ap (cond (idle (stage past) t) 23) (write_same t x (ltb most_item x) refl))
  fault_same (commits t) = rw (h.stages t)
  fault_same (aborts t c) = rw (h.stages t)

  -- whether a read dangles, too
  pub dangling_same : (e : Event) → dangling (stage_in table) e ≡ dangling (stage past) e
  dangling_same (begins t) = refl
  dangling_same (reads t x j v) = rw (h.stages t, h.stages j)
  dangling_same (writes t x v) = refl
  dangling_same (commits t) = refl
  dangling_same (aborts t c) = refl

  pub settled_same : (a : History) (fs : List Entry) → settled (stage_in table) a fs ≡ settled (stage past) a fs
  unfolding settled
  settled_same a [] = refl
  settled_same a (good p r ∷ fs) = rw (dangling_same (event_of r), settled_same a fs)
  settled_same a (broken p ∷ fs) = settled_same a fs
