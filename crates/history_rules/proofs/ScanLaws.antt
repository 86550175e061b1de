-- Going through the fields finds the first bad one: fields whose events are right are passed, and the first to which a code applies stops the scan
-- with its lowest code and its place.
-- Assumes nothing.
use Prim.Native.Nat.{ℕ, ◌+◌}
use native.Mathlib.Nat.{add-zero}
use native.Mathlib.Omega.{arith}
use mathlib.Core.Path.{◌≡◌, refl, ap, ◌∙◌}
use mathlib.Core.List.{List, [], ◌∷◌, ◌++◌, map, reverse_aux}
use mathlib.Core.Logic.{◌≢◌}
use mathlib.Core.Bool.{Bool, true, false}
use lib.Dec.{eqb}
use lib.ListN.{length, length-append}
use borrow.Author.Tests.{eqb-true, eqb-false, ne_eqb}
use Rattle.log_format.specs.Fields.{encode}
use Rattle.log_format.specs.Whole.{write_all}
use Rattle.log_format.specs.Events.{Event, event_of}
use Rattle.log_format.specs.declared.Record.{Record}
use Rattle.history_rules.specs.WellFormed.{Right, AllRight}
use Rattle.history_rules.specs.Wrong.{Lowest}
use Rattle.history_rules.specs.Faults.{fault}
use Rattle.history_rules.specs.History.{Entry, good, wrong, scanned}
use Rattle.history_rules.proofs.Stages.{Views, views_more}
use Rattle.history_rules.proofs.FaultLaws.{fault_lowest, fault_right, lowest_fault, right_fault}
use Rattle.history_rules.proofs.FieldSteps.{placed}

module _ (past : List Event) (g : Views past) (p : ℕ) (r : Record) (fs : List Entry) where
  -- a right record is passed
  pub scan_pass : Right past (event_of r) → scanned past (good p r ∷ fs) ≡ scanned (event_of r ∷ past) fs
  unfolding scanned
  scan_pass h = rw (right_fault past g (event_of r) h)

  -- another stops
  pub scan_stop : (c : ℕ) → c ≢ 0 → Lowest past (event_of r) c → scanned past (good p r ∷ fs) ≡ wrong c p
  unfolding scanned
  scan_stop c n l = rw (lowest_fault past g (event_of r) c l, ne_eqb c 0 n)

-- right records are passed, each after those before it
pub scan_all : (rs : List Record) (past : List Event) → Views past → (at : ℕ) (fs : List Entry) → AllRight past (map event_of rs)
    → scanned past (placed at rs ++ fs) ≡ scanned (reverse_aux (map event_of rs) past) fs
scan_all [] past g at fs h = refl
scan_all (r ∷ rs) past g at fs h =
    scan_pass past g at r _ h.0 ∙ scan_all rs (event_of r ∷ past) (views_more past g (event_of r) h.0) (at + length (encode r)) fs h.1

-- records are all right, or there is a first wrong one
pub data Scan (past : List Event) (rs : List Record) : Type 0 where
  all_right : AllRight past (map event_of rs) → Scan past rs
  first_wrong : (before : List Record) (r : Record) (after : List Record) (c : ℕ) → rs ≡ before ++ r ∷ after → AllRight past (map event_of before)
      → c ≢ 0 → Lowest (reverse_aux (map event_of before) past) (event_of r) c → Scan past rs

pub scan : (rs : List Record) (past : List Event) → Views past → Scan past rs
scan [] past g = all_right tt
scan (r ∷ rs) past g = go (eqb (fault past (event_of r)) 0) refl (λ h. scan rs (event_of r ∷ past) h)
  where
    on : Right past (event_of r) → Scan (event_of r ∷ past) rs → Scan past (r ∷ rs)
    on h (all_right k) = all_right (h, k)
    on h (first_wrong before q after c e k n l) = first_wrong (r ∷ before) q after c (ap (λ t. r ∷ t) e) (h, k) n l

    go : (b : Bool) → eqb (fault past (event_of r)) 0 ≡ b → (Views (event_of r ∷ past) → Scan (event_of r ∷ past) rs) → Scan past (r ∷ rs)
    go true e ih = let h = fault_right past g (event_of r) (eqb-true _ _ e) in on h (ih (views_more past g (event_of r) h))
    go false e ih = first_wrong [] r rs (fault past (event_of r)) refl tt (eqb-false _ _ e) (fault_lowest past g (event_of r))

-- the places of records after others
pub placed_append : (before : List Record) (rs : List Record) (at : ℕ)
    → placed at (before ++ rs) ≡ placed at before ++ placed (at + length (write_all before)) rs
placed_append [] rs at = rw add-zero
placed_append (r ∷ before) rs at =
    let l : at + length (encode r) + length (write_all before)
    ≡ at + length (encode r ++ write_all before) = omega (arith, length-append (encode r) (write_all before)) in
    ap (λ t. good at r ∷ t) (placed_append before rs (at + length (encode r)) ∙ ap (λ (m : ℕ). placed (at + length (encode r)) before ++ placed m rs) l)
