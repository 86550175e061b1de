-- What passing says of a log's fields: the header is there, the events are those of the fields, at most 256 commit, and a scan that finds no bad field
-- ends with all events, newest first.
-- Assumes nothing.
use Prim.Native.Nat.{ℕ, ◌≤◌}
use native.Mathlib.Omega.{arith}
use mathlib.Core.Path.{◌≡◌, refl, sym, ◌∙◌}
use mathlib.Core.List.{List, [], ◌∷◌, reverse_aux}
use mathlib.Core.Bool.{Bool, true, false, cond}
use lib.Dec.{eqb, ltb}
use borrow.Author.Tests.{ltb-false}
use Rattle.log_format.specs.Whole.{header_ok}
use Rattle.log_format.specs.Events.{Event, event_of}
use Rattle.history_rules.specs.WellFormed.{most_committed, count_commits}
use Rattle.history_rules.specs.Faults.{fault, stage}
use Rattle.history_rules.specs.History.{Entry, good, broken, fields_from, events_in, Scanned, wrong, right, scanned, History, passed}
use Rattle.history_rules.specs.History.{refused, dangling, settled, ended, history_of}

pub scanned_all : (past all : List Event) (fs : List Entry) → scanned past fs ≡ right all → all ≡ reverse_aux (events_in fs) past
unfolding scanned
scanned_all past all [] e = cc
scanned_all past all (good p r ∷ fs) e = go (eqb (fault past (event_of r)) 0) e (scanned_all (event_of r ∷ past) all fs)
  where
    go : (b : Bool) → cond b (scanned (event_of r ∷ past) fs) (wrong (fault past (event_of r)) p) ≡ right all
        → (scanned (event_of r ∷ past) fs ≡ right all → all ≡ reverse_aux (events_in fs) (event_of r ∷ past))
        → all ≡ reverse_aux (events_in fs) (event_of r ∷ past)
    go true e ih = ih e
    go false e ih = let z : ◌≡◌ {A = ℕ} 0 1 = cc in absurd (omega arith)
scanned_all past all (broken p ∷ fs) e = let z : ◌≡◌ {A = ℕ} 0 1 = cc in absurd (omega arith)

settled_passed : (st : ℕ → ℕ) (a : History) (log : List Event) (fs : List Entry) → settled st a fs ≡ passed log → a ≡ passed log
unfolding settled
settled_passed st a log [] e = e
settled_passed st a log (good p r ∷ fs) e = go (dangling st (event_of r)) e (settled_passed st a log fs)
  where
    go : (b : Bool) → cond b (refused 27 p) (settled st a fs) ≡ passed log → (settled st a fs ≡ passed log → a ≡ passed log) → a ≡ passed log
    go true e ih = let z : ◌≡◌ {A = ℕ} 0 1 = cc in absurd (omega arith)
    go false e ih = ih e
settled_passed st a log (broken p ∷ fs) e = settled_passed st a log fs e

-- the fields fs pass with the events of a log
pub record PassedBy (fs : List Entry) (log : List Event) : Type 0 where
  pub events : log ≡ events_in fs
  pub few : count_commits (events_in fs) ≤ most_committed

ended_passed : (fs : List Entry) (q : Scanned) (log : List Event) → ended fs q ≡ passed log → PassedBy fs log
ended_passed fs (wrong c p) log e = let z : ◌≡◌ {A = ℕ} 0 1 = cc in absurd (omega arith)
ended_passed fs (right past) log e = go (ltb most_committed (count_commits (events_in fs))) refl e
  where
    go : (b : Bool) → ltb most_committed (count_commits (events_in fs)) ≡ b
        → cond b (refused 26 0) (settled (stage past) (passed (events_in fs)) fs) ≡ passed log → PassedBy fs log
    go true f e = let z : ◌≡◌ {A = ℕ} 0 1 = cc in absurd (omega arith)
    go false f e =
        let q : passed (events_in fs) ≡ passed log = settled_passed (stage past) (passed (events_in fs)) log fs e in
        record { events = cc; few = ltb-false most_committed _ f }

pub history_headed : (s : List ℕ) → header_ok s ≡ true → history_of s ≡ ended (fields_from s 4) (scanned [] (fields_from s 4))
unfolding history_of
history_headed s h = rw h

pub history_unheaded : (s : List ℕ) → header_ok s ≡ false → history_of s ≡ refused 21 0
unfolding history_of
history_unheaded s h = rw h

pub passed_parts : (s : List ℕ) (log : List Event) → history_of s ≡ passed log → (header_ok s ≡ true) × PassedBy (fields_from s 4) log
passed_parts s log e = go (header_ok s) refl
  where
    go : (b : Bool) → header_ok s ≡ b → (header_ok s ≡ true) × PassedBy (fields_from s 4) log
    go true h = (h, ended_passed (fields_from s 4) (scanned [] (fields_from s 4)) log (sym (history_headed s h) ∙ e))
    go false h =
        let q = history_unheaded s h in
        let z : ◌≡◌ {A = ℕ} 0 1 = cc in
        absurd (omega arith)
