-- A refusal of a log keeps its code and its number, and the two tell the refusal back. Which codes a log can be refused with follows from how its fields
-- are gone through, whatever numbers it has.
-- Assumes nothing.
use Prim.Native.Nat.{ℕ, ◌≤◌}
use native.Mathlib.Omega.{arith}
use mathlib.Core.Path.{◌≡◌, refl, ap, subst}
use mathlib.Core.List.{List, [], ◌∷◌}
use mathlib.Core.Bool.{Bool, cond}
use lib.Dec.{eqb}
use Rattle.lists.proofs.ChoiceLaws.{cond_by}
use Rattle.log_format.specs.Events.{Event, begins, reads, writes, commits, aborts, event_of}
use Rattle.history_rules.specs.declared.Fault.{Fault}
use Rattle.history_rules.specs.declared.Fault.TheVariants.{Stamp, Item, Version}
use Rattle.history_rules.specs.declared.BadLog.{BadLog}
use Rattle.history_rules.specs.declared.BadLog.TheVariants.{NoLog, BadField, Wrong, TooMany, Dangling}
use Rattle.history_rules.specs.Faults.{fault_by, stage, written}
use Rattle.history_rules.specs.History.{Entry, good, broken, fields_from, Scanned, wrong, right, scanned}
use Rattle.history_rules.specs.History.{History, passed, refused, settled, ended, judged, history_of}
use Rattle.history_rules.specs.Refusals.{fault_code, bad_log_code, bad_log_number, bad_log_with}
use Rattle.history_rules.proofs.HistoryLaws.{OfRefusal}

pub bad_log_back : (e : BadLog) → bad_log_with (bad_log_code e) (bad_log_number e) ≡ e
bad_log_back NoLog = refl
bad_log_back (BadField p) = refl
bad_log_back (Wrong Stamp p) = refl
bad_log_back (Wrong Item p) = refl
bad_log_back (Wrong Version p) = refl
bad_log_back TooMany = refl
bad_log_back (Dangling p) = refl

-- the refusal with this code and this number has them
pub record Keeps (c p : ℕ) : Type 0 where
  pub code : bad_log_code (bad_log_with c p) ≡ c
  pub number : bad_log_number (bad_log_with c p) ≡ p

bad_keeps : (e : BadLog) → Keeps (bad_log_code e) (bad_log_number e)
bad_keeps e = record { code = ap bad_log_code (bad_log_back e); number = ap bad_log_number (bad_log_back e) }

codes : (e : BadLog) → (21 ≤ bad_log_code e) × (bad_log_code e ≤ 27)
codes NoLog = (omega arith, omega arith)
codes (BadField p) = (omega arith, omega arith)
codes (Wrong Stamp p) = (omega arith, omega arith)
codes (Wrong Item p) = (omega arith, omega arith)
codes (Wrong Version p) = (omega arith, omega arith)
codes TooMany = (omega arith, omega arith)
codes (Dangling p) = (omega arith, omega arith)

-- ---- what a log is refused with

-- whatever a test says
either : {A : Type 0} (P : A → Type 0) (b : Bool) (x y : A) → P x → P y → P (cond b x y)
either P b x y p q = cond_by P b (λ e. p) (λ e. q)

-- what holds of 0 and of each fault's code holds of an event's
module _ (P : ℕ → Type 0) (p0 : P 0) (p23-25 : (f : Fault) → P (fault_code f)) where
  each_fault : (st : ℕ → ℕ) (wr : ℕ → ℕ → ℕ) (e : Event) → P (fault_by st wr e)
  each_fault st wr (begins t) = either P _ 23 0 (p23-25 Stamp) p0
  each_fault st wr (reads t x j v) = either P _ 23 _ (p23-25 Stamp) (either P _ 24 _ (p23-25 Item) (either P _ 25 0 (p23-25 Version) p0))
  each_fault st wr (writes t x v) = either P _ 23 _ (p23-25 Stamp) (either P _ 24 0 (p23-25 Item) p0)
  each_fault st wr (commits t) = either P _ 23 0 (p23-25 Stamp) p0
  each_fault st wr (aborts t c) = either P _ 23 0 (p23-25 Stamp) p0

-- what holds of each refusal's code and number holds of those that a log is refused with
module _ (Q : ℕ → ℕ → Type 0) (q : (e : BadLog) → Q (bad_log_code e) (bad_log_number e)) where
  abbrev OfWrong : Scanned → Type 0
  OfWrong (wrong c p) = Q c p
  OfWrong (right past) = Unit {0}

  -- an event's fault stops the scan
  stops : (p : ℕ) (a : Scanned) → OfWrong a → (f : Fault) → OfWrong (cond (eqb (fault_code f) 0) a (wrong (fault_code f) p))
  stops p a h Stamp = q (Wrong Stamp (record { 0 = p }))
  stops p a h Item = q (Wrong Item (record { 0 = p }))
  stops p a h Version = q (Wrong Version (record { 0 = p }))

  each_scanned : (past : List Event) (fs : List Entry) → OfWrong (scanned past fs)
  unfolding scanned
  each_scanned past [] = tt
  each_scanned past (good p r ∷ fs) =
      let a = scanned (event_of r ∷ past) fs in
      let h = each_scanned (event_of r ∷ past) fs in
      each_fault (λ k. OfWrong (cond (eqb k 0) a (wrong k p))) h (stops p a h) (stage past) (written past) (event_of r)
  each_scanned past (broken p ∷ fs) = q (BadField (record { 0 = p }))

  each_settled : (st : ℕ → ℕ) (a : History) → OfRefusal Q a → (fs : List Entry) → OfRefusal Q (settled st a fs)
  unfolding settled
  each_settled st a h [] = h
  each_settled st a h (good p r ∷ fs) = either (OfRefusal Q) _ (refused 27 p) _ (q (Dangling (record { 0 = p }))) (each_settled st a h fs)
  each_settled st a h (broken p ∷ fs) = each_settled st a h fs

  each_ended : (fs : List Entry) (sc : Scanned) → OfWrong sc → OfRefusal Q (ended fs sc)
  each_ended fs (wrong c p) h = h
  each_ended fs (right past) h = either (OfRefusal Q) _ (refused 26 0) _ (q TooMany) (each_settled _ _ tt fs)

  each_history : (s : List ℕ) → OfRefusal Q (history_of s)
  unfolding history_of
  each_history s = let fs = fields_from s 4 in either (OfRefusal Q) _ (judged fs) (refused 21 0) (each_ended fs _ (each_scanned [] fs)) (q NoLog)

  of_refused : (s : List ℕ) (c p : ℕ) → history_of s ≡ refused c p → Q c p
  of_refused s c p e = subst (OfRefusal Q) e (each_history s)

pub refused_keeps : (s : List ℕ) (c p : ℕ) → history_of s ≡ refused c p → Keeps c p
refused_keeps = of_refused Keeps bad_keeps

-- there are no codes but 21 to 27
pub refused_codes : (s : List ℕ) (c p : ℕ) → history_of s ≡ refused c p → (21 ≤ c) × (c ≤ 27)
refused_codes = of_refused (λ c p. (21 ≤ c) × (c ≤ 27)) codes
