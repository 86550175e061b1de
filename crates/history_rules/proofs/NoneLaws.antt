-- A log is well-formed exactly where none of 23 to 27 applies to it. One way each event is right after those before it, so no code applies; the other way
-- the log is gone through from its front, each event found right as no code applies to it.
-- Assumes nothing.
use mathlib.Core.Path.{◌≡◌, refl, sym, ◌∙◌, subst}
use mathlib.Core.List.{List, [], ◌∷◌, ◌++◌, reverse, reverse-append, append_assoc}
use Rattle.log_format.specs.Events.{Event}
use Rattle.history_rules.specs.WellFormed.{AllRight, WellFormed}
use Rattle.history_rules.specs.Wrong.{Lowest}
use Rattle.history_rules.specs.Answers.{NoneApplies}
use Rattle.history_rules.proofs.Stages.{Views, no_views, views_more, views_all}
use Rattle.history_rules.proofs.FaultLaws.{right_none, none_right}
use Rattle.history_rules.proofs.OrderLaws.{retells_reverse, retells_straight, same_lowest, right_at}
use Rattle.history_rules.proofs.DanglingLaws.{calm_from, from_calm}

-- the events before one of them are right
all_front : (past before : List Event) (rest : List Event) → AllRight past (before ++ rest) → AllRight past before
all_front past [] rest r = tt
all_front past (e ∷ before) rest r = (r.0, all_front (e ∷ past) before rest r.1)

pub well_none : (log : List Event) → WellFormed log → NoneApplies log
well_none log w = record { no_23_25 = each; no_26 = w.few; no_27 = from_calm log w.from }
  where
    each : (before : List Event) (e : Event) (after : List Event) → log ≡ before ++ e ∷ after → Lowest before e 0
    each before e after q =
        let r = subst (AllRight []) q w.right in
        let g = views_all before [] no_views (all_front [] before (e ∷ after) r) in
        same_lowest (retells_straight before) (retells_reverse before) (right_none (reverse before) g e (right_at [] before e after r))

module _ (log : List Event) (none : (before : List Event) (e : Event) (after : List Event) → log ≡ before ++ e ∷ after → Lowest before e 0) where
  all_from : (before rest : List Event) → log ≡ before ++ rest → Views (reverse before) → AllRight (reverse before) rest
  all_from before [] q g = tt
  all_from before (e ∷ rest) q g =
      let r = none_right (reverse before) g e (same_lowest (retells_reverse before) (retells_straight before) (none before e rest q)) in
      let z : reverse (before ++ e ∷ []) ≡ e ∷ reverse before = reverse-append before (e ∷ []) in
      let w = all_from (before ++ e ∷ []) rest (q ∙ sym (append_assoc before (e ∷ []) rest)) (subst Views (sym z) (views_more (reverse before) g e r)) in
      (r, subst (λ (p : List Event). AllRight p rest) z w)

  all_of_none : AllRight [] log
  all_of_none = all_from [] log refl no_views

pub none_well : (log : List Event) → NoneApplies log → WellFormed log
none_well log n =
    let r = all_of_none log n.no_23_25 in
    record { right = r; few = n.no_26; from = calm_from log (views_all log [] no_views r) n.no_27 }
