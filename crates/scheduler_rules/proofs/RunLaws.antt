-- A run from a reachable model leaves a reachable one, and the last begun stamp never falls. By recursion on the run, a step by the table's cases.
-- Assumes nothing.
use Prim.Native.Nat.{ℕ, ◌≤◌}
use mathlib.Core.Path.{◌≡◌, refl, sym, ap, subst, ◌∙◌}
use mathlib.Core.List.{List, [], ◌∷◌, ◌++◌, reverse_aux, reverse_aux-append}
use native.Mathlib.Omega.{arith}
use Rattle.log_format.specs.Events.{Event}
use Rattle.scheduler_rules.specs.Model.{Model}
use Rattle.scheduler_rules.specs.Table.{table, Reached, next}
use Rattle.scheduler_rules.specs.Run.{play, Leads, here, on}
use Rattle.scheduler_rules.specs.declared.Op.{Op}
use Rattle.scheduler_rules.proofs.StepLaws.{table_to}

-- the last begun stamp never falls
pub last-rises : (room : ℕ) (op : Op) (m : Model) → m.last ≤ (table room op m).next.last
last-rises room op m = table_to (λ (n : Model) (es : List Event). m.last ≤ n.last) room op m
    (omega arith) (λ k c. let z = c.above in omega arith) (λ _ _ _. omega arith) (λ _ _ _ _. omega arith) (λ _ _. omega arith) (λ _ _ _ _. omega arith)

pub leads_last : {m n : Model} → Leads m n → m.last ≤ n.last
leads_last here = omega arith
leads_last (on room op n l) = let a = leads_last l in let b = last-rises room op n in omega arith

-- a run leads on
pub play_leads : (room : ℕ) (ops : List Op) {m n : Model} → Leads m n → Leads m (play room ops n).left
play_leads room [] l = l
play_leads room (op ∷ ops) {m} {n} l = play_leads room ops (on room op n l)

-- at most one event is written at a time, so its order is both orders
pub one_event : (room : ℕ) (op : Op) (m : Model) (es : List Event) → reverse_aux (table room op m).due es ≡ (table room op m).due ++ es
one_event room op m es = table_to (λ (n : Model) (ds : List Event). reverse_aux ds es ≡ ds ++ es) room op m refl (λ _ _. refl) (λ _ _ _. refl) (λ _ _ _ _. refl) (λ _ _. refl) (λ _ _ _ _. refl)

-- a run from a reachable model leaves a reachable one; what it wrote comes on top, newest first
pub play_reached : (room : ℕ) (ops : List Op) (m : Model) (es : List Event) → room ≤ 65536 → Reached m es → Reached (play room ops m).left (reverse_aux (play room ops m).written es)
play_reached room [] m es h r = r
play_reached room (op ∷ ops) m es h r =
    let o = table room op m in
    let rest = (play room ops o.next).written in
    subst (Reached (play room ops o.next).left)
    (ap (reverse_aux rest) (sym (one_event room op m es)) ∙ sym (reverse_aux-append o.due rest es))
    (play_reached room ops o.next (o.due ++ es) h (next room op m es h r))
