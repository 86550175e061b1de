use Rattle.taking.proofs.NodesLaws.{first-position}
use Rattle.taking.proofs.TakenLaws.{taking_none, taking_next, taking_stop}
use lib.Dec.{eqb}
use native.Mathlib.Omega.{arith}
use Rattle.taking.proofs.take_all.Goals as goal

pub loop-taken-init : goal.loop-taken-init
loop-taken-init c =
    let d = c.count_all in
    taking_none _ _ _ _ (omega (arith, d.auto.deg)) (omega arith) d.ensures

pub returns-in_default : goal.returns-in_default
returns-in_default c =
    taking_stop _ _ _ _ _ _ _ c.loop-taken.invariant (first-position (λ d. eqb d 1) c.loop-taken.deg c.args.graph.count (omega arith) _ c.in_default.ensures)

pub loop-taken-preserved : goal.loop-taken-preserved
loop-taken-preserved c =
    let s = first-position (λ d. eqb d 1) c.loop-taken.deg c.args.graph.count (omega arith) _ c.in-Some.ensures in
    let t = c.take_node in
    taking_next _ _ _ _ _ _ _ c.loop-taken.invariant _ _ (omega arith) s t.ensures t.auto.deg
