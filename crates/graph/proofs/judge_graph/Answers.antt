-- `graph::judge_graph` meets its contract: all nodes are taken and their stamps written in that order, or the walk among those left gives the cycle.
use Rattle.graph.proofs.JudgedLaws.{order_below, answered_all, part_found, cycle_some, cycle_below, answered_cycle}
use Rattle.graph.specs.Answer.{verdict_at}
use native.Mathlib.Omega.{arith}
use Rattle.graph.proofs.judge_graph.Goals as goal

pub put_stamps-requires-clause-those_nodes : goal.put_stamps-requires-clause-those_nodes
put_stamps-requires-clause-those_nodes c = λ k d w. let b = order_below _ _ _ _ _ c.take_all-taken.ensures k d w in omega arith

pub returns-then-taken-graph : goal.returns-then-taken-graph
unfolding verdict_at
returns-then-taken-graph c =
    answered_all _ _ _ _ _ c.take_all-taken.ensures c.if-taken-graph.true (omega arith) c.args.nodes.now c.args.answer.now _ c.put_stamps.ensures

pub unwrap-part-requires : goal.unwrap-part-requires
unwrap-part-requires c = part_found _ _ _ _ _ c.take_all-taken.ensures c.if-taken-graph.false _ _ _ c.find_cycle.ensures

pub put_cycle-requires-clause-some : goal.put_cycle-requires-clause-some
put_cycle-requires-clause-some c =
    let f = rw c.unwrap-part.ensures at c.find_cycle.ensures in
    cycle_some _ _ _ _ _ c.take_all-taken.ensures c.if-taken-graph.false _ _ _ f

pub put_cycle-requires-clause-those_nodes : goal.put_cycle-requires-clause-those_nodes
put_cycle-requires-clause-those_nodes c =
    let f = rw c.unwrap-part.ensures at c.find_cycle.ensures in λ k d w.
    let b = cycle_below _ _ _ _ _ c.take_all-taken.ensures c.if-taken-graph.false _ _ _ f k d w in
    omega arith

pub returns : goal.returns
unfolding verdict_at
returns c =
    let f = rw c.unwrap-part.ensures at c.find_cycle.ensures in
    answered_cycle _ _ _ _ _ c.take_all-taken.ensures c.if-taken-graph.false _ _ _ f c.args.nodes.now c.args.answer.now _ c.put_cycle.ensures
