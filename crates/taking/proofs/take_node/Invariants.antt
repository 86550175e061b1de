-- `taking::take_node` meets its contract: the numbers passed are less by their edges from k, the others are as they were; at last k's number is 0.
use Rattle.edges.specs.Matrix.{edge_at}
use Rattle.taking.proofs.TakenLaws.{Lower}
use Rattle.taking.proofs.take_node.Given as goal

abbrev pub invariant-loop-j : goal.invariant-loop-j
invariant-loop-j l = Lower (edge_at l.graph.matrix.now) l.graph.count l.k l.fn.deg l.j l.deg
