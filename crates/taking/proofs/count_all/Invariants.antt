-- `taking::count_all` meets its contract: the nodes passed have their numbers.
use Rattle.edges.specs.Matrix.{edge_at}
use Rattle.taking.proofs.TakenLaws.{Count}
use Rattle.taking.proofs.count_all.Given as goal

abbrev pub invariant-loop-k : goal.invariant-loop-k
invariant-loop-k l = Count (edge_at l.graph.matrix.now) l.graph.count l.fn.deg l.k l.deg
