-- `taking::take_all` meets its contract: the nodes taken and what the theory takes from those left are what it takes from all.
use Rattle.edges.specs.Matrix.{edge_at}
use Rattle.taking.proofs.TakenLaws.{Taking}
use Rattle.taking.proofs.take_all.Given as goal

abbrev pub invariant-loop-taken : goal.invariant-loop-taken
invariant-loop-taken l = Taking (edge_at l.graph.matrix.now) l.graph.count l.initial.deg l.fn.path l.deg l.path l.taken
