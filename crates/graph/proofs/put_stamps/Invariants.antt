-- `graph::put_stamps` meets its contract: the stamps of the nodes passed stand in the answer, one after the other.
use Rattle.graph.proofs.AnswerLaws.{Put}
use Rattle.graph.proofs.put_stamps.Given as goal

abbrev pub invariant-loop-i : goal.invariant-loop-i
invariant-loop-i l = Put l.nodes l.path l.at l.fn.answer l.i l.answer
