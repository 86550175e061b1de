-- `edges::draw_versions` meets its contract: the versions of the nodes passed are drawn.
use Rattle.edges.specs.Adding.{Adds, Others}
use Rattle.edges.proofs.draw_versions.Given as goal

abbrev pub invariant-loop-node : goal.invariant-loop-node
invariant-loop-node l = Adds (Others l.ranks.ranks.now l.item l.reader l.source.node l.source.rank l.node) l.fn.mat l.mat
