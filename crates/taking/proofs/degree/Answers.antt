-- `taking::degree` meets its contract: the nodes that the filter leaves are those that the tally counts.
use Rattle.edges.specs.Matrix.{edge_at}
use Rattle.taking.proofs.NodesLaws.{range-up_from, tally-filter}
use Rattle.taking.specs.Nodes.{indices}
use Rattle.std.proofs.Common.{rules, tests, arith}
use Rattle.std.proofs.lemmas.Iterator.{YieldsList-from_range}
use Rattle.std.proofs.lemmas.Iterator.Consumers.{count_from_yields_List, YieldsList-from_filter}
use Prim.Native.Nat.{ℕ}
use mathlib.Core.Path.{ap, ◌∙◌}
use mathlib.Core.List.{List}
use lib.ListN.{length}
use Rattle.std.specs.Prelude.{filter}
use Rattle.taking.proofs.degree.Goals as goal

pub returns : goal.returns
returns c =
    let p = λ (j : ℕ). edge_at c.args.graph.matrix.now j c.args.k in
    count_from_yields_List c.filter.result c.count.result c.count.ensures.ran
    (YieldsList-from_filter _ p (YieldsList-from_range 0 c.args.graph.count c.args.graph.count (cc) (omega arith)) c.filter.ensures.closure (λ x r q k. search (rules, tests)))
    ∙ ap (λ (l : List ℕ). length (filter p l)) (range-up_from 0 c.args.graph.count)
    ∙ tally-filter p (indices c.args.graph.count)
