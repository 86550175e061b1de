use Prim.Native.Nat.{ℕ}
use Rattle.edges.specs.Matrix.{edge_at}
use Rattle.taking.proofs.NodesLaws.{tally_le, length-up_from}
use Rattle.taking.specs.Nodes.{indices}
use native.Mathlib.Omega.{arith}
use Rattle.taking.proofs.count_all.Goals as goal

pub overflow_add-deg : goal.overflow_add-deg
overflow_add-deg c =
    let g = c.args.graph in
    omega (arith, tally_le (λ (j : ℕ). edge_at g.matrix.now j c.loop-k.k) (indices g.count), length-up_from 0 g.count)
