-- `edges::draw_version` meets its contract: each return is a case of the edge for one version.
use Rattle.edges.proofs.AddingLaws.{one_before, one_after}
use native.Mathlib.Omega.{arith}
use Rattle.edges.proofs.draw_version.Goals as goal

pub returns-then-other-source : goal.returns-then-other-source
returns-then-other-source c =
    let h = c.requires in
    rw c.set_edge.ensures
    (one_before _ _ _ _ _ _ h.matrix_fits h.other_node (λ e. omega arith) (λ e. omega arith) (h.source_node (omega arith)) c.if-other-source.true)

pub returns-then-source-other : goal.returns-then-source-other
returns-then-source-other c =
    let h = c.requires in
    rw c.set_edge-then-source-other.ensures
    (one_after _ _ _ _ _ _ h.matrix_fits h.other_node (λ e. omega arith) (λ e. omega arith) h.reader_node c.if-source-other.true)
