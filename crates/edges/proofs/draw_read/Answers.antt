-- `edges::draw_read` meets its contract: an own read adds nothing; a read from another node adds its edge and those of the versions, a read from
-- version 0 those of the versions alone.
use Rattle.edges.proofs.DrawnLaws.{drew_own, drew_other, drew_initial}
use Rattle.edges.proofs.draw_read.Goals as goal

pub returns-then-node-k : goal.returns-then-node-k
returns-then-node-k c = rw (← c.unwrap_or-node.ensures) (drew_own _ _ _ _ _ _ c.if-node-k.true)

pub returns-then-node-ranks : goal.returns-then-node-ranks
returns-then-node-ranks c =
    let h = c.requires in
    let v = c.version.ensures in
    rw (← c.unwrap_or-node.ensures)
    (drew_other _ _ _ _ _ c.if-node-k.false _ _ c.if-node-ranks.true h.reader_node c.args.ranks.few_nodes h.matrix_fits
    (rw (c.set_edge.ensures, v.its_node, v.its_rank) at c.draw_versions.ensures))

pub returns-else-node-ranks : goal.returns-else-node-ranks
returns-else-node-ranks c =
    rw (← c.unwrap_or-node.ensures) (drew_initial _ _ _ _ _ c.if-node-k.false _ _ c.if-node-ranks.false c.draw_versions-else-node-ranks.ensures)
