-- `version_order::note` meets its contract: what stands in the cell and in the map decides; the rank is one store.
use Rattle.version_order.proofs.NoteLaws.{located_rank, not_a_node, noted_twice, noted_new}
use mathlib.Core.Path.{sym, ◌∙◌}
use Rattle.version_order.proofs.note.Goals as goal

pub returns-in_default : goal.returns-in_default
returns-in_default c = not_a_node c.in_default.ensures

pub returns-then-rank-cell-ne0 : goal.returns-then-rank-cell-ne0
returns-then-rank-cell-ne0 c =
    noted_twice c.in-Some.node (located_rank c.args.committed.now.rising c.in-Some.ensures) (sym c.wrote.ensures ∙ c.if-not-wrote.false)
    (rw c.from.ensures at c.if-rank-cell-ne0.true)

pub returns : goal.returns
returns c =
    rw c.from.ensures (noted_new c.in-Some.node (located_rank c.args.committed.now.rising c.in-Some.ensures)
    (sym c.wrote.ensures ∙ c.if-not-wrote.false) (rw c.from.ensures at c.if-rank-cell-ne0.false))
