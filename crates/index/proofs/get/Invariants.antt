-- `index::get` meets its contract. The loop walks the bucket's chain: no row from there on has the key, and the row before it is in the key's bucket. The
-- measure is what tells the row, since a chain leads to older rows.
use Rattle.index.specs.Index.{rows_in}
use Rattle.index.proofs.ChainLaws.{On}
use Rattle.index.proofs.get.Given as goal

abbrev pub invariant-loop-row : goal.invariant-loop-row
invariant-loop-row l = On l.map (rows_in l.map) l.k l.told

abbrev pub decreases-loop-row : goal.decreases-loop-row
decreases-loop-row l = l.told
