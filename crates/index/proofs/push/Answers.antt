-- `index::push` meets its contract: the five stores leave the table with one row more, which `pushed` says is another map at the key alone.
use Rattle.index.proofs.RowLaws.{pushed}
use Rattle.index.proofs.push.Goals as goal

pub returns : goal.returns
returns c =
    let a = c.args in
    let e = c.bucket-head.ensures.0 in
    rw e (pushed a.map.now a.k a.v c.requires.0 c.requires.1 (rw e at c.bucket-head.ensures.1))
