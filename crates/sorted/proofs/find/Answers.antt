-- `sorted::find` meets its contract: where the binary search finds no stamp, k is none of them.
use Rattle.sorted.proofs.AddLaws.{located}
use Rattle.sorted.proofs.find.Goals as goal

pub returns : goal.returns
returns c = rw c.ok.ensures.value (located c.args.stamps.now c.args.k c.requires _ c.binary_search.ensures.position)
