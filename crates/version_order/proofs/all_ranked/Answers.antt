use Rattle.std.proofs.lemmas.Iterator.{YieldsList-from_range}
use Rattle.std.proofs.lemmas.Iterator.Search.{any_from_yields_List}
use Rattle.history_rules.specs.Held.{written_in}
use Rattle.index.specs.Index.{table_of}
use Rattle.numbers.specs.Numbers.{items}
use Rattle.version_order.specs.Judging.{gap_at}
use Rattle.version_order.proofs.WalkLaws.{any_below}
use Prim.Native.Nat.{◌*◌}
use lib.ListN.{length}
use mathlib.Core.Bool.{not}
use native.Mathlib.Omega.{arith}
use mathlib.Core.Path.{refl, ap, ◌∙◌}
use borrow.Author.Rules.{rules}
use borrow.Author.Tests.{tests}
use Rattle.version_order.proofs.all_ranked.Goals as goal

pub returns : goal.returns
returns c =
    let n = length c.args.committed.now.nodes.now * items in
    let p = gap_at (written_in (table_of c.args.committed.now.map.now)) c.args.committed.now.nodes.now c.args.rank.now in
    ap not (any_from_yields_List p _ _ c.any.result c.any.ensures.ran (YieldsList-from_range 0 n n refl (omega arith)) (λ x b q k. search (rules, tests))
    ∙ any_below p n)
