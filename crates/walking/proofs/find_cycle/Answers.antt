-- `walking::find_cycle` meets its contract: the smallest node left is the first of those left, from which the theory walks.
use Rattle.taking.proofs.NodesLaws.{first-position}
use Rattle.walking.proofs.WalkedLaws.{some_first, walked_first}
use lib.Dec.{eqb}
use lib.Seq.{length-take-le}
use mathlib.Core.Bool.{not}
use native.Mathlib.Omega.{arith}
use Rattle.walking.proofs.find_cycle.Goals as goal

pub returns-in_err-at : goal.returns-in_err-at
returns-in_err-at c =
    absurd (some_first c.args.graph.count c.args.deg.now (omega arith)
    (first-position (λ d. not (eqb d 0)) c.args.deg.now c.args.graph.count c.requires.numbers _ c.in_err-at.ensures))

pub returns : goal.returns
returns c =
    let d = c.args.deg.now in
    let s = first-position (λ d. not (eqb d 0)) d c.args.graph.count c.requires.numbers _ c.in_ok-at.ensures in
    walked_first _ _ _ s (omega arith) _ _ _ _ _ _ c.requires.those_left (length-take-le _ _ c.requires.places) c.walk.auto.path c.walk.ensures
