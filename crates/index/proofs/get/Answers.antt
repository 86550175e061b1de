use Rattle.index.proofs.ChainLaws.{enter, hit, onward, missed}
use Prim.Native.Nat.{◌-◌}
use mathlib.Core.Path.{◌≡◌}
use native.Mathlib.Omega.{arith}
use Rattle.index.proofs.get.Goals as goal

pub loop-row-init : goal.loop-row-init
loop-row-init c =
    let e = c.bucket.ensures.0 in
    rw e (enter c.requires c.args.k (rw e at c.bucket.ensures.1))

pub returns-then-map-at : goal.returns-then-map-at
returns-then-map-at c =
    let e : c.in-Some.row ≡ c.loop-row.told - 1 = omega arith in
    rw e (hit c.requires c.args.k c.loop-row.invariant (omega arith) (rw e at c.if-map-at.true))

pub loop-row-smaller : goal.loop-row-smaller
loop-row-smaller c =
    let e : c.in-Some.row ≡ c.loop-row.told - 1 = omega arith in
    rw e (onward c.requires c.args.k c.loop-row.invariant (omega arith) (rw e at c.if-map-at.false)).1

pub loop-row-preserved : goal.loop-row-preserved
loop-row-preserved c =
    let e : c.in-Some.row ≡ c.loop-row.told - 1 = omega arith in
    rw e (onward c.requires c.args.k c.loop-row.invariant (omega arith) (rw e at c.if-map-at.false)).0

pub returns : goal.returns
returns c =
    missed c.requires c.args.k c.loop-row.invariant (omega arith)
