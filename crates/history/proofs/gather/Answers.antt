use Rattle.history.proofs.NodesLaws.{gather_start, gather_all, gather_broken, gather_room, gather_next}
use Rattle.log_format.proofs.Reading.{progress}
use mathlib.Core.Path.{sym, ◌∙◌}
use native.Mathlib.Omega.{arith}
use borrow.Author.Rules.{rules}
use Rattle.history.proofs.gather.Goals as goal

pub loop-record-init : goal.loop-record-init
loop-record-init c = gather_start c.args.log.now c.args.nodes.now c.requires.0

pub returns-in_default : goal.returns-in_default
returns-in_default c =
    let l = c.loop-record in
    gather_all c.args.log.now c.args.nodes.now l.nodes l.at.0 l.count c.requires.1 l.invariant (search rules)

pub returns-in_default-2 : goal.returns-in_default-2
returns-in_default-2 c =
    let l = c.loop-record in
    gather_broken c.args.log.now c.args.nodes.now l.nodes l.at.0 l.count c.requires.1 l.invariant _ (sym c.decode_at.ensures ∙ c.in_default.is)

pub with_commit-count-requires : goal.with_commit-count-requires
with_commit-count-requires c =
    let l = c.loop-record in
    let f = c.in-Ok-Some in (
      gather_room c.args.log.now c.args.nodes.now l.nodes l.at.0 l.count c.requires.1 l.invariant (λ i. (c.type_inv.log i).fits) f.record f.next.0 (sym (rw f.field-0-is at f.ensures)),
      l.invariant.rising,
    )

pub loop-record-smaller : goal.loop-record-smaller
loop-record-smaller c = omega (arith, progress _ (λ i. (c.type_inv.log i).fits) _ _ _ (sym (rw c.in-Ok-Some.field-0-is at c.in-Ok-Some.ensures)), c.loop-record.invariant.within)

pub loop-record-preserved : goal.loop-record-preserved
loop-record-preserved c =
    let l = c.loop-record in
    let f = c.in-Ok-Some in
    gather_next c.args.log.now c.args.nodes.now l.nodes l.at.0 l.count c.requires.1 l.invariant (λ i. (c.type_inv.log i).fits) f.record f.next.0 (sym (rw f.field-0-is at f.ensures)) _ _
    (search rules) c.with_commit-count.ensures
