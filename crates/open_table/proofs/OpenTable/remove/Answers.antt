use Rattle.std.proofs.Common.{◌≡◌, ◌∙◌, ◌≤◌, ap, sym, List, map, length, take, arith}
use lib.Seq.{take_all, length-take-le}
use Rattle.scheduler_rules.specs.Model.{close}
use Rattle.log_format.specs.declared.Stamp.{Stamp}
use Rattle.open_table.specs.Open.{number, table_of}
use Rattle.open_table.proofs.BitLaws.{not_eqb_true, not_eqb_false}
use Rattle.open_table.proofs.TableLaws.{taken_all, kept_room, kept_more, kept_same}
use Rattle.open_table.proofs.OpenTable.remove.Goals as goal
use Rattle.open_table.proofs.OpenTable.remove.Goals.{then-ne, else-ne}

pub insert-kept-requires : goal.insert-kept-requires
insert-kept-requires c =
    let p = c.loop-s in
    let l = take c.taken.result c.args.self.stamps in
    let places : length c.args.self.stamps ≡ 32 = omega arith in
    let short : length l ≤ 32 = omega (arith, length-take-le c.taken.result c.args.self.stamps) in
    let room = kept_room c.args.k.0 l p.s-index p.kept c.loop-s-test.true short p.invariant in
    record { padded = room.0; room = room.1 }

pub loop-s-preserved : goal.loop-s-preserved
loop-s-preserved c =
    let p = c.loop-s in
    let l = take c.taken.result c.args.self.stamps in
    elim c.if-ne.branch [
      | then-ne w ↦ w.kept-is ∙ w.insert-kept.ensures ∙ kept_more c.args.k.0 l p.s-index c.loop-s-test.true p.invariant (not_eqb_true _ _ (sym c.ne.ensures ∙ w.if-ne.true))
      | else-ne w ↦ w.kept-is ∙ p.invariant ∙ kept_same c.args.k.0 l p.s-index c.loop-s-test.true (not_eqb_false _ _ (sym c.ne.ensures ∙ w.if-ne.false))
    ]

pub returns : goal.returns
returns c =
    let p = c.loop-s in
    let t = c.args.self in
    let places : length t.stamps ≡ 32 = omega arith in
    let all : take c.taken.result t.stamps ≡ take t.count t.stamps = taken_all t.stamps t.count c.taken.result places c.taken.ensures in
    let whole : take p.s-index (take c.taken.result t.stamps) ≡ take t.count t.stamps = take_all p.s-index (take c.taken.result t.stamps) c.loop-s-test.false ∙ all in
    p.invariant ∙ ap (λ (l : List Stamp). table_of (close c.args.k.0 (map number l))) whole
