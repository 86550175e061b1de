use Rattle.std.proofs.Common.{◌∙◌, arith}
use Rattle.damage.proofs.PassLaws.{rows_next}
use Rattle.damage.proofs.rows_sound.Goals as goal

pub loop-i-preserved : goal.loop-i-preserved
loop-i-preserved c =
    let p = c.loop-i in
    let t = c.args.versions.now in
    rw c.row_sound-sound.ensures (rows_next t.items t.stamps t.marks p.i t.count (omega arith) (omega arith) (omega arith) (omega arith) p.sound p.w p.j c.args.last.0 ∙ p.invariant)
