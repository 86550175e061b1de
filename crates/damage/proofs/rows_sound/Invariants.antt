-- The loop's invariant: every row was sound so far and the rest is, exactly where the whole is sound.
use Rattle.std.proofs.Common.{◌≡◌, take, ◌&&◌}
use lib.Seq.{slice}
use Rattle.damage.specs.Damage.{rows_sound}
use Rattle.damage.proofs.rows_sound.Given as goal

abbrev pub invariant-loop-i : goal.invariant-loop-i
invariant-loop-i l =
    let t = l.versions in
    let n = t.count in
    (l.sound && rows_sound l.w l.j l.last.0 (slice l.i n t.items) (slice l.i n t.stamps) (slice l.i n t.marks))
    ≡ rows_sound 0 0 l.last.0 (take n t.items) (take n t.stamps) (take n t.marks)
