-- The loop's invariant: `lo` and `hi` bracket the place. The measure is `hi - lo`, which falls in either arm, since the middle is at least `lo` and below `hi`.
use Rattle.std.proofs.Common.{◌-◌}
use Rattle.version_columns.proofs.Bracket.{Bracket}
use Rattle.version_columns.proofs.Versions.place_of.Given as goal

abbrev pub invariant-loop-lo : goal.invariant-loop-lo
invariant-loop-lo l = Bracket l.self.items l.self.stamps l.self.count l.item l.stamp.0 l.lo l.hi

abbrev pub decreases-loop-lo : goal.decreases-loop-lo
decreases-loop-lo l = l.hi - l.lo
