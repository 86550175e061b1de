use Rattle.std.proofs.Common.{◌≡◌, ℕ, Bool, true, ◌&&◌, fold, arith}
use lib.Dec.{leb}
use Rattle.std.proofs.lemmas.Grind.{common_steps}
use Rattle.damage.specs.Damage.{marks_sound}
use Rattle.damage.proofs.PassLaws.{none_folded}
use Rattle.damage.proofs.marks_sound.Goals as goal

pub returns : goal.returns
unfolding marks_sound
returns c =
    let marks = c.args.marks.now in
    let folded : c.fold.result ≡ fold (λ (b : Bool) (m : ℕ). b && leb m c.args.last.0) true marks = grind (arith, common_steps) in
    rw folded (none_folded true c.args.last.0 marks)
