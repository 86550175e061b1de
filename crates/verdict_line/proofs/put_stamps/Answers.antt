use Rattle.std.proofs.Common.{refl, ◌∙◌, arith}
use Rattle.line_format.proofs.DecimalLaws.{ten_digits}
use Rattle.verdict_line.proofs.SpacedLaws.{listing_none, listing_next}
use Rattle.verdict_line.proofs.put_stamps.Goals as goal

pub loop-i-init : goal.loop-i-init
loop-i-init c = (refl, listing_none _ _ _ _ (omega arith))

pub put_spaced-requires : goal.put_spaced-requires
put_spaced-requires c = omega (arith, ten_digits c.from.result (omega (arith, c.from.ensures)))

pub loop-i-preserved : goal.loop-i-preserved
loop-i-preserved c =
    let p = c.put_spaced.ensures in (
      p.same_buffer ∙ c.loop-i.invariant.0,
      listing_next _ _ _ _ _ _ _ _ _ _ c.loop-i.invariant.1 c.loop-i-test.true (omega arith) (c.from.ensures ∙ c.be32.ensures) (omega (arith, c.from.ensures)) p.put p.same_room,
    )
