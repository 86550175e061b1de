use Rattle.std.proofs.Common.{◌+◌, ◌-◌, ◌/◌, ◌∙◌, arith, rules}
use Rattle.version_columns.proofs.Bracket.{bracket_up, bracket_down, bracket_end}
use Rattle.version_columns.proofs.RowLaws.{Wide, up_to_columns, ready_rising}
use Rattle.version_columns.proofs.Versions.place_of.Goals as goal

pub loop-lo-preserved-then-is_up_to : goal.loop-lo-preserved-then-is_up_to
loop-lo-preserved-then-is_up_to c =
    let p = c.loop-lo in
    let t = c.args.self.now in
    let w : Wide t = record { items = omega arith; stamps = omega arith; values = omega arith; marks = omega arith } in
    bracket_up t.items t.stamps t.count c.args.item c.args.stamp.0 p.lo p.hi (p.lo + (p.hi - p.lo) / 2) (ready_rising t w c.requires) p.invariant (omega arith) (omega arith) (search rules)

pub loop-lo-preserved : goal.loop-lo-preserved
loop-lo-preserved c =
    let p = c.loop-lo in
    let t = c.args.self.now in
    let w : Wide t = record { items = omega arith; stamps = omega arith; values = omega arith; marks = omega arith } in
    bracket_down t.items t.stamps t.count c.args.item c.args.stamp.0 p.lo p.hi (p.lo + (p.hi - p.lo) / 2) (ready_rising t w c.requires) p.invariant (omega arith) (omega arith) (search rules)

pub returns-clause-is : goal.returns-clause-is
returns-clause-is c =
    let p = c.loop-lo in
    let t = c.args.self.now in
    let w : Wide t = record { items = omega arith; stamps = omega arith; values = omega arith; marks = omega arith } in
    bracket_end t.items t.stamps t.count c.args.item c.args.stamp.0 p.lo p.hi (omega arith) (omega arith) p.invariant c.loop-lo-test.false
    ∙ up_to_columns t w c.requires.within c.args.item c.args.stamp.0
