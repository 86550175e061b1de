-- Each answer is one law over ready columns, at the place that `place_of` gave.
use Rattle.std.proofs.Common.{arith}
use Rattle.version_columns.proofs.AnswerLaws.{answers_held, answers_other, answers_first}
use Rattle.version_columns.proofs.RowLaws.{Wide}
use Rattle.version_columns.proofs.Versions.choose.Goals as goal

pub returns-in-Some : goal.returns-in-Some
returns-in-Some c =
    let t = c.args.self.now in
    let w : Wide t = record { items = omega arith; stamps = omega arith; values = omega arith; marks = omega arith } in
    answers_held t w c.requires c.args.item c.args.stamp.0 c.args.first.0 c.place_of-at.result c.place_of-at.ensures.is c.in-Some.b (omega (arith, c.in-Some.ensures)) c.if-self-b.true

pub returns-in_default : goal.returns-in_default
returns-in_default c =
    let t = c.args.self.now in
    let w : Wide t = record { items = omega arith; stamps = omega arith; values = omega arith; marks = omega arith } in
    answers_other t w c.requires c.args.item c.args.stamp.0 c.args.first.0 c.place_of-at.result c.place_of-at.ensures.is c.in-Some.b (omega (arith, c.in-Some.ensures)) c.if-self-b.false

pub returns-in_default-2 : goal.returns-in_default-2
returns-in_default-2 c =
    let t = c.args.self.now in
    let w : Wide t = record { items = omega arith; stamps = omega arith; values = omega arith; marks = omega arith } in
    answers_first t w c.requires c.args.item c.args.stamp.0 c.args.first.0 c.place_of-at.result c.place_of-at.ensures.is (omega (arith, c.in_default.ensures))
