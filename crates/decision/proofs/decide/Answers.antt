-- `decision::decide` meets its contract: each return is the plan of one kind, and the law of that plan says that it is the table's.
use Rattle.std.proofs.Common.{◌≡◌, ◌∙◌, sym, ap, arith}
use Rattle.decision.specs.Kind.{number_of}
use Rattle.decision.proofs.PlanLaws.{begin_decided, commit_decided, abort_decided, read_decided, write_decided}
use Rattle.decision.proofs.GoodLaws.{item_low}
use Rattle.decision.proofs.decide.Goals as goal

pub choose_for-requires : goal.choose_for-requires
choose_for-requires c =
    let s = c.requires.deciding.sound in
    (item_low _ c.requires.deciding.good, record { within = omega (arith, c.requires.holds, s.holds); sorted = s.sorted })

pub choose_for-requires-in-Write : goal.choose_for-requires-in-Write
choose_for-requires-in-Write c =
    let s = c.requires.deciding.sound in
    (item_low _ c.requires.deciding.good, record { within = omega (arith, c.requires.holds, s.holds); sorted = s.sorted })

pub returns-in-Begin : goal.returns-in-Begin
returns-in-Begin c =
    let k : c.args.op.kind ≡ 1 = sym c.requires.asked ∙ ap number_of c.in-Begin.is in
    rw c.plan_begin.ensures (begin_decided _ _ _ c.requires.deciding k _ c.requires.opens)

pub returns-in-Read : goal.returns-in-Read
returns-in-Read c =
    let k : c.args.op.kind ≡ 2 = sym c.requires.asked ∙ ap number_of c.in-Read.is in
    rw c.plan_read.ensures (read_decided _ _ _ c.requires.deciding _ c.choose_for.ensures k)

pub returns-in-Write : goal.returns-in-Write
returns-in-Write c =
    let k : c.args.op.kind ≡ 3 = sym c.requires.asked ∙ ap number_of c.in-Write.is in
    rw c.plan_write.ensures (write_decided _ _ _ c.requires.deciding _ c.choose_for-in-Write.ensures k _ c.requires.holds)

pub returns-in-Commit : goal.returns-in-Commit
returns-in-Commit c =
    let k : c.args.op.kind ≡ 4 = sym c.requires.asked ∙ ap number_of c.in-Commit.is in
    rw c.plan_end.ensures (commit_decided _ _ _ c.requires.deciding k)

pub returns-in-Abort : goal.returns-in-Abort
returns-in-Abort c =
    let k : c.args.op.kind ≡ 5 = sym c.requires.asked ∙ ap number_of c.in-Abort.is in
    rw c.plan_end-in-Abort.ensures (abort_decided _ _ _ c.requires.deciding k)
