-- `Core::plan` meets its contract: the record is measured against the room that is left.
use Rattle.std.proofs.Common.{◌-◌, ◌≤◌, arith}
use Rattle.decision.specs.Plans.{bytes_of}
use Rattle.decision.proofs.RoomLaws.{enough_for}
use Rattle.decision.proofs.Core.plan.Goals as goal

pub returns : goal.returns
returns c =
    let fits : bytes_of c.args.due ≤ c.args.room - c.args.self.used.0 = omega arith in
    rw (enough_for c.args.room c.args.self.used.0 c.args.due fits)
