-- The open transaction with the smallest stamp is never told to wait, so of those that wait one can always go on: the version that it meets
-- has a stamp not above its own, and a writer that it would wait for is open with another stamp, hence a larger one.
-- Assumes nothing.
use Prim.Native.Nat.{ℕ, ◌≤◌}
use mathlib.Core.Path.{◌≡◌}
use mathlib.Core.Logic.{◌≢◌}
use native.Mathlib.Omega.{arith}
use Rattle.lists.specs.Member.{◌∈◌}
use Rattle.scheduler_rules.specs.Model.{Model, chosen}
use Rattle.scheduler_rules.specs.Chosen.{NotAbove}
use Rattle.scheduler_rules.specs.Table.{Outcome, Row6, table}
use Rattle.scheduler_rules.specs.Replies.{Given}
use Rattle.scheduler_rules.specs.Replies.{given2, given3, given4, given5, given6, given7, given9, given10, given8, began, read, written, committed, aborted}
use Rattle.scheduler_rules.specs.declared.Op.{Op}
use Rattle.scheduler_rules.proofs.Choosing.{chosen_is, allowed}
use Rattle.scheduler_rules.proofs.ReplyLaws.{replies}

-- code 6 is given only by its row
pub six_waits : (room : ℕ) (op : Op) (m : Model) → (table room op m).reply.code ≡ 6 → Row6 op m
six_waits room op m = go (replies room op m)
  where
    go : {o : Outcome} → Given room op m o → o.reply.code ≡ 6 → Row6 op m
    go (given2 t) e = absurd (omega arith)
    go (given3 n2 t) e = absurd (omega arith)
    go (given4 n2 n3 t) e = absurd (omega arith)
    go (given5 n2 n3 n4 t) e = absurd (omega arith)
    go (given6 n2 n3 n4 n5 t) e = t
    go (given7 n2 n3 n4 n5 n6 t) e = absurd (omega arith)
    go (given9 n2 n3 n4 n5 n6 n7 t) e = absurd (omega arith)
    go (given10 n2 n3 n4 n5 n6 n7 n9 t) e = absurd (omega arith)
    go (given8 p t) e = absurd (omega arith)
    go (began p h) e = absurd (omega arith)
    go (read p h) e = absurd (omega arith)
    go (written p n8 h) e = absurd (omega arith)
    go (committed p h) e = absurd (omega arith)
    go (aborted p h) e = absurd (omega arith)

-- with no open stamp smaller than its own, an operation is not told to wait
pub smallest_never_waits : (room : ℕ) (op : Op) (m : Model) → ((i : ℕ) → i ∈ m.live → op.stamp.0 ≤ i) → (table room op m).reply.code ≢ 6
smallest_never_waits room op m least e =
    let u = chosen m op.item op.stamp.0 in
    let w = (six_waits room op m e).1 in
    let low : u.stamp ≤ op.stamp.0 = allowed m op.item {A = NotAbove op.stamp.0} u (omega arith) (chosen_is m op.item op.stamp.0) in
    let high = least u.stamp w.1 in
    w.0 (omega arith)
