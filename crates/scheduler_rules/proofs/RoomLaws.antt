-- What the room decides: row 10, and nothing else. So a late write is 10 or 8 by the 8 bytes of its record; and a run that does not fill the room goes as
-- it would in more, for a record fits where the bytes then used do, and these never fall.
-- Assumes nothing.
use Prim.Native.Nat.{ℕ, ◌+◌, ◌≤◌, ◌<◌}
use mathlib.Core.Path.{◌≡◌, refl, ap, ◌∙◌}
use mathlib.Core.List.{List, [], ◌∷◌, ◌++◌}
use native.Mathlib.Omega.{arith}
use Rattle.lists.specs.Member.{◌∈◌, memb}
use Rattle.lists.proofs.ChoiceLaws.{not_not}
use Rattle.log_format.specs.Events.{begins, reads, writes, commits, aborts}
use Rattle.scheduler_rules.specs.Model.{Model}
use Rattle.scheduler_rules.specs.Table.{Outcome, refuse, seen, table, Row10}
use Rattle.scheduler_rules.specs.Replies.{Passed, Given}
use Rattle.scheduler_rules.specs.Replies.{given2, given3, given4, given5, given6, given7, given9, given10, given8, began, read, written, committed, aborted}
use Rattle.scheduler_rules.specs.Run.{Played, play}
use Rattle.scheduler_rules.specs.declared.Op.{Op}
use Rattle.scheduler_rules.proofs.Rows.{due_begin, due_read, due_late, due_write, due_commit, due_abort, tight, roomy}
use Rattle.scheduler_rules.proofs.ReplyLaws.{replies, replies_only}
use Rattle.scheduler_rules.proofs.Unchanged.{used_grows}

-- what passed every row but 10
roomless : {room other : ℕ} {op : Op} {m : Model} → Passed room op m → ¬ Row10 other op m → Passed other op m
roomless p n = record { not2 = p.not2; not3 = p.not3; not4 = p.not4; not5 = p.not5; not6 = p.not6; not7 = p.not7; not9 = p.not9; not10 = n }

-- ---- a late write

-- what becomes of it in another room: 10 without its 8 bytes, the same with them; it was open
pub record Elsewhere (other : ℕ) (op : Op) (m : Model) (o : Outcome) : Type 0 where
  pub tight : other < m.used + 8 → table other op m ≡ refuse 10 m
  pub roomy : m.used + 8 ≤ other → table other op m ≡ o
  pub live : op.stamp.0 ∈ m.live

pub late_elsewhere : (room : ℕ) (op : Op) (m : Model) → (table room op m).reply.code ≡ 8 → (other : ℕ) → Elsewhere other op m (table room op m)
late_elsewhere room op m e other = go (replies room op m) e
  where
    go : {o : Outcome} → Given room op m o → o.reply.code ≡ 8 → Elsewhere other op m o
    go (given8 p t) e = record {
      tight = λ l. replies_only other op m (given10 p.not2 p.not3 p.not4 p.not5 p.not6 p.not7 p.not9 (tight other op m (aborts op.stamp.0 1) (due_late op m t) l));
      roomy = λ l. replies_only other op m (given8 (roomless p (roomy other op m (aborts op.stamp.0 1) (due_late op m t) (λ h. absurd (omega arith)))) t);
      live = not_not (memb op.stamp.0 m.live) (λ n. let k = t.0 in p.not5 (omega arith, n));
    }
    go (given2 t) e = absurd (omega arith)
    go (given3 n2 t) e = absurd (omega arith)
    go (given4 n2 n3 t) e = absurd (omega arith)
    go (given5 n2 n3 n4 t) e = absurd (omega arith)
    go (given6 n2 n3 n4 n5 t) e = absurd (omega arith)
    go (given7 n2 n3 n4 n5 n6 t) e = absurd (omega arith)
    go (given9 n2 n3 n4 n5 n6 n7 t) e = absurd (omega arith)
    go (given10 n2 n3 n4 n5 n6 n7 n9 t) e = absurd (omega arith)
    go (began p h) e = absurd (omega arith)
    go (read p h) e = absurd (omega arith)
    go (written p n8 h) e = absurd (omega arith)
    go (committed p h) e = absurd (omega arith)
    go (aborted p h) e = absurd (omega arith)

-- ---- a run

module _ (room more : ℕ) (less : room ≤ more) where
  module _ (op : Op) (m : Model) where
    given_fits : {o : Outcome} → Given more op m o → o.next.used ≤ room → Given room op m o
    given_fits (given2 t) h = given2 t
    given_fits (given3 n2 t) h = given3 n2 t
    given_fits (given4 n2 n3 t) h = given4 n2 n3 t
    given_fits (given5 n2 n3 n4 t) h = given5 n2 n3 n4 t
    given_fits (given6 n2 n3 n4 n5 t) h = given6 n2 n3 n4 n5 t
    given_fits (given7 n2 n3 n4 n5 n6 t) h = given7 n2 n3 n4 n5 n6 t
    given_fits (given9 n2 n3 n4 n5 n6 n7 t) h = given9 n2 n3 n4 n5 n6 n7 t
    given_fits (given10 n2 n3 n4 n5 n6 n7 n9 t) h = given10 n2 n3 n4 n5 n6 n7 n9 (omega arith)
    given_fits (given8 p t) h = given8 (roomless p (roomy room op m (aborts op.stamp.0 1) (due_late op m t) (λ l. absurd (omega arith)))) t
    given_fits (began p k) h = began (roomless p (roomy room op m (begins op.stamp.0) (due_begin op m k) (λ l. absurd (omega arith)))) k
    given_fits (read p k) h =
        read (roomless p (roomy room op m (reads op.stamp.0 op.item (seen op m).stamp (seen op m).value) (due_read op m k) (λ l. absurd (omega arith)))) k
    given_fits (written p n8 k) h = written (roomless p (roomy room op m (writes op.stamp.0 op.item op.value) (due_write op m k n8) (λ l. absurd (omega arith)))) n8 k
    given_fits (committed p k) h = committed (roomless p (roomy room op m (commits op.stamp.0) (due_commit op m k) (λ l. absurd (omega arith)))) k
    given_fits (aborted p k) h = aborted (roomless p (roomy room op m (aborts op.stamp.0 0) (due_abort op m k) (λ l. absurd (omega arith)))) k

    -- one operation
    table_fits : (table more op m).next.used ≤ room → table room op m ≡ table more op m
    table_fits h = replies_only room op m (given_fits (replies more op m) h)

  -- the bytes used never fall
  used_rises : (ops : List Op) (m : Model) → m.used ≤ (play more ops m).left.used
  used_rises [] m = omega arith
  used_rises (op ∷ ops) m = let a = used_grows more op m in let b = used_rises ops (table more op m).next in omega arith

  -- a run
  pub play-fits : (ops : List Op) (m : Model) → (play more ops m).left.used ≤ room → play room ops m ≡ play more ops m
  play-fits [] m h = refl
  play-fits (op ∷ ops) m h =
      let o = table more op m in
      let l = used_rises ops o.next in
      let e : table room op m ≡ o = table_fits op m (omega arith) in
      ap (λ (z : Outcome). joined z (play room ops z.next)) e ∙ ap (joined o) (play-fits ops o.next h)
    where
      joined : Outcome → Played → Played
      joined o r = record { replies = o.reply ∷ r.replies; written = o.due ++ r.written; left = r.left }
