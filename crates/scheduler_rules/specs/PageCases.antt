-- The page's worked run, and its cases G to J.
-- Assumes nothing.
use Rattle.std.specs.Prelude.{ℕ, ◌≤◌, ◌≡◌, List, [], ◌∷◌}
use Rattle.log_format.specs.Events.{begins, reads, writes, commits, aborts}
use Rattle.scheduler_rules.specs.Model.{Model, start}
use Rattle.scheduler_rules.specs.Table.{Good, refuse, table}
use Rattle.scheduler_rules.specs.Run.{play, Leads, begin, read, write, commit, reply, ok}
use Rattle.scheduler_rules.specs.declared.Op.{Op}

-- the input of the run program
abbrev pub page : List Op
page =
    begin 10 ∷ write 10 1 7 ∷ begin 20 ∷ read 20 1 ∷ commit 10 ∷ read 20 1
    ∷ begin 30 ∷ read 30 2 ∷ write 20 2 9 ∷ commit 20 ∷ begin 20 ∷ commit 30 ∷ []

-- its replies, the events it writes, and the bytes then used
pub record PageRun : Type 0 where
  pub replies : (play 65536 page start).replies
      ≡ ok ∷ ok ∷ ok ∷ reply 6 10 0 ∷ ok ∷ reply 0 10 7 ∷ ok ∷ reply 0 0 0 ∷ reply 8 30 0 ∷ reply 5 0 0 ∷ reply 3 0 0 ∷ ok ∷ []
  pub written : (play 65536 page start).written
      ≡ begins 10 ∷ writes 10 1 7 ∷ begins 20 ∷ commits 10 ∷ reads 20 1 10 7 ∷ begins 30 ∷ reads 30 2 0 0 ∷ aborts 20 1 ∷ commits 30 ∷ []
  pub used : (play 65536 page start).left.used ≡ 91

-- a write that is late, 2 having read what lies beneath it; 34 bytes are used before it
abbrev pub late_run : List Op
late_run = begin 1 ∷ begin 2 ∷ read 2 5 ∷ write 1 5 9 ∷ []

pub record CasesGtoJ : Type 0 where
  -- stamp 4294967295 begins
  pub G_begins : (play 65536 (begin 4294967295 ∷ []) start).replies ≡ ok ∷ []
  -- where it has, each later begin that passes 2 is 3
  pub G_later : (room : ℕ) (m : Model) → (table room (begin 4294967295) m).reply.code ≡ 0 → {n : Model} → Leads (table room (begin 4294967295) m).next n
      → (room' : ℕ) (op : Op) → op.kind ≡ 1 → op.stamp.0 ≤ 4294967295 → Good op → table room' op n ≡ refuse 3 n
  -- item 63 is read; item 64 is 2
  pub H_63 : (play 65536 (begin 1 ∷ read 1 63 ∷ []) start).replies ≡ ok ∷ reply 0 0 0 ∷ []
  pub H_64 : (play 65536 (begin 1 ∷ read 1 64 ∷ []) start).replies ≡ ok ∷ reply 2 0 0 ∷ []
  -- an 11-byte buffer takes one begin; the second is 10
  pub I : (play 11 (begin 1 ∷ begin 2 ∷ []) start).replies ≡ ok ∷ reply 10 0 0 ∷ []
  -- late with 7 bytes left is 10 and stays open; with 8 it is 8
  pub J_7 : (play 41 late_run start).replies ≡ ok ∷ ok ∷ reply 0 0 0 ∷ reply 10 0 0 ∷ []
  pub J_7_open : (play 41 late_run start).left.live ≡ 1 ∷ 2 ∷ []
  pub J_8 : (play 42 late_run start).replies ≡ ok ∷ ok ∷ reply 0 0 0 ∷ reply 8 2 0 ∷ []
  pub J_8_open : (play 42 late_run start).left.live ≡ 2 ∷ []
