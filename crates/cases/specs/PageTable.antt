-- The page's cases A to J, over the definitions that the contracts cite: what the checker answers for the bytes of a log and of a version order, and what
-- calls answer after a fresh start. `page_table`, in proofs/PageTableLaws.antt, has them all.
-- Assumes nothing.
use Rattle.std.specs.Prelude.{ℕ, ◌+◌, ◌*◌, ◌≤◌, ◌≡◌, List, [], ◌∷◌, map, true, length}
use Rattle.lists.specs.Member.{◌∈◌}
use Rattle.log_format.specs.Bytes.{Bytes}
use Rattle.log_format.specs.Whole.{log_of}
use Rattle.log_format.specs.Events.{Event, record_of}
use Rattle.scheduler_rules.specs.Table.{Good}
use Rattle.scheduler_rules.specs.Run.{begin, read, write, reply, ok}
use Rattle.scheduler_rules.specs.declared.Op.{Op}
use Rattle.scheduler_rules.specs.declared.Reply.{Reply}
use Rattle.scheduler.specs.declared.State.{State}
use Rattle.scheduler.specs.declared.Called.{Called}
use Rattle.scheduler.specs.State.{abs, Full}
use Rattle.scheduler.specs.Calls.{room_of, reply_to, state_after, log_after, FreshIs}
use Rattle.scheduler_laws.specs.Reach.{used_of}
use Rattle.scheduler_laws.specs.InTurn.{Ran, calls}
use Rattle.history_rules.specs.WellFormed.{count_commits}
use Rattle.graph_theory.specs.Verdict.{Verdict, accepted, cycle}
use Rattle.serial_theory.specs.Cases.{log_a, log_b, log_c, log_e}
use Rattle.order_rules.specs.Fields.{Field, field, order_of}
use Rattle.order_rules.specs.Right.{right_order}
use Rattle.checker_rules.specs.Answers.{judged, answer_for}
use Rattle.cases.specs.Items.{Items, over, fields_for}

-- ---- A to F: a log and a version order as bytes

-- the checker judges the bytes of a log and of an order so, whatever the answer buffer, if it has 4 bytes for each committed transaction
abbrev pub Judges : List Event → List Field → Verdict → Type 0
Judges log order v = (a : List ℕ) → 4 * count_commits log ≤ length a → answer_for (log_of (map record_of log)) (order_of order) (length a) ≡ judged v

-- no other bytes than this order's pass 28
abbrev pub OnlyOrder : List Event → List Field → Type 0
OnlyOrder log order = (s : List ℕ) → Bytes s → right_order log s ≡ true → s ≡ order_of order

-- ---- G to J: calls after a fresh start

-- starting fresh over b₀ answers 0, and of what these calls then answer and leave, P holds
abbrev pub FromFresh : List ℕ → List Op → (Ran → Type 0) → Type 0
FromFresh b₀ ops P = (r : Called) (b : List ℕ) → FreshIs b₀ r b → (r.reply ≡ ok) × P (calls ops r.state b)

-- they get these replies
abbrev pub Answers : List ℕ → List Op → List Reply → Type 0
Answers b₀ ops rs = FromFresh b₀ ops (λ (z : Ran). z.replies ≡ rs)

-- 1 and 2 begin, and 2 reads item 5
abbrev pub read_above : List Op
read_above = begin 1 ∷ begin 2 ∷ read 2 5 ∷ []

-- then a write of it by 1 is late
abbrev pub late : Op
late = write 1 5 9

-- with so many bytes left the late write gets this reply, and these transactions are open after it
pub record LateWith (left : ℕ) (r : Reply) (live : List ℕ) (z : Ran) : Type 0 where
  pub bytes : used_of z.state + left ≡ length z.buffer
  pub answer : reply_to z.state late z.buffer ≡ r
  pub stay : (abs (state_after z.state late z.buffer)).live ≡ live

-- it changes no state and no byte
pub record LateKeeps (z : Ran) : Type 0 where
  pub state : state_after z.state late z.buffer ≡ z.state
  pub buffer : log_after z.state late z.buffer ≡ z.buffer

-- ---- the table

pub record PageTable : Type 0 where
  -- 1 reads x from 0, writes y; 2 reads y from 0, writes x: cycle 1, 2
  pub A : (x y : ℕ) → Items x y → Judges (over x y log_a) (fields_for x (2 ∷ []) y (1 ∷ [])) (cycle (1 ∷ 2 ∷ []))
  -- 1 reads x from 0 and writes x; 2 reads x from 0: accepted, 2, 1
  pub B : (x y : ℕ) → Items x y → Judges (over x y log_b) (field x (1 ∷ []) ∷ []) (accepted (2 ∷ 1 ∷ []))
  -- 1 and 2 write x; 3 reads x from 1; order 1, 2: accepted, 1, 3, 2
  pub C : (x y : ℕ) → Items x y → Judges (over x y log_c) (field x (1 ∷ 2 ∷ []) ∷ []) (accepted (1 ∷ 3 ∷ 2 ∷ []))
  -- as C, order 2, 1: accepted, 2, 1, 3
  pub D : (x y : ℕ) → Items x y → Judges (over x y log_c) (field x (2 ∷ 1 ∷ []) ∷ []) (accepted (2 ∷ 1 ∷ 3 ∷ []))
  -- 2 writes x and y; 3 reads x from 0 and y from 2: cycle 2, 3
  pub E : (x y : ℕ) → Items x y → Judges (over x y log_e) (fields_for x (2 ∷ []) y (2 ∷ [])) (cycle (2 ∷ 3 ∷ []))
  -- for A, B and E the page names no order: there is one
  pub A-order : (x y : ℕ) → Items x y → OnlyOrder (over x y log_a) (fields_for x (2 ∷ []) y (1 ∷ []))
  pub B-order : (x y : ℕ) → Items x y → OnlyOrder (over x y log_b) (field x (1 ∷ []) ∷ [])
  pub E-order : (x y : ℕ) → Items x y → OnlyOrder (over x y log_e) (fields_for x (2 ∷ []) y (2 ∷ []))
  -- header alone: accepted, count 0
  pub F : Judges [] [] (accepted [])
  -- stamp 4294967295 begins
  pub G_begins : (b₀ : List ℕ) → 11 ≤ length b₀ → Answers b₀ (begin 4294967295 ∷ []) (ok ∷ [])
  -- where it has, in any state over any buffer, each later begin that passes 2 is 3, whatever was called between
  pub G_later : (s : State) (b : List ℕ) → Full s → (reply_to s (begin 4294967295) b).code ≡ 0
      → (ops : List Op) (op : Op) → op.kind ≡ 1 → op.stamp.0 ≤ 4294967295 → Good op
      → let z = calls (begin 4294967295 ∷ ops) s b in reply_to z.state op z.buffer ≡ reply 3 0 0
  -- item 63 is read; item 64 is 2
  pub H_63 : (b₀ : List ℕ) → 27 ≤ length b₀ → Answers b₀ (begin 1 ∷ read 1 63 ∷ []) (ok ∷ reply 0 0 0 ∷ [])
  pub H_64 : (b₀ : List ℕ) → 11 ≤ length b₀ → Answers b₀ (begin 1 ∷ read 1 64 ∷ []) (ok ∷ reply 2 0 0 ∷ [])
  -- an 11-byte buffer takes one begin; the second is 10
  pub I : (b₀ : List ℕ) → length b₀ ≡ 11 → Answers b₀ (begin 1 ∷ begin 2 ∷ []) (ok ∷ reply 10 0 0 ∷ [])
  -- late with 7 bytes left is 10 and stays open; with 8 it is 8
  pub J_7 : (b₀ : List ℕ) → length b₀ ≡ 41 → FromFresh b₀ read_above (LateWith 7 (reply 10 0 0) (1 ∷ 2 ∷ []))
  pub J_7_kept : (b₀ : List ℕ) → length b₀ ≡ 41 → FromFresh b₀ read_above LateKeeps
  pub J_8 : (b₀ : List ℕ) → length b₀ ≡ 42 → FromFresh b₀ read_above (LateWith 8 (reply 8 2 0) (2 ∷ []))
  -- and so it goes with every write that is late over some buffer b, in any state: over a buffer with 7 bytes left it is 10, nothing changes, and the
  -- transaction is still open; over one with 8 left it is 8, as over b
  pub J_each_7 : (s : State) (op : Op) (b c : List ℕ) → Full s → (reply_to s op b).code ≡ 8 → used_of s + 7 ≡ room_of c
      → (reply_to s op c ≡ reply 10 0 0) × (state_after s op c ≡ s) × (log_after s op c ≡ c) × (op.stamp.0 ∈ (abs s).live)
  pub J_each_8 : (s : State) (op : Op) (b c : List ℕ) → Full s → (reply_to s op b).code ≡ 8 → used_of s + 8 ≡ room_of c → reply_to s op c ≡ reply_to s op b
