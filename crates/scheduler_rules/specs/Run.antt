-- Operations one after the other.
-- Assumes nothing.
use Rattle.std.specs.Prelude.{ℕ, List, [], ◌∷◌, ◌++◌}
use Rattle.log_format.specs.Events.{Event}
use Rattle.scheduler_rules.specs.Model.{Model}
use Rattle.scheduler_rules.specs.Table.{table}
use Rattle.scheduler_rules.specs.declared.Op.{Op}
use Rattle.scheduler_rules.specs.declared.Reply.{Reply}

-- what a run of operations answers and writes, first to last, and the model it leaves
pub record Played : Type 0 where
  pub replies : List Reply
  pub written : List Event
  pub left : Model

-- the operations of a run, from m, over a log of so many bytes
abbrev pub play : ℕ → List Op → Model → Played
play room [] m = record { replies = []; written = []; left = m }
play room (op ∷ ops) m = let o = table room op m in let r = play room ops o.next in record { replies = o.reply ∷ r.replies; written = o.due ++ r.written; left = r.left }

-- operations lead from m to a model, whatever the room at each
pub data Leads (m : Model) : Model → Type 0 where
  here : Leads m m
  on : (room : ℕ) (op : Op) (n : Model) → Leads m n → Leads m (table room op n).next

-- ---- operations and replies, as the page writes them

abbrev pub begin : ℕ → Op
begin k = record { kind = 1; stamp = record { 0 = k }; item = 0; value = 0 }

abbrev pub read : ℕ → ℕ → Op
read k x = record { kind = 2; stamp = record { 0 = k }; item = x; value = 0 }

abbrev pub write : ℕ → ℕ → ℕ → Op
write k x v = record { kind = 3; stamp = record { 0 = k }; item = x; value = v }

abbrev pub commit : ℕ → Op
commit k = record { kind = 4; stamp = record { 0 = k }; item = 0; value = 0 }

abbrev pub abort : ℕ → Op
abort k = record { kind = 5; stamp = record { 0 = k }; item = 0; value = 0 }

-- a reply's code, stamp and value
abbrev pub reply : ℕ → ℕ → ℕ → Reply
reply c j v = record { code = c; stamp = record { 0 = j }; value = v }

abbrev pub ok : Reply
ok = reply 0 0 0
