-- What reading a log takes and gives: words of zeros can be lent; a refusal is that of the log's history; a log that passes was read.
-- Assumes nothing.
use Prim.Native.Nat.{ℕ, ◌≤◌}
use native.Mathlib.Omega.{arith}
use mathlib.Core.Path.{◌≡◌, refl, sym, ◌∙◌, subst}
use mathlib.Core.List.{List, []}
use lib.ListN.{length, replicate}
use Rattle.lists.specs.Member.{Rising}
use Rattle.log_format.specs.Bytes.{Bytes}
use Rattle.history_rules.specs.WellFormed.{most_committed, count_commits}
use Rattle.history_rules.specs.History.{History, passed, refused, history_of}
use Rattle.history_rules.proofs.HistoryLaws.{passed_well}
use Rattle.serial_theory.proofs.CommittedLaws.{committed_rising, committed-number}
use Rattle.index.specs.Index.{max_rows, words}
use Rattle.index.proofs.RowLaws.{empty_table, empty_room, look_empty}
use Rattle.std.specs.Prelude.{Result, Ok, Err}
use Rattle.history_rules.specs.declared.BadLog.{BadLog}
use Rattle.history_rules.specs.Refusals.{bad_log_code, bad_log_number, bad_log_with}
use Rattle.history_rules.proofs.RefusalLaws.{refused_keeps}
use Rattle.history.specs.Judging.{judged_of, Lent, Judgement}
use Rattle.history.specs.Nodes.{Passes, Nodes}
use Rattle.history.specs.Reads.{ReadLog, ReadIs}

-- fresh words
pub lent_zeros : Lent (replicate words 0)
lent_zeros = record { table = empty_table words (omega arith); blank = λ k. look_empty words k (omega arith); room = empty_room max_rows words (omega arith) }

module _ {s m : List ℕ} where
  -- a refusal is the log's
  pub read_refused : (nodes : List ℕ) {r : Result ℕ BadLog} → Judgement s m r → (x : BadLog) → r ≡ Err x → ReadIs s m nodes (Err x)
  read_refused nodes {r} j x is = go (history_of s) refl (sym j.answer ∙ is)
    where
      go : (h : History) → history_of s ≡ h → judged_of h ≡ Err x → history_of s ≡ refused (bad_log_code x) (bad_log_number x)
      go (passed log) q f = let z : ◌≡◌ {A = ℕ} 0 1 = cc in absurd (omega arith)
      go (refused d n) q f =
          let k = refused_keeps s d n q in
          let e : bad_log_with d n ≡ x = cc in
          q ∙ rw (← e, k.code, k.number)

  module _ {r : Result ℕ BadLog} (j : Judgement s m r) {k : ℕ} (e : r ≡ Ok k) where
    -- a log that passes has events
    pub judged_passed : Passes s
    judged_passed = go (history_of s) refl (sym j.answer ∙ e)
      where
        go : (h : History) → history_of s ≡ h → judged_of h ≡ Ok k → Passes s
        go (passed log) q f = (log, q)
        go (refused d n) q f = let z : ◌≡◌ {A = ℕ} 0 1 = cc in absurd (omega arith)

    -- and was read, once its committed transactions are gathered
    pub read_passed : Bytes s → {a nodes : List ℕ} {count : ℕ} → most_committed ≤ length nodes → Nodes s a nodes count → ReadLog s m nodes count
    read_passed b {a} {nodes} {count} room n =
        let log = judged_passed.0 in
        let q = judged_passed.1 in
        let well = (passed_well s b log q).3 in
        let number : count ≡ count_commits log = n.count log q ∙ committed-number [] log well.right in
        let few = well.few in
        record {
          log = log;
          passes = q;
          well = well;
          table = j.table;
          holds = j.holds log q;
          first = n.first log q;
          number = number;
          few = omega arith;
          within = omega arith;
          rising = subst (Rising 0) (sym (n.first log q)) (committed_rising log);
        }

-- what was answered, where it is known which
module _ (s m nodes : List ℕ) {r : Result ℕ BadLog} (i : ReadIs s m nodes r) where
  pub was_refused : {x : BadLog} → r ≡ Err x → history_of s ≡ refused (bad_log_code x) (bad_log_number x)
  was_refused e = subst (ReadIs s m nodes) e i

  pub was_read : {count : ℕ} → r ≡ Ok count → ReadLog s m nodes count
  was_read e = subst (ReadIs s m nodes) e i
