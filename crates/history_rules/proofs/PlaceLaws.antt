-- A refusal's number is a place of the log, or 0: so it is below 65,536. A bad field and a dangling read stand where bytes are left, and a log
-- that has its header has at most 65,536.
-- Assumes nothing.
use Prim.Native.Nat.{ℕ, ◌+◌, ◌<◌}
use native.Mathlib.Omega.{arith}
use mathlib.Core.Path.{◌≡◌, ap, ◌∙◌}
use mathlib.Core.List.{List, ◌∷◌, ◌++◌}
use lib.ListN.{length, length-append}
use Rattle.log_format.specs.Bytes.{Bytes}
use Rattle.log_format.specs.Fields.{encode}
use Rattle.log_format.specs.Whole.{max_log, write_all, log_of}
use Rattle.log_format.specs.Events.{Event}
use Rattle.log_format.specs.declared.Record.{Record}
use Rattle.log_format.proofs.DecodeCases.{long}
use Rattle.log_format.proofs.WholeLaws.{read-write}
use Rattle.history_rules.specs.History.{refused, history_of}
use Rattle.history_rules.specs.Answers.{BadAt, no_record, no_right}
use Rattle.history_rules.proofs.FoundAnswers.{read_headed}
use Rattle.history_rules.proofs.GivenAnswers.{write_all-append}
use Rattle.history_rules.proofs.HistoryLaws.{refusal}

-- a bad field stands where bytes are left
bad_inside : {s : List ℕ} {p : ℕ} {past : List Event} {c : ℕ} → BadAt s p past c → p < length s
bad_inside (no_record k) = k.more
bad_inside (no_right r n f st nz l) = let q = st.next in let w = st.within in let m = long r in omega arith

-- a record of a log stands inside it
record_inside : (a : List Record) (r : Record) (c : List Record) → length (log_of a) < length (log_of (a ++ r ∷ c))
record_inside a r c =
    let m = long r in
    let e : length (write_all (a ++ r ∷ c)) ≡ length (write_all a) + (length (encode r) + length (write_all c)) =
    ap length (write_all-append a (r ∷ c)) ∙ length-append (write_all a) _ ∙ ap (λ (n : ℕ). length (write_all a) + n) (length-append (encode r) (write_all c)) in
    omega arith

-- a refusal's number is below 65,536
pub refused_place : (s : List ℕ) (b : Bytes s) (c p : ℕ) → history_of s ≡ refused c p → p < max_log
refused_place s b = refusal s b (λ c p. p < max_log) (λ n. omega arith)
    (λ c p hd f. let q = bad_inside f.bad in let l = hd.0 in omega arith)
    (λ rs r ok m. omega arith)
    (λ rs p r f. let l = (read_headed s rs r).0 in
    let w : length (log_of rs) ≡ length s = ap length (read-write s b rs r) in
    let i : length (log_of f.before) < length (log_of (f.before ++ f.read ∷ f.after)) = record_inside f.before f.read f.after in
    let e : length (log_of rs) ≡ length (log_of (f.before ++ f.read ∷ f.after)) = ap (λ (t : List Record). length (log_of t)) f.splits in
    let q = f.place in
    omega arith)
