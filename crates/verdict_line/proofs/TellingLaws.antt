-- The stamps that the check left in the answer are those of the verdict, so the line of what it answered is the verdict's line, and it fits.
-- Assumes nothing.
use Prim.Native.Nat.{ℕ, ◌+◌, ◌^◌, ◌≤◌, ◌<◌}
use native.Mathlib.Omega.{arith}
use mathlib.Core.Path.{◌≡◌, refl, sym, ap, subst}
use mathlib.Core.List.{List, ◌++◌}
use lib.ListN.{length, drop, length-append}
use Rattle.lists.specs.Member.{◌∈◌}
use Rattle.log_format.specs.Bytes.{Bytes, splice, stamp_bytes}
use Rattle.line_format.specs.Decimals.{bytes}
use Rattle.graph_theory.specs.Verdict.{accepted, cycle}
use Rattle.order_rules.specs.Reading.{stamps_at}
use Rattle.order_rules.proofs.ReadingLaws.{stamps_read}
use Rattle.checker_rules.specs.Answers.{Answer, no, judged, answer_for, stamps_for, checked_of, Small, CheckIs}
use Rattle.std.specs.Prelude.{Result}
use Rattle.graph_theory.specs.declared.Verdict.{Verdict}
use Rattle.checker_rules.specs.declared.Refusal.{Refusal}
use Rattle.reply_lines.specs.Written.{Put, Written}
use Rattle.reply_lines.proofs.PutLaws.{put_written}
use Rattle.checker_rules.proofs.EachLaws.{stamps_few, stamps_small}
use Rattle.checker_rules.proofs.PanelLaws.{Told, told, small}
use Rattle.verdict_format.specs.Lines.{spaced, each_spaced, listed, refusal, verdict_line, longest}
use Rattle.verdict_line.specs.Told.{line_of, Few}
use Rattle.verdict_line.proofs.SpacedLaws.{spaced_short, each_short}

-- ---- the stamps in the answer

-- stamps at the front of a buffer are read back
front_stamps : (b ks : List ℕ) → ((k : ℕ) → k ∈ ks → k < 2 ^ 32) → stamps_at (splice b 0 (stamp_bytes ks)) 0 (length ks) ≡ ks
unfolding splice
front_stamps b ks f = (stamps_read (splice b 0 (stamp_bytes ks)) (drop (0 + length (stamp_bytes ks)) b) 0 ks refl f).0

-- the line of an answer whose stamps stand at the buffer's front
line_back : (a : Answer) → Told a → (b : List ℕ) → ((k : ℕ) → k ∈ stamps_for a → k < 2 ^ 32)
    → line_of (checked_of a) (splice b 0 (stamp_bytes (stamps_for a))) ≡ verdict_line a
line_back (no c n) t b f = rw (t.code, t.number)
line_back (judged (accepted o)) t b f = ap (listed (bytes "accepted")) (front_stamps b o f)
line_back (judged (cycle c)) t b f = ap (listed (bytes "cycle")) (front_stamps b c f)

few_back : (a : Answer) → length (stamps_for a) ≤ 256 → Few (checked_of a)
few_back (no c n) h = tt
few_back (judged (accepted o)) h = h
few_back (judged (cycle c)) h = h

listed_short : (word ks : List ℕ) → length word ≤ 8 → length ks ≤ 256 → ((k : ℕ) → k ∈ ks → k < 2 ^ 32)
    → length (listed word ks) ≤ longest
listed_short word ks w h f =
    let e = each_short ks f in
    let l = length-append word (each_spaced ks) in
    let m = length-append (word ++ each_spaced ks) (bytes "\n") in
    omega arith

refusal_short : (c n : ℕ) → c < 2 ^ 32 → n < 2 ^ 32 → length (refusal c n) ≤ 30
refusal_short c n h k =
    let d = spaced_short c h in
    let e = spaced_short n k in
    let p = length-append (bytes "refused") (spaced c) in
    let q = length-append (bytes "refused" ++ spaced c) (spaced n) in
    let r = length-append (bytes "refused" ++ spaced c ++ spaced n) (bytes "\n") in
    omega arith

line_short : (a : Answer) → Told a → Small (checked_of a) → length (stamps_for a) ≤ 256 → ((k : ℕ) → k ∈ stamps_for a → k < 2 ^ 32)
    → length (verdict_line a) ≤ longest
line_short (no c n) t s h f =
    let u = t.code in
    let v = t.number in
    let p = s.code in
    let q = s.number in
    let r = refusal_short c n (omega arith) (omega arith) in
    omega arith
line_short (judged (accepted o)) t s h f = listed_short (bytes "accepted") o (omega arith) h f
line_short (judged (cycle c)) t s h f = listed_short (bytes "cycle") c (omega arith) h f

module _ {log order b : List ℕ} {c : Result Verdict Refusal} {b' : List ℕ} (bl : Bytes log) (bo : Bytes order) (k : CheckIs log order b c b') where
  -- few stamps are told
  pub told_few : Few c
  told_few = subst Few (sym k.answer) (few_back (answer_for log order (length b)) (stamps_few log order bl bo (length b)))

  -- the line of what was answered is the verdict's
  line_is : line_of c b' ≡ verdict_line (answer_for log order (length b))
  line_is = rw (k.answer, k.bytes) (line_back (answer_for log order (length b)) (told log order (length b)) b (stamps_small log order bl bo (length b)))

  -- and it fits
  pub told-written : (out : List ℕ) (n : ℕ) (out' : List ℕ) → Put out 0 (line_of c b') n out' → longest ≤ length out
      → Written out (verdict_line (answer_for log order (length b))) n out'
  told-written out n out' p h =
      let room = length b in
      let a = answer_for log order room in
      let s = line_short a (told log order room) (small log order bl bo room) (stamps_few log order bl bo room) (stamps_small log order bl bo room) in
      put_written (subst (λ (l : List ℕ). Put out 0 l n out') line_is p) (omega arith)
