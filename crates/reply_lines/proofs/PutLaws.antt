-- Writes one after the other are one write of the bytes in a row.
-- Assumes nothing.
use Prim.Native.Nat.{ℕ, ◌+◌, ◌-◌, ◌≤◌}
use native.Mathlib.Omega.{arith}
use mathlib.Core.Path.{◌≡◌, refl, sym, ap, ◌∙◌}
use mathlib.Core.List.{List, ◌++◌, append_assoc}
use lib.ListN.{length, take, drop, length-append}
use lib.Seq.{take_at}
use borrow.Rule.Slice.PartMut.{put_mid}
use Rattle.std.proofs.lemmas.List.{drop-drop}
use Rattle.log_format.specs.Bytes.{splice}
use Rattle.log_format.proofs.SpliceLaws.{and_then}
use Rattle.log_format.proofs.AppendLaws.{length-splice}
use Rattle.scheduler_rules.specs.declared.Op.{Op}
use Rattle.scheduler_rules.specs.declared.Reply.{Reply}
use Rattle.line_format.specs.ReplyLines.{Replied, reply_line}
use Rattle.line_format.proofs.ReplyLaws.{replied_line}
use Rattle.reply_lines.specs.Written.{Put, Written}

-- a word that was copied into a part of the buffer was put
pub put_copied : (b : List ℕ) (at : ℕ) (word part : List ℕ) → part ≡ word → Put b at word (at + length word) (put_mid at (at + length word - at) b part)
unfolding splice
put_copied b at word part e =
    let k : at + length word - at ≡ length word = omega arith in
    record { next = refl; bytes = rw (k, e, drop-drop) (sym (append_assoc (take at b) word (drop (at + length word) b))) }

-- a write keeps the buffer's length
pub put-length : {b : List ℕ} {at : ℕ} {e : List ℕ} {r : ℕ} {b' : List ℕ} → Put b at e r b' → at + length e ≤ length b → length b' ≡ length b
put-length {b} {at} {e} p h = ap length p.bytes ∙ length-splice b at e h

-- one write right after another
pub put_then : {b b₁ b₂ : List ℕ} {at r q : ℕ} {xs ys : List ℕ} → Put b at xs r b₁ → Put b₁ r ys q b₂ → r + length ys ≤ length b → Put b at (xs ++ ys) q b₂
put_then {b} {b₁} {b₂} {at} {r} {q} {xs} {ys} p s h = record {
  next = s.next ∙ rw (p.next, length-append) (omega arith);
  bytes = and_then b b₁ b₂ at r xs ys p.bytes s.bytes p.next h;
}

-- a line that was put at the front was written
pub put_written : {b e : List ℕ} {n : ℕ} {b' : List ℕ} → Put b 0 e n b' → length e ≤ length b → Written b e n b'
unfolding splice
put_written {b} {e} {n} {b'} p h =
    let k : n ≡ length e = p.next ∙ omega arith in
    let l : length b' ≡ length b = put-length p (omega arith) in
    record { count = k; bytes = p.bytes; within = omega arith; counted = k ∙ ap length (sym (front k)) }
  where
    front : n ≡ length e → take n b' ≡ e
    front k = rw (p.bytes, k) (take_at e (drop (0 + length e) b) (length e) refl)

-- what says a reply is its line
pub put_replied : (op : Op) (r : Reply) {b s : List ℕ} {n : ℕ} {b' : List ℕ} → Replied op r s → Put b 0 s n b' → Put b 0 (reply_line op r) n b'
put_replied op r w p = rw (← replied_line w) p
