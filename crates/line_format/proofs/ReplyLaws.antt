-- The line of a reply, case by case: the executable definition and the relation say the same, and no line is over 33 bytes.
-- Assumes nothing.
use Prim.Native.Nat.{ℕ, ◌^◌, ◌≤◌, ◌<◌}
use native.Mathlib.Omega.{arith}
use mathlib.Core.Path.{◌≡◌, refl}
use mathlib.Core.Bool.{Bool, true, false, cond}
use mathlib.Core.List.{List}
use lib.ListN.{length, length-append}
use lib.Dec.{eqb}
use borrow.Author.Tests.{eqb-true, eqb-false, eq-eqb, ne_eqb}
use Rattle.scheduler_rules.specs.declared.Op.{Op}
use Rattle.scheduler_rules.specs.declared.Reply.{Reply}
use Rattle.line_format.specs.Decimals.{bytes, most, digits, digits_in}
use Rattle.line_format.specs.ReplyLines.{said, value_line, reply_line, log_line, bad_line, Replied, value, ok, wait, late, refused}
use Rattle.line_format.proofs.DecimalLaws.{ten_digits, twenty_digits}

-- the relation determines the line
pub replied_line : {op : Op} {r : Reply} {s : List ℕ} → Replied op r s → s ≡ reply_line op r
unfolding reply_line
replied_line (value e k) = simp (eq-eqb _ _ e, eq-eqb _ _ k)
replied_line (ok e n) = simp (eq-eqb _ _ e, ne_eqb _ _ n)
replied_line (wait e) = rw e
replied_line (late e) = rw e
replied_line (refused z w l) = simp (ne_eqb _ _ z, ne_eqb _ _ w, ne_eqb _ _ l)

-- every reply has its line
pub line_replied : (op : Op) (r : Reply) → Replied op r (reply_line op r)
unfolding reply_line
line_replied op r = go (eqb r.code 0) refl (eqb op.kind 2) refl (eqb r.code 6) refl (eqb r.code 8) refl
  where
    go : (z : Bool) → eqb r.code 0 ≡ z → (k : Bool) → eqb op.kind 2 ≡ k → (w : Bool) → eqb r.code 6 ≡ w → (l : Bool) → eqb r.code 8 ≡ l
        → Replied op r (cond z (cond k (value_line r.value r.stamp.0) (bytes "ok\n"))
        (cond w (said "wait " r.stamp.0) (cond l (said "late " r.stamp.0) (said "no " r.code))))
    go true p true q w u l v = value (eqb-true _ _ p) (eqb-true _ _ q)
    go true p false q w u l v = ok (eqb-true _ _ p) (eqb-false _ _ q)
    go false p k q true u l v = wait (eqb-true _ _ u)
    go false p k q false u true v = late (eqb-true _ _ v)
    go false p k q false u false v = refused (eqb-false _ _ p) (eqb-false _ _ u) (eqb-false _ _ v)

-- no reply is over 33 bytes
pub reply_short : (op : Op) (r : Reply) → r.code ≤ most → r.stamp.0 ≤ most → r.value ≤ most → length (reply_line op r) ≤ 33
reply_short op r c s v = go (line_replied op r)
  where
    go : {l : List ℕ} → Replied op r l → length l ≤ 33
    go (value e k) = simp length-append (omega (arith, ten_digits r.value v, ten_digits r.stamp.0 s))
    go (ok e n) = omega arith
    go (wait e) = simp length-append (omega (arith, ten_digits r.stamp.0 s))
    go (late e) = simp length-append (omega (arith, ten_digits r.stamp.0 s))
    go (refused z w l) = simp length-append (omega (arith, ten_digits r.code c))

-- the last line has at most 25
pub log_short : (n : ℕ) → n < 2 ^ 64 → length (log_line n) ≤ 25
log_short n h = simp length-append (omega (arith, twenty_digits n h))

-- a bad line is answered as an operation that is refused with code 2
pub bad_line_lem : (op : Op) (r : Reply) → r.code ≡ 2 → bad_line ≡ reply_line op r
unfolding reply_line digits digits_in
bad_line_lem op r e = rw e
