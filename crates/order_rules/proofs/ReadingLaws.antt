-- Reading and writing an order are inverse: fields that fit and are not empty are read back from their bytes, and what was read, written again, gives
-- the bytes. Field by field: each takes 8 bytes or more, so that the steps suffice.
-- Assumes nothing.
use Prim.Native.Nat.{ℕ, zero, suc, ◌+◌, ◌*◌, ◌-◌, ◌/◌, ◌%◌, ◌≤◌, ◌<◌, ◌^◌}
use native.Mathlib.Nat.{add-zero, add_assoc}
use native.Mathlib.Omega.{arith}
use mathlib.Core.Path.{◌≡◌, refl, sym, ap, ◌∙◌, subst}
use mathlib.Core.List.Memᴰ
use mathlib.Core.List.{List, [], ◌∷◌, ◌++◌}
use Rattle.std.specs.Prelude.{Option, Some, None}
use lib.Dec.{leb, ltb, eqb}
use lib.ListN.{length, get_or, drop, length-append, length-drop, drop_of_length-le}
use lib.Seq.{drop-cons, drop-drop, get_or-drop}
use borrow.Author.Tests.{le-leb, lt-leb, le-ltb, eqb-true, ltb-false, leb-true}
use Rattle.lists.specs.Member.{◌∈◌}
use Rattle.lists.proofs.ChoiceLaws.{cond_by}
use Rattle.lists.proofs.OrderLaws.{in_nil}
use Rattle.log_format.specs.Bytes.{Bytes, num2, num4, bytes4, stamp_bytes}
use Rattle.log_format.specs.Fields.{body_len}
use Rattle.log_format.proofs.StampBytesLaws.{length-stamp_bytes}
use Rattle.log_format.proofs.RoundTrip.{back, forth, body_is, body_inv}
use Rattle.order_rules.specs.Fields.{Field, field, body_of, field_of, order_of, Filled, FieldFits, Fits}
use Rattle.order_rules.specs.Reading.{found_at, stamps_at, next_at, before, after, fields_at, read_from, read_order, StandsAt}
use Rattle.order_rules.specs.Reading.{Found, stamps, at_end, bad}
use Rattle.order_rules.specs.declared.Head.{Head}

-- ---- one field: the test and the relation

module _ (s : List ℕ) (at : ℕ) where
  -- where a field stands, it is found
  pub stands_found : (x n : ℕ) → StandsAt s at x n → found_at s at ≡ stamps x n
  unfolding found_at
  stands_found x n t =
      let w = t.within in
      let p = t.some in
      let here : at < length s = omega arith in
      let b : body_len s at ≡ body_of n = body_is s at (body_of n) t.body (omega arith) in
      let q : body_of n / 4 ≡ n = omega arith in
      let r : body_of n % 4 ≡ 1 = omega arith in
      rw (lt-leb _ _ here, t.tag, b, le-ltb (body_of n) 5 (omega arith), r, q, t.item)

  -- by cases on what is found: the end, a field that stands there, or neither
  pub found_by : (Q : Found → Type 0) → (length s ≤ at → Q at_end) → ((x n : ℕ) → StandsAt s at x n → Q (stamps x n)) → Q bad → Q (found_at s at)
  unfolding found_at
  found_by Q e f g =
      cond_by Q (leb (length s) at) (λ l. e (leb-true _ _ l)) (λ l.
      cond_by Q (eqb (get_or s at 0) 32) (λ t.
      cond_by Q (ltb (body_len s at) 5) (λ _. g) (λ m.
      cond_by Q (eqb (body_len s at % 4) 1) (λ r. f _ _ (stands (body_len s at) refl (ltb-false _ _ m) (eqb-true _ _ r) (eqb-true _ _ t))) (λ _. g))) (λ _. g))
    where
      stands : (m : ℕ) → body_len s at ≡ m → 5 ≤ m → m % 4 ≡ 1 → get_or s at 0 ≡ 32 → StandsAt s at (get_or s (at + 3) 0) (m / 4)
      stands m b l r t =
          let i = body_inv s at m b (omega arith) in
          let c : m ≡ body_of (m / 4) = omega arith in
          let w = i.1 in
          record { tag = t; body = i.0 ∙ c; item = refl; some = omega arith; within = omega arith }

  -- what is found stands there
  pub found_stands : (x n : ℕ) → found_at s at ≡ stamps x n → StandsAt s at x n
  found_stands x n =
      found_by (λ d. d ≡ stamps x n → StandsAt s at x n)
      (λ _ e. let z : ◌≡◌ {A = ℕ} 0 1 = cc in absurd (omega arith))
      (λ y m t e. let h : ◌≡◌ {A = Head} (record { item = x; stamps = n }) (record { item = y; stamps = m }) = cc in
      let p : x ≡ y = ap (λ (k : Head). k.item) h in
      let q : n ≡ m = ap (λ (k : Head). k.stamps) h in
      rw (p, q) t)
      (λ e. let z : ◌≡◌ {A = ℕ} 0 1 = cc in absurd (omega arith))

  -- a place past the last byte is the end, and no other is
  pub past_end : length s ≤ at → found_at s at ≡ at_end
  unfolding found_at
  past_end h = rw (le-leb _ _ h)

  pub end_past : found_at s at ≡ at_end → length s ≤ at
  end_past =
      found_by (λ d. d ≡ at_end → length s ≤ at)
      (λ l _. l)
      (λ y m t e. let z : ◌≡◌ {A = ℕ} 0 1 = cc in absurd (omega arith))
      (λ e. let z : ◌≡◌ {A = ℕ} 0 1 = cc in absurd (omega arith))

-- ---- a field's bytes

pub length_field : (x : ℕ) (ks : List ℕ) → length (field_of x ks) ≡ 4 + 4 * length ks
length_field x ks = let h = length-stamp_bytes ks in omega arith

-- the bytes from a place on, one by one
module _ (s l : List ℕ) (at : ℕ) (h : drop at s ≡ l) where
  el : (i : ℕ) → get_or s (at + i) 0 ≡ get_or l i 0
  el i = sym (get_or-drop at s i 0) ∙ ap (λ (m : List ℕ). get_or m i 0) h

  el₀ : get_or s at 0 ≡ get_or l 0 0
  el₀ = rw add-zero at (el 0)

  two : num2 s (at + 1) ≡ get_or l 1 0 * 256 + get_or l 2 0
  two = rw (add_assoc, el 1, el 2)

  four : num4 s at ≡ get_or l 0 0 * 16777216 + get_or l 1 0 * 65536 + get_or l 2 0 * 256 + get_or l 3 0
  four = rw (el₀, el 1, el 2, el 3)

  len : length s - at ≡ length l
  len = sym (length-drop at s) ∙ ap length h

  past : (n : ℕ) → drop (at + n) s ≡ drop n l
  past n = sym (drop-drop n at s) ∙ ap (drop n) h

-- ---- what was written is read

-- stamps from their bytes
pub stamps_read : (s q : List ℕ) (at : ℕ) (ks : List ℕ) → drop at s ≡ stamp_bytes ks ++ q → ((k : ℕ) → k ∈ ks → k < 2 ^ 32)
    → (stamps_at s at (length ks) ≡ ks) × (drop (at + 4 * length ks) s ≡ q)
stamps_read s q at [] e f = (refl, rw add-zero e)
stamps_read s q at (k ∷ ks) e f =
    let n : num4 s at ≡ k = four s _ at e ∙ back k (f k (Memᴰ.head refl)) in
    let r = stamps_read s q (at + 4) ks (past s _ at e 4) (λ j m. f j (Memᴰ.tail m)) in
    let z : at + 4 + 4 * length ks ≡ at + 4 * suc (length ks) = omega arith in
    (rw (n, r.0), rw (← z) r.1)

module _ (s q : List ℕ) (at x : ℕ) (ks : List ℕ) (e : drop at s ≡ field_of x ks ++ q) (f : FieldFits x ks) where
  -- the field stands there
  pub field_stands : 0 < length ks → StandsAt s at x (length ks)
  field_stands h =
      let l = len s _ at e in
      let m = length-append (stamp_bytes ks) q in
      let p = length-stamp_bytes ks in
      let b = f.body in
      let n : ℕ = body_of (length ks) in
      let w : n / 256 % 256 * 256 + n % 256 ≡ n = omega arith in
      record { tag = el₀ s _ at e; body = two s _ at e ∙ w; item = sym (el s _ at e 3); some = h; within = omega arith }

  -- its stamps are read back, and the bytes after it follow
  pub field_stamps : (stamps_at s (at + 4) (length ks) ≡ ks) × (drop (next_at at (length ks)) s ≡ q)
  field_stamps = stamps_read s q (at + 4) ks (past s _ at e 4) f.stamps

-- fields from a place on are read back, with any number of steps that suffices
fields_read : (k : ℕ) (s : List ℕ) (at : ℕ) (fs : List Field) → drop at s ≡ order_of fs → Fits fs → Filled fs → length (order_of fs) < k
    → fields_at k s at ≡ Some fs
unfolding fields_at
fields_read zero s at fs e f g h = absurd (omega arith)
fields_read (suc k) s at [] e f g h = let l = len s _ at e in rw (past_end s at (omega arith))
fields_read (suc k) s at (field x [] ∷ fs) e f g h = absurd g
fields_read (suc k) s at (field x (j ∷ js) ∷ fs) e f g h =
    let ks : List ℕ = j ∷ js in
    let t = field_stands s (order_of fs) at x ks e f.0 (omega arith) in
    let r = field_stamps s (order_of fs) at x ks e f.0 in
    let m = length-append (field_of x ks) (order_of fs) in
    let n = length_field x ks in
    rw (stands_found s at x (length ks) t, r.0, fields_read k s (next_at at (length ks)) fs r.1 f.1 g (omega arith))

-- an order's fields are read back from its bytes
pub read-written : (fs : List Field) → Fits fs → Filled fs → read_order (order_of fs) ≡ Some fs
unfolding read_order read_from
read-written fs f g = fields_read (suc (length (order_of fs) - 0)) (order_of fs) 0 fs refl f g (omega arith)

-- ---- what was read is written

pub length-stamps_at : (s : List ℕ) (at n : ℕ) → length (stamps_at s at n) ≡ n
length-stamps_at s at zero = refl
length-stamps_at s at (suc n) = ap suc (length-stamps_at s (at + 4) n)

module _ (s : List ℕ) (b : Bytes s) where
  number_fits : (at : ℕ) → num4 s at < 2 ^ 32
  number_fits at =
      let h₀ = b at in
      let h₁ = b (at + 1) in
      let h₂ = b (at + 2) in
      let h₃ = b (at + 3) in
      omega arith

  pub stamps_fit : (at n k : ℕ) → k ∈ stamps_at s at n → k < 2 ^ 32
  stamps_fit at zero k m = in_nil m
  stamps_fit at (suc n) k (Memᴰ.head q) = subst (λ (j : ℕ). j < 2 ^ 32) (sym q) (number_fits at)
  stamps_fit at (suc n) k (Memᴰ.tail m) = stamps_fit (at + 4) n k m

  four_off : (at : ℕ) → at + 4 ≤ length s → drop at s ≡ get_or s at 0 ∷ get_or s (at + 1) 0 ∷ get_or s (at + 2) 0 ∷ get_or s (at + 3) 0 ∷ drop (at + 4) s
  four_off at h =
      let p : at + 1 ≡ suc at = omega arith in
      let q : at + 2 ≡ suc (suc at) = omega arith in
      let r : at + 3 ≡ suc (suc (suc at)) = omega arith in
      let t : at + 4 ≡ suc (suc (suc (suc at))) = omega arith in
      rw (
        p,
        q,
        r,
        t,
        drop-cons s at 0 (omega arith),
        drop-cons s (suc at) 0 (omega arith),
        drop-cons s (suc (suc at)) 0 (omega arith),
        drop-cons s
            (suc (suc (suc at))) 0 (omega arith),
      )

  stamps_written : (at n : ℕ) → at + 4 * n ≤ length s → drop at s ≡ stamp_bytes (stamps_at s at n) ++ drop (at + 4 * n) s
  stamps_written at zero h = rw add-zero
  stamps_written at (suc n) h =
      let z : at + 4 + 4 * n ≡ at + 4 * suc n = omega arith in
      let k : ℕ = num4 s at in
      four_off at (omega arith) ∙ ap (λ (l : List ℕ). l ++ drop (at + 4) s) (sym (forth _ _ _ _ (b at) (b (at + 1)) (b (at + 2)) (b (at + 3))))
      ∙ ap (λ (l : List ℕ). bytes4 k ++ l) (stamps_written (at + 4) n (omega arith))
      ∙ ap (λ (m : ℕ). stamp_bytes (stamps_at s at (suc n)) ++ drop m s) z

  module _ (at x n : ℕ) (t : StandsAt s at x n) where
    -- a field that stands there is the field of its stamps
    pub stands_written : drop at s ≡ field_of x (stamps_at s (at + 4) n) ++ drop (next_at at n) s
    stands_written =
        let w = t.within in
        let e : get_or s (at + 1) 0 * 256 + get_or s (at + 2) 0 ≡ body_of n = rw add_assoc at t.body in
        let h₁ = b (at + 1) in
        let h₂ = b (at + 2) in
        let u : body_of n / 256 % 256 ≡ get_or s (at + 1) 0 = omega arith in
        let v : body_of n % 256 ≡ get_or s (at + 2) 0 = omega arith in
        rw (length-stamps_at s (at + 4) n, u, v, t.item, ← stamps_written (at + 4) n (omega arith))
        (four_off at (omega arith) ∙ ap (λ (i : ℕ). i ∷ get_or s (at + 1) 0 ∷ get_or s (at + 2) 0 ∷ get_or s (at + 3) 0 ∷ drop (at + 4) s) t.tag)

    pub stands_fits : FieldFits x (stamps_at s (at + 4) n)
    stands_fits =
        let h₁ = b (at + 1) in
        let h₂ = b (at + 2) in
        let l = length-stamps_at s (at + 4) n in
        let e : get_or s (at + 1) 0 * 256 + get_or s (at + 2) 0 ≡ body_of n = rw add_assoc at t.body in
        record { item = subst (λ (i : ℕ). i < 256) (sym t.item) (b (at + 3)); stamps = stamps_fit (at + 4) n; body = omega arith }

  before_some : (f : Field) (o : Option (List Field)) (fs : List Field) → before f o ≡ Some fs → (gs : List Field) × (o ≡ Some gs) × (fs ≡ f ∷ gs)
  before_some f None fs e = cc
  before_some f (Some gs) fs e = (gs, refl, cc)

  filled_one : (s : List ℕ) (at x n : ℕ) (gs : List Field) → 0 < n → Filled gs → Filled (field x (stamps_at s at n) ∷ gs)
  filled_one s at x zero gs h g = absurd (omega arith)
  filled_one s at x (suc n) gs h g = g

  -- bytes that are read as fields are those fields' bytes; they fit, and none is empty
  fields-written : (k at : ℕ) (fs : List Field) → fields_at k s at ≡ Some fs → (drop at s ≡ order_of fs) × Fits fs × Filled fs
  unfolding fields_at
  fields-written zero at fs = λ e. cc
  fields-written (suc k) at fs =
      found_by s at (λ d. after (fields_at k s) s at d ≡ Some fs → (drop at s ≡ order_of fs) × Fits fs × Filled fs)
      (λ l e. let q : fs ≡ [] = cc in rw q (drop_of_length-le s l, tt, tt))
      (λ x n t e.
      let r = before_some _ (fields_at k s (next_at at n)) fs e in
      let ih = fields-written k (next_at at n) r.0 r.1 in
      rw r.2 (
        stands_written at x n t ∙ ap (λ (l : List ℕ). field_of x (stamps_at s (at + 4) n) ++ l) ih.0,
        (stands_fits at x n t, ih.1),
        filled_one s (at + 4) x n r.0 t.some ih.2,
      ))
      (λ e. cc)

-- bytes that are read as an order are its fields' bytes; these fit, and none is empty
pub written_read : (s : List ℕ) → Bytes s → (fs : List Field) → read_order s ≡ Some fs → (s ≡ order_of fs) × Fits fs × Filled fs
unfolding read_order read_from
written_read s b fs e = fields-written s b (suc (length s - 0)) 0 fs e

-- ---- step by step

-- any number of steps that suffices gives the same
stable : (s : List ℕ) (k m at : ℕ) → length s - at < k → length s - at < m → fields_at k s at ≡ fields_at m s at
unfolding fields_at
stable s zero m at h g = absurd (omega arith)
stable s (suc k) zero at h g = absurd (omega arith)
stable s (suc k) (suc m) at h g =
    found_by s at (λ d. after (fields_at k s) s at d ≡ after (fields_at m s) s at d)
    (λ _. refl)
    (λ x n t. let w = t.within in ap (before (field x (stamps_at s (at + 4) n))) (stable s k m (next_at at n) (omega arith) (omega arith)))
    refl

module _ (s : List ℕ) (at : ℕ) where
  -- a field, then the rest
  pub step_field : (x n : ℕ) → StandsAt s at x n → read_from s at ≡ before (field x (stamps_at s (at + 4) n)) (read_from s (next_at at n))
  unfolding read_from fields_at
  step_field x n t =
      let w = t.within in
      rw (stands_found s at x n t) (ap (before (field x (stamps_at s (at + 4) n)))
      (stable s (length s - at) (suc (length s - next_at at n)) (next_at at n) (omega arith) (omega arith)))

  pub step_end : found_at s at ≡ at_end → read_from s at ≡ Some []
  unfolding read_from fields_at
  step_end e = rw e

  pub step_bad : found_at s at ≡ bad → read_from s at ≡ None
  unfolding read_from fields_at
  step_bad e = rw e
