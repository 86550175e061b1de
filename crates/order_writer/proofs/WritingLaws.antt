-- Writing bytes piece by piece: what is written and what is left are always the whole, and each piece follows the one before it. The pieces of an item's
-- stamps are those of the nodes that wrote it; the pieces of an order are its items' fields.
-- Assumes nothing.
use Prim.Native.Nat.{ℕ, suc, ◌+◌, ◌-◌, ◌≤◌, ◌<◌}
use native.Mathlib.Nat.{add-zero}
use native.Mathlib.Omega.{arith}
use mathlib.Core.Path.{◌≡◌, refl, sym, ap, ◌∙◌}
use mathlib.Core.List.{List, [], ◌∷◌, ◌++◌, append_assoc, append-nil}
use mathlib.Core.Bool.{Bool, true, false, cond}
use lib.ListN.{length, drop, get_or, length-append, take-append-drop}
use lib.Seq.{drop-cons, drop-length}
use borrow.Author.Tests.{ne_eqb}
use Rattle.log_format.specs.Bytes.{bytes4, stamp_bytes, splice}
use Rattle.log_format.proofs.SpliceLaws.{and_then}
use Rattle.log_format.proofs.AppendLaws.{length-splice}
use Rattle.history_rules.specs.Faults.{differ}
use Rattle.std.specs.Prelude.{filter, count_by}
use Rattle.std.proofs.lemmas.List.Sums.{length-filter}
use Rattle.order_rules.specs.Fields.{Field, bytes2, body_of, order_of}
use Rattle.order_rules.specs.Right.{all_items}
use Rattle.order_rules.specs.Timestamps.{with_field, fields_up, versions_by, order_by, Wrote}
use Rattle.std.specs.Prelude.{Ok}
use Rattle.order_rules.proofs.UpwardLaws.{field_size, length_with}
use Rattle.order_rules.proofs.WroteLaws.{room}
use Rattle.order_writer.specs.Writing.{size_of, stamp_if, field_bytes, Placed}

-- ---- piece by piece

-- of the bytes `all`, to be written into b₀ from a place on, `left` are still to be written; b is the buffer now, and `at` the place after those written
pub record Writing (b₀ : List ℕ) (at₀ : ℕ) (all left b : List ℕ) (at : ℕ) : Type 0 where
  pub done : List ℕ
  pub whole : done ++ left ≡ all
  pub bytes : b ≡ splice b₀ at₀ done
  pub place : at ≡ at₀ + length done

module _ (b₀ : List ℕ) (at₀ : ℕ) (all : List ℕ) where
  pub writing_none : Writing b₀ at₀ all all b₀ at₀
  unfolding splice
  writing_none = record { done = []; whole = refl; bytes = sym (rw (add-zero, append-nil) (take-append-drop at₀ b₀)); place = omega arith }

  module _ (room : at₀ + length all ≤ length b₀) (left b : List ℕ) (at : ℕ) (w : Writing b₀ at₀ all left b at) where
    fits : at₀ + length w.done + length left ≤ length b₀
    fits = let e = length-append w.done left in let f = ap length w.whole in omega arith

    -- what is left fits the buffer, which is as long as it was
    pub writing_room : (at + length left ≤ length b) × (length b ≡ length b₀)
    writing_room =
        let p = w.place in
        let h = fits in
        let l : length b ≡ length b₀ = ap length w.bytes ∙ length-splice b₀ at₀ w.done (omega arith) in
        (omega arith, l)

    -- one piece more
    pub writing_next : (e left' : List ℕ) → left ≡ e ++ left' → (r : ℕ) (b' : List ℕ) → Placed b at e r b' → Writing b₀ at₀ all left' b' r
    writing_next e left' s r b' p =
        let h = fits in
        let l = ap length s in
        let m = length-append e left' in
        let q = w.place in
        let n = length-append w.done e in
        let o = p.place in
        record {
          done = w.done ++ e;
          whole = append_assoc w.done e left' ∙ ap (λ (t : List ℕ). w.done ++ t) (sym s) ∙ w.whole;
          bytes = and_then b₀ b b' at₀ at w.done e w.bytes p.bytes q (omega arith);
          place = omega arith;
        }

  -- nothing left
  pub writing_end : (left b : List ℕ) (at : ℕ) → Writing b₀ at₀ all left b at → left ≡ [] → Placed b₀ at₀ all at b
  writing_end left b at w e =
      let d : w.done ≡ all = sym (append-nil w.done) ∙ ap (λ (t : List ℕ). w.done ++ t) (sym e) ∙ w.whole in
      record { place = w.place ∙ rw d; bytes = w.bytes ∙ rw d }

-- where what is left fits, its first piece does
pub piece_room : (e left' left : List ℕ) (at n : ℕ) → left ≡ e ++ left' → at + length left ≤ n → at + length e ≤ n
piece_room e left' left at n s h =
    let l = ap length s in
    let m = length-append e left' in
    omega arith

-- no bytes are written by doing nothing
pub placed_empty : (b : List ℕ) (at : ℕ) (e : List ℕ) → e ≡ [] → Placed b at e at b
unfolding splice
placed_empty b at e q = record { place = rw (q, add-zero); bytes = sym (rw (q, add-zero, append-nil) (take-append-drop at b)) }

-- ---- an item's stamps

module _ (wr : ℕ → ℕ → ℕ) (x : ℕ) where
  stamps_first : (i : ℕ) (l : List ℕ) → stamp_bytes (versions_by wr (i ∷ l) x) ≡ stamp_if wr x i ++ stamp_bytes (versions_by wr l x)
  unfolding versions_by
  stamps_first i l = go (differ (wr i x) 0)
    where
      go : (b : Bool) → stamp_bytes (cond b (i ∷ versions_by wr l x) (versions_by wr l x)) ≡ cond b (bytes4 i) [] ++ stamp_bytes (versions_by wr l x)
      go true = refl
      go false = refl

  -- the piece of the next node
  pub stamps_next : (nodes : List ℕ) (i : ℕ) → i < length nodes → stamp_bytes (versions_by wr (drop i nodes) x)
      ≡ stamp_if wr x (get_or nodes i 0) ++ stamp_bytes (versions_by wr (drop (i + 1) nodes) x)
  stamps_next nodes i h =
      let z : i + 1 ≡ suc i = omega arith in
      rw (z, drop-cons nodes i 0 h) (stamps_first (get_or nodes i 0) (drop (suc i) nodes))

  -- no node left
  pub stamps_none : (nodes : List ℕ) → stamp_bytes (versions_by wr (drop (length nodes) nodes) x) ≡ []
  unfolding versions_by
  stamps_none nodes = rw drop-length

  filtered : (nodes : List ℕ) → filter (λ (i : ℕ). differ (wr i x) 0) nodes ≡ versions_by wr nodes x
  unfolding versions_by
  filtered [] = refl
  filtered (i ∷ nodes) = rw (← filtered nodes)

  -- the nodes that pass the test are counted
  pub versions_count : (nodes : List ℕ) → count_by (λ (i : ℕ). differ (wr i x) 0) nodes ≡ length (versions_by wr nodes x)
  versions_count nodes = sym (length-filter (λ (i : ℕ). differ (wr i x) 0) nodes) ∙ ap length (filtered nodes)

-- a stamp of which the test is known
module _ (wr : ℕ → ℕ → ℕ) (x k : ℕ) (b : List ℕ) (at : ℕ) where
  pub stamp_room : differ (wr k x) 0 ≡ true → at + length (stamp_if wr x k) ≤ length b → at + 4 ≤ length b
  stamp_room e h = rw e at h

  pub placed_stamp : (b' : List ℕ) → differ (wr k x) 0 ≡ true → b' ≡ splice b at (bytes4 k) → Placed b at (stamp_if wr x k) (at + 4) b'
  placed_stamp b' e s = record { place = rw e; bytes = rw e s }

  pub placed_none : differ (wr k x) 0 ≡ false → Placed b at (stamp_if wr x k) at b
  placed_none e = placed_empty b at (stamp_if wr x k) (rw e)

-- ---- an item's field

pub size_is : (ks : List ℕ) → field_size ks ≡ size_of (length ks)
size_is [] = refl
size_is (k ∷ ks) = rw (ne_eqb (suc (length ks)) 0 (λ e. absurd (omega arith)))

-- an item without a version
pub field_none : (x : ℕ) (ks : List ℕ) → length ks ≡ 0 → field_bytes x ks ≡ []
field_none x [] e = refl
field_none x (k ∷ ks) e = absurd (omega arith)

-- tag, length and item, then the stamps
pub field_parts : (x : ℕ) (ks : List ℕ) → ¬ (length ks ≡ 0) → field_bytes x ks ≡ (32 ∷ bytes2 (body_of (length ks)) ++ (x ∷ [])) ++ stamp_bytes ks
field_parts x [] n = absurd (n refl)
field_parts x (k ∷ ks) n = refl

module _ (x : ℕ) (ks : List ℕ) (v : ℕ) (is : v ≡ length ks) (b : List ℕ) (at : ℕ) where
  -- an item without a version has no field
  pub field_empty : v ≡ 0 → Placed b at (field_bytes x ks) at b
  field_empty z = placed_empty b at (field_bytes x ks) (field_none x ks (sym is ∙ z))

  module _ (n : ¬ (v ≡ 0)) (room : at + length (field_bytes x ks) ≤ length b) where
    abbrev front : List ℕ
    front = 32 ∷ bytes2 (body_of v) ++ (x ∷ [])

    parts : field_bytes x ks ≡ front ++ stamp_bytes ks
    parts = field_parts x ks (λ z. n (is ∙ z)) ∙ rw (← is)

    pub front_room : at + 4 ≤ length b
    front_room = piece_room front (stamp_bytes ks) (field_bytes x ks) at (length b) parts room

    -- the front is written, and the stamps after it
    module _ (b₁ : List ℕ) (s : b₁ ≡ splice b at front) where
      pub stamps_room : at + 4 + length (stamp_bytes ks) ≤ length b₁
      stamps_room =
          let l = ap length parts in
          let m = length-append front (stamp_bytes ks) in
          let k : length b₁ ≡ length b = ap length s ∙ length-splice b at front front_room in
          omega arith

      pub field_placed : (r : ℕ) (b₂ : List ℕ) → Placed b₁ (at + 4) (stamp_bytes ks) r b₂ → Placed b at (field_bytes x ks) r b₂
      field_placed r b₂ p =
          let l = ap length parts in
          let m = length-append front (stamp_bytes ks) in
          let q = p.place in
          record { place = omega arith; bytes = rw parts (and_then b b₁ b₂ at (at + 4) front (stamp_bytes ks) s p.bytes refl (omega arith)) }

order_with : (x : ℕ) (ks : List ℕ) (fs : List Field) → order_of (with_field x ks fs) ≡ field_bytes x ks ++ order_of fs
order_with x [] fs = refl
order_with x (k ∷ ks) fs = refl

-- ---- the items

module _ (vs : ℕ → List ℕ) (x : ℕ) (h : x < all_items) where
  up_next : fields_up vs (all_items - x) x ≡ with_field x (vs x) (fields_up vs (all_items - (x + 1)) (x + 1))
  unfolding fields_up
  up_next =
      let z : all_items - x ≡ suc (all_items - (x + 1)) = omega arith in
      let y : x + 1 ≡ suc x = omega arith in
      rw (z, y)

  -- the piece of the next item
  pub order_next : order_of (fields_up vs (all_items - x) x) ≡ field_bytes x (vs x) ++ order_of (fields_up vs (all_items - (x + 1)) (x + 1))
  order_next = rw up_next (order_with x (vs x) (fields_up vs (all_items - (x + 1)) (x + 1)))

  pub length_next : length (order_of (fields_up vs (all_items - x) x))
      ≡ size_of (length (vs x)) + length (order_of (fields_up vs (all_items - (x + 1)) (x + 1)))
  length_next = rw (up_next, ← size_is (vs x)) (length_with x (vs x) (fields_up vs (all_items - (x + 1)) (x + 1)))

-- no item left
pub order_none : (vs : ℕ → List ℕ) (x : ℕ) → all_items ≤ x → order_of (fields_up vs (all_items - x) x) ≡ []
unfolding fields_up
order_none vs x h = let z : all_items - x ≡ 0 = omega arith in rw z

-- at the first item all are left
pub order_all : (wr : ℕ → ℕ → ℕ) (nodes : List ℕ) → order_of (fields_up (versions_by wr nodes) (all_items - 0) 0) ≡ order_by wr nodes
unfolding order_by
order_all wr nodes = refl

-- all of an order is written
pub wrote_all : (b e : List ℕ) (n : ℕ) → n ≡ length e → length e ≤ length b → (b' : List ℕ) → b' ≡ splice b 0 e → Wrote b e (Ok n) b'
wrote_all b e n q h b' s = rw (q, s) (room b e h)
