-- Fields that go up through the items, one for each item with a version: the items rise, none is empty, and each item's list is its own. Fields of rising
-- items, none empty, are known by their lists alone. Those of the nodes that wrote an item rise with the nodes.
-- Assumes nothing.
use Prim.Native.Nat.{ℕ, zero, suc, ◌+◌, ◌*◌, ◌≤◌, ◌<◌}
use native.Mathlib.Omega.{arith}
use mathlib.Core.Path.{◌≡◌, refl, sym, ap, ap₂, ◌∙◌, subst}
use mathlib.Core.List.Memᴰ
use mathlib.Core.List.{List, [], ◌∷◌}
use mathlib.Core.Bool.{Bool, true, false, cond}
use lib.Dec.{eqb}
use lib.ListN.{length, length-append}
use borrow.Author.Tests.{eq-eqb, ne_eqb, eqb-true, eqb-false}
use Rattle.lists.specs.Member.{◌∈◌, Rising}
use Rattle.lists.proofs.OrderLaws.{in_nil}
use Rattle.lists.proofs.RisingLaws.{rising_lower}
use Rattle.lists.proofs.TestLaws.{differ, differs}
use Rattle.history_rules.specs.Faults as faults
use Rattle.order_rules.specs.Fields.{Field, field, field_of, order_of, items, vs_of, Filled, FieldFits, Fits}
use Rattle.order_rules.specs.Timestamps.{with_field, fields_up, versions_by}
use Rattle.order_rules.proofs.ReadingLaws.{length_field}
use Rattle.order_rules.proofs.RightLaws.{vs_below}

-- ---- those of the nodes that wrote an item

module _ (wr : ℕ → ℕ → ℕ) (x : ℕ) where
  pub versions_in : (nodes : List ℕ) (k : ℕ) → k ∈ versions_by wr nodes x → (k ∈ nodes) × (¬ (wr k x ≡ 0))
  unfolding versions_by
  versions_in [] k m = in_nil m
  versions_in (i ∷ nodes) k m = go (faults.differ (wr i x) 0) refl m (versions_in nodes k)
    where
      go : (b : Bool) → faults.differ (wr i x) 0 ≡ b → k ∈ cond b (i ∷ versions_by wr nodes x) (versions_by wr nodes x)
          → (k ∈ versions_by wr nodes x → (k ∈ nodes) × (¬ (wr k x ≡ 0))) → (k ∈ i ∷ nodes) × (¬ (wr k x ≡ 0))
      go true e (Memᴰ.head q) ih = (Memᴰ.head q, λ z. differ (wr i x) 0 e (ap (λ (j : ℕ). wr j x) (sym q) ∙ z))
      go true e (Memᴰ.tail n) ih = (Memᴰ.tail (ih n).0, (ih n).1)
      go false e n ih = (Memᴰ.tail (ih n).0, (ih n).1)

  pub in_versions : (nodes : List ℕ) (k : ℕ) → k ∈ nodes → ¬ (wr k x ≡ 0) → k ∈ versions_by wr nodes x
  unfolding versions_by
  in_versions [] k m n = in_nil m
  in_versions (i ∷ nodes) k (Memᴰ.head q) n = rw (differs (wr i x) 0 (λ z. n (ap (λ (j : ℕ). wr j x) q ∙ z))) (Memᴰ.head q)
  in_versions (i ∷ nodes) k (Memᴰ.tail m) n = go (faults.differ (wr i x) 0) (in_versions nodes k m n)
    where
      go : (b : Bool) → k ∈ versions_by wr nodes x → k ∈ cond b (i ∷ versions_by wr nodes x) (versions_by wr nodes x)
      go true ih = Memᴰ.tail ih
      go false ih = ih

  pub versions_rising : (nodes : List ℕ) (n : ℕ) → Rising n nodes → Rising n (versions_by wr nodes x)
  unfolding versions_by
  versions_rising [] n r = tt
  versions_rising (i ∷ nodes) n r = go (faults.differ (wr i x) 0) (versions_rising nodes (suc i) r.1)
    where
      go : (b : Bool) → Rising (suc i) (versions_by wr nodes x) → Rising n (cond b (i ∷ versions_by wr nodes x) (versions_by wr nodes x))
      go true ih = (r.0, ih)
      go false ih = let h = r.0 in rising_lower n (suc i) (versions_by wr nodes x) (omega arith) ih

  pub versions_few : (nodes : List ℕ) → length (versions_by wr nodes x) ≤ length nodes
  unfolding versions_by
  versions_few [] = omega arith
  versions_few (i ∷ nodes) = go (faults.differ (wr i x) 0) (versions_few nodes)
    where
      go : (b : Bool) → length (versions_by wr nodes x) ≤ length nodes
          → length (cond b (i ∷ versions_by wr nodes x) (versions_by wr nodes x)) ≤ suc (length nodes)
      go true ih = omega arith
      go false ih = omega arith

-- ---- the fields of the items, going up

module _ (vs : ℕ → List ℕ) where
  with_rising : (x n : ℕ) (ks : List ℕ) (fs : List Field) → n ≤ x → Rising (suc x) (items fs) → Rising n (items (with_field x ks fs))
  with_rising x n [] fs h r = rising_lower n (suc x) (items fs) (omega arith) r
  with_rising x n (k ∷ ks) fs h r = (h, r)

  pub up_rising : (n x : ℕ) → Rising x (items (fields_up vs n x))
  unfolding fields_up
  up_rising zero x = tt
  up_rising (suc n) x = with_rising x x (vs x) (fields_up vs n (suc x)) (omega arith) (up_rising n (suc x))

  with_filled : (x : ℕ) (ks : List ℕ) (fs : List Field) → Filled fs → Filled (with_field x ks fs)
  with_filled x [] fs f = f
  with_filled x (k ∷ ks) fs f = f

  pub up_filled : (n x : ℕ) → Filled (fields_up vs n x)
  unfolding fields_up
  up_filled zero x = tt
  up_filled (suc n) x = with_filled x (vs x) (fields_up vs n (suc x)) (up_filled n (suc x))

  with_fits : (x : ℕ) (ks : List ℕ) (fs : List Field) → FieldFits x ks → Fits fs → Fits (with_field x ks fs)
  with_fits x [] fs h f = f
  with_fits x (k ∷ ks) fs h f = (h, f)

  pub up_fits : (n x : ℕ) → ((y : ℕ) → y < x + n → FieldFits y (vs y)) → Fits (fields_up vs n x)
  unfolding fields_up
  up_fits zero x h = tt
  up_fits (suc n) x h = with_fits x (vs x) (fields_up vs n (suc x)) (h x (omega arith)) (up_fits n (suc x) (λ y l. h y (omega arith)))

  -- the list of an item among them is its own; another item has none
  with_vs : (x : ℕ) (ks : List ℕ) (fs : List Field) → Rising (suc x) (items fs) → (y : ℕ) → vs_of (with_field x ks fs) y ≡ cond (eqb y x) ks (vs_of fs y)
  unfolding vs_of
  with_vs x [] fs r y = go (eqb y x) refl
    where
      go : (b : Bool) → eqb y x ≡ b → vs_of fs y ≡ cond b [] (vs_of fs y)
      go true e = let q = eqb-true y x e in vs_below (suc x) fs r y (omega arith)
      go false e = refl
  with_vs x (k ∷ ks) fs r y = refl

  pub up_vs : (n x y : ℕ) → x ≤ y → y < x + n → vs_of (fields_up vs n x) y ≡ vs y
  unfolding fields_up
  up_vs zero x y h l = absurd (omega arith)
  up_vs (suc n) x y h l = with_vs x (vs x) (fields_up vs n (suc x)) (up_rising n (suc x)) y ∙ go (eqb y x) refl (λ p. up_vs n (suc x) y p (omega arith))
    where
      go : (b : Bool) → eqb y x ≡ b → (suc x ≤ y → vs_of (fields_up vs n (suc x)) y ≡ vs y) → cond b (vs x) (vs_of (fields_up vs n (suc x)) y) ≡ vs y
      go true e ih = ap vs (sym (eqb-true y x e))
      go false e ih = let z = eqb-false y x e in ih (omega (arith, z))

  pub up_none : (n x y : ℕ) → x + n ≤ y → vs_of (fields_up vs n x) y ≡ []
  unfolding fields_up vs_of
  up_none zero x y h = refl
  up_none (suc n) x y h =
      with_vs x (vs x) (fields_up vs n (suc x)) (up_rising n (suc x)) y ∙ rw (ne_eqb y x (λ e. absurd (omega arith))) (up_none n (suc x) y (omega arith))

-- ---- its length

-- the bytes of an item's field: none without a version
abbrev pub field_size : List ℕ → ℕ
field_size [] = 0
field_size (k ∷ ks) = 4 + 4 * length (k ∷ ks)

pub length_with : (x : ℕ) (ks : List ℕ) (fs : List Field) → length (order_of (with_field x ks fs)) ≡ field_size ks + length (order_of fs)
length_with x [] fs = omega arith
length_with x (k ∷ ks) fs =
    let l = length-append (field_of x (k ∷ ks)) (order_of fs) in
    let n = length_field x (k ∷ ks) in
    omega arith

pub length_up : (vs : ℕ → List ℕ) (m n x : ℕ) → ((y : ℕ) → length (vs y) ≤ m) → length (order_of (fields_up vs n x)) ≤ n * (4 + 4 * m)
unfolding fields_up
length_up vs m zero x h = omega arith
length_up vs m (suc n) x h =
    let l = length_with x (vs x) (fields_up vs n (suc x)) in
    let ih = length_up vs m n (suc x) h in
    let s = size (vs x) (h x) in
    let p : suc n * (4 + 4 * m) ≡ 4 + 4 * m + n * (4 + 4 * m) = step n (4 + 4 * m) in
    omega arith
  where
    size : (ks : List ℕ) → length ks ≤ m → field_size ks ≤ 4 + 4 * m
    size [] h = omega arith
    size (k ∷ ks) h = omega arith

    step : (a b : ℕ) → suc a * b ≡ b + a * b
    step a b = omega arith

-- ---- fields are known by their lists

no_cons : {X : Type 0} {k : ℕ} {ks : List ℕ} → [] ≡ k ∷ ks → X
no_cons e = let z : ◌≡◌ {A = ℕ} 0 1 = cc in absurd (omega arith)

same_first : (x : ℕ) (ks : List ℕ) (fs : List Field) → vs_of (field x ks ∷ fs) x ≡ ks
unfolding vs_of
same_first x ks fs = rw (eq-eqb x x refl)

-- fields of rising items, none empty, with the same lists are the same fields
pub fields_same : (n : ℕ) (fs gs : List Field) → Rising n (items fs) → Rising n (items gs) → Filled fs → Filled gs
    → ((x : ℕ) → vs_of fs x ≡ vs_of gs x) → fs ≡ gs
unfolding vs_of
fields_same n [] [] r s f g h = refl
fields_same n [] (field y [] ∷ gs) r s f g h = absurd g
fields_same n [] (field y (k ∷ ks) ∷ gs) r s f g h = no_cons (h y ∙ same_first y (k ∷ ks) gs)
fields_same n (field x [] ∷ fs) gs r s f g h = absurd f
fields_same n (field x (j ∷ js) ∷ fs) [] r s f g h = no_cons (sym (h x) ∙ same_first x (j ∷ js) fs)
fields_same n (field x (j ∷ js) ∷ fs) (field y [] ∷ gs) r s f g h = absurd g
fields_same n (field x (j ∷ js) ∷ fs) (field y (k ∷ ks) ∷ gs) r s f g h =
    let q : x ≡ y = meet x j js fs y k ks gs r.1 s.1 h in
    let v : j ∷ js ≡ k ∷ ks = sym (same_first x (j ∷ js) fs) ∙ h x ∙ ap (vs_of (field y (k ∷ ks) ∷ gs)) q ∙ same_first y (k ∷ ks) gs in
    let ih = fields_same (suc x) fs gs r.1 (subst (λ (i : ℕ). Rising (suc i) (items gs)) (sym q) s.1) f g (rest q) in
    ap₂ (λ (a : Field) (l : List Field). a ∷ l) (ap₂ (λ (a : ℕ) (l : List ℕ). field a l) q v) ih
  where
    meet : (x j : ℕ) (js : List ℕ) (fs : List Field) (y k : ℕ) (ks : List ℕ) (gs : List Field) → Rising (suc x) (items fs) → Rising (suc y) (items gs)
        → ((z : ℕ) → vs_of (field x (j ∷ js) ∷ fs) z ≡ vs_of (field y (k ∷ ks) ∷ gs) z) → x ≡ y
    meet x j js fs y k ks gs r s h =
        let below : ¬ (x < y) = λ l. no_cons (sym (vs_below y (field y (k ∷ ks) ∷ gs) (omega arith, s) x l) ∙ sym (h x) ∙ same_first x (j ∷ js) fs) in
        let above : ¬ (y < x) = λ l. no_cons (sym (vs_below x (field x (j ∷ js) ∷ fs) (omega arith, r) y l) ∙ h y ∙ same_first y (k ∷ ks) gs) in
        omega (arith, below, above)

    rest : x ≡ y → (z : ℕ) → vs_of fs z ≡ vs_of gs z
    rest q z = go (eqb z x) (eqb z y) refl refl (h z)
      where
        go : (b c : Bool) → eqb z x ≡ b → eqb z y ≡ c → cond b (j ∷ js) (vs_of fs z) ≡ cond c (k ∷ ks) (vs_of gs z) → vs_of fs z ≡ vs_of gs z
        go true c e d i =
            let p = eqb-true z x e in
            vs_below (suc x) fs r.1 z (omega arith) ∙ sym (vs_below (suc y) gs s.1 z (omega arith))
        go false true e d i = let p = eqb-true z y d in absurd (eqb-false z x e (p ∙ sym q))
        go false false e d i = i
