-- The version orders of the cases over two items. A field for x alone, and one for each of x and y with the smaller item first, have the lists that 0 and 1
-- have, and no other item has one; so they list the committed versions of the log over x and y where these do of the log.
-- Assumes nothing.
use Prim.Native.Nat.{ℕ, zero, suc, ◌≤◌, ◌<◌, ◌^◌}
use native.Mathlib.Omega.{arith}
use mathlib.Core.Path.{◌≡◌, refl, sym, ap, ◌∙◌, subst}
use mathlib.Core.List.Memᴰ
use mathlib.Core.List.{List, [], ◌∷◌}
use mathlib.Core.Bool.{Bool, true, false, cond}
use lib.Dec.{eqb}
use lib.ListN.{length}
use borrow.Author.Tests.{eq-eqb, ne_eqb, eqb-true, ltb-true, ltb-false}
use Rattle.lists.specs.Member.{◌∈◌, Rising}
use Rattle.lists.specs.Order.{Distinct}
use Rattle.lists.proofs.ChoiceLaws.{cond_by}
use Rattle.lists.proofs.OrderLaws.{in_nil}
use Rattle.log_format.specs.Events.{Event}
use Rattle.serial_theory.specs.Edges.{Version, VersionOrder}
use Rattle.serial_theory.specs.Cases.{order}
use Rattle.order_rules.specs.Fields.{Field, field, items, vs_of, Filled, FieldFits, Fits, body_of}
use Rattle.cases.specs.Items.{Items, item_over, over, fields_for}
use Rattle.cases.proofs.OverLaws.{Uses, done-over, over_done, put-over, over-put}

-- what fits a field
pub record Short (ks : List ℕ) : Type 0 where
  pub stamps : (k : ℕ) → k ∈ ks → k < 2 ^ 32
  pub body : body_of (length ks) < 65536

fits : (z : ℕ) (ks : List ℕ) → z ≤ 63 → Short ks → FieldFits z ks
fits z ks h s = record { item = omega arith; stamps = s.stamps; body = s.body }

module _ (x y : ℕ) (it : Items x y) where
  abbrev name : ℕ → ℕ
  name = item_over x y

  -- the fields have the lists vs, under the names of 0 and 1, and nothing else
  pub record Placed (fs : List Field) (vs : ℕ → List ℕ) : Type 0 where
    pub fit : Fits fs
    pub filled : Filled fs
    pub rise : Rising 0 (items fs)
    pub alike : (i : ℕ) → i ≤ 1 → vs_of fs (name i) ≡ vs i
    pub only : (z k : ℕ) → k ∈ vs_of fs z → (i : ℕ) × (i ≤ 1) × (z ≡ name i)

  -- ---- the fields

  pub one : (k : ℕ) (ks : List ℕ) → Short (k ∷ ks) → Placed (field x (k ∷ ks) ∷ []) (order (k ∷ ks) [])
  unfolding vs_of
  one k ks s = record { fit = (fits x (k ∷ ks) it.first s, tt); filled = tt; rise = (omega arith, tt); alike = alike; only = λ z n m. only z n (eqb z x) refl m }
    where
      alike : (i : ℕ) → i ≤ 1 → vs_of (field x (k ∷ ks) ∷ []) (name i) ≡ order (k ∷ ks) [] i
      alike zero h = rw (eq-eqb x x refl)
      alike (suc zero) h = rw (ne_eqb y x (λ e. it.apart (sym e)))
      alike (suc (suc i)) h = absurd (omega arith)

      only : (z n : ℕ) (b : Bool) → eqb z x ≡ b → n ∈ cond b (k ∷ ks) [] → (i : ℕ) × (i ≤ 1) × (z ≡ name i)
      only z n true e m = (0, omega arith, eqb-true z x e)
      only z n false e m = in_nil m

  pub two : (k : ℕ) (ks : List ℕ) (l : ℕ) (ls : List ℕ) → Short (k ∷ ks) → Short (l ∷ ls) → Placed (fields_for x (k ∷ ks) y (l ∷ ls)) (order (k ∷ ks) (l ∷ ls))
  unfolding vs_of
  two k ks l ls s t = cond_by (λ (fs : List Field). Placed fs (order (k ∷ ks) (l ∷ ls))) _ (λ e. rising (ltb-true _ _ e)) (λ e. falling (ltb-false _ _ e))
    where
      up : (i : ℕ) → i ≤ 1 → vs_of (field x (k ∷ ks) ∷ field y (l ∷ ls) ∷ []) (name i) ≡ order (k ∷ ks) (l ∷ ls) i
      up zero h = rw (eq-eqb x x refl)
      up (suc zero) h = rw (ne_eqb y x (λ e. it.apart (sym e)), eq-eqb y y refl)
      up (suc (suc i)) h = absurd (omega arith)

      down : (i : ℕ) → i ≤ 1 → vs_of (field y (l ∷ ls) ∷ field x (k ∷ ks) ∷ []) (name i) ≡ order (k ∷ ks) (l ∷ ls) i
      down zero h = rw (ne_eqb x y it.apart, eq-eqb x x refl)
      down (suc zero) h = rw (eq-eqb y y refl)
      down (suc (suc i)) h = absurd (omega arith)

      only : (z n a b : ℕ) (p q : Bool) → eqb z a ≡ p → eqb z b ≡ q → (us vs : List ℕ) → n ∈ cond p us (cond q vs []) → (i j : ℕ) → i ≤ 1 → j ≤ 1 → a ≡ name i → b ≡ name j
          → (h : ℕ) × (h ≤ 1) × (z ≡ name h)
      only z n a b true q e f us vs m i j u v c d = (i, u, eqb-true z a e ∙ c)
      only z n a b false true e f us vs m i j u v c d = (j, v, eqb-true z b f ∙ d)
      only z n a b false false e f us vs m i j u v c d = in_nil m

      rising : x < y → Placed (field x (k ∷ ks) ∷ field y (l ∷ ls) ∷ []) (order (k ∷ ks) (l ∷ ls))
      rising h = record {
        fit = (fits x (k ∷ ks) it.first s, (fits y (l ∷ ls) it.second t, tt));
        filled = tt;
        rise = (omega arith, (omega arith, tt));
        alike = up;
        only = λ z n m. only z n x y (eqb z x) (eqb z y) refl refl (k ∷ ks) (l ∷ ls) m 0 1 (omega arith) (omega arith) refl refl;
      }

      falling : y ≤ x → Placed (field y (l ∷ ls) ∷ field x (k ∷ ks) ∷ []) (order (k ∷ ks) (l ∷ ls))
      falling h = let d = it.apart in record {
        fit = (fits y (l ∷ ls) it.second t, (fits x (k ∷ ks) it.first s, tt));
        filled = tt;
        rise = (omega arith, (omega arith, tt));
        alike = down;
        only = λ z n m. only z n y x (eqb z y) (eqb z x) refl refl (l ∷ ls) (k ∷ ks) m 1 0 (omega arith) (omega arith) refl refl;
      }

  -- ---- they list the committed versions

  module _ (log : List Event) (u : Uses log) (fs : List Field) (vs : ℕ → List ℕ) (vo : VersionOrder log vs) (p : Placed fs vs) where
    once : (z : ℕ) (l : List ℕ) → vs_of fs z ≡ l → Distinct l
    once z [] e = tt
    once z (k ∷ l) e =
        let o = p.only z k (subst (λ (m : List ℕ). k ∈ m) (sym e) (Memᴰ.head refl)) in
        subst Distinct (sym (p.alike o.0 o.1) ∙ ap (vs_of fs) (sym o.2) ∙ e) (vo o.0).once

    all : (z k : ℕ) → Version (over x y log) z k → k ∈ vs_of fs z
    all z k v =
        let r = over-put x y it k z v.1.0 log u v.1.1 in
        let m = (vo r.0).all k (over_done x y it k log v.0, (v.1.0, r.3)) in
        subst (λ (l : List ℕ). k ∈ l) (sym (p.alike r.0 r.1) ∙ ap (vs_of fs) (sym r.2)) m

    listed : (z k : ℕ) → k ∈ vs_of fs z → Version (over x y log) z k
    listed z k m =
        let o = p.only z k m in
        let v = (vo o.0).only k (subst (λ (l : List ℕ). k ∈ l) (ap (vs_of fs) o.2 ∙ p.alike o.0 o.1) m) in
        subst (λ (i : ℕ). Version (over x y log) i k) (sym o.2) (done-over x y it k log v.0, (v.1.0, put-over x y it k o.0 v.1.0 log v.1.1))

    pub versions-over : VersionOrder (over x y log) (vs_of fs)
    versions-over z = record { once = once z (vs_of fs z) refl; all = all z; only = listed z }
