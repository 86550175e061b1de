-- Where no item has two committed versions, a log has one right version order: a list of one number is known by its member, and fields are known by their
-- lists.
-- Assumes nothing.
use Prim.Native.Nat.{ℕ}
use native.Mathlib.Omega.{arith}
use mathlib.Core.Path.{◌≡◌, refl, sym, ap, ◌∙◌, subst}
use mathlib.Core.List.Memᴰ
use mathlib.Core.List.{List, [], ◌∷◌}
use mathlib.Core.Bool.{Bool, true, false, cond}
use lib.Dec.{eqb}
use Rattle.lists.specs.Member.{◌∈◌, Rising}
use Rattle.lists.specs.Order.{Distinct}
use Rattle.lists.proofs.OrderLaws.{in_nil}
use Rattle.lists.proofs.RisingLaws.{rising_same}
use Rattle.log_format.specs.Events.{Event}
use Rattle.serial_theory.specs.Cases.{order}
use Rattle.order_rules.specs.Fields.{Field, order_of, vs_of}
use Rattle.order_rules.specs.Right.{RightOrder}
use Rattle.order_rules.proofs.RightLaws.{passes_right}
use Rattle.order_rules.proofs.UpwardLaws.{fields_same}
use Rattle.cases.specs.Items.{Items, over}
use Rattle.cases.specs.PageTable.{OnlyOrder}
use Rattle.cases.proofs.OverLaws.{well_over}
use Rattle.cases.proofs.PlacedLaws.{Placed, versions-over}
use Rattle.cases.proofs.JudgesLaws.{Base}

-- ---- lists of at most one number

abbrev pub Single : List ℕ → Type 0
Single l = (j k : ℕ) → j ∈ l → k ∈ l → j ≡ k

pub none_single : Single []
none_single j k m n = in_nil m

pub one_single : (a : ℕ) → Single (a ∷ [])
one_single a j k m n = is j m ∙ sym (is k n)
  where
    is : (i : ℕ) → i ∈ a ∷ [] → i ≡ a
    is i (Memᴰ.head e) = e
    is i (Memᴰ.tail m) = in_nil m

pub order_single : (xs ys : List ℕ) → Single xs → Single ys → (i : ℕ) → Single (order xs ys i)
order_single xs ys p q i = go (eqb i 0) (eqb i 1)
  where
    go : (b c : Bool) → Single (cond b xs (cond c ys []))
    go true c = p
    go false true = q
    go false false = none_single

single_rises : (l : List ℕ) → Distinct l → Single l → Rising 0 l
single_rises [] d s = tt
single_rises (a ∷ []) d s = (omega arith, tt)
single_rises (a ∷ b ∷ l) d s =
    absurd (d.0 (subst (λ (k : ℕ). k ∈ b ∷ l) (s b a (Memᴰ.tail (Memᴰ.head refl)) (Memᴰ.head refl)) (Memᴰ.head refl)))

-- ---- the only order

module _ (x y : ℕ) (it : Items x y) (log : List Event) (fs : List Field) (vs : ℕ → List ℕ) (b : Base log vs) (p : Placed x y it fs vs) (one : (i : ℕ) → Single (vs i)) where
  single : (z : ℕ) → Single (vs_of fs z)
  single z j k m n =
      let o = p.only z j m in
      let e : vs_of fs z ≡ vs o.0 = ap (vs_of fs) o.2 ∙ p.alike o.0 o.1 in
      one o.0 j k (subst (λ (l : List ℕ). j ∈ l) e m) (subst (λ (l : List ℕ). k ∈ l) e n)

  module _ (s : List ℕ) (r : RightOrder (over x y log) s) where
    -- a member of its list is one of ours, and the other way round
    ours : (z k : ℕ) → k ∈ vs_of r.fields z → k ∈ vs_of fs z
    ours z k m = (versions-over x y it log b.uses fs vs b.lists p z).all k ((r.versions z).only k m)

    theirs : (z k : ℕ) → k ∈ vs_of fs z → k ∈ vs_of r.fields z
    theirs z k m = (r.versions z).all k ((versions-over x y it log b.uses fs vs b.lists p z).only k m)

    same : (z : ℕ) → vs_of r.fields z ≡ vs_of fs z
    same z =
        rising_same 0 0 (vs_of r.fields z) (vs_of fs z)
        (single_rises (vs_of r.fields z) (r.versions z).once (λ j k m n. single z j k (ours z j m) (ours z k n)))
        (single_rises (vs_of fs z) (versions-over x y it log b.uses fs vs b.lists p z).once (single z))
        (λ k. (ours z k, theirs z k))

    only_right : s ≡ order_of fs
    only_right = r.bytes ∙ ap order_of (fields_same 0 r.fields fs r.rise p.rise r.filled p.filled same)

  pub only_order : OnlyOrder (over x y log) fs
  only_order s c e = only_right s (passes_right (over x y log) (well_over x y it log b.uses b.well) s c e)
