-- The search for a version finds the one that the page speaks of, and there is only one. Along the list the version in hand is the
-- largest of those passed; where versions rise strictly and none has stamp 0, equal item and stamp is one version.
-- Assumes nothing.
use Prim.Native.Nat.{ℕ, suc, ◌≤◌, ◌<◌}
use mathlib.Core.Path.{◌≡◌, refl, sym, ◌∙◌, subst}
use mathlib.Core.List.Memᴰ
use mathlib.Core.List.{List, [], ◌∷◌}
use mathlib.Core.Logic.{◌⊎◌, inl, inr, ◌↔◌}
use native.Mathlib.Decide.{dec_le}
use native.Mathlib.Omega.{arith}
use Rattle.lists.specs.Member.{◌∈◌}
use Rattle.lists.proofs.ChoiceLaws.{pick_by}
use Rattle.scheduler_rules.specs.Model.{Version, Model, Under, under?, below, initial, chosen, beneath, Waits, Late, Before}
use Rattle.scheduler_rules.specs.Sound.{Sorted, Sound}
use Rattle.scheduler_rules.specs.Chosen.{NotAbove, Below, Largest}

-- ---- the search

-- u is the largest of z and the versions in l of x under b
record Best (x b : ℕ) (z : Version) (l : List Version) (u : Version) : Type 0 where
  from : (u ≡ z) ⊎ ((u ∈ l) × Under x b u)
  atz : z.stamp ≤ u.stamp
  top : (w : Version) → w ∈ l → Under x b w → w.stamp ≤ u.stamp

best : (x b : ℕ) (z : Version) (l : List Version) → Best x b z l (below x b z l)
unfolding below
best x b z [] = record { from = inl refl; atz = omega arith; top = λ w h. absurd (Memᴰ.not-nil h) }
best x b z (u ∷ l) = pick_by (λ (y : Version). Best x b z (u ∷ l) (below x b y l)) (under? x b u)
    (λ f. pick_by (λ (y : Version). Best x b z (u ∷ l) (below x b y l)) (dec_le z.stamp u.stamp)
    (λ le. take f le (best x b u l))
    (λ gt. leave (λ g. omega arith) (best x b z l)))
    (λ nf. leave (λ g. absurd (nf g)) (best x b z l))
  where
    take : {r : Version} → Under x b u → z.stamp ≤ u.stamp → Best x b u l r → Best x b z (u ∷ l) r
    take {r} f le h = record {
      from = elim h.from [ inl e ↦ inr (Memᴰ.head e, rw e f) | inr t ↦ inr (Memᴰ.tail t.0, t.1) ];
      atz = let a = h.atz in omega arith;
      top = λ w t i. elim (Memᴰ.cases_cons t) [ inl e ↦ (let a = h.atz in rw e a) | inr t2 ↦ h.top w t2 i ];
    }

    leave : {r : Version} → (Under x b u → u.stamp ≤ z.stamp) → Best x b z l r → Best x b z (u ∷ l) r
    leave {r} k h = record {
      from = elim h.from [ inl e ↦ inl e | inr t ↦ inr (Memᴰ.tail t.0, t.1) ];
      atz = h.atz;
      top = λ w t i. elim (Memᴰ.cases_cons t) [
        | inl e ↦ (let a = h.atz in let c = k (rw e at i) in rw e (omega arith))
        | inr t2 ↦ h.top w t2 i
      ];
    }

-- ---- the plain sentences

module _ (m : Model) (x : ℕ) where
  -- the version of x with the largest stamp under b
  pub below_is : (b : ℕ) → Largest m x (Below b) (below x b (initial m x) m.held)
  below_is b = let h = best x b (initial m x) m.held in record {
    from = elim h.from [ inl e ↦ inl e | inr t ↦ inr (t.0, t.1.0, t.1.1) ];
    top = λ w t e l. h.top w t (e, l);
  }

  -- TS3: a read meets the version of x with the largest stamp not above its own
  pub chosen_is : (k : ℕ) → Largest m x (NotAbove k) (chosen m x k)
  chosen_is k = let h = below_is (suc k) in record {
    from = elim h.from [ inl e ↦ inl e | inr t ↦ inr (t.0, t.1, (let a = t.2 in omega arith)) ];
    top = λ w t e l. h.top w t e (omega arith);
  }

  -- a write lies over the version of x with the largest stamp below its own
  pub beneath_is : (i : ℕ) → Largest m x (Below i) (beneath m x i)
  beneath_is i = below_is i

  -- its stamp is allowed, if 0 is
  pub allowed : {A : ℕ → Type 0} (u : Version) → A 0 → Largest m x A u → A u.stamp
  allowed {A} u z h = elim h.from [ inl e ↦ subst (λ (w : Version). A w.stamp) (sym e) z | inr t ↦ t.2 ]

-- ---- there is only one

-- a version does not stand before one of its own item and stamp
pub apart : (u w : Version) → Before u w → u.item ≡ w.item → u.stamp ≡ w.stamp → ⊥
apart u w (inl l) i s = omega arith
apart u w (inr l) i s = omega arith

-- two versions of one item and stamp in a rising list are the same one
pub one_place : (l : List Version) → Sorted l → (u w : Version) → u ∈ l → w ∈ l → u.item ≡ w.item → u.stamp ≡ w.stamp → u ≡ w
one_place [] s u w h g ei es = absurd (Memᴰ.not-nil h)
one_place (y ∷ l) s u w h g ei es = elim (Memᴰ.cases_cons h) [
  | inl e ↦ elim (Memᴰ.cases_cons g) [ inl f ↦ e ∙ sym f | inr t ↦ absurd (apart u w (rw e (s.0 w t)) ei es) ]
  | inr r ↦ elim (Memᴰ.cases_cons g) [ inl f ↦ absurd (apart w u (rw f (s.0 u r)) (sym ei) (sym es)) | inr t ↦ one_place l s.1 u w r t ei es ]
]

module _ (m : Model) (sound : Sound m) (x : ℕ) where
  pub largest_one : {A : ℕ → Type 0} (u w : Version) → Largest m x A u → Largest m x A w → u ≡ w
  largest_one {A} u w g h = go g.from h.from
    where
      go : (u ≡ initial m x) ⊎ ((u ∈ m.held) × (u.item ≡ x) × A u.stamp) → (w ≡ initial m x) ⊎ ((w ∈ m.held) × (w.item ≡ x) × A w.stamp) → u ≡ w
      go (inl e) (inl f) = e ∙ sym f
      go (inl e) (inr (t, i, a)) =
          let z : u.stamp ≡ 0 = rw e in let l = g.top w t i a in let p = (sound.proper w t).positive in absurd (omega arith)
      go (inr (t, i, a)) (inl f) =
          let z : w.stamp ≡ 0 = rw f in let l = h.top u t i a in let p = (sound.proper u t).positive in absurd (omega arith)
      go (inr (t, i, a)) (inr (s, j, b)) =
          let l = g.top w s j b in let r = h.top u t i a in one_place m.held sound.sorted u w t s (i ∙ sym j) (omega arith)

  -- a read waits on the one version that the page names
  pub waits_is : (k : ℕ) (u : Version) → Largest m x (NotAbove k) u → (Waits k (chosen m x k) m ↔ Waits k u m)
  waits_is k u h = let e = largest_one u (chosen m x k) h (chosen_is m x k) in (
    (λ q. rw e q),
    (λ q. rw e at q),
  )

  -- a write is late by the mark of the one version that the page names
  pub late_is : (i : ℕ) (u : Version) → Largest m x (Below i) u → (Late x i m ↔ i < u.mark)
  late_is i u h = let e = largest_one u (beneath m x i) h (beneath_is m x i) in (
    (λ q. rw e q),
    (λ q. rw e at q),
  )
