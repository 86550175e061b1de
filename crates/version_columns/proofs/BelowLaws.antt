-- Looking up a version in a sorted list: the largest stamp at or below k stands just before the place of (x, k), if what stands there is of x. One lookup serves reads and writes.
-- Assumes nothing.
use mathlib.Core.Path.{◌≡◌, refl, sym, ap, ◌∙◌, subst}
use mathlib.Core.Logic.{◌⊎◌, inl, inr, ⊎_elim, ◌≢◌, by_cases}
use mathlib.Core.List.Memᴰ
use mathlib.Core.List.{List, [], ◌∷◌, ◌++◌}
use Prim.Native.Nat.{ℕ, zero, suc, ◌≤◌, ◌<◌}
use native.Mathlib.Omega.{arith}
use native.Mathlib.Decide.{ℕ_discrete, dec_le}
use lib.ListN.{length, take, drop, get_or}
use Rattle.lists.specs.Choice.{pick}
use Rattle.lists.specs.Member.{◌∈◌}
use Rattle.lists.proofs.ChoiceLaws.{pick_yes, pick_no, pick_by}
use Rattle.scheduler_rules.specs.Model.{Version, Under, under?, below, Same, Wrote, Before, before?, put}
use Rattle.version_columns.specs.Lookup.{UpTo, up_to?, up_to, up_to_in}
use Rattle.scheduler_rules.specs.Sound.{Sorted}
use Rattle.version_columns.proofs.Bracket.{up_before}

-- u stands at or before the version of x by k
abbrev Reaches : ℕ → ℕ → Version → Type 0
Reaches x k u = UpTo x k u.item u.stamp

-- ---- the place of a version

module _ (x k : ℕ) (u : Version) (l : List Version) where
  up_to_yes : Reaches x k u → up_to x k (u ∷ l) ≡ suc (up_to x k l)
  unfolding up_to_in
  up_to_yes h = pick_yes (up_to? x k u.item u.stamp) (suc (up_to x k l)) 0 h

  up_to-no : ¬ Reaches x k u → up_to x k (u ∷ l) ≡ 0
  unfolding up_to_in
  up_to-no h = pick_no (up_to? x k u.item u.stamp) (suc (up_to x k l)) 0 h

  -- what a place past the first row says of that row
  up_to_cons : (p : ℕ) → up_to x k (u ∷ l) ≡ suc p → Reaches x k u × (up_to x k l ≡ p)
  up_to_cons p e =
      by_cases (up_to? x k u.item u.stamp)
      (λ h. (h, (let f = up_to_yes h in omega arith)))
      (λ h. absurd (let f = up_to-no h in omega arith))

  -- and the first place
  up_to_none : up_to x k (u ∷ l) ≡ 0 → ¬ Reaches x k u
  up_to_none e h = let f = up_to_yes h in omega arith

pub up_to_within : (x k : ℕ) (l : List Version) → up_to x k l ≤ length l
unfolding up_to_in
up_to_within x k [] = omega arith
up_to_within x k (u ∷ l) =
    pick_by (λ (r : ℕ). r ≤ suc (length l)) (up_to? x k u.item u.stamp) (λ h. omega (arith, up_to_within x k l)) (λ h. omega arith)

pub get_d_in : (l : List Version) (i : ℕ) (d : Version) → i < length l → get_or l i d ∈ l
get_d_in [] i d h = absurd (omega arith)
get_d_in (u ∷ l) zero d h = Memᴰ.head refl
get_d_in (u ∷ l) (suc i) d h = Memᴰ.tail (get_d_in l i d (omega arith))

-- every row before the place stands at or before
up_to_at : (x k : ℕ) (l : List Version) (i : ℕ) (d : Version) → i < up_to x k l → Reaches x k (get_or l i d)
up_to_at x k [] i d h = absurd (omega (arith, up_to_within x k []))
up_to_at x k (u ∷ l) zero d h =
    by_cases (up_to? x k u.item u.stamp) (λ y. y) (λ n. absurd (let f = up_to-no x k u l n in omega arith))
up_to_at x k (u ∷ l) (suc i) d h =
    by_cases (up_to? x k u.item u.stamp)
    (λ y. up_to_at x k l i d (let f = up_to_yes x k u l y in omega arith))
    (λ n. absurd (let f = up_to-no x k u l n in omega arith))

-- ---- the version that a lookup meets

below_skip : (x b : ℕ) (z : Version) (l : List Version) → ((u : Version) → u ∈ l → ¬ Under x b u) → below x b z l ≡ z
unfolding below
below_skip x b z [] n = refl
below_skip x b z (u ∷ l) n =
    rw (pick_no (under? x b u) (pick (dec_le z.stamp u.stamp) u z) z (n u (Memᴰ.head refl)))
    (below_skip x b z l (λ w t. n w (Memᴰ.tail t)))

-- what is under suc k stands at or before k
reaches : (x k : ℕ) (u : Version) → Under x (suc k) u → Reaches x k u
reaches x k u h = inr (h.0, omega (arith, h.1))

-- no row stands at or before: none is met
pub below-first : (x k : ℕ) (z : Version) (l : List Version) → Sorted l → up_to x k l ≡ 0 → below x (suc k) z l ≡ z
below-first x k z [] s e = below_skip x (suc k) z [] (λ u t. absurd (Memᴰ.not-nil t))
below-first x k z (u ∷ l) s e =
    let n : ¬ Reaches x k u = up_to_none x k u l e in
    below_skip x (suc k) z (u ∷ l) (λ w t h.
    ⊎_elim
    (λ (q : w ≡ u). n (subst (Reaches x k) q (reaches x k w h)))
    (λ (r : w ∈ l). n (up_before x k u.item u.stamp w.item w.stamp (s.0 w r) (reaches x k w h)))
    (Memᴰ.cases_cons t))

-- z's stamp is not above those of x's versions in l, up to k
abbrev Lower : ℕ → ℕ → Version → List Version → Type 0
Lower x k z l = (u : Version) → u ∈ l → Under x (suc k) u → z.stamp ≤ u.stamp

-- one row of the lookup
module _ (x b : ℕ) (z u : Version) where
  better_yes : Under x b u → z.stamp ≤ u.stamp → pick (under? x b u) (pick (dec_le z.stamp u.stamp) u z) z ≡ u
  better_yes h g = pick_yes (under? x b u) (pick (dec_le z.stamp u.stamp) u z) z h ∙ pick_yes (dec_le z.stamp u.stamp) u z g

  better_no : ¬ Under x b u → pick (under? x b u) (pick (dec_le z.stamp u.stamp) u z) z ≡ z
  better_no n = pick_no (under? x b u) (pick (dec_le z.stamp u.stamp) u z) z n

-- a row of x that stands at or before is under suc k
under : (x k : ℕ) (u : Version) → u.item ≡ x → Reaches x k u → Under x (suc k) u
under x k u i r = (i, ⊎_elim (λ g. absurd (omega arith)) (λ g. omega arith) r)

-- between two rows of x stand rows of x only
between : (x k : ℕ) (u w : Version) → u.item ≡ x → Before u w → Reaches x k w → w.item ≡ x
between x k u w i (inl b) (inl r) = omega arith
between x k u w i (inl b) (inr r) = r.0
between x k u w i (inr b) r = omega arith

-- stamps of one item rise
rises : (x : ℕ) (u w : Version) → u.item ≡ x → w.item ≡ x → Before u w → u.stamp ≤ w.stamp
rises x u w i j (inl b) = absurd (omega arith)
rises x u w i j (inr b) = omega arith

-- the row before the place is met if it is of x; else none is
below_at : (x k : ℕ) (z d : Version) (l : List Version) (p : ℕ) → Sorted l → Lower x k z l → up_to x k l ≡ suc p
    → ((get_or l p d).item ≡ x → below x (suc k) z l ≡ get_or l p d) × ((get_or l p d).item ≢ x → below x (suc k) z l ≡ z)
unfolding below
below_at x k z d [] p s a e = absurd (omega (arith, up_to_within x k []))
below_at x k z d (u ∷ l) zero s a e =
    let c = up_to_cons x k u l 0 e in (
      (λ i. let h = under x k u i c.0 in rw (better_yes x (suc k) z u h (a u (Memᴰ.head refl) h)) (below-first x k u l s.1 c.1)),
      (λ n. rw (better_no x (suc k) z u (λ h. n h.0)) (below-first x k z l s.1 c.1)),
    )
below_at x k z d (u ∷ l) (suc q) s a e =
    let c = up_to_cons x k u l (suc q) e in
    let t : get_or l q d ∈ l = get_d_in l q d (omega (arith, up_to_within x k l)) in
    let r : Reaches x k (get_or l q d) = up_to_at x k l q d (omega arith) in
    by_cases (ℕ_discrete u.item x)
    (λ i.
    let h = under x k u i c.0 in
    let f = below_at x k u d l q s.1 (λ w m g. rises x u w i g.0 (s.0 w m)) c.1 in
    ((λ j. rw (better_yes x (suc k) z u h (a u (Memᴰ.head refl) h)) (f.0 j)), (λ n. absurd (n (between x k u (get_or l q d) i (s.0 (get_or l q d) t) r)))))
    (λ n. rw (better_no x (suc k) z u (λ h. n h.0)) (below_at x k z d l q s.1 (λ w m. a w (Memᴰ.tail m)) c.1))

-- the same, from an initial version
module _ (x k : ℕ) (z d : Version) (l : List Version) (p : ℕ) (s : Sorted l) (first : z.stamp ≡ 0) (e : up_to x k l ≡ suc p) where
  pub below_held : (get_or l p d).item ≡ x → below x (suc k) z l ≡ get_or l p d
  below_held = (below_at x k z d l p s (λ u t h. omega arith) e).0

  pub below_other : (get_or l p d).item ≢ x → below x (suc k) z l ≡ z
  below_other = (below_at x k z d l p s (λ u t h. omega arith) e).1

-- ---- one lookup serves reads and writes

pick_same : {P Q C : Type 0} (d : Dec P) (e : Dec Q) (a b : C) → (P → Q) → (Q → P) → pick d a b ≡ pick e a b
pick_same {P} {Q} {C} d e a b f g = pick_by (λ (r : C). r ≡ pick e a b) d (λ p. sym (pick_yes e a b (f p))) (λ n. sym (pick_no e a b (λ q. n (g q))))

-- k has not written x: what a write by k meets is what a read by k would
pub beneath-chosen : (x k : ℕ) (z : Version) (l : List Version) → ¬ Wrote k x l → below x k z l ≡ below x (suc k) z l
unfolding below
beneath-chosen x k z [] n = refl
beneath-chosen x k z (u ∷ l) n =
    rw (pick_same (under? x k u) (under? x (suc k) u) (pick (dec_le z.stamp u.stamp) u z) z
    (λ h. (h.0, omega (arith, h.1)))
    (λ h. (h.0, by_cases (ℕ_discrete u.stamp k) (λ e. absurd (n (u, Memᴰ.head refl, (h.0, e)))) (λ d. omega (arith, h.1, d)))))
    (beneath-chosen x k (pick (under? x (suc k) u) (pick (dec_le z.stamp u.stamp) u z) z) l (λ w. n (w.0, Memᴰ.tail w.1, w.2)))

-- ---- what is met is one of those, and none is larger

module _ (x b : ℕ) (z : Version) where
  below_nil : below x b z [] ≡ z
  unfolding below
  below_nil = refl

  -- a row is passed over, or met
  below_cons : (u : Version) (l : List Version)
      → ((below x b z (u ∷ l) ≡ below x b z l) × (Under x b u → u.stamp ≤ z.stamp))
      ⊎ ((below x b z (u ∷ l) ≡ below x b u l) × Under x b u × (z.stamp ≤ u.stamp))
  unfolding below
  below_cons u l =
      by_cases (under? x b u)
      (λ h.
      by_cases (dec_le z.stamp u.stamp)
      (λ g. inr (ap (λ (v : Version). below x b v l) (better_yes x b z u h g), h, g))
      (λ g. inl (ap (λ (v : Version). below x b v l) (pick_yes (under? x b u) (pick (dec_le z.stamp u.stamp) u z) z h ∙ pick_no (dec_le z.stamp u.stamp) u z g), (λ w. omega arith))))
      (λ n. inl (ap (λ (v : Version). below x b v l) (better_no x b z u n), (λ h. absurd (n h))))

pub below-from : (x b : ℕ) (z : Version) (l : List Version) → (below x b z l ≡ z) ⊎ ((below x b z l ∈ l) × Under x b (below x b z l))
below-from x b z [] = inl (below_nil x b z)
below-from x b z (u ∷ l) =
    ⊎_elim
    (λ m. rw m.0 (⊎_elim (λ e. inl e) (λ h. inr (Memᴰ.tail h.0, h.1)) (below-from x b z l)))
    (λ m. rw m.0 (inr (⊎_elim (λ e. (Memᴰ.head e, subst (Under x b) (sym e) m.1)) (λ h. (Memᴰ.tail h.0, h.1)) (below-from x b u l))))
    (below_cons x b z u l)

pub below-least : (x b : ℕ) (z : Version) (l : List Version) → z.stamp ≤ (below x b z l).stamp
below-least x b z [] = rw (below_nil x b z) (omega arith)
below-least x b z (u ∷ l) =
    ⊎_elim
    (λ m. rw m.0 (below-least x b z l))
    (λ m. rw m.0 (omega (arith, m.2, below-least x b u l)))
    (below_cons x b z u l)

pub below-most : (x b : ℕ) (z : Version) (l : List Version) (u : Version) → u ∈ l → Under x b u → u.stamp ≤ (below x b z l).stamp
below-most x b z [] u t h = absurd (Memᴰ.not-nil t)
below-most x b z (w ∷ l) u t h =
    ⊎_elim
    (λ (e : u ≡ w).
    let g : Under x b w = subst (Under x b) e h in
    let same : u.stamp ≡ w.stamp = ap (λ (v : Version). v.stamp) e in
    ⊎_elim
    (λ m. rw m.0 (omega (arith, m.1 g, below-least x b z l)))
    (λ m. rw m.0 (omega (arith, below-least x b w l)))
    (below_cons x b z w l))
    (λ (r : u ∈ l).
    ⊎_elim
    (λ m. rw m.0 (below-most x b z l u r h))
    (λ m. rw m.0 (below-most x b w l u r h))
    (below_cons x b z w l))
    (Memᴰ.cases_cons t)

-- k has written x exactly when the version met is k's own
module _ (x k : ℕ) (z : Version) (l : List Version) (first : z.stamp ≡ 0) (some : 0 < k) where
  pub wrote_own : Wrote k x l → (below x (suc k) z l).stamp ≡ k
  wrote_own w =
      let most = below-most x (suc k) z l w.0 w.1 (w.2.0, omega (arith, w.2.1)) in
      ⊎_elim
      (λ e. let same : (below x (suc k) z l).stamp ≡ z.stamp = ap (λ (v : Version). v.stamp) e in omega (arith, w.2.1))
      (λ h. omega (arith, h.1.1, w.2.1))
      (below-from x (suc k) z l)

  pub own_wrote : (below x (suc k) z l).stamp ≡ k → Wrote k x l
  own_wrote e =
      ⊎_elim
      (λ q. let same : (below x (suc k) z l).stamp ≡ z.stamp = ap (λ (v : Version). v.stamp) q in absurd (omega arith))
      (λ h. (below x (suc k) z l, h.0, (h.1.0, e)))
      (below-from x (suc k) z l)

-- ---- where a new version goes

before_reaches : (u w : Version) → Before u w → Reaches w.item w.stamp u
before_reaches u w (inl b) = inl b
before_reaches u w (inr b) = inr (b.0, omega arith)

reaches_before : (u w : Version) → ¬ Same w.item w.stamp u → Reaches w.item w.stamp u → Before u w
reaches_before u w n (inl r) = inl r
reaches_before u w n (inr r) = inr (r.0, by_cases (ℕ_discrete u.stamp w.stamp) (λ e. absurd (n (r.0, e))) (λ d. omega arith))

pub put_place : (w : Version) (l : List Version) → ¬ Wrote w.stamp w.item l
    → put w l ≡ take (up_to w.item w.stamp l) l ++ w ∷ drop (up_to w.item w.stamp l) l
unfolding put up_to_in
put_place w [] n = refl
put_place w (u ∷ l) n =
    by_cases (up_to? w.item w.stamp u.item u.stamp)
    (λ r.
    rw (pick_yes (up_to? w.item w.stamp u.item u.stamp) (suc (up_to w.item w.stamp l)) 0 r)
    (pick_yes (before? u w) (u ∷ put w l) (w ∷ u ∷ l) (reaches_before u w (λ s. n (u, Memᴰ.head refl, s)) r)
    ∙ ap (λ (t : List Version). u ∷ t) (put_place w l (λ h. n (h.0, Memᴰ.tail h.1, h.2)))))
    (λ r.
    rw (pick_no (up_to? w.item w.stamp u.item u.stamp) (suc (up_to w.item w.stamp l)) 0 r)
    (pick_no (before? u w) (u ∷ put w l) (w ∷ u ∷ l) (λ b. r (before_reaches u w b))))
