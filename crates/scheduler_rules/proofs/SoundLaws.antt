-- No operation damages a model, and a fresh one is not damaged; so no reachable one is. For each change: the tables' counts, their order and
-- the bounds on stamps and marks carry over, by the facts that let the operation through.
-- Assumes nothing.
use Prim.Native.Nat.{ℕ, zero, suc, ◌≤◌, ◌<◌}
use mathlib.Core.Path.{◌≡◌, refl, subst}
use mathlib.Core.List.Memᴰ
use mathlib.Core.List.{List, [], ◌∷◌, ◌++◌, filter}
use mathlib.Core.Logic.{inl, inr}
use native.Mathlib.Decide.{ℕ_discrete, dec_lt}
use native.Mathlib.Omega.{arith}
use lib.ListN.{get_or, length-append, length-map, replicate}
use Rattle.lists.specs.Choice.{isnt}
use Rattle.lists.specs.Member.{◌∈◌, Rising}
use Rattle.lists.proofs.ChoiceLaws.{pick_by, ite_by}
use Rattle.lists.proofs.MemberLaws.{of_filter}
use Rattle.log_format.specs.Events.{Event}
use Rattle.scheduler_rules.specs.Model.{Version, Model, start, Same, raise1, raise, Before, before?, put, begun, got, stored, ended, dropped, chosen}
use Rattle.scheduler_rules.specs.Table.{table, Reached, fresh, next}
use Rattle.scheduler_rules.specs.Steps.{CanBegin, CanRead, CanWrite, CanEnd}
use Rattle.scheduler_rules.specs.Sound.{Sorted, Proper, Sound}
use Rattle.scheduler_rules.specs.declared.Op.{Op}
use Rattle.scheduler_rules.proofs.StepLaws.{table_to}
use Rattle.scheduler_rules.proofs.Held.{of_opened, of_close, of_without, of_put, length-put, Raised, of_raise, length-raise0, of_raise0, length-filter}

-- ---- rising stamps

rising_weaken : (n k : ℕ) (l : List ℕ) → n ≤ k → Rising k l → Rising n l
rising_weaken n k [] h r = tt
rising_weaken n k (i ∷ l) h r = (let a = r.0 in omega arith, r.1)

rising_snoc : (n k : ℕ) (l : List ℕ) → n ≤ k → ((i : ℕ) → i ∈ l → i < k) → Rising n l → Rising n (l ++ k ∷ [])
rising_snoc n k [] h b r = (h, tt)
rising_snoc n k (i ∷ l) h b r = (r.0, rising_snoc (suc i) k l (b i (Memᴰ.head refl)) (λ j t. b j (Memᴰ.tail t)) r.1)

pub rising_filter : {p : ℕ → Type 0} (d : (a : ℕ) → Dec (p a)) (n : ℕ) (l : List ℕ) → Rising n l → Rising n (filter d l)
rising_filter d n [] r = tt
rising_filter d n (k ∷ l) r = ite_by (Rising n) (d k)
    (λ _. (r.0, rising_filter d (suc k) l r.1))
    (λ _. rising_weaken n (suc k) (filter d l) (let a = r.0 in omega arith) (rising_filter d (suc k) l r.1))

-- ---- rising versions

sorted_filter : {p : Version → Type 0} (d : (a : Version) → Dec (p a)) (l : List Version) → Sorted l → Sorted (filter d l)
sorted_filter d [] s = tt
sorted_filter d (u ∷ l) s = ite_by Sorted (d u) (λ _. ((λ w h. s.0 w (of_filter d l h).0), sorted_filter d l s.1)) (λ _. sorted_filter d l s.1)

sorted_raise : (x j k : ℕ) (l : List Version) → Sorted l → Sorted (raise x j k l)
sorted_raise x j k [] s = tt
sorted_raise x j k (u ∷ l) s = (
  (λ w h. let r = Memᴰ.of_map (raise1 x j k) l h in subst (λ (y : Version). Before (raise1 x j k u) y) r.2 (s.0 r.0 r.1)),
  sorted_raise x j k l s.1,
)

before_trans : (u v w : Version) → Before u v → Before v w → Before u w
before_trans u v w (inl a) (inl b) = inl (omega arith)
before_trans u v w (inl a) (inr (e, b)) = inl (omega arith)
before_trans u v w (inr (e, a)) (inl b) = inl (omega arith)
before_trans u v w (inr (e, a)) (inr (f, b)) = inr (omega arith, omega arith)

before_other : (u w : Version) → ¬ Before u w → ¬ Same w.item w.stamp u → Before w u
before_other u w n s = elim (dec_lt w.item u.item) [
  | yes a ↦ inl a
  | no a ↦ (let b : ¬ (u.item < w.item) = λ h. n (inl h) in let e : u.item ≡ w.item = omega arith in
      let f : ¬ (u.stamp < w.stamp) = λ h. n (inr (e, h)) in let g : ¬ (u.stamp ≡ w.stamp) = λ h. s (e, h) in inr (omega arith, omega arith))
]

sorted_put : (w : Version) (l : List Version) → ((u : Version) → u ∈ l → ¬ Same w.item w.stamp u) → Sorted l → Sorted (put w l)
unfolding put
sorted_put w [] n s = ((λ u h. absurd (Memᴰ.not-nil h)), tt)
sorted_put w (u ∷ l) n s = pick_by Sorted (before? u w)
    (λ b. ((λ y h. elim (of_put w y l h) [ inl e ↦ rw e b | inr t ↦ s.0 y t ]), sorted_put w l (λ y t. n y (Memᴰ.tail t)) s.1))
    (λ b. let o : Before w u = before_other u w b (n u (Memᴰ.head refl)) in
    ((λ y h. elim (Memᴰ.cases_cons h) [ inl e ↦ rw e o | inr t ↦ before_trans w u y o (s.0 y t) ]), s))

-- ---- a fresh model

all_zero : (n x : ℕ) → ◌≡◌ {A = ℕ} (get_or (replicate n 0) x 0) 0
all_zero zero x = refl
all_zero (suc n) zero = refl
all_zero (suc n) (suc x) = all_zero n x

-- the initial marks of a fresh model are 0
pub start_marks : (x : ℕ) → ◌≡◌ {A = ℕ} (get_or start.marks x 0) 0
start_marks x = all_zero 64 x

pub sound_start : Sound start
sound_start = record {
  opens = omega arith;
  rising = tt;
  opened = λ k h. absurd (Memᴰ.not-nil h);
  holds = omega arith;
  sorted = tt;
  proper = λ u h. absurd (Memᴰ.not-nil h);
  wide = refl;
  marked = λ x. omega (arith, start_marks x);
  header = omega arith;
  short = omega arith;
}

-- ---- each change

module _ (m : Model) (s : Sound m) (room : ℕ) (small : room ≤ 65536) where
  sound_begun : (k : ℕ) → CanBegin room m k → Sound (begun k m)
  sound_begun k c = record {
    opens = simp length-append (omega (arith, c.place));
    rising = rising_snoc 1 k m.live c.positive (λ i h. let z = s.opened i h in omega (arith, c.above)) s.rising;
    opened = λ i h. elim (of_opened m.live h) [ inl t ↦ (let z = s.opened i t in omega (arith, c.above)) | inr e ↦ omega arith ];
    holds = s.holds;
    sorted = s.sorted;
    proper = λ u h. let p = s.proper u h in record { item = p.item; positive = p.positive; stamp = omega (arith, p.stamp, c.above); mark = omega (arith, p.mark, c.above) };
    wide = s.wide;
    marked = λ x. let z = s.marked x in omega (arith, c.above);
    header = omega (arith, s.header);
    short = omega (arith, c.fits);
  }

  sound_ended : (k : ℕ) → CanEnd room m k 7 → Sound (ended k m)
  sound_ended k c = record {
    opens = let z = length-filter (λ (n : ℕ). isnt (ℕ_discrete n k)) m.live in omega (arith, s.opens);
    rising = rising_filter (λ (n : ℕ). isnt (ℕ_discrete n k)) 1 m.live s.rising;
    opened = λ i h. s.opened i (of_close k m.live h).0;
    holds = s.holds;
    sorted = s.sorted;
    proper = s.proper;
    wide = s.wide;
    marked = s.marked;
    header = omega (arith, s.header);
    short = omega (arith, c.fits);
  }

  sound_dropped : (k : ℕ) → CanEnd room m k 8 → Sound (dropped k m)
  sound_dropped k c = record {
    opens = let z = length-filter (λ (n : ℕ). isnt (ℕ_discrete n k)) m.live in omega (arith, s.opens);
    rising = rising_filter (λ (n : ℕ). isnt (ℕ_discrete n k)) 1 m.live s.rising;
    opened = λ i h. s.opened i (of_close k m.live h).0;
    holds = let z = length-filter (λ (u : Version). isnt (ℕ_discrete u.stamp k)) m.held in omega (arith, s.holds);
    sorted = sorted_filter (λ (u : Version). isnt (ℕ_discrete u.stamp k)) m.held s.sorted;
    proper = λ u h. s.proper u (of_without k m.held h).0;
    wide = s.wide;
    marked = s.marked;
    header = omega (arith, s.header);
    short = omega (arith, c.fits);
  }

  sound_got : (k x j : ℕ) → CanRead room m k x → Sound (got k x j m)
  sound_got k x j c = record {
    opens = s.opens;
    rising = s.rising;
    opened = s.opened;
    holds = simp length-map s.holds;
    sorted = sorted_raise x j k m.held s.sorted;
    proper = λ w h. up w (of_raise x j k m.held w h);
    wide = simp length-raise0 s.wide;
    marked = λ y. let z = s.marked y in elim (of_raise0 x j k y m.marks (omega (arith, s.wide, c.item))) [ inl e ↦ omega (arith, e.1, s.opened k c.among) | inr e ↦ omega (arith, e.1) ];
    header = omega (arith, s.header);
    short = omega (arith, c.fits);
  }
    where
      up : (w : Version) → Raised x j k m.held w → Proper m.last w
      up w r = let p = s.proper r.old r.there in record {
        item = omega (arith, p.item, r.item_is);
        positive = omega (arith, p.positive, r.stamp_is);
        stamp = omega (arith, p.stamp, r.stamp_is);
        mark = elim r.mark_is [ inl e ↦ omega (arith, e.1, p.mark, s.opened k c.among) | inr e ↦ omega (arith, e.1, p.mark) ];
      }

  sound_stored : (k x v : ℕ) → CanWrite room m k x v → Sound (stored k x v m)
  sound_stored k x v c = record {
    opens = s.opens;
    rising = s.rising;
    opened = s.opened;
    holds = rw length-put (omega (arith, c.place));
    sorted = sorted_put _ m.held (λ u h e. c.first (u, h, e)) s.sorted;
    proper = λ w h. elim (of_put _ w m.held h) [ inl e ↦ rw e (record { item = c.item; positive = c.positive; stamp = s.opened k c.among; mark = omega arith }) | inr t ↦ s.proper w t ];
    wide = s.wide;
    marked = s.marked;
    header = omega (arith, s.header);
    short = omega (arith, c.fits);
  }

-- ---- every operation, and every run of them

-- no operation damages a model
pub sound_next : (room : ℕ) (op : Op) (m : Model) → room ≤ 65536 → Sound m → Sound (table room op m).next
sound_next room op m h s = table_to (λ (n : Model) (es : List Event). Sound n) room op m s
    (sound_begun m s room h)
    (λ k x. sound_got m s room h k x (chosen m x k).stamp)
    (sound_stored m s room h)
    (sound_ended m s room h)
    (λ k cause low. sound_dropped m s room h k)

-- a reachable model is never damaged
pub reached_sound : {m : Model} {es : List Event} → Reached m es → Sound m
reached_sound fresh = sound_start
reached_sound (next room op m es h r) = sound_next room op m h (reached_sound r)
