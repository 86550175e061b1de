-- What is right and what is wrong depend on which events stand before, and not on their order: the relations are told by membership. So an event of a
-- well-formed log is right after the events before it, as they stand in the log.
-- Assumes nothing.
use Prim.Native.Nat.{ℕ}
use mathlib.Core.Path.{◌≡◌, subst}
use mathlib.Core.List.Memᴰ
use mathlib.Core.List.{List, [], ◌∷◌, ◌++◌, reverse, reverse_aux}
use mathlib.Core.Logic.{◌⊎◌, inl, inr}
use Rattle.lists.specs.Member.{◌∈◌}
use Rattle.log_format.specs.Events.{Event, begins, reads, writes, commits, aborts}
use Rattle.log_format.specs.Told.{Begun, Put, Puts, Done, Undone, Active}
use Rattle.log_format.proofs.ToldLaws.{begun_is, put_is, done_is, undone_is}
use Rattle.history_rules.specs.WellFormed.{Running, Right, AllRight}
use Rattle.history_rules.specs.Wrong.{Idle, Misread, unwritten, undone, valued, differs, foreign, Wrong23, Wrong24, Wrong25, Lowest}
use Rattle.history_rules.specs.Wrong.{none, is23, is24, is25}

-- ---- a list and its reverse have the same elements

module _ {A : Type 0} {a : A} where
  onto : (l r : List A) → (a ∈ l) ⊎ (a ∈ r) → a ∈ reverse_aux l r
  onto [] r (inl m) = absurd (Memᴰ.not-nil m)
  onto [] r (inr m) = m
  onto (x ∷ l) r (inl m) = onto l (x ∷ r) (elim (Memᴰ.cases_cons m) [ inl e ↦ inr (Memᴰ.head e) | inr t ↦ inl t ])
  onto (x ∷ l) r (inr m) = onto l (x ∷ r) (inr (Memᴰ.tail m))

  of_onto : (l r : List A) → a ∈ reverse_aux l r → (a ∈ l) ⊎ (a ∈ r)
  of_onto [] r m = inr m
  of_onto (x ∷ l) r m = elim (of_onto l (x ∷ r) m) [
    | inl t ↦ inl (Memᴰ.tail t)
    | inr t ↦ elim (Memᴰ.cases_cons t) [ inl e ↦ inl (Memᴰ.head e) | inr u ↦ inr u ]
  ]

  pub to_reverse : (l : List A) → a ∈ l → a ∈ reverse l
  to_reverse l m = onto l [] (inl m)

  pub of_reverse : (l : List A) → a ∈ reverse l → a ∈ l
  of_reverse l m = elim (of_onto l [] m) [ inl t ↦ t | inr t ↦ absurd (Memᴰ.not-nil t) ]

-- ---- what a tells, b tells

pub record Retells (a b : List Event) : Type 0 where
  pub begun : (k : ℕ) → Begun k a → Begun k b
  pub put : (k x v : ℕ) → Put k x v a → Put k x v b
  pub done : (k : ℕ) → Done k a → Done k b
  pub undone : (k : ℕ) → Undone k a → Undone k b

pub retells : (a b : List Event) → ((e : Event) → e ∈ a → e ∈ b) → Retells a b
retells a b f = record {
  begun = λ k h. (begun_is k b).1 (f (begins k) ((begun_is k a).0 h));
  put = λ k x v h. (put_is k x v b).1 (f (writes k x v) ((put_is k x v a).0 h));
  done = λ k h. (done_is k b).1 (f (commits k) ((done_is k a).0 h));
  undone = λ k h. let m = (undone_is k a).0 h in (undone_is k b).1 (m.0, f (aborts k m.0) m.1);
}

pub retells_reverse : (l : List Event) → Retells l (reverse l)
retells_reverse l = retells l (reverse l) (λ e. to_reverse l)

pub retells_straight : (l : List Event) → Retells (reverse l) l
retells_straight l = retells (reverse l) l (λ e. of_reverse l)

-- ---- the same is right

module _ {a b : List Event} (ab : Retells a b) (ba : Retells b a) where
  active : (t : ℕ) → Active t a → Active t b
  active t r = (ab.begun t r.0, (λ h. r.1 (ba.done t h)), (λ h. r.2 (ba.undone t h)))

  runs : (t : ℕ) → Running a t → Running b t
  runs t r = (r.0, active t r.1)

  pub same_right : (e : Event) → Right a e → Right b e
  same_right (begins t) r = (r.0, λ h. r.1 (ba.begun t h))
  same_right (reads t x j v) r = (
    runs t r.0,
    (
      r.1.0,
      record {
        own = λ w p. r.1.1.own w (ba.put t x w p);
        initial = r.1.1.initial;
        wrote = λ n. ab.put j x v (r.1.1.wrote n);
        kept = λ n h. r.1.1.kept n (ba.undone j h);
      },
    ),
  )
  same_right (writes t x v) r = (runs t r.0, (r.1.0, λ h. r.1.1 (h.0, ba.put t x h.0 h.1)))
  same_right (commits t) r = runs t r
  same_right (aborts t c) r = runs t r

  idles : (t : ℕ) → Idle a t → Idle b t
  idles t (inl z) = inl z
  idles t (inr (inl n)) = inr (inl (λ h. n (ba.begun t h)))
  idles t (inr (inr (inl d))) = inr (inr (inl (ab.done t d)))
  idles t (inr (inr (inr u))) = inr (inr (inr (ab.undone t u)))

  wrong23 : (e : Event) → Wrong23 a e → Wrong23 b e
  wrong23 (begins t) (inl z) = inl z
  wrong23 (begins t) (inr h) = inr (ab.begun t h)
  wrong23 (reads t x j v) w = idles t w
  wrong23 (writes t x v) w = idles t w
  wrong23 (commits t) w = idles t w
  wrong23 (aborts t c) w = idles t w

  puts : (t x : ℕ) → Puts t x a → Puts t x b
  puts t x h = (h.0, ab.put t x h.0 h.1)

  wrong24 : (e : Event) → Wrong24 a e → Wrong24 b e
  wrong24 (begins t) w = w
  wrong24 (reads t x j v) w = w
  wrong24 (writes t x v) (inl o) = inl o
  wrong24 (writes t x v) (inr p) = inr (puts t x p)
  wrong24 (commits t) w = w
  wrong24 (aborts t c) w = w

  misread : (t x j v : ℕ) → Misread a t x j v → Misread b t x j v
  misread t x j v (unwritten n m) = unwritten n (λ h. m (h.0, ba.put j x h.0 h.1))
  misread t x j v (undone n u) = undone n (ab.undone j u)
  misread t x j v (valued z n) = valued z n
  misread t x j v (differs w n p d) = differs w n (ab.put j x w p) d
  misread t x j v (foreign p n) = foreign (puts t x p) n

  wrong25 : (e : Event) → Wrong25 a e → Wrong25 b e
  wrong25 (begins t) w = w
  wrong25 (reads t x j v) w = misread t x j v w
  wrong25 (writes t x v) w = w
  wrong25 (commits t) w = w
  wrong25 (aborts t c) w = w

-- the lowest code too
pub same_lowest : {a b : List Event} → Retells a b → Retells b a → {e : Event} {c : ℕ} → Lowest a e c → Lowest b e c
same_lowest ab ba {e} (none p q r) = none (λ w. p (wrong23 ba ab e w)) (λ w. q (wrong24 ba ab e w)) (λ w. r (wrong25 ba ab e w))
same_lowest ab ba {e} (is23 w) = is23 (wrong23 ab ba e w)
same_lowest ab ba {e} (is24 p w) = is24 (λ h. p (wrong23 ba ab e h)) (wrong24 ab ba e w)
same_lowest ab ba {e} (is25 p q w) = is25 (λ h. p (wrong23 ba ab e h)) (λ h. q (wrong24 ba ab e h)) (wrong25 ab ba e w)

-- ---- a log split at an event

pub right_at : (past before : List Event) (e : Event) (after : List Event) → AllRight past (before ++ e ∷ after) → Right (reverse_aux before past) e
right_at past [] e after r = r.0
right_at past (q ∷ before) e after r = right_at (q ∷ past) before e after r.1

-- each event is right after those that stand before it in the log
pub split_right : (log : List Event) → AllRight [] log → (before : List Event) (e : Event) (after : List Event) → log ≡ before ++ e ∷ after → Right before e
split_right log r before e after q = same_right (retells_straight before) (retells_reverse before) e (right_at [] before e after (subst (AllRight []) q r))
