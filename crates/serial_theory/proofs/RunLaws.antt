-- What a transaction's run leaves in an item: what it showed, if the transaction does not write it; the one version it writes, if it does.
-- `upon` runs over a past, newest first, so that one event more is one application more; it is what the page's run in log order leaves.
-- Assumes nothing.
use Prim.Native.Nat.{ℕ}
use mathlib.Core.Path.{◌≡◌, refl, ◌∙◌, ap}
use mathlib.Core.Logic.{inl, inr}
use mathlib.Core.List.Memᴰ
use mathlib.Core.List.{List, [], ◌∷◌, ◌++◌, reverse_aux}
use mathlib.Core.Bool.{Bool, true, false, cond}
use lib.Dec.{eqb}
use borrow.Author.Tests.{eqb-true, eqb-false}
use Rattle.lists.specs.Member.{◌∈◌}
use Rattle.lists.proofs.OrderLaws.{in_nil, in_reverse, of_reverse}
use Rattle.log_format.specs.Events.{Event, begins, reads, writes, commits, aborts}
use Rattle.log_format.specs.Told.{Put}
use Rattle.log_format.proofs.ToldLaws.{put_is}
use Rattle.serial_theory.specs.Serial.{apply, after}

module _ {A : Type 0} (note : ℕ → ℕ → A) where
  -- what the items show after t's writes in a past
  abbrev pub upon : ℕ → List Event → (ℕ → A) → ℕ → A
  upon t [] s = s
  upon t (e ∷ past) s = apply note t e (upon t past s)

  -- an item that t does not write
  pub upon_frame : (t x : ℕ) (past : List Event) (s : ℕ → A) → ((w : ℕ) → ¬ Put t x w past) → upon t past s x ≡ s x
  upon_frame t x [] s h = refl
  upon_frame t x (begins u ∷ past) s h = upon_frame t x past s h
  upon_frame t x (reads u y j v ∷ past) s h = upon_frame t x past s h
  upon_frame t x (writes u y v ∷ past) s h = go (eqb t u) refl (eqb x y) refl (upon_frame t x past s (λ w p. h w (inr p)))
    where
      go : (b : Bool) → eqb t u ≡ b → (c : Bool) → eqb x y ≡ c → upon t past s x ≡ s x
          → cond b (λ (z : ℕ). cond (eqb z y) (note t v) (upon t past s z)) (upon t past s) x ≡ s x
      go true e true f ih = absurd (h v (inl (eqb-true t u e, eqb-true x y f, refl)))
      go true e false f ih = rw f ih
      go false e c f ih = ih
  upon_frame t x (commits u ∷ past) s h = upon_frame t x past s h
  upon_frame t x (aborts u c ∷ past) s h = upon_frame t x past s h

  -- an item that t writes, with one value
  pub upon_write : (t x v : ℕ) (past : List Event) (s : ℕ → A) → Put t x v past → ((w : ℕ) → Put t x w past → w ≡ v) → upon t past s x ≡ note t v
  upon_write t x v [] s p h = absurd p
  upon_write t x v (begins u ∷ past) s p h = upon_write t x v past s p h
  upon_write t x v (reads u y j w ∷ past) s p h = upon_write t x v past s p h
  upon_write t x v (writes u y w ∷ past) s p h = go (eqb t u) refl (eqb x y) refl (λ q. upon_write t x v past s q (λ z r. h z (inr r)))
    where
      go : (b : Bool) → eqb t u ≡ b → (c : Bool) → eqb x y ≡ c → (Put t x v past → upon t past s x ≡ note t v)
          → cond b (λ (z : ℕ). cond (eqb z y) (note t w) (upon t past s z)) (upon t past s) x ≡ note t v
      go true e true f ih = rw f (ap (note t) (h w (inl (eqb-true t u e, eqb-true x y f, refl))))
      go true e false f ih = rw f (ih (elim p [ inl q ↦ absurd (eqb-false x y f q.1) | inr r ↦ r ]))
      go false e c f ih = ih (elim p [ inl q ↦ absurd (eqb-false t u e q.0) | inr r ↦ r ])
  upon_write t x v (commits u ∷ past) s p h = upon_write t x v past s p h
  upon_write t x v (aborts u c ∷ past) s p h = upon_write t x v past s p h

  after_upon : (t : ℕ) (log past : List Event) (s : ℕ → A) → after note t log (upon t past s) ≡ upon t (reverse_aux log past) s
  after_upon t [] past s = refl
  after_upon t (e ∷ log) past s = after_upon t log (e ∷ past) s

  -- a log read backwards tells the same writes
  put_back : (t x v : ℕ) (log : List Event) → Put t x v (reverse_aux log []) → Put t x v log
  put_back t x v log p = (put_is t x v log).1 (elim (in_reverse log [] ((put_is t x v (reverse_aux log [])).0 p)) [ inl m ↦ m | inr m ↦ in_nil m ])

  back_put : (t x v : ℕ) (log : List Event) → Put t x v log → Put t x v (reverse_aux log [])
  back_put t x v log p = (put_is t x v (reverse_aux log [])).1 (of_reverse log [] (inl ((put_is t x v log).0 p)))

  pub after_frame : (t x : ℕ) (log : List Event) (s : ℕ → A) → ((w : ℕ) → ¬ Put t x w log) → after note t log s x ≡ s x
  after_frame t x log s h =
      ap (λ (f : ℕ → A). f x) (after_upon t log [] s) ∙ upon_frame t x (reverse_aux log []) s (λ w p. h w (put_back t x w log p))

  pub after_write : (t x v : ℕ) (log : List Event) (s : ℕ → A) → Put t x v log → ((w : ℕ) → Put t x w log → w ≡ v) → after note t log s x ≡ note t v
  after_write t x v log s p h =
      ap (λ (f : ℕ → A). f x) (after_upon t log [] s)
      ∙ upon_write t x v (reverse_aux log []) s (back_put t x v log p) (λ w q. h w (put_back t x w log q))

  -- what the items show after the transactions of an order
  abbrev pub after_all : List Event → List ℕ → (ℕ → A) → ℕ → A
  after_all log [] s = s
  after_all log (t ∷ o) s = after_all log o (after note t log s)

  pub after_all_append : (log : List Event) (o p : List ℕ) (s : ℕ → A) → after_all log (o ++ p) s ≡ after_all log p (after_all log o s)
  after_all_append log [] p s = refl
  after_all_append log (t ∷ o) p s = after_all_append log o p (after note t log s)

  -- an item that none of them writes
  pub after_all_frame : (log : List Event) (x : ℕ) (o : List ℕ) (s : ℕ → A) → ((i w : ℕ) → i ∈ o → ¬ Put i x w log) → after_all log o s x ≡ s x
  after_all_frame log x [] s h = refl
  after_all_frame log x (t ∷ o) s h =
      after_all_frame log x o (after note t log s) (λ i w m. h i w (Memᴰ.tail m)) ∙ after_frame t x log s (λ w. h t w (Memᴰ.head refl))
