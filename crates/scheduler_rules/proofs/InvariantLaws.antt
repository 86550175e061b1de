-- Every operation keeps the invariant. An event leaves what was told of others as it was; a read chooses the largest version at or below
-- it, so none lies between; a write that is not late has, beneath it, a version that nobody above it has read, so no read reaches across it.
-- Assumes nothing.
use Prim.Native.Nat.{ℕ, ◌≤◌, ◌<◌, max}
use mathlib.Core.Path.{◌≡◌, refl, sym, ◌∙◌, ap, subst}
use mathlib.Core.List.Memᴰ
use mathlib.Core.List.{List, [], ◌∷◌, ◌++◌}
use mathlib.Core.Logic.{◌⊎◌, inl, inr, ◌≢◌}
use native.Mathlib.Decide.{ℕ_discrete, dec_le}
use native.Mathlib.Omega.{arith}
use lib.ListN.{get_or}
use Rattle.lists.specs.Member.{◌∈◌}
use Rattle.log_format.specs.Events.{Event, begins, reads, writes, commits, aborts}
use Rattle.log_format.specs.Told.{Begun, Got, Put, Puts, Done}
use Rattle.scheduler_rules.specs.Model.{Version, Model, max_item, start, initial, chosen, beneath, raise1, Waits, Wrote, without, close, begun, got, stored, ended, dropped}
use Rattle.scheduler_rules.specs.Table.{Reached, fresh, next}
use Rattle.scheduler_rules.specs.Sound.{Sound}
use Rattle.scheduler_rules.specs.Chosen.{NotAbove, Below, Largest}
use Rattle.scheduler_rules.specs.Lawful.{Saw, Seen}
use Rattle.scheduler_rules.specs.Invariant.{OpenOrDone, Holds, MarkOf, Invariant}
use Rattle.scheduler_rules.proofs.Choosing.{chosen_is, beneath_is}
use Rattle.scheduler_rules.proofs.StepLaws.{table_to}
use Rattle.scheduler_rules.proofs.Held.{of_opened, of_close, to_close, of_without, to_without, of_put, put_new, put_old, Up, Raised, of_raise, of_raise0}
use Rattle.scheduler_rules.proofs.SoundLaws.{start_marks, reached_sound}
use Rattle.scheduler_rules.proofs.LawfulLaws.{done-begun, undone_begun, put-begun, got-begun, got_seen}

pub invariant_start : Invariant start []
invariant_start = record {
  lawful = tt;
  begun = λ k h. absurd h;
  active = λ k h. absurd (Memᴰ.not-nil h);
  opened = λ k a. absurd a.0;
  source = λ u h. absurd (Memᴰ.not-nil h);
  writer = λ u h. absurd (Memᴰ.not-nil h);
  kept = λ k x v h. absurd h;
  mark = λ u h. absurd (Memᴰ.not-nil h);
  mark0 = λ x h. ((λ k v g. absurd g), inl (start_marks x));
  gap = λ k x j v n w h. absurd h;
}

-- ---- marks after a read

module _ (k x j v y i n₀ : ℕ) (es : List Event) (old : MarkOf y i n₀ es) where
  -- of the version read: raised to the reader
  mark_raised : (y ≡ x) × (i ≡ j) → (n : ℕ) → n ≡ max n₀ k → MarkOf y i n (reads k x j v ∷ es)
  mark_raised e n q = (
    (λ c w g. elim g [ inl h ↦ (let h0 = h.0 in omega arith) | inr t ↦ (let z = old.0 c w t in omega arith) ]),
    elim (dec_le n₀ k) [
      | yes l ↦ inr (v, inl (omega arith, e.0, e.1, refl))
      | no l ↦ elim old.1 [ inl z ↦ absurd (omega arith) | inr t ↦ inr (t.0, inr (subst (λ (a : ℕ). Got a y i t.0 es) (omega arith) t.1)) ]
    ],
  )

  -- of any other: as it was
  mark_kept : ¬ ((y ≡ x) × (i ≡ j)) → (n : ℕ) → n ≡ n₀ → MarkOf y i n (reads k x j v ∷ es)
  mark_kept e n q = (
    (λ c w g. elim g [ inl h ↦ absurd (e (h.1, h.2)) | inr t ↦ (let z = old.0 c w t in omega arith) ]),
    elim old.1 [ inl z ↦ inl (q ∙ z) | inr t ↦ inr (t.0, inr (subst (λ (a : ℕ). Got a y i t.0 es) (sym q) t.1)) ],
  )

  mark_up : (n : ℕ) → Up ((y ≡ x) × (i ≡ j)) n₀ k n → MarkOf y i n (reads k x j v ∷ es)
  mark_up n (inl u) = mark_raised u.0 n u.1
  mark_up n (inr u) = mark_kept u.0 n u.1

-- what is told of a version is told of it with its mark raised
raised_source : {x j k : ℕ} {l : List Version} {w : Version} (es : List Event) (a : Raised x j k l w)
    → Put a.old.stamp a.old.item a.old.value es → Put w.stamp w.item w.value es
raised_source es a p = rw (a.stamp_is, a.item_is, a.value_is) p

raised_mark : {x j k : ℕ} {l : List Version} {w : Version} (v : ℕ) (es : List Event) (a : Raised x j k l w)
    → MarkOf a.old.item a.old.stamp a.old.mark es → MarkOf w.item w.stamp w.mark (reads k x j v ∷ es)
raised_mark {x} {j} {k} {l} {w} v es a h =
    let u = mark_up k x j v a.old.item a.old.stamp a.old.mark es h w.mark a.mark_is in
    let s = subst (λ (n : ℕ). MarkOf a.old.item n w.mark (reads k x j v ∷ es)) (sym a.stamp_is) u in
    subst (λ (y : ℕ). MarkOf y w.stamp w.mark (reads k x j v ∷ es)) (sym a.item_is) s

-- ---- each change

module _ (m : Model) (es : List Event) (i : Invariant m es) (s : Sound m) where
  invariant_begun : (k : ℕ) → 1 ≤ k → m.last < k → Invariant (begun k m) (begins k ∷ es)
  invariant_begun k nz lt = record {
    lawful = ((nz, λ n b. let z = i.begun n b in omega arith), i.lawful);
    begun = λ n b. elim b [ inl e ↦ omega arith | inr t ↦ (let z = i.begun n t in omega arith) ];
    active = λ n h. elim (of_opened m.live h) [
      | inl t ↦ (let a = i.active n t in (inr a.0, a.1, a.2))
      | inr e ↦ (inl e, (λ d. new n e (done-begun n es i.lawful d)), (λ d. new n e (undone_begun n es i.lawful d)))
    ];
    opened = λ n a. elim a.0 [ inl e ↦ Memᴰ.append_right m.live (Memᴰ.head e) | inr b ↦ Memᴰ.append_left (k ∷ []) (i.opened n (b, a.1, a.2)) ];
    source = i.source;
    writer = λ u h. elim (i.writer u h) [ inl t ↦ inl (Memᴰ.append_left (k ∷ []) t) | inr t ↦ inr t ];
    kept = λ n x v p h. i.kept n x v p (was n (put-begun n x v es i.lawful p) h);
    mark = i.mark;
    mark0 = i.mark0;
    gap = λ n x j v c w g h p q. i.gap n x j v c w g (was n (got-begun n x j v es i.lawful g) h) p (was c (put-begun c x w es i.lawful p) q);
  }
    where
      new : (n : ℕ) → n ≡ k → Begun n es → ⊥
      new n e b = let z = i.begun n b in omega arith

      was : (n : ℕ) → Begun n es → OpenOrDone n (begun k m) (begins k ∷ es) → OpenOrDone n m es
      was n b (inl o) = elim (of_opened m.live o) [ inl t ↦ inl t | inr e ↦ absurd (new n e b) ]
      was n b (inr d) = inr d

  invariant_ended : (k : ℕ) → k ∈ m.live → Invariant (ended k m) (commits k ∷ es)
  invariant_ended k o = record {
    lawful = (i.active k o, i.lawful);
    begun = i.begun;
    active = λ n h. let c = of_close k m.live h in let a = i.active n c.0 in (a.0, (λ d. elim d [ inl e ↦ c.1 e | inr t ↦ a.1 t ]), a.2);
    opened = λ n a. to_close k m.live (i.opened n (a.0, (λ d. a.1 (inr d)), a.2)) (λ e. a.1 (inl e));
    source = i.source;
    writer = λ u h. elim (ℕ_discrete u.stamp k) [ yes e ↦ inr (inl e) | no e ↦ elim (i.writer u h) [ inl t ↦ inl (to_close k m.live t e) | inr t ↦ inr (inr t) ] ];
    kept = λ n x v p h. i.kept n x v p (was n h);
    mark = i.mark;
    mark0 = i.mark0;
    gap = λ n x j v c w g h p q. i.gap n x j v c w g (was n h) p (was c q);
  }
    where
      was : (n : ℕ) → OpenOrDone n (ended k m) (commits k ∷ es) → OpenOrDone n m es
      was n (inl t) = inl (of_close k m.live t).0
      was n (inr (inl e)) = inl (rw e o)
      was n (inr (inr d)) = inr d

  invariant_dropped : (k cause : ℕ) → cause ≤ 1 → k ∈ m.live → Invariant (dropped k m) (aborts k cause ∷ es)
  invariant_dropped k cause low o = record {
    lawful = ((i.active k o, low), i.lawful);
    begun = i.begun;
    active = λ n h. let c = of_close k m.live h in let a = i.active n c.0 in (a.0, a.1, (λ d. elim d [ inl e ↦ c.1 e | inr t ↦ a.2 t ]));
    opened = λ n a. to_close k m.live (i.opened n (a.0, a.1, (λ d. a.2 (inr d)))) (λ e. a.2 (inl e));
    source = λ u h. i.source u (of_without k m.held h).0;
    writer = λ u h. let c = of_without k m.held h in elim (i.writer u c.0) [ inl t ↦ inl (to_close k m.live t c.1) | inr t ↦ inr t ];
    kept = λ n x v p h. stays n x v h (i.kept n x v p (was n h));
    mark = λ u h. i.mark u (of_without k m.held h).0;
    mark0 = i.mark0;
    gap = λ n x j v c w g l p q. i.gap n x j v c w g (was n l) p (was c q);
  }
    where
      was : (n : ℕ) → OpenOrDone n (dropped k m) (aborts k cause ∷ es) → OpenOrDone n m es
      was n (inl t) = inl (of_close k m.live t).0
      was n (inr d) = inr d

      other : (n : ℕ) → (n ∈ close k m.live) ⊎ Done n es → n ≢ k
      other n (inl c) e = (of_close k m.live c).1 e
      other n (inr d) e = (i.active k o).1 (rw e at d)

      stays : (n x v : ℕ) → (n ∈ close k m.live) ⊎ Done n es → Holds n x v m.held → Holds n x v (without k m.held)
      stays n x v h (u, t, ei, es, ev) = (u, to_without k m.held t (λ e. other n h (sym es ∙ e)), ei, es, ev)

  -- ---- a read

  module _ (k x : ℕ) (nz : 1 ≤ k) (low : x ≤ max_item) (o : k ∈ m.live) where
    -- k has not written x, if the version chosen for it is older than k
    unwritten : (u : Version) → Largest m x (NotAbove k) u → u.stamp < k → ¬ Puts k x es
    unwritten u b l p =
        let w = i.kept k x p.0 p.1 (inl o) in
        let e = w.3 in
        let t = b.top w.0 w.1 w.2 (omega arith) in
        omega arith

    saw_now : (u : Version) → Largest m x (NotAbove k) u → ¬ Waits k u m → Saw k x u.stamp u.value es
    saw_now u b nw = elim b.from [
      | inl e ↦ (let z : u.stamp ≡ 0 = rw e in inr (omega arith, unwritten u b (omega arith), inl (z, rw e)))
      | inr t ↦ elim (ℕ_discrete u.stamp k) [
        | yes e ↦ inl (e, rw (e, t.1) at (i.source u t.0))
        | no e ↦ (let a = t.2 in inr (omega arith, unwritten u b (omega arith), inr (committed e (i.writer u t.0), rw t.1 at (i.source u t.0))))
      ]
    ]
      where
        committed : ¬ (u.stamp ≡ k) → OpenOrDone u.stamp m es → Done u.stamp es
        committed n (inl h) = absurd (nw (n, h))
        committed n (inr d) = d

    invariant_got : (u : Version) → Largest m x (NotAbove k) u → ¬ Waits k u m → Invariant (got k x u.stamp m) (reads k x u.stamp u.value ∷ es)
    invariant_got u b nw = record {
      lawful = ((i.active k o, low, saw_now u b nw), i.lawful);
      begun = i.begun;
      active = i.active;
      opened = i.opened;
      source = λ w h. let a = of_raise x u.stamp k m.held w h in raised_source es a (i.source a.old a.there);
      writer = λ w h. let a = of_raise x u.stamp k m.held w h in subst (λ (n : ℕ). OpenOrDone n m es) (sym a.stamp_is) (i.writer a.old a.there);
      kept = λ n y v p h. let w = i.kept n y v p h in (raise1 x u.stamp k w.0, Memᴰ.map (raise1 x u.stamp k) w.1, w.2, w.3, w.4);
      mark = λ w h. let a = of_raise x u.stamp k m.held w h in raised_mark u.value es a (i.mark a.old a.there);
      mark0 = λ y h. mark_up k x u.stamp u.value y 0 (get_or m.marks y 0) es (i.mark0 y h) _ (of_raise0 x u.stamp k y m.marks (omega (arith, s.wide)));
      gap = λ n y j v c w g l p q l1 l2. elim g [
        | inl e ↦ (let e0 = e.0 in let e2 = e.2 in let y = i.kept c x w (subst (λ (z : ℕ). Put c z w es) e.1 p) q in let z = y.3 in let t = b.top y.0 y.1 y.2 (omega arith) in omega arith)
        | inr t ↦ i.gap n y j v c w t l p q l1 l2
      ];
    }

    -- ---- a write

    module _ (v : ℕ) (fits : v ≤ 4294967295) (nw : ¬ Wrote k x m.held) (u : Version) (b : Largest m x (Below k) u) (early : u.mark ≤ k) where
      unput : ¬ Puts k x es
      unput p = let w = i.kept k x p.0 p.1 (inl o) in nw (w.0, w.1, (w.2, w.3))

      -- nobody has read the version that k now writes
      unread : (n w : ℕ) → Got n x k w es → ⊥
      unread n w g = go (got_seen n x k w es i.lawful g)
        where
          go : Seen n x k w es → ⊥
          go (inl (e, p)) = unput (w, rw (← e) at p)
          go (inr (l, inl h)) = (let z = h.0 in omega arith)
          go (inr (l, inr h)) = (i.active k o).1 h.0

      -- the version beneath the write is at least as new as any version that a read across the write has seen
      as_new : (n j w : ℕ) → j < k → Seen n x j w es → k < n → j ≤ u.stamp
      as_new n j w l (inl (e, p)) g = absurd (omega arith)
      as_new n j w l (inr (a, inl h)) g = omega (arith, h.0)
      as_new n j w l (inr (a, inr h)) g =
          let y = i.kept j x w h.1 (inr h.0) in
          let e = y.3 in
          let t = b.top y.0 y.1 y.2 (omega arith) in
          omega arith

      -- TS5: no read reaches across the write
      across : (n j w : ℕ) → Got n x j w es → OpenOrDone n m es → j < k → k < n → ⊥
      across n j w g live l r = go b.from (as_new n j w l (got_seen n x j w es i.lawful g) r)
        where
          go : (u ≡ initial m x) ⊎ ((u ∈ m.held) × (u.item ≡ x) × (u.stamp < k)) → j ≤ u.stamp → ⊥
          go (inl e) a =
              let z : u.stamp ≡ 0 = rw e in
              let y : u.mark ≡ get_or m.marks x 0 = rw e in
              let q : j ≡ 0 = omega arith in
              let c = (i.mark0 x low).0 n w (rw q at g) in
              omega arith
          go (inr (h, ei, ul)) a = elim (ℕ_discrete j u.stamp) [
            | yes e ↦ (let c = (i.mark u h).0 n w (subst (λ (y : ℕ). Got n y u.stamp w es) (sym ei) (rw e at g)) in omega arith)
            | no e ↦ i.gap n x j w u.stamp u.value g live (rw ei at (i.source u h)) (i.writer u h) (omega arith) (omega arith)
          ]

      new : Version
      new = record { item = x; stamp = k; value = v; mark = 0 }

      invariant_stored : Invariant (stored k x v m) (writes k x v ∷ es)
      unfolding new
      invariant_stored = record {
        lawful = ((i.active k o, low, fits, unput), i.lawful);
        begun = i.begun;
        active = i.active;
        opened = i.opened;
        source = λ w h. elim (of_put new w m.held h) [
          | inl e ↦ inl (ap (λ (y : Version). y.stamp) e, ap (λ (y : Version). y.item) e, ap (λ (y : Version). y.value) e)
          | inr t ↦ inr (i.source w t)
        ];
        writer = λ w h. elim (of_put new w m.held h) [ inl e ↦ inl (rw e o) | inr t ↦ i.writer w t ];
        kept = λ n y w p h. elim p [
          | inl e ↦ (new, put_new new m.held, sym e.1, sym e.0, sym e.2)
          | inr t ↦ (let y = i.kept n y w t h in (y.0, put_old new y.0 m.held y.1, y.2, y.3, y.4))
        ];
        mark = λ w h. elim (of_put new w m.held h) [
          | inl e ↦ subst (λ (z : Version). MarkOf z.item z.stamp z.mark (writes k x v ∷ es)) (sym e) ((λ n c g. absurd (unread n c g)), inl refl)
          | inr t ↦ i.mark w t
        ];
        mark0 = i.mark0;
        gap = λ n y j w c z g l p q l1 l2. elim p [
          | inl e ↦ (let e0 = e.0 in across n j w (subst (λ (z : ℕ). Got n z j w es) e.1 g) l (omega arith) (omega arith))
          | inr t ↦ i.gap n y j w c z g l t q l1 l2
        ];
      }

-- ---- every run of operations

-- whatever was asked, the model and the events written are joined by the invariant
pub invariant : {m : Model} {es : List Event} → Reached m es → Invariant m es
invariant fresh = invariant_start
invariant (next room op m es h r) =
    let i = invariant r in
    let s = reached_sound r in
    table_to (λ (n : Model) (ds : List Event). Invariant n (ds ++ es)) room op m i
    (λ k c. invariant_begun m es i s k c.positive c.above)
    (λ k x c. invariant_got m es i s k x c.positive c.item c.among (chosen m x k) (chosen_is m x k) c.ready)
    (λ k x v c. invariant_stored m es i s k x c.positive c.item c.among v c.value c.first (beneath m x k) (beneath_is m x k) c.early)
    (λ k c. invariant_ended m es i s k c.among)
    (λ k cause low c. invariant_dropped m es i s k cause low c.among)
