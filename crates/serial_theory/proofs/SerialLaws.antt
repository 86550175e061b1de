-- Bernstein and Goodman's theorem, with values: an order of the committed transactions in which each edge leads forward is a serial order.
-- When k's turn comes and it reads x from j, j has been run and nobody since has written x: such a writer's version comes before j's, and has an
-- edge to j, or after it, and has one from k. So x shows what k reads; and k's own earlier write of x, if there is one, is the one it reads.
-- It is proved once for what an item shows of a version: its value, or also who wrote it.
-- Assumes nothing.
use Prim.Native.Nat.{ℕ}
use native.Mathlib.Decide.{ℕ_discrete}
use mathlib.Core.Path.{◌≡◌, refl, sym, ◌∙◌, ap, subst}
use mathlib.Core.Logic.{inl, inr, ◌≢◌}
use mathlib.Core.List.Memᴰ
use mathlib.Core.List.{List, [], ◌∷◌, ◌++◌, append_assoc}
use lib.Seq.{append_snoc}
use Rattle.lists.specs.Member.{◌∈◌}
use Rattle.lists.specs.Order.{Distinct, Before, Lists}
use Rattle.lists.proofs.OrderLaws.{in_nil, in_split, before_total, before_split, after_split, distinct_front, distinct_back}
use Rattle.log_format.specs.Events.{Event, begins, reads, writes, commits, aborts}
use Rattle.log_format.specs.Told.{Got, Put, Done}
use Rattle.log_format.proofs.ToldLaws.{got_is, put_is}
use Rattle.history_rules.specs.WellFormed.{Readable, AllRight}
use Rattle.graph_theory.specs.Graph.{Topological}
use Rattle.serial_theory.specs.Edges.{Regular, VersionOrder, versions, ReadsFrom, Wrote, Edge, drawn, reads_from, comes_before, comes_after}
use Rattle.serial_theory.specs.Serial.{zeros, Gets, AllGet, Runs, after, Serial, SerialOrder, SerialVersions}
use Rattle.serial_theory.specs.Judged.{committed}
use Rattle.serial_theory.proofs.RegularLaws.{done-stamp, put_once}
use Rattle.serial_theory.proofs.CommittedLaws.{committed_is}
use Rattle.serial_theory.proofs.RunLaws.{upon, upon_frame, upon_write, after_write, after_all, after_all_append, after_all_frame}

module _ {A : Type 0} (note : ℕ → ℕ → A) (log : List Event) (g : Regular log) (vs : ℕ → List ℕ) (vo : VersionOrder log vs) where
  -- what the items show after the transactions of an order, from all zeros
  abbrev shown : List ℕ → ℕ → A
  shown o = after_all note log o (zeros note)

  -- k's turn: those of `ran` have been run, those of `rest` are yet to be
  module _ (ran : List ℕ) (k : ℕ) (rest : List ℕ) (ls : Lists (λ (t : ℕ). Done t log) (ran ++ (k ∷ rest)))
      (fw : (a b : ℕ) → a ∈ ran ++ (k ∷ rest) → b ∈ ran ++ (k ∷ rest) → Edge log vs a b → Before (ran ++ (k ∷ rest)) a b) where
    ran_in : (i : ℕ) → i ∈ ran → i ∈ ran ++ (k ∷ rest)
    ran_in i m = Memᴰ.append_left (k ∷ rest) m

    k_in : k ∈ ran ++ (k ∷ rest)
    k_in = Memᴰ.append_right ran (Memᴰ.head refl)

    ran_done : (i : ℕ) → i ∈ ran → Done i log
    ran_done i m = ls.only i (ran_in i m)

    k_done : Done k log
    k_done = ls.only k k_in

    module _ (x j v : ℕ) (got : Got k x j v log) (other : j ≢ k) where
      from_j : ReadsFrom log k x j
      from_j = record { value = v; done = k_done; got = got; other = other }

      wrote : (i w : ℕ) → i ∈ ran → Put i x w log → i ≢ j → Wrote log i x j k
      wrote i w m p ne = record { done = ran_done i m; put = (w, p); not_j = ne; not_k = λ q. distinct_front ran k rest ls.once i m (Memᴰ.head q) }

      -- none that has been run wrote a version after j's
      none_after : (i w : ℕ) → i ∈ ran → Put i x w log → i ≢ j → ¬ Before (versions vs x) j i
      none_after i w m p ne b =
          let later = fw k i k_in (ran_in i m) (drawn from_j (comes_after (wrote i w m p ne) b)) in
          distinct_front ran k rest ls.once i m (Memᴰ.tail (after_split ran k rest ls.once i later))

      -- a read from 0: none that has been run wrote x
      shows_zero : j ≡ 0 → shown ran x ≡ note 0 0
      shows_zero z = after_all_frame note log x ran (zeros note)
          (λ i w m p. none_after i w m p (λ q. done-stamp log g i (ran_done i m) (q ∙ z)) (inl (z, (vo x).all i (ran_done i m, (w, p)))))

      -- a read from j: j has been run, and none since wrote x
      shows_write : j ≢ 0 → Put j x v log → shown ran x ≡ note j v
      shows_write nz pj = go (in_split ran j_ran)
        where
          j_done : Done j log
          j_done = g.from k x j v k_done got nz

          j_ran : j ∈ ran
          j_ran = before_split ran k rest ls.once j (fw j k (ls.all j j_done) k_in (drawn from_j (reads_from nz)))

          go : (d : List ℕ) × (e : List ℕ) × (ran ≡ d ++ (j ∷ e)) → shown ran x ≡ note j v
          go (d, e, q) =
              ap (λ (t : List ℕ). shown t x) q ∙ ap (λ (f : ℕ → A). f x) (after_all_append note log d (j ∷ e) (zeros note))
              ∙ after_all_frame note log x e (after note j log (shown d)) none_since
              ∙ after_write note j x v log (shown d) pj (λ w p. put_once j x w v log g p pj)
            where
              whole : ran ++ (k ∷ rest) ≡ d ++ (j ∷ (e ++ (k ∷ rest)))
              whole = ap (λ (t : List ℕ). t ++ (k ∷ rest)) q ∙ append_assoc d (j ∷ e) (k ∷ rest)

              once : Distinct (d ++ (j ∷ (e ++ (k ∷ rest))))
              once = subst (λ (t : List ℕ). Distinct t) whole ls.once

              none_since : (i w : ℕ) → i ∈ e → ¬ Put i x w log
              none_since i w m p =
                  elim (before_total i j (versions vs x) (Memᴰ.tail ((vo x).all i (ran_done i i_ran, (w, p))))
                  (Memᴰ.tail ((vo x).all j (j_done, (v, pj)))) ne) [
                    | inl b ↦ (let sooner = fw i j (ran_in i i_ran) (ran_in j j_ran) (drawn from_j (comes_before (wrote i w i_ran p ne) b)) in
                        distinct_front d j (e ++ (k ∷ rest)) once i
                        (before_split d j (e ++ (k ∷ rest)) once i (subst (λ (t : List ℕ). Before t i j) whole sooner)) (Memᴰ.tail i_later))
                    | inr b ↦ none_after i w i_ran p ne b
                  ]
                where
                  i_later : i ∈ e ++ (k ∷ rest)
                  i_later = Memᴰ.append_left (k ∷ rest) m

                  i_ran : i ∈ ran
                  i_ran = subst (λ (t : List ℕ). i ∈ t) (sym q) (Memᴰ.append_right d (Memᴰ.tail m))

                  ne : i ≢ j
                  ne r = distinct_back d j (e ++ (k ∷ rest)) once (Memᴰ.cast (sym r) i_later)

    -- a read of k's gets what stands in the log
    read_gets : (past : List Event) (x j v : ℕ) → ((w : ℕ) → Put k x w past → Put k x w log) → ((w : ℕ) → Put j x w past → Put j x w log)
        → Got k x j v log → Readable past k x j v → upon note k past (shown ran) x ≡ note j v
    read_gets past x j v own_in in-log got ok = go (ℕ_discrete j k) (ℕ_discrete j 0)
      where
        frame : j ≢ k → upon note k past (shown ran) x ≡ shown ran x
        frame h = upon_frame note k x past (shown ran) (λ w p. h (ok.own w p))

        go : Dec (j ≡ k) → Dec (j ≡ 0) → upon note k past (shown ran) x ≡ note j v
        go (yes q) (yes z) = absurd (done-stamp log g k k_done (sym q ∙ z))
        go (yes q) (no nz) =
            let pk : Put k x v past = subst (λ (t : ℕ). Put t x v past) q (ok.wrote nz) in
            upon_write note k x v past (shown ran) pk (λ w p. put_once k x w v log g (own_in w p) (own_in v pk)) ∙ ap (λ (t : ℕ). note t v) (sym q)
        go (no h) (yes z) = frame h ∙ shows_zero x j v got h z ∙ ap (note 0) (sym (ok.initial z)) ∙ ap (λ (t : ℕ). note t v) (sym z)
        go (no h) (no nz) = frame h ∙ shows_write x j v got h nz (in-log v (ok.wrote nz))

    -- each of k's reads does: `past` has been run, `post` is yet to be
    gets : (past post : List Event) → AllRight past post → ((e : Event) → e ∈ past → e ∈ log) → ((e : Event) → e ∈ post → e ∈ log)
        → AllGet note k post (upon note k past (shown ran))
    gets past [] r old new = tt
    gets past (e ∷ post) r old new = (
      one e r (new e (Memᴰ.head refl)),
      gets (e ∷ past) post r.1 (λ f m. elim (Memᴰ.cases_cons m) [ inl q ↦ new f (Memᴰ.head q) | inr n ↦ old f n ])
          (λ f m. new f (Memᴰ.tail m)),
    )
      where
        told : (t x w : ℕ) → Put t x w past → Put t x w log
        told t x w p = (put_is t x w log).1 (old (writes t x w) ((put_is t x w past).0 p))

        one : (e : Event) → AllRight past (e ∷ post) → e ∈ log → Gets note k e (upon note k past (shown ran))
        one (begins u) r m = tt
        one (reads u x j v) r m = λ q. read_gets past x j v (told k x) (told j x)
            ((got_is k x j v log).1 (subst (λ (t : ℕ). reads t x j v ∈ log) q m)) (subst (λ (t : ℕ). Readable past t x j v) q r.0.1.1)
        one (writes u x v) r m = tt
        one (commits u) r m = tt
        one (aborts u c) r m = tt

  runs : (ran rest : List ℕ) → Lists (λ (t : ℕ). Done t log) (ran ++ rest)
      → ((a b : ℕ) → a ∈ ran ++ rest → b ∈ ran ++ rest → Edge log vs a b → Before (ran ++ rest) a b) → Runs note log rest (shown ran)
  runs ran [] ls fw = tt
  runs ran (k ∷ rest) ls fw = (
    gets ran k rest ls fw [] log g.right (λ e m. in_nil m) (λ e m. m),
    subst (λ (s : ℕ → A). Runs note log rest s) (after_all_append note log ran (k ∷ []) (zeros note))
        (runs (ran ++ (k ∷ [])) rest (subst (λ (t : List ℕ). Lists (λ (u : ℕ). Done u log) t) (sym (append_snoc ran k rest)) ls)
        (subst (λ (t : List ℕ). (a b : ℕ) → a ∈ t → b ∈ t → Edge log vs a b → Before t a b) (sym (append_snoc ran k rest)) fw)),
  )

  -- a topological order of the committed transactions is serial, for whatever an item shows
  pub topological_serial : (o : List ℕ) → Topological (Edge log vs) (committed log) o → Serial note log o
  topological_serial o t =
      let ls : Lists (λ (u : ℕ). Done u log) o = record {
        once = t.lists.once;
        all = λ u d. t.lists.all u ((committed_is log u).1 d);
        only = λ u m. (committed_is log u).0 (t.lists.only u m);
      } in
      record { lists = ls; runs = runs [] o ls t.forward }

module _ (log : List Event) (g : Regular log) (vs : ℕ → List ℕ) (vo : VersionOrder log vs) (o : List ℕ) (t : Topological (Edge log vs) (committed log) o) where
  -- any topological order of the committed transactions is a serial order
  pub one_serializable : SerialOrder log o
  one_serializable = topological_serial (λ (j v : ℕ). v) log g vs vo o t

  -- and each of its reads is from the version in the log
  pub one_serializable_versions : SerialVersions log o
  one_serializable_versions = topological_serial {A = ℕ × ℕ} (λ (j v : ℕ). (j, v)) log g vs vo o t
