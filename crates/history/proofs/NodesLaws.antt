-- The third walk, turn by turn: the stamps so far, with those of the commits still to come, are those of the whole log. Put in one by one from the first
-- field on, they are the committed transactions, as both lists rise and have the same members.
-- Assumes nothing.
use Prim.Native.Nat.{ℕ, suc, ◌+◌, ◌-◌, ◌≤◌}
use native.Mathlib.Omega.{arith}
use mathlib.Core.Path.{◌≡◌, refl, sym, ap, ◌∙◌, subst}
use mathlib.Core.List.{List, [], ◌∷◌}
use mathlib.Core.Bool.{Bool, true, false, cond}
use mathlib.Core.Logic.{◌⊎◌, inl, inr, ◌↔◌}
use lib.ListN.{length, take, drop}
use lib.Seq.{length-take-le, drop-drop}
use lib.Dec.{eqb, ltb}
use Rattle.lists.specs.Member.{◌∈◌, Rising}
use Rattle.lists.specs.Order.{insert}
use Rattle.lists.proofs.OrderLaws.{in_nil}
use Rattle.lists.proofs.RisingLaws.{insert_rising, in_insert, of_insert, rising_same}
use Rattle.log_format.specs.Bytes.{Bytes}
use Rattle.log_format.specs.Fields.{decode_at, found}
use Rattle.log_format.specs.Events.{Event, begins, reads, writes, commits, aborts, event_of}
use Rattle.log_format.specs.Told.{Done}
use Rattle.log_format.specs.declared.Record.{Record}
use Rattle.log_format.specs.declared.BadField.{BadField}
use Rattle.std.specs.Prelude.{Ok, Err, None}
use Rattle.log_format.proofs.Reading.{progress, header_long}
use Rattle.history_rules.specs.WellFormed.{most_committed, is_commit, count_commits}
use Rattle.history_rules.specs.History.{fields_from, events_in, passed, history_of}
use Rattle.history_rules.proofs.FieldSteps.{step_field, step_end, step_bad}
use Rattle.serial_theory.specs.Judged.{committed}
use Rattle.serial_theory.proofs.CommittedLaws.{committed_rising, committed_is}
use Rattle.sorted.specs.Sorted.{Added}
use Rattle.history.specs.Nodes.{Passes, with_commit, WithCommit, Nodes}
use Rattle.history.proofs.PassedLaws.{passed_parts}

-- ---- over events

-- the stamps l with those of the commits of a log, put in first to last
abbrev pub gathered : List ℕ → List Event → List ℕ
gathered l [] = l
gathered l (e ∷ log) = gathered (with_commit e l) log

pub with_rising : (e : Event) (l : List ℕ) → Rising 0 l → Rising 0 (with_commit e l)
with_rising (begins t) l r = r
with_rising (reads t x j v) l r = r
with_rising (writes t x v) l r = r
with_rising (commits t) l r = insert_rising t 0 l (omega arith) r
with_rising (aborts t c) l r = r

gathered_rising : (l : List ℕ) (log : List Event) → Rising 0 l → Rising 0 (gathered l log)
gathered_rising l [] r = r
gathered_rising l (e ∷ log) r = gathered_rising (with_commit e l) log (with_rising e l r)

-- they are l's and those that commit
gathered_is : (l : List ℕ) (log : List Event) (t : ℕ) → (t ∈ gathered l log) ↔ ((t ∈ l) ⊎ Done t log)
gathered_is l [] t = (λ m. inl m, λ d. elim d [ inl m ↦ m | inr n ↦ absurd n ])
gathered_is l (begins u ∷ log) t = gathered_is l log t
gathered_is l (reads u x j v ∷ log) t = gathered_is l log t
gathered_is l (writes u x v ∷ log) t = gathered_is l log t
gathered_is l (commits u ∷ log) t =
    let ih = gathered_is (insert u l) log t in (
      λ m. elim (ih.0 m) [ inl n ↦ elim (in_insert u l t n) [ inl q ↦ inr (inl q) | inr o ↦ inl o ] | inr d ↦ inr (inr d) ],
      λ d. ih.1 (elim d [ inl m ↦ inl (of_insert u l t (inr m)) | inr c ↦ elim c [ inl q ↦ inl (of_insert u l t (inl q)) | inr n ↦ inr n ] ]),
    )
gathered_is l (aborts u c ∷ log) t = gathered_is l log t

pub gathered_committed : (log : List Event) → gathered [] log ≡ committed log
gathered_committed log =
    rising_same 0 0 (gathered [] log) (committed log) (gathered_rising [] log tt) (committed_rising log) (λ t. (
      λ m. (committed_is log t).1 (elim ((gathered_is [] log t).0 m) [ inl n ↦ in_nil n | inr d ↦ d ]),
      λ m. (gathered_is [] log t).1 (inr ((committed_is log t).0 m)),
    ))

-- ---- one record

pub with_old : (a : List ℕ) (n : ℕ) (e : Event) → n ≤ length a → with_commit e (take n a) ≡ take n a → WithCommit a n e a n
with_old a n e w q = record { first = sym q; count = sym (ap length q ∙ length-take-le n a w); rest = refl }

pub with_new : (a : List ℕ) (n t : ℕ) (b : List ℕ) (m : ℕ) → Added a n t b m → WithCommit a n (commits t) b m
with_new a n t b m d = record { first = d.first; count = d.count; rest = d.rest }

insert-length : (k : ℕ) (l : List ℕ) → (length l ≤ length (insert k l)) × (length (insert k l) ≤ length l + 1)
insert-length k [] = (omega arith, omega arith)
insert-length k (a ∷ l) = go (ltb k a) (eqb k a) (insert-length k l)
  where
    go : (b c : Bool) → (length l ≤ length (insert k l)) × (length (insert k l) ≤ length l + 1)
        → (suc (length l) ≤ length (cond b (k ∷ a ∷ l) (cond c (a ∷ l) (a ∷ insert k l))))
        × (length (cond b (k ∷ a ∷ l) (cond c (a ∷ l) (a ∷ insert k l))) ≤ suc (length l) + 1)
    go true c ih = (omega arith, omega arith)
    go false true ih = (omega arith, omega arith)
    go false false ih = (omega arith, omega arith)

-- at most one more, and only for a commit
with_length : (e : Event) (l : List ℕ) → (length l ≤ length (with_commit e l)) × (length (with_commit e l) ≤ length l + is_commit e)
with_length (begins t) l = (omega arith, omega arith)
with_length (reads t x j v) l = (omega arith, omega arith)
with_length (writes t x v) l = (omega arith, omega arith)
with_length (commits t) l = insert-length t l
with_length (aborts t c) l = (omega arith, omega arith)

-- ---- the walk

-- at the place `at`, with n stamps in b, which was a
pub record Gathering (s a b : List ℕ) (at n : ℕ) : Type 0 where
  pub stamps : gathered [] (events_in (fields_from s 4)) ≡ gathered (take n b) (events_in (fields_from s at))
  pub rising : Rising 0 (take n b)
  pub size : length b ≡ length a
  pub room : n + count_commits (events_in (fields_from s at)) ≤ most_committed
  pub rest : drop n b ≡ drop n a
  pub within : at ≤ length s

pub gather_start : (s a : List ℕ) → Passes s → Gathering s a a 4 0
gather_start s a p =
    let w = passed_parts s p.0 p.1 in
    record { stamps = refl; rising = tt; size = refl; room = omega (arith, w.1.few); rest = refl; within = header_long s w.0 }

module _ (s a b : List ℕ) (at n : ℕ) (w : most_committed ≤ length a) (g : Gathering s a b at n) where
  gather_end : events_in (fields_from s at) ≡ [] → Nodes s a b n
  gather_end e =
      let q : take n b ≡ gathered [] (events_in (fields_from s 4)) = sym (g.stamps ∙ rw e) in
      let f : (log : List Event) → history_of s ≡ passed log
      → take n b ≡ committed log = λ log h. q ∙ gathered_committed (events_in (fields_from s 4)) ∙ ap committed (sym (passed_parts s log h).1.events) in
      let l : length (take n b) ≡ n = length-take-le n b (omega (arith, g.size, g.room)) in
      record { first = f; count = λ log h. sym l ∙ ap length (f log h); rest = g.rest }

  pub gather_all : decode_at s at ≡ Ok None → Nodes s a b n
  gather_all e = gather_end (ap events_in (step_end s at e))

  pub gather_broken : (x : BadField) → decode_at s at ≡ Err x → Nodes s a b n
  gather_broken x e = gather_end (ap events_in (step_bad s at x e))

  module _ (bs : Bytes s) (r : Record) (m : ℕ) (e : decode_at s at ≡ found r m) where
    coming : n + (is_commit (event_of r) + count_commits (events_in (fields_from s m))) ≤ most_committed
    coming = rw (step_field s bs at r m e) at g.room

    pub gather_room : n + is_commit (event_of r) ≤ length b
    gather_room = omega (arith, coming, g.size)

    pub gather_next : (b' : List ℕ) (n' : ℕ) → length b' ≡ length b → WithCommit b n (event_of r) b' n' → Gathering s a b' m n'
    gather_next b' n' h c =
        let l : length (take n b) ≡ n = length-take-le n b (omega (arith, g.size, g.room)) in
        let k = with_length (event_of r) (take n b) in
        let o : n ≤ n' = omega (arith, c.count) in
        let z : n + (n' - n) ≡ n' = omega arith in
        record {
          stamps = g.stamps ∙ rw (step_field s bs at r m e, c.first);
          rising = rw c.first (with_rising (event_of r) (take n b) g.rising);
          size = h ∙ g.size;
          room = omega (arith, coming, c.count);
          rest = c.rest ∙ subst (λ (i : ℕ). drop i b ≡ drop i a) z (sym (drop-drop (n' - n) n b) ∙ ap (drop (n' - n)) g.rest ∙ drop-drop (n' - n) n a);
          within = (progress s bs at r m e).1;
        }
