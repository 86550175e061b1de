-- What tables hold: the stamps of a table made of stamps are these, and the table with one stamp more differs in one place and the count.
-- Assumes nothing.
use Prim.Native.Nat.{ℕ, suc, ◌+◌, ◌-◌, ◌≤◌, ◌<◌, min}
use mathlib.Core.Path.{◌≡◌, refl, sym, ap, ◌∙◌, subst}
use mathlib.Core.List.{List, [], ◌∷◌, ◌++◌, map, map-append, map-map, map-id, filter-append, append-nil}
use mathlib.Core.Logic.{◌≢◌}
use native.Mathlib.Decide.{ℕ_discrete, dec_le}
use native.Mathlib.Numerals.{add-one}
use native.Mathlib.Omega.{arith}
use lib.ListN.{length, take, set, get_or, replicate, length-append, length-map}
use lib.Seq.{length-take-le, take_at, take-suc, set_at, append_snoc, take_all}
use Rattle.lists.specs.Choice.{isnt}
use Rattle.lists.proofs.ChoiceLaws.{ite_by}
use Rattle.log_format.specs.declared.Stamp.{Stamp}
use Rattle.scheduler_rules.specs.Model.{max_open, close}
use Rattle.open_table.specs.Open.{stamp, number, stamps_of, table_of, Padded}
use Rattle.open_table.specs.declared.OpenTable.{OpenTable}

-- ---- what a table made of stamps holds

stamps_back : (ks : List ℕ) → map number (map stamp ks) ≡ ks
stamps_back ks = map-map number stamp ks ∙ map-id ks

pub stamps_of_table : (ks : List ℕ) → stamps_of (table_of ks) ≡ ks
stamps_of_table ks = ap (map number) (take_at (map stamp ks) (replicate (max_open - length ks) (stamp 0)) (length ks) (length-map ks stamp)) ∙ stamps_back ks

pub padded_table : (ks : List ℕ) → length ks ≤ max_open → Padded (table_of ks)
padded_table ks h = record { is = ap table_of (sym (stamps_of_table ks)); within = h }

-- a table that is one made of stamps holds them
pub padded_by : {t : OpenTable} (ks : List ℕ) → t ≡ table_of ks → length ks ≤ max_open → Padded t
padded_by ks e h = subst Padded (sym e) (padded_table ks h)

pub stamps_by : {t : OpenTable} (ks : List ℕ) → t ≡ table_of ks → stamps_of t ≡ ks
stamps_by ks e = ap stamps_of e ∙ stamps_of_table ks

-- ---- one stamp more

fewer : (n : ℕ) → n < max_open → replicate (max_open - n) (stamp 0) ≡ stamp 0 ∷ replicate (max_open - suc n) (stamp 0)
fewer n h = rw (let e : max_open - n ≡ suc (max_open - suc n) = omega arith in e)

longer : (ks : List ℕ) (k : ℕ) → length (ks ++ k ∷ []) ≡ suc (length ks)
longer ks k = length-append ks (k ∷ []) ∙ add-one (length ks)

-- the places of a table with k after ks
set_more : (ks : List ℕ) (k : ℕ) → length ks < max_open → set (table_of ks).stamps (length ks) (stamp k) ≡ (table_of (ks ++ k ∷ [])).stamps
set_more ks k h =
    rw (fewer (length ks) h, longer ks k, map-append stamp ks (k ∷ []))
    (set_at (map stamp ks) (stamp 0) (replicate (max_open - suc (length ks)) (stamp 0)) (stamp k) (length ks) (length-map ks stamp)
    ∙ sym (append_snoc (map stamp ks) (stamp k) (replicate (max_open - suc (length ks)) (stamp 0))))

pub insert_table : (ks : List ℕ) (k : ℕ) → length ks < max_open
    → ◌≡◌ {A = OpenTable} (record { stamps = set (table_of ks).stamps (length ks) (stamp k); count = length ks + 1 }) (table_of (ks ++ k ∷ []))
insert_table ks k h = rw (set_more ks k h, longer ks k, add-one (length ks))

pub insert_padded : (t : OpenTable) (s : Stamp) → Padded t → t.count < max_open
    → ◌≡◌ {A = OpenTable} (record { stamps = set t.stamps t.count s; count = t.count + 1 }) (table_of (stamps_of t ++ s.0 ∷ []))
insert_padded t s p h =
    let ks = stamps_of t in
    let e : t.count ≡ length ks = ap (λ (u : OpenTable). u.count) p.is in
    ap (λ (u : OpenTable). record { stamps = set u.stamps u.count s; count = u.count + 1 }) p.is
    ∙ insert_table ks s.0 (omega arith)

-- ---- places that are looked at

-- the first min c 32 of 32 places are the first c
pub taken_all : (l : List Stamp) (c n : ℕ) → length l ≡ max_open → n ≡ min c max_open → take n l ≡ take c l
taken_all l c n w e = go (dec_le c max_open)
  where
    go : Dec (c ≤ max_open) → take n l ≡ take c l
    go (yes h) = let q : n ≡ c = omega arith in ap (λ (m : ℕ). take m l) q
    go (no h) = take_all n l (omega arith) ∙ sym (take_all c l (omega arith))

-- ---- one stamp less

pub close_short : (k : ℕ) (l : List ℕ) → length (close k l) ≤ length l
close_short k [] = omega arith
close_short k (x ∷ l) = ite_by (λ (r : List ℕ). length r ≤ suc (length l)) (isnt (ℕ_discrete x k))
    (λ n. let h : length (close k l) ≤ length l = close_short k l in omega arith)
    (λ n. let h : length (close k l) ≤ length l = close_short k l in omega arith)

-- what is kept of the first i of at most 32 places leaves room for one more
pub kept_room : (k : ℕ) (l : List Stamp) (i : ℕ) (u : OpenTable) → i < length l → length l ≤ max_open → u ≡ table_of (close k (map number (take i l)))
    → Padded u × (u.count < max_open)
kept_room k l i u h w e =
    let ks = close k (map number (take i l)) in
    let short : length ks ≤ length (map number (take i l)) = close_short k (map number (take i l)) in
    let looked : length (map number (take i l)) ≡ i = length-map (take i l) number ∙ length-take-le i l (omega arith) in
    let count : u.count ≡ length ks = ap (λ (v : OpenTable). v.count) e in
    (padded_by ks e (omega arith), omega arith)

-- one place more is looked at: its stamp is kept, unless it is the one to go
module _ (k : ℕ) (l : List Stamp) (i : ℕ) (h : i < length l) where
  close_next : close k (map number (take (i + 1) l)) ≡ close k (map number (take i l)) ++ close k (number (get_or l i (stamp 0)) ∷ [])
  close_next =
      rw (add-one i, take-suc l i (stamp 0) h, map-append number (take i l) (get_or l i (stamp 0) ∷ []))
      (filter-append _ (map number (take i l)) (number (get_or l i (stamp 0)) ∷ []))

  pub kept_more : {u : OpenTable} → u ≡ table_of (close k (map number (take i l))) → number (get_or l i (stamp 0)) ≢ k
      → table_of (stamps_of u ++ number (get_or l i (stamp 0)) ∷ []) ≡ table_of (close k (map number (take (i + 1) l)))
  kept_more {u} e n =
      let x = number (get_or l i (stamp 0)) in
      let one : close k (x ∷ []) ≡ x ∷ [] = ite_by (λ (r : List ℕ). r ≡ x ∷ []) (isnt (ℕ_discrete x k)) (λ m. refl) (λ m. absurd (m n)) in
      rw (stamps_by (close k (map number (take i l))) e, close_next, one)

  pub kept_same : number (get_or l i (stamp 0)) ≡ k → table_of (close k (map number (take i l))) ≡ table_of (close k (map number (take (i + 1) l)))
  kept_same e =
      let x = number (get_or l i (stamp 0)) in
      let none : close k (x ∷ []) ≡ [] = ite_by (λ (r : List ℕ). r ≡ []) (isnt (ℕ_discrete x k)) (λ m. absurd (m e)) (λ m. refl) in
      rw (close_next, none, append-nil)
