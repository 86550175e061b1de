-- The four columns together: those of the versions with one more, without a stamp's, and with a mark raised.
-- Assumes nothing.
use mathlib.Core.Path.{◌≡◌, refl, sym, ap, ◌∙◌}
use mathlib.Core.List.{List, map}
use Prim.Native.Nat.{ℕ, ◌+◌, ◌≤◌, ◌<◌}
use native.Mathlib.Omega.{arith}
use lib.ListN.{length, get_or, length-append, length-drop, length-map}
use lib.Seq.{length-take-le}
use Rattle.scheduler_rules.specs.Model.{Version, max_versions, Same, Wrote, put, without, raise}
use Rattle.version_columns.specs.declared.Versions.{Versions}
use Rattle.version_columns.specs.Columns.{columns_of, versions_of, column, Padded}
use Rattle.version_columns.specs.Change.{inserted, with_version, without_stamp, with_mark}
use Rattle.version_columns.specs.Lookup.{up_to}
use Rattle.scheduler_rules.specs.Sound.{Sorted}
use Rattle.version_columns.proofs.BelowLaws.{up_to_within, put_place}
use Rattle.version_columns.proofs.ColumnLaws.{field_insert, field_narrow, field_count, column-raise, column_padded}
use Rattle.version_columns.proofs.RowLaws.{Full, rows-fields}
use Rattle.version_columns.proofs.RaiseLaws.{raise_keeps, raise_mark}

-- columns with the same parts
pub versions_eq : {a b : Versions} → a.items ≡ b.items → a.stamps ≡ b.stamps → a.values ≡ b.values → a.marks ≡ b.marks → a.count ≡ b.count → a ≡ b
versions_eq p q r s t = λ i. record { items = p i; stamps = q i; values = r i; marks = s i; count = t i }

-- padded columns are those of the versions they hold
pub columns_versions : (t : Versions) → t.count ≤ max_versions → Padded t.count t.items → Padded t.count t.stamps → Padded t.count t.values → Padded t.count t.marks
    → columns_of (versions_of t) ≡ t
columns_versions t h p q r s =
    let full : Full t.count t.items t.stamps t.values t.marks = record {
      of_items = omega (arith, p.places);
      of_stamps = omega (arith, q.places);
      of_values = omega (arith, r.places);
      of_marks = omega (arith, s.places);
    } in
    let f = rows-fields t.count t.items t.stamps t.values t.marks full in
    versions_eq
    (ap column f.0 ∙ column_padded t.count t.items h p)
    (ap column f.1 ∙ column_padded t.count t.stamps h q)
    (ap column f.2 ∙ column_padded t.count t.values h r)
    (ap column f.3 ∙ column_padded t.count t.marks h s)
    (sym (length-map (versions_of t) (λ (u : Version). u.item)) ∙ ap length f.0 ∙ length-take-le t.count t.items (omega (arith, p.places)))

-- w goes to its place, if no version of its item has its stamp
module _ (w : Version) (l : List Version) (n : ¬ Wrote w.stamp w.item l) where
  column-put : (f : Version → ℕ) → length l < max_versions → inserted (up_to w.item w.stamp l) (length l) (f w) (column (map f l)) ≡ column (map f (put w l))
  column-put f h = rw (put_place w l n) (field_insert f w (up_to w.item w.stamp l) l (up_to_within w.item w.stamp l) h)

  pub length-put : length (put w l) ≡ length l + 1
  length-put =
      let at = up_to w.item w.stamp l in
      let within : at ≤ length l = up_to_within w.item w.stamp l in
      rw (put_place w l n) (simp (length-append, length-take-le at l within, length-drop) (omega arith))

  pub columns_put : length l < max_versions → with_version (up_to w.item w.stamp l) w (columns_of l) ≡ columns_of (put w l)
  columns_put h = versions_eq (column-put (λ u. u.item) h) (column-put (λ u. u.stamp) h) (column-put (λ u. u.value) h) (column-put (λ u. u.mark) h) (sym length-put)

-- the versions of k go
pub columns_without : (k : ℕ) (l : List Version) → length l ≤ max_versions → without_stamp k (columns_of l) ≡ columns_of (without k l)
columns_without k l h =
    versions_eq (field_narrow (λ u. u.item) k l h) (field_narrow (λ u. u.stamp) k l h) (field_narrow (λ u. u.value) k l h) (field_narrow (λ u. u.mark) k l h)
    (field_count (λ u. u.stamp) k l)

-- the mark of the version of x by j, which stands at a place, is raised
pub columns_raise : (x j k : ℕ) (d : Version) (l : List Version) (at : ℕ) → Sorted l → at < length l → Same x j (get_or l at d)
    → with_mark at k (columns_of l) ≡ columns_of (raise x j k l)
columns_raise x j k d l at s h e =
    versions_eq
    (ap column (sym (raise_keeps (λ u. u.item) x j k (λ u. refl) l)))
    (ap column (sym (raise_keeps (λ u. u.stamp) x j k (λ u. refl) l)))
    (ap column (sym (raise_keeps (λ u. u.value) x j k (λ u. refl) l)))
    (column-raise (map (λ (u : Version). u.mark) l) at k (omega (arith, length-map l (λ (u : Version). u.mark))) ∙ ap column (sym (raise_mark x j k d l at s h e)))
    (sym (length-map l _))
