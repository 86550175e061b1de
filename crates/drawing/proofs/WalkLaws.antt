-- The walk, turn by turn: the matrix has the edges of the events so far, newest first, and these with the ones still to come are those of the log.
-- Assumes nothing.
use Prim.Native.Nat.{ℕ}
use mathlib.Core.Path.{◌≡◌, refl, sym, ap, ◌∙◌, subst}
use mathlib.Core.Logic.{inl, inr}
use mathlib.Core.List.Memᴰ
use mathlib.Core.List.{List, [], ◌∷◌, reverse_aux}
use lib.ListN.{length, length-replicate}
use Rattle.lists.specs.Member.{◌∈◌}
use Rattle.lists.proofs.OrderLaws.{in_nil, in_reverse, of_reverse}
use Rattle.log_format.specs.Bytes.{Bytes}
use Rattle.log_format.specs.Fields.{decode_at, found}
use Rattle.log_format.specs.Events.{Event, event_of}
use Rattle.log_format.specs.declared.Record.{Record}
use Rattle.log_format.specs.declared.BadField.{BadField}
use Rattle.std.specs.Prelude.{Ok, Err, None}
use Rattle.history_rules.specs.History.{fields_from, events_in, passed, history_of}
use Rattle.history_rules.proofs.FieldSteps.{step_field, step_end, step_bad, placed_events}
use Rattle.history_rules.proofs.FoundAnswers.{whole_fields}
use Rattle.history_rules.proofs.HistoryLaws.{passed_well}
use Rattle.serial_theory.specs.Edges.{Regular, VersionOrder}
use Rattle.serial_theory.proofs.RegularLaws.{regular}
use Rattle.edges.specs.Matrix.{matrix_size}
use Rattle.edges.specs.Ranked.{Ranked, EdgesOf}
use Rattle.edges.proofs.DrawingLaws.{edges_none, edges_same}
use Rattle.drawing.specs.Drawing.{DrewEvent, Drawable, DrewAll}

-- a log that passes is regular, and its events are those of the fields
passed_log : (s : List ℕ) → Bytes s → (log : List Event) → history_of s ≡ passed log → Regular log × (events_in (fields_from s 4) ≡ log)
passed_log s b log h =
    let w = passed_well s b log h in
    (regular log w.3, ap events_in (whole_fields s b w.0 w.1) ∙ placed_events 4 w.0 ∙ sym w.2)

-- at the place `at`
pub record Drawing (s nodes rank : List ℕ) (count : ℕ) (m : List ℕ) (at : ℕ) : Type 0 where
  pub size : length m ≡ matrix_size
  pub past : List Event
  pub whole : reverse_aux past (events_in (fields_from s at)) ≡ events_in (fields_from s 4)
  pub edges : (log : List Event) (vs : ℕ → List ℕ) → history_of s ≡ passed log → VersionOrder log vs → Ranked log vs nodes rank count
      → EdgesOf log vs nodes count past m

-- a matrix of zeros has a byte for each pair
pub blank_size : (nodes rank : List ℕ) (count : ℕ) (m : List ℕ) → Drawable nodes rank count m → length m ≡ matrix_size
blank_size nodes rank count m d = ap length d.blank ∙ length-replicate {A = ℕ} matrix_size 0

module _ (s nodes rank : List ℕ) (count : ℕ) (m : List ℕ) where
  pub drawing_start : Drawable nodes rank count m → Drawing s nodes rank count m 4
  drawing_start d = record {
    size = blank_size nodes rank count m d;
    past = [];
    whole = refl;
    edges = λ log vs h vo r. subst (λ (l : List ℕ). EdgesOf log vs nodes count [] l) (sym d.blank) (edges_none log vs nodes count d.tables.few);
  }

  module _ (b : Bytes s) (at : ℕ) (g : Drawing s nodes rank count m at) where
    drawing_end : events_in (fields_from s at) ≡ [] → DrewAll s nodes rank count m
    drawing_end e = record {
      size = g.size;
      edges = λ log vs h vo r.
          let q : reverse_aux g.past [] ≡ log = ap (reverse_aux g.past) (sym e) ∙ g.whole ∙ (passed_log s b log h).1 in
          edges_same log vs nodes count g.past log m (λ y. (
            λ i. subst (λ (l : List Event). y ∈ l) q (of_reverse g.past [] (inl i)),
            λ i. elim (in_reverse g.past [] (subst (λ (l : List Event). y ∈ l) (sym q) i)) [ inl o ↦ o | inr o ↦ in_nil o ],
          )) (g.edges log vs h vo r);
    }

    pub drawing_all : decode_at s at ≡ Ok None → DrewAll s nodes rank count m
    drawing_all e = drawing_end (ap events_in (step_end s at e))

    pub drawing_broken : (x : BadField) → decode_at s at ≡ Err x → DrewAll s nodes rank count m
    drawing_broken x e = drawing_end (ap events_in (step_bad s at x e))

    pub drawing_next : (r : Record) (n : ℕ) → decode_at s at ≡ found r n → (m' : List ℕ) → DrewEvent nodes rank count (event_of r) m m'
        → Drawing s nodes rank count m' n
    drawing_next r n e m' d =
        let q : reverse_aux g.past (event_of r ∷ events_in (fields_from s n))
        ≡ events_in (fields_from s 4) = ap (λ l. reverse_aux g.past (events_in l)) (sym (step_field s b at r n e)) ∙ g.whole in
        record {
          size = d.size ∙ g.size;
          past = event_of r ∷ g.past;
          whole = q;
          edges = λ log vs h vo rk.
              let w = passed_log s b log h in
              let i : event_of r ∈ log = subst (λ (l : List Event). event_of r ∈ l) (q ∙ w.1) (of_reverse g.past _ (inr (Memᴰ.head refl))) in
              d.edges log vs g.past w.0 vo rk i (g.edges log vs h vo rk);
        }
