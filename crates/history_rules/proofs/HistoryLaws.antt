-- The laws of the checker's answer for codes 21 to 27. It is the page's, which gives one: so a log passes exactly where it is read into events that are
-- well-formed, each refusal says what the page says of its code and place, and of two that could be given the earlier goes.
-- Assumes nothing.
use Prim.Native.Nat.{ℕ, ◌≤◌, ◌<◌}
use native.Mathlib.Omega.{arith}
use mathlib.Core.Path.{◌≡◌, refl, sym, ap, ◌∙◌, subst}
use mathlib.Core.List.{List, [], ◌∷◌, ◌++◌, map}
use mathlib.Core.Logic.{◌≢◌}
use Rattle.log_format.specs.Bytes.{Bytes}
use Rattle.log_format.specs.Whole.{records, log_read}
use Rattle.log_format.specs.Events.{Event, event_of, events_of, events}
use Rattle.log_format.specs.declared.Record.{Record}
use Rattle.history_rules.specs.WellFormed.{Right, AllRight, most_committed, count_commits, WellFormed}
use Rattle.history_rules.specs.Wrong.{Wrong23, Wrong24, Lowest, none, is23, is24, is25}
use Rattle.history_rules.specs.History.{History, passed, refused, history_of}
use Rattle.history_rules.specs.Answers.{Headed, BadAt, no_record, no_right, FirstBadField, FirstDangling, Answers, no_log_lem, bad_field_lem}
use Rattle.history_rules.specs.Answers.{too_many, dangling, well}
use Rattle.history_rules.proofs.OrderLaws.{split_right}
use Rattle.history_rules.proofs.FoundAnswers.{answers_history}
use Rattle.history_rules.proofs.GivenAnswers.{given}

module _ (s : List ℕ) (b : Bytes s) where
  -- ---- the answer

  -- the checker's answer is the page's
  pub history_answers : Answers s (history_of s)
  history_answers = let g = given s b in subst (Answers s) (sym (answers_history s b g.0 g.1)) g.1

  -- and the page gives one
  pub answers_one : (h k : History) → Answers s h → Answers s k → h ≡ k
  answers_one h k a c = sym (answers_history s b h a) ∙ answers_history s b k c

  -- ---- none of 21 to 27 applies exactly where the log is well-formed

  pub well_passed : (rs : List Record) → log_read s ≡ records rs → WellFormed (map event_of rs) → history_of s ≡ passed (map event_of rs)
  well_passed rs e w = answers_history s b (passed (map event_of rs)) (well rs e w)

  -- what passing says
  abbrev Passes : List Event → Type 0
  Passes es = (rs : List Record) × (log_read s ≡ records rs) × (es ≡ map event_of rs) × WellFormed es

  of_passed : (h : History) → Answers s h → (es : List Event) → h ≡ passed es → Passes es
  of_passed h (no_log_lem n) es e = let z : ◌≡◌ {A = ℕ} 0 1 = cc in absurd (omega arith)
  of_passed h (bad_field_lem c p hd f) es e = let z : ◌≡◌ {A = ℕ} 0 1 = cc in absurd (omega arith)
  of_passed h (too_many rs l ok m) es e = let z : ◌≡◌ {A = ℕ} 0 1 = cc in absurd (omega arith)
  of_passed h (dangling rs p l ok few f) es e = let z : ◌≡◌ {A = ℕ} 0 1 = cc in absurd (omega arith)
  of_passed h (well rs l w) es e = let q : map event_of rs ≡ es = cc in (rs, l, sym q, subst WellFormed q w)

  pub passed_well : (es : List Event) → history_of s ≡ passed es → Passes es
  passed_well es e = of_passed (history_of s) history_answers es e

  -- what a log passes with are its events
  pub passed_events : (es : List Event) → history_of s ≡ passed es → events s ≡ es
  unfolding events
  passed_events es e = let w = passed_well es e in ap events_of w.1 ∙ sym w.2

-- ---- which code

lowest_codes : {past : List Event} {e : Event} {c : ℕ} → c ≢ 0 → Lowest past e c → (23 ≤ c) × (c ≤ 25)
lowest_codes n (none p q r) = absurd (n refl)
lowest_codes n (is23 w) = (omega arith, omega arith)
lowest_codes n (is24 p w) = (omega arith, omega arith)
lowest_codes n (is25 p q w) = (omega arith, omega arith)

-- a bad field's code is one of 22 to 25
pub bad_codes : {s : List ℕ} {p : ℕ} {past : List Event} {c : ℕ} → BadAt s p past c → (22 ≤ c) × (c ≤ 25)
bad_codes (no_record k) = (omega arith, omega arith)
bad_codes (no_right r n f st nz l) = let w = lowest_codes nz l in (omega arith, w.1)

-- Q of the code and the number of a refusal
abbrev pub OfRefusal : (ℕ → ℕ → Type 0) → History → Type 0
OfRefusal Q (passed es) = Unit {0}
OfRefusal Q (refused c p) = Q c p

module _ (s : List ℕ) (b : Bytes s) where
  -- what holds of each refusal that the page gives, holds of the checker's
  module _ (Q : ℕ → ℕ → Type 0)
      (q21 : ¬ Headed s → Q 21 0)
      (q22-25 : (c p : ℕ) → Headed s → FirstBadField s c p → Q c p)
      (q26 : (rs : List Record) → log_read s ≡ records rs → AllRight [] (map event_of rs) → most_committed < count_commits (map event_of rs) → Q 26 0)
      (q27 : (rs : List Record) (p : ℕ) → log_read s ≡ records rs → FirstDangling rs p → Q 27 p) where
    each : (h : History) → Answers s h → OfRefusal Q h
    each h (no_log_lem n) = q21 n
    each h (bad_field_lem c p hd f) = q22-25 c p hd f
    each h (too_many rs r ok m) = q26 rs r ok m
    each h (dangling rs p r ok few f) = q27 rs p r f
    each h (well rs r w) = tt

    pub refusal : (c p : ℕ) → history_of s ≡ refused c p → Q c p
    refusal c p e = subst (OfRefusal Q) e (each (history_of s) (history_answers s b))

  -- 21: the log has no header, or is too long
  pub says_21 : (c p : ℕ) → history_of s ≡ refused c p → c ≡ 21 → (¬ Headed s) × (p ≡ 0)
  says_21 = refusal (λ c p. c ≡ 21 → (¬ Headed s) × (p ≡ 0)) (λ n e. (n, refl))
      (λ c p hd f e. let w = bad_codes f.bad in absurd (omega arith)) (λ rs r ok m e. absurd (omega arith)) (λ rs p r f e. absurd (omega arith))

  -- 22 to 25: the field at that place is the first bad one, and the code its lowest
  pub says_22_25 : (c p : ℕ) → history_of s ≡ refused c p → 22 ≤ c → c ≤ 25 → FirstBadField s c p
  says_22_25 = refusal (λ c p. 22 ≤ c → c ≤ 25 → FirstBadField s c p) (λ n l m. absurd (omega arith))
      (λ c p hd f l m. f) (λ rs r ok m l k. absurd (omega arith)) (λ rs p r f l k. absurd (omega arith))

  -- 26: all fields are right, and over 256 transactions commit
  pub says_26 : (c p : ℕ) → history_of s ≡ refused c p → c ≡ 26 → (p ≡ 0) × AllRight [] (events s) × (most_committed < count_commits (events s))
  unfolding events
  says_26 =
      refusal (λ c p. c ≡ 26 → (p ≡ 0) × AllRight [] (events_of (log_read s)) × (most_committed < count_commits (events_of (log_read s))))
      (λ n e. absurd (omega arith))
      (λ c p hd f e. let w = bad_codes f.bad in absurd (omega arith)) (λ rs r ok m e. (refl, rw r ok, rw r m)) (λ rs p r f e. absurd (omega arith))

  -- 27: the read at that place is the first of a committed transaction from one that never commits
  pub says_27 : (c p : ℕ) → history_of s ≡ refused c p → c ≡ 27 → (rs : List Record) × (log_read s ≡ records rs) × FirstDangling rs p
  says_27 = refusal (λ c p. c ≡ 27 → (rs : List Record) × (log_read s ≡ records rs) × FirstDangling rs p) (λ n e. absurd (omega arith))
      (λ c p hd f e. let w = bad_codes f.bad in absurd (omega arith)) (λ rs r ok m e. absurd (omega arith)) (λ rs p r f e. (rs, r, f))

  -- ---- which goes first

  abbrev code : History → ℕ
  code (passed es) = 0
  code (refused c p) = c

  abbrev number : History → ℕ
  number (passed es) = 0
  number (refused c p) = p

  -- of two bad fields the first decides, and of two codes of a field the lowest
  pub first-bad_one : Headed s → (c p d q : ℕ) → FirstBadField s c p → FirstBadField s d q → (c ≡ d) × (p ≡ q)
  first-bad_one hd c p d q f g =
      let e = answers_one s b (refused c p) (refused d q) (bad_field_lem c p hd f) (bad_field_lem d q hd g) in
      (ap code e, ap number e)

  -- a bad field goes before 26 and 27
  pub bad-before_26 : Headed s → (c p : ℕ) → FirstBadField s c p → history_of s ≡ refused c p
  bad-before_26 hd c p f = answers_history s b (refused c p) (bad_field_lem c p hd f)

  -- 26 goes before 27
  pub many_before-dangling : (rs : List Record) → log_read s ≡ records rs → AllRight [] (map event_of rs)
      → most_committed < count_commits (map event_of rs) → history_of s ≡ refused 26 0
  many_before-dangling rs r ok m = answers_history s b (refused 26 0) (too_many rs r ok m)

  -- of two such reads the first decides
  pub first-dangling : (rs : List Record) (p : ℕ) → log_read s ≡ records rs → AllRight [] (map event_of rs) → count_commits (map event_of rs) ≤ most_committed
      → FirstDangling rs p → history_of s ≡ refused 27 p
  first-dangling rs p r ok few f = answers_history s b (refused 27 p) (dangling rs p r ok few f)

-- a field wrong in two ways has the lower code
pub lower_first : {past : List Event} {e : Event} {c : ℕ} → Lowest past e c → (Wrong23 past e → c ≡ 23) × (Wrong24 past e → c ≤ 24)
lower_first (none p q r) = ((λ w. absurd (p w)), (λ w. absurd (q w)))
lower_first (is23 x) = ((λ w. refl), (λ w. omega arith))
lower_first (is24 p x) = ((λ w. absurd (p w)), (λ w. omega arith))
lower_first (is25 p q x) = ((λ w. absurd (p w)), (λ w. absurd (q w)))

-- ---- a well-formed log

-- each event of it is right after those that stand before it
pub split_well : (log : List Event) → WellFormed log → (before : List Event) (e : Event) (after : List Event) → log ≡ before ++ e ∷ after → Right before e
split_well log w = split_right log w.right
