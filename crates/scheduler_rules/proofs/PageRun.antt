-- The page's worked run and its cases G to J hold. The runs are computed; case G is a law, since it speaks of every later begin: the last begun
-- stamp never falls, so no stamp is above it any more.
-- Assumes nothing.
use Prim.Native.Nat.{ℕ, ◌≤◌}
use mathlib.Core.Path.{◌≡◌, refl, ap, ◌∙◌}
use native.Mathlib.Decide.{ℕ_discrete, dec_le, dec_lt}
use native.Mathlib.Omega.{arith}
use Rattle.lists.specs.Choice.{pick, both, either, isnt}
use Rattle.lists.specs.Member.{memb, any?}
use Rattle.scheduler_rules.specs.Model.{Model, below, put}
use Rattle.scheduler_rules.specs.Table.{Outcome, Good, good?, refuse, due, fine, table}
use Rattle.scheduler_rules.specs.Run.{Leads, begin}
use Rattle.scheduler_rules.specs.PageCases.{PageRun, CasesGtoJ}
use Rattle.scheduler_rules.specs.declared.Op.{Op}
use Rattle.scheduler_rules.proofs.Rows.{fine_begin, is3}
use Rattle.scheduler_rules.proofs.ReplyLaws.{zero_is_fine}
use Rattle.scheduler_rules.proofs.RunLaws.{leads_last}

pub page_run : PageRun
unfolding pick table fine due good? memb both either isnt any? below put dec_le dec_lt ℕ_discrete
page_run = record { replies = refl; written = refl; used = refl }

-- no stamp is above 4294967295, and the last begun one never falls
none_above_lem : (room : ℕ) (m : Model) → (table room (begin 4294967295) m).reply.code ≡ 0 → {n : Model} → Leads (table room (begin 4294967295) m).next n
    → (room' : ℕ) (op : Op) → op.kind ≡ 1 → op.stamp.0 ≤ 4294967295 → Good op → table room' op n ≡ refuse 3 n
none_above_lem room m e {n} l room' op h low g =
    let q : (table room (begin 4294967295) m).next.last ≡ 4294967295 =
    ap (λ (o : Outcome). o.next.last) (zero_is_fine room (begin 4294967295) m e ∙ fine_begin (begin 4294967295) m refl) in
    let z = leads_last l in
    is3 room' op n (λ b. b g) (h, omega arith)

pub cases_g_to_j : CasesGtoJ
unfolding pick table fine due good? memb both either isnt any? below put dec_le dec_lt ℕ_discrete
cases_g_to_j = record { G_begins = refl; G_later = none_above_lem; H_63 = refl; H_64 = refl; I = refl; J_7 = refl; J_7_open = refl; J_8 = refl; J_8_open = refl }
