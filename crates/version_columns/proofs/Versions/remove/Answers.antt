use Rattle.std.proofs.Common.{◌≤◌, List, ℕ, length, sym, ◌∙◌, arith}
use Rattle.scheduler_rules.specs.Model.{max_versions}
use Rattle.version_columns.specs.Change.{Without}
use Rattle.version_columns.proofs.Joined.{versions_eq}
use Rattle.version_columns.proofs.Narrow.{Narrowing, narrowing_from, first_some, first_none}
use Rattle.version_columns.proofs.Versions.remove.Goals as goal
use Rattle.version_columns.proofs.Versions.remove.Goals.{In-Some}

pub returns-in_default : goal.returns-in_default
returns-in_default c =
    let t = c.args.self.now in
    let k = c.args.stamp.0 in
    let w : Without k t.count t.stamps = first_none k t.count t.stamps (omega arith) (sym c.first_of.ensures ∙ c.in_default.is) in
    let same : (a : List ℕ) → t.count ≤ length a → Narrowing k t.stamps a t.count a t.count t.count = λ (a : List ℕ) (h : t.count ≤ length a). narrowing_from k t.stamps a t.count t.count (omega arith) (omega arith) h w in
    versions_eq (same t.items (omega arith)).is (same t.stamps (omega arith)).is (same t.values (omega arith)).is (same t.marks (omega arith)).is (same t.stamps (omega arith)).count

-- the place found is within the count, and none of the stamp stands before it
found : (c : In-Some) → (c.in-Some.from ≤ c.args.self.now.count) × (c.args.self.now.count ≤ max_versions) × Without c.args.stamp.0 c.in-Some.from c.args.self.now.stamps
found c =
    let t = c.args.self.now in
    let f = first_some c.args.stamp.0 t.count t.stamps (omega arith) c.in-Some.from (sym c.first_of.ensures ∙ c.in-Some.is) in
    (f.0, c.requires, f.1)

pub remove_in-self-requires : goal.remove_in-self-requires
remove_in-self-requires c = found (goal.at.remove_in-self-requires c).In-Some

pub remove_in-self-requires-2 : goal.remove_in-self-requires-2
remove_in-self-requires-2 c = found (goal.at.remove_in-self-requires-2 c).In-Some

pub remove_in-self-requires-3 : goal.remove_in-self-requires-3
remove_in-self-requires-3 c = found (goal.at.remove_in-self-requires-3 c).In-Some

pub remove_in-self-requires-4 : goal.remove_in-self-requires-4
remove_in-self-requires-4 c = found (goal.at.remove_in-self-requires-4 c).In-Some

pub returns : goal.returns
returns c =
    let left = c.remove_in-self-4.ensures in
    versions_eq c.remove_in-self.ensures.column left.column c.remove_in-self-2.ensures.column c.remove_in-self-3.ensures.column left.count
