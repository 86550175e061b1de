-- The page's cases A to F and those beside them hold: each verdict is computed.
-- Assumes nothing.
use mathlib.Core.Path.{refl}
use Rattle.serial_theory.specs.EdgeTest.{edge}
use Rattle.serial_theory.specs.Judged.{committed, verdict}
use Rattle.serial_theory.specs.Cases.{CasesAtoF, CasesBeside}

pub cases_a_to_f : CasesAtoF
unfolding verdict edge committed
cases_a_to_f = record { A = refl; B = refl; C = refl; D = refl; E = refl; F = refl }

pub cases_beside : CasesBeside
unfolding verdict edge committed
cases_beside = record { own_older = refl; own_newer = refl; no_node = refl; commits_fall = refl }
