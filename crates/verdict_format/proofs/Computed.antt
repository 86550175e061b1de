-- Some verdicts as text: each line is computed.
-- Assumes nothing.
use mathlib.Core.Path.{refl}
use Rattle.line_format.specs.Decimals.{digits, digits_in}
use Rattle.verdict_format.specs.Lines.{SomeLines}

pub some_lines : SomeLines
unfolding digits digits_in
some_lines = record { none = refl; order = refl; torn = refl; cut = refl; empty = refl }
