-- The bytes that a run of events takes in the log.
-- Assumes nothing.
use Rattle.std.specs.Prelude.{ℕ, ◌+◌, List, [], ◌∷◌}
use Rattle.log_format.specs.Events.{Event, size}

abbrev pub sizes : List Event → ℕ
sizes [] = 0
sizes (e ∷ es) = size e + sizes es
