-- The page's numbers.
-- Assumes nothing.
use Rattle.std.specs.Prelude.{ℕ}
use Rattle.numbers.specs.declared.Page.{Page}

-- how many items there are, and the largest one
abbrev pub items : ℕ
items = 64

abbrev pub max_item : ℕ
max_item = 63

-- the most open transactions
abbrev pub max_open : ℕ
max_open = 32

-- the most versions held, initial ones not counted
abbrev pub max_versions : ℕ
max_versions = 1024

-- the most bytes that a log has
abbrev pub max_log : ℕ
max_log = 65536

-- the most committed transactions of a log that is checked
abbrev pub max_committed : ℕ
max_committed = 256

-- all of them
abbrev pub page_numbers : Page
page_numbers = record { items = items; largest = max_item; opens = max_open; versions = max_versions; bytes = max_log; committed = max_committed }
