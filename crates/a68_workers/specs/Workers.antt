-- Inner: the headline does not rest on this file.
-- How many workers a run may have.
use Rattle.std.specs.Prelude.{ℕ}

-- as many as a run may have at most (own)
abbrev pub most_workers : ℕ
most_workers = 64
