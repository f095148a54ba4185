-- Inner: the headline does not rest on this file.
-- Labels that are found at once.
use Rattle.std.specs.Prelude.{◌≡◌, ℕ, List, nat_eq}
use Rattle.std.specs.Map.{lookup}
use Rattle.a68_builder.specs.Labels.{number_of}

-- the entries are those of the pairs, of a label that has several its first
abbrev pub AreKnown : (pairs entries : List (ℕ × ℕ)) → Type 0
AreKnown pairs entries = (label : ℕ) → lookup (nat_eq label) entries ≡ number_of pairs label
