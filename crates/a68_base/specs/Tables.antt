-- Tables of spellings.
use Rattle.std.specs.Prelude.{ℕ, Bool, List, [], ◌∷◌, None, Some, if◌then◌else◌}
use Rattle.std.specs.List.{list_any}
use Rattle.std.specs.Str.{bytes_eq}
use Rattle.std.specs.declared.option.Option.{Option}

-- what stands beside a spelling
abbrev pub find : {A : Type 0} → List (List ℕ × A) → List ℕ → Option A
find [] spelling = None
find (row ∷ more) spelling = if bytes_eq spelling row.0 then Some row.1 else find more spelling

-- whether a spelling is one of the words
abbrev pub is_listed : List (List ℕ) → List ℕ → Bool
is_listed words spelling = list_any (bytes_eq spelling) words
