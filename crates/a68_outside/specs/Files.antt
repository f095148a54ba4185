-- Inner: the headline does not rest on this file.
-- The texts of a shelf in memory, as it keeps them.
use Rattle.std.specs.Prelude.{ℕ, zero, suc, List, [], ◌∷◌, None, Some, map, length, string_bytes, Bool, true, nat_lt}
use Rattle.std.specs.declared.option.Option.{Option}
use Rattle.a68_outside.specs.declared.memory.NamedText.{NamedText}

-- a text behind its name
abbrev pub named : NamedText → List ℕ × List ℕ
named file = (string_bytes file.name, file.bytes.items)

abbrev pub texts_of : List NamedText → List (List ℕ × List ℕ)
texts_of files = map named files

-- the bytes of the text at a place
abbrev pub bytes_at : List NamedText → ℕ → List ℕ
bytes_at [] i = []
bytes_at (file ∷ files) zero = file.bytes.items
bytes_at (file ∷ files) (suc i) = bytes_at files i

-- the text begun, and whether it is there
abbrev pub begun_bytes : List NamedText → Option ℕ → List ℕ
begun_bytes files None = []
begun_bytes files (Some i) = bytes_at files i

abbrev pub is_there : List NamedText → Option ℕ → Bool
is_there files None = true
is_there files (Some i) = nat_lt i (length files)
