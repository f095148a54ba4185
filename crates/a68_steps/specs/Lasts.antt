-- Inner: the headline does not rest on this file.
-- Values in one list, from which each is taken off at its end.
use Rattle.std.specs.Prelude.{◌≡◌, ◌-◌, ◌++◌, ℕ, List, length, take, drop, slice_index_or}
use Rattle.a68_values.specs.Content.{Content, plain, structure, contents_of}
use Rattle.a68_values.specs.declared.plain.Plain.TheVariants.{Unset}

-- all but the last so many
abbrev pub all_but : (count : ℕ) → List Content → List Content
all_but n vs = take (length vs - n) vs

-- the last so many
abbrev pub last_ones : (count : ℕ) → List Content → List Content
last_ones n vs = drop (length vs - n) vs

-- the last one, where there is one
abbrev pub last_of : List Content → Content
last_of vs = slice_index_or vs (length vs - 1) (plain Unset)

-- in place of the last one, which is a structure of so many parts, these parts stand
pub record IsTakenApart (count : ℕ) (old new : List Content) : Type 0 where
  pub parts : List Content
  pub is : last_of old ≡ structure (contents_of parts)
  pub many : length parts ≡ count
  pub whole : new ≡ all_but 1 old ++ parts
