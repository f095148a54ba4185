-- Inner: the headline does not rest on this file.
-- What maps have, by forks at the bits of their keys (own).
use Rattle.std.specs.Prelude.{◌≡◌, ◌<◌, ◌%◌, ◌/◌, ◌^◌, ℕ, zero, suc, Bool, true, false, nat_eq, List, length, slice_get, Option, Some, None, if◌then◌else◌}
use Rattle.a68_maps.specs.declared.maps.Fork.{Fork}

abbrev pub no_fork : Fork
no_fork = record { even = None; odd = None }

abbrev pub fork_or_none : Option Fork → Fork
fork_or_none (Some fork) = fork
fork_or_none None = no_fork

-- the fork of a map
abbrev pub fork_of : List Fork → (map : Option ℕ) → Fork
fork_of forks None = no_fork
fork_of forks (Some number) = fork_or_none (slice_get forks number)

-- its part for even keys, or for odd ones
abbrev pub branch : Fork → (even : Bool) → Option ℕ
branch fork true = fork.even
branch fork false = fork.odd

-- the fork with another part for even keys, or for odd ones
abbrev pub with_branch : Fork → (even : Bool) → Option ℕ → Fork
with_branch fork true map = record { even = map; odd = fork.odd }
with_branch fork false map = record { even = fork.even; odd = map }

abbrev pub is_even : ℕ → Bool
is_even key = nat_eq (key % 2) 0

-- what a map has for a key of so many bits
unfoldable pub look : List Fork → (bits : ℕ) → (map : Option ℕ) → (key : ℕ) → Option ℕ
look forks zero map key = map
look forks (suc bits) map key = look forks bits (branch (fork_of forks map) (is_even key)) (key / 2)

-- the map is empty or has a fork
abbrev pub IsThere : (count : ℕ) → Option ℕ → Type 0
IsThere count None = Unit {0}
IsThere count (Some number) = number < count

-- all forks of a map of keys of so many bits are there
unfoldable pub IsMap : List Fork → (bits : ℕ) → (map : Option ℕ) → Type 0
IsMap forks zero map = Unit {0}
IsMap forks (suc bits) map = IsThere (length forks) map × IsMap forks bits (fork_of forks map).even × IsMap forks bits (fork_of forks map).odd

-- a map of keys of so many bits was made from another one, with a value for a key; whatever was a map of any number of bits is
-- still the same
pub record Puts (old new : List Fork) (bits : ℕ) (map : Option ℕ) (key value : ℕ) (made : Option ℕ) : Type 0 where
  pub stays : (n : ℕ) (other : Option ℕ) → IsMap old n other → IsMap new n other × ((k : ℕ) → look new n other k ≡ look old n other k)
  pub is : IsMap new bits made
  pub has : (k : ℕ) → k < 2 ^ bits → look new bits made k ≡ (if nat_eq key k then Some value else look old bits map k)

-- ---- keys of 32 bits

-- what a map has for a key
unfoldable pub found : List Fork → (map : Option ℕ) → (key : ℕ) → Option ℕ
found forks map key = look forks 32 map key

-- it is one of the maps
unfoldable pub IsMade : List Fork → (map : Option ℕ) → Type 0
IsMade forks map = IsMap forks 32 map

-- what was a map is one, and has the same
abbrev pub Stay : (old new : List Fork) → Type 0
Stay old new = (map : Option ℕ) → IsMade old map → IsMade new map × ((key : ℕ) → found new map key ≡ found old map key)

-- a map was made from another one, with a value for a key
pub record IsWith (old new : List Fork) (map : Option ℕ) (key value : ℕ) (made : Option ℕ) : Type 0 where
  pub stay : Stay old new
  pub is : IsMade new made
  pub has : (k : ℕ) → k < 2 ^ 32 → found new made k ≡ (if nat_eq key k then Some value else found old map k)
