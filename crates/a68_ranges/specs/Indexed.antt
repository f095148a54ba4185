-- The definitions of one sort by range and name, and which of them come too late (own).
use Rattle.std.specs.Prelude.{◌≡◌, ◌<◌, ◌≤◌, ℕ, Bool, true, false, nat_le, List, length, slice_get, take, Option, Some, None, if◌then◌else◌}
use Rattle.a68_ranges.specs.Nodes.{name_at, place_at}
use Rattle.a68_ranges.specs.Definitions.{declared_in}
use Rattle.a68_ranges.specs.Tables.{at_key, first_named, has_name}
use Rattle.a68_ranges.specs.declared.sort.IndicatorKind.{IndicatorKind}
use Rattle.a68_tree.specs.Trees.{Built}

-- the name is noted in the range for this node; or it is late, since another one has it
abbrev pub IsNoted : (old new : List ((ℕ × ℕ) × ℕ)) → (range name id : ℕ) → (late : Bool) → Type 0
IsNoted old new range name id true = (new ≡ old) × ((d : ℕ) × (at_key old range name ≡ Some d))
IsNoted old new range name id false =
    (at_key old range name ≡ None) × (at_key new range name ≡ Some id)
    × ((r n : ℕ) → ((r ≡ range) × (n ≡ name) → ⊥) → at_key new r n ≡ at_key old r n)

-- a node that a range declares is noted, where it counts; it is late, where another one has its name
abbrev pub IsOneNoted : Built → (old new : List ((ℕ × ℕ) × ℕ)) → (range id : ℕ) → (counts : Bool) → (late : Option ℕ) → Type 0
IsOneNoted tree old new range id false late = (new ≡ old) × (late ≡ None)
IsOneNoted tree old new range id true None = IsNoted old new range (name_at tree id) id false
IsOneNoted tree old new range id true (Some other) = (other ≡ id) × IsNoted old new range (name_at tree id) id true

-- the node at a place of the list defines a name that an earlier one there defines with that sort
pub record IsLateAt (tree : Built) (sort : IndicatorKind) (list : List ℕ) (place id : ℕ) : Type 0 where
  pub is : slice_get list place ≡ Some id
  pub names : has_name tree sort (name_at tree id) id ≡ true
  pub earlier : ℕ
  pub before : first_named tree sort (name_at tree id) (take place list) ≡ Some earlier

-- at a place before the end
abbrev pub IsLateIn : Built → IndicatorKind → List ℕ → (end : ℕ) → (id : ℕ) → Type 0
IsLateIn tree sort list end id = (place : ℕ) × (place < end) × IsLateAt tree sort list place id

-- what is declared too late in a range before that one
abbrev pub IsLateBefore : Built → IndicatorKind → (count : ℕ) → (id : ℕ) → Type 0
IsLateBefore tree sort count id = (range : ℕ) × (range < count) × IsLateIn tree sort (declared_in tree range) (length (declared_in tree range)) id

-- the one that stands first in the text, if any
abbrev pub IsLeast : Built → (ℕ → Type 0) → Option ℕ → Type 0
IsLeast tree Late None = (id : ℕ) → Late id → ⊥
IsLeast tree Late (Some id) = Late id × ((other : ℕ) → Late other → place_at tree id ≤ place_at tree other)

-- the earlier one of two in the text
abbrev pub earlier_of : Built → Option ℕ → Option ℕ → Option ℕ
earlier_of tree None other = other
earlier_of tree (Some id) None = Some id
earlier_of tree (Some id) (Some other) = if nat_le (place_at tree id) (place_at tree other) then Some id else Some other

-- the index has the first definitions of the ranges before one, and no others
abbrev pub AreIndexed : Built → IndicatorKind → List ((ℕ × ℕ) × ℕ) → (count : ℕ) → Type 0
AreIndexed tree sort entries count =
    ((range name : ℕ) → range < count → at_key entries range name ≡ first_named tree sort name (declared_in tree range))
    × ((range name : ℕ) → count ≤ range → at_key entries range name ≡ None)
