-- Inner: the headline does not rest on this file.
-- Which operands an instruction may have.
use Rattle.std.specs.Prelude.{ℕ, suc, Bool, true, length, ◌&&◌, nat_eq, nat_lt, nat_le, List, []}
use Rattle.std.specs.List.{list_all}
use Rattle.a68_modes.specs.Nodes.{shape_at}
use Rattle.a68_modes.specs.declared.shape.Shape.{Shape}
use Rattle.a68_modes.specs.declared.shape.Shape.TheVariants as shape
use Rattle.a68_code.specs.declared.does.Does.{Does}
use Rattle.a68_code.specs.declared.does.Does.TheVariants.{Skip, Routine, Leave, Make, Heap, Same, Slice, Display, Vacuum, Compose, Select, RowUp, RowUpName, Deref, Store, Apply, Jump, Goto, Unless, Case, Member, Step, Advance, Fork}

-- the members of a union; none of another mode
abbrev pub members_of : Shape → List ℕ
members_of (shape.Union members) = members
members_of _ = []

-- there is a place for each member of the union and one more for none, and it is said of each whether the united value is left
abbrev pub serves_each : (union : Shape) (places whole : List ℕ) → Bool
serves_each union places whole = nat_eq (length places) (suc (length (members_of union))) && nat_eq (length whole) (length (members_of union))

-- The operands are such as an instruction may have, among so many instructions: a place is that of an instruction, a
-- list of places or of forms has one at least, that of a Fork has two, that of a Member has one for each member of its union and one more,
-- the row of an Apply is one of the table of operators, a routine text is one of so many, a structure has a field at least,
-- and a mode is there.
abbrev pub is_well_made : List Shape → (texts count : ℕ) → Does → Bool
is_well_made modes texts count (Skip mode) = nat_lt mode (length modes)
is_well_made modes texts count (Routine text distance) = nat_lt text texts
is_well_made modes texts count (Leave kept) = nat_le kept 1
is_well_made modes texts count (Make mode bounds) = nat_lt mode (length modes)
is_well_made modes texts count (Heap mode bounds) = nat_lt mode (length modes)
is_well_made modes texts count (Deref mode) = nat_lt mode (length modes)
is_well_made modes texts count (Store mode) = nat_lt mode (length modes)
is_well_made modes texts count (Apply row) = nat_le 1 row && nat_le row 40
is_well_made modes texts count (Same negated) = nat_le negated 1
is_well_made modes texts count (Slice forms) = nat_lt 0 (length forms)
is_well_made modes texts count (Display values mode) = nat_lt mode (length modes)
is_well_made modes texts count (Vacuum mode) = nat_lt mode (length modes)
is_well_made modes texts count (Compose fields) = nat_lt 0 fields
is_well_made modes texts count (Select mode field) = nat_lt mode (length modes)
is_well_made modes texts count (RowUp mode) = nat_lt mode (length modes)
is_well_made modes texts count (RowUpName mode) = nat_lt mode (length modes)
is_well_made modes texts count (Jump to) = nat_lt to count
is_well_made modes texts count (Goto to frames height gives) = nat_lt to count
is_well_made modes texts count (Unless to) = nat_lt to count
is_well_made modes texts count (Case places) = nat_lt 0 (length places) && list_all (λ to. nat_lt to count) places
is_well_made modes texts count (Member mode places whole) =
    nat_lt mode (length modes) && (serves_each (shape_at modes mode) places whole && list_all (λ to. nat_lt to count) places)
is_well_made modes texts count (Step to) = nat_lt to count
is_well_made modes texts count (Advance to) = nat_lt to count
is_well_made modes texts count (Fork entrances) = nat_le 2 (length entrances) && list_all (λ to. nat_lt to count) entrances
is_well_made modes texts count _ = true
