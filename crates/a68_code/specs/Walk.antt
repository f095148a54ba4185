-- Inner: the headline does not rest on this file.
-- For the passes that decide which codes are valid: one over all instructions, and a walk along the ways of each owner. A walk
-- keeps a table of the heights found so far, by places, and the places at which it has yet to go on, with their heights.
use Rattle.std.specs.Prelude.{◌≡◌, ◌≢◌, ◌<◌, ◌≤◌, ◌+◌, ◌⊎◌, IsTrue, ℕ, suc, List, [], ◌∷◌, ◌++◌, length, map, Some, None, Contains, slice_index_or, slice_set, nat_eq, if◌then◌else◌}
use Rattle.std.specs.declared.option.Option.{Option}
use Rattle.a68_modes.specs.declared.shape.Shape.{Shape}
use Rattle.a68_code.specs.Flow.{does_at, takes, leaves, leaves_to, landings, Reaches, MayMeet}
use Rattle.a68_code.specs.Operands.{is_well_made}
use Rattle.a68_code.specs.Order.{IsInOrder}
use Rattle.a68_code.specs.declared.code.Code.{Code}
use Rattle.a68_code.specs.declared.does.Does.{Does}
use Rattle.a68_code.specs.declared.does.Does.TheVariants.{Goto}
use Rattle.a68_code.specs.declared.owner.Owner.{Owner}

-- the instruction at this place, if there is one, has operands and a jump as it may have them
abbrev pub FitsAt : Code → ℕ → Type 0
FitsAt code at = (does : Does) → does_at code.list at ≡ Some does → IsTrue (is_well_made code.modes (length code.texts) (length code.list) does) × IsInOrder code.list at does

abbrev pub Heights : Type 0
Heights = List (Option ℕ)

abbrev pub Places : Type 0
Places = List (ℕ × ℕ)

-- the table has this height at this place
abbrev pub Knows : Heights → ℕ → ℕ → Type 0
Knows heights at height = slice_index_or heights at None ≡ Some height

-- how many places have no height yet
abbrev pub unknown : Heights → ℕ
unknown [] = 0
unknown (None ∷ heights) = suc (unknown heights)
unknown (Some height ∷ heights) = unknown heights

-- a place had this height, or it has it now, and the walk has yet to go on there
abbrev pub NotesHeight : ℕ → ℕ → Heights → Places → Heights → Places → Type 0
NotesHeight to height heights todo heights' todo' =
    (Knows heights to height × (heights' ≡ heights) × (todo' ≡ todo))
    ⊎ ((to < length heights) × (slice_index_or heights to None ≡ None) × (heights' ≡ slice_set heights to (Some height)) × (todo' ≡ todo ++ (to, height) ∷ []))

-- a place is behind the list, or has another height
abbrev pub Clashes : ℕ → ℕ → Heights → Type 0
Clashes to height heights = (length heights ≤ to) ⊎ ((other : ℕ) × Knows heights to other × (other ≢ height))

-- these places with one height
abbrev pub at_height : (height : ℕ) → List ℕ → Places
at_height height places = map (λ to. (to, height)) places

-- these places with one value above so many, but the last one with none
abbrev pub to_members : (last below : ℕ) → List ℕ → Places
to_members last below places = map (λ to. (to, below + (if nat_eq to last then 0 else 1))) places

-- where the machine may go on behind the instruction at this place, with the height that it has there above so many values
abbrev pub ways : List Shape → ℕ → Does → (below : ℕ) → Places
ways modes at (Goto to frames height gives) below = (to, height) ∷ ((at + 1, below + leaves modes (Goto to frames height gives)) ∷ [])
ways modes at does below = map (λ to. (to, below + leaves_to modes does to)) (landings at does)

-- all these places have their heights, and what is new is noted
pub record NotesAll (places : Places) (heights : Heights) (todo : Places) (heights' : Heights) (todo' : Places) : Type 0 where
  pub long : length heights' ≡ length heights
  pub kept : (at known : ℕ) → Knows heights at known → Knows heights' at known
  pub all : (at height : ℕ) → Contains places (at, height) → Knows heights' at height
  pub only : (at known : ℕ) → Knows heights' at known → Knows heights at known ⊎ (Contains places (at, known) × Contains todo' (at, known) × (unknown heights' < unknown heights))
  pub onward : (at known : ℕ) → Contains todo (at, known) → Contains todo' (at, known)
  pub noted : (at known : ℕ) → Contains todo' (at, known) → Contains todo (at, known) ⊎ Knows heights' at known
  pub fewer : unknown heights' ≤ unknown heights
  pub turns : unknown heights' + length todo' ≡ unknown heights + length todo

-- one of these places is behind the list, or has another height than it has here
abbrev pub OneClashes : Places → Heights → Type 0
OneClashes places heights = (to : ℕ) × (height : ℕ) × Contains places (to, height) × Clashes to height heights

-- these places have two heights for one place
abbrev pub Differ : Places → Type 0
Differ places = (to : ℕ) × (one : ℕ) × (other : ℕ) × Contains places (to, one) × Contains places (to, other) × (one ≢ other)

abbrev pub AnyClashes : Places → Heights → Type 0
AnyClashes places heights = OneClashes places heights ⊎ Differ places

-- the owner may meet the instruction, which finds what it takes, and all places where the machine may go on are noted
abbrev pub NotesWays : List Shape → Owner → ℕ → Does → ℕ → Heights → Places → Heights → Places → Type 0
NotesWays modes whose at does height heights todo heights' todo' =
    MayMeet whose does height × ((below : ℕ) × (below + takes does ≡ height) × NotesAll (ways modes at does below) heights todo heights' todo')

-- the owner may not meet the instruction, or it finds too few values, or it comes to a place that has another height or is
-- behind the list, or to one place with two heights
abbrev pub StepFails : List Shape → Owner → ℕ → Does → ℕ → Heights → Type 0
StepFails modes whose at does height heights =
    (MayMeet whose does height → ⊥) ⊎ ((height < takes does) ⊎ ((below : ℕ) × (below + takes does ≡ height) × AnyClashes (ways modes at does below) heights))

-- the heights at the places to which the ways of an owner lead, which meet nothing that they may not
pub record AreHeights (code : Code) (whose : Owner) (heights : Heights) : Type 0 where
  pub long : length heights ≡ length code.list
  pub sound : (at height : ℕ) → Knows heights at height → Reaches code whose at height
  pub complete : (at height : ℕ) → Reaches code whose at height → Knows heights at height
  pub supplied : (at height : ℕ) (does : Does) → Knows heights at height → does_at code.list at ≡ Some does → takes does ≤ height
  pub ends : (at height : ℕ) (does : Does) → Knows heights at height → does_at code.list at ≡ Some does → MayMeet whose does height

-- two tables have no two heights at one place
abbrev pub Agree : (heights others : Heights) → Type 0
Agree heights others = (at one other : ℕ) → Knows heights at one → Knows others at other → one ≡ other

abbrev pub AllAgree : (heights others further last : Heights) → Type 0
AllAgree heights others further last =
    Agree heights others × Agree heights further × Agree heights last × Agree others further × Agree others last × Agree further last
