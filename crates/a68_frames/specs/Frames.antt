-- Frames, their slots and the way to them (own; Report, 2.1.1.3 has environs in their place).
use Rattle.std.specs.Prelude.{◌≡◌, ◌+◌, ℕ, List, [], ◌∷◌, ◌++◌, length, slice_get, Option, Some, None, Bool, true, false, nat_eq, nat_lt, if◌then◌else◌}
use Rattle.a68_ranges.specs.Nodes.{kind_at}
use Rattle.a68_ranges.specs.Surroundings.{Lies}
use Rattle.a68_ranges.specs.Definitions.{defines, declared_in}
use Rattle.a68_ranges.specs.declared.sort.IndicatorKind.{IndicatorKind}
use Rattle.a68_ranges.specs.declared.sort.IndicatorKind.TheVariants as sorts
use Rattle.a68_tree.specs.Trees.{Built}
use Rattle.a68_tree.specs.declared.kind.NodeKind.{NodeKind}
use Rattle.a68_tree.specs.declared.kind.NodeKind.TheVariants as kind
use Rattle.a68_tree.specs.declared.node.FrameStep.{FrameStep}

-- a tag or an operator has a slot; a mode word, a priority or a field has none
abbrev pub sort_has_slot : Option IndicatorKind → Bool
sort_has_slot (Some sorts.Tag) = true
sort_has_slot (Some sorts.Operator) = true
sort_has_slot _ = false

-- whether what a node of that kind defines has a slot; a label, which has no value, has none
abbrev pub has_slot : NodeKind → Bool
has_slot kind.Label = false
has_slot form = sort_has_slot (defines form)

-- those of these nodes that have slots
abbrev pub with_slots : Built → List ℕ → List ℕ
with_slots tree [] = []
with_slots tree (d ∷ ds) = if has_slot (kind_at tree d) then d ∷ with_slots tree ds else with_slots tree ds

-- the definitions of the slots of a range, from slot 0 on, in order of text
unfoldable pub slots_in : Built → (range : ℕ) → List ℕ
slots_in tree range = with_slots tree (declared_in tree range)

-- A call always enters a frame; every other range makes one where it declares at least one tag or operator, a label aside.
abbrev pub makes : NodeKind → (slots : ℕ) → Bool
makes kind.RoutineText slots = true
makes _ slots = nat_lt 0 slots

unfoldable pub makes_frame : Built → (range : ℕ) → Bool
makes_frame tree range = makes (kind_at tree range) (length (slots_in tree range))

-- how many of these ranges make frames
abbrev pub frames_of : Built → List ℕ → ℕ
frames_of tree [] = 0
frames_of tree (r ∷ rs) = if makes_frame tree r then frames_of tree rs + 1 else frames_of tree rs

-- a definition stands at a slot of a range, which lies so many frames outwards from a node
pub record SlotStandsAt (tree : Built) (at definition : ℕ) (hops slot : ℕ) : Type 0 where
  pub inner : List ℕ
  pub range : ℕ
  pub outer : List ℕ
  pub ranges : List ℕ
  pub lies : Lies tree at ranges
  pub whole : ranges ≡ inner ++ range ∷ outer
  pub slot_is : slice_get (slots_in tree range) slot ≡ Some definition
  pub hops_are : hops ≡ frames_of tree inner

-- ---- the one way to a slot

-- one place later; else the first place, where the number stands there
abbrev pub place_behind : Option ℕ → (here : Bool) → Option ℕ
place_behind (Some place) here = Some (place + 1)
place_behind None true = Some 0
place_behind None false = None

-- the last place of a number in a list: what is noted later counts
abbrev pub place_of : List ℕ → (d : ℕ) → Option ℕ
place_of [] d = None
place_of (x ∷ xs) d = place_behind (place_of xs d) (nat_eq x d)

-- a step, moved so many frames outwards
abbrev pub moved : ℕ → Option FrameStep → Option FrameStep
moved hops None = None
moved hops (Some step) = Some (record { hops = step.hops + hops; slot = step.slot })

-- the slot of the first range, where it has one; else the way from the ranges outside it, which lie so many frames outwards
abbrev pub way_from : Option ℕ → (hops : ℕ) → (outside : Option FrameStep) → Option FrameStep
way_from (Some slot) hops outside = Some (record { hops = 0; slot = slot })
way_from None hops outside = moved hops outside

-- the way to a slot of a definition, from the innermost of these ranges outwards that has one
abbrev pub way_by : Built → (d : ℕ) → List ℕ → Option FrameStep
way_by tree d [] = None
way_by tree d (r ∷ rs) = way_from (place_of (slots_in tree r) d) (frames_of tree (r ∷ [])) (way_by tree d rs)

-- from a node
abbrev pub IsFirstWay : Built → (at d : ℕ) → Option FrameStep → Type 0
IsFirstWay tree at d found = (ranges : List ℕ) × Lies tree at ranges × (found ≡ way_by tree d ranges)

-- there is one from each node
abbrev pub WaysAreOne : Type 0
WaysAreOne = (tree : Built) (at d : ℕ) (one other : Option FrameStep) → IsFirstWay tree at d one → IsFirstWay tree at d other → one ≡ other
