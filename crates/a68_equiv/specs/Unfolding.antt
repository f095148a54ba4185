-- Equivalent modes (Report, 7.3).
use Rattle.std.specs.Prelude.{◌≡◌, ◌<◌, ℕ, zero, suc, List, [], length, map, slice_index_or, Bool, true, false}
use Rattle.a68_modes.specs.declared.shape.Shape.{Shape}
use Rattle.a68_modes.specs.declared.shape.Shape.TheVariants.{Ref, Rows, Struct, Union, Proc, Same}
use Rattle.a68_modes.specs.Nodes.{shape_at, parts_of}
use Rattle.a68_equiv.specs.declared.mode.Mode.{Mode}
use Rattle.a68_equiv.specs.declared.steps.Inward.TheVariants.{WithinUnions}
use Rattle.a68_equiv.specs.Ways.{steps_of, Way}

-- the node behind the mode words of m, as far as the steps go
abbrev pub word_or : (ℕ → ℕ) → ℕ → Shape → ℕ
word_or f m (Same t) = f t
word_or f m _ = m

abbrev pub behind : List Shape → ℕ → ℕ → ℕ
behind nodes zero m = m
behind nodes (suc steps) m = word_or (behind nodes steps) m (shape_at nodes m)

-- what a mode is, behind its mode words
abbrev pub unfolded : List Shape → ℕ → Shape
unfolded nodes m = shape_at nodes (behind nodes (length nodes) m)

-- FLEX, unless it is taken away
abbrev pub flex_left : Bool → Bool → Bool
flex_left true flex = false
flex_left false flex = flex

-- what a shape says beside the modes within it: the shape with 0 in the place of each of them
abbrev pub constructor : Bool → Shape → Shape
constructor fixed (Ref m) = Ref 0
constructor fixed (Rows dims flex m) = Rows dims (flex_left fixed flex) 0
constructor fixed (Struct fields) = Struct (map (λ field. (field.0, 0)) fields)
constructor fixed (Union members) = Union []
constructor fixed (Proc params m) = Proc (map (λ p. 0) params) 0
constructor fixed (Same m) = Same 0
constructor fixed shape = shape

-- whether FLEX is taken away from the modes within: down to the next REF or PROC
abbrev pub passes_on : Bool → Shape → Bool
passes_on fixed (Ref m) = false
passes_on fixed (Proc params m) = false
passes_on fixed shape = fixed

-- whether the shape is a union or a mode word
abbrev pub leads_within : Shape → Bool
leads_within (Union members) = true
leads_within (Same m) = true
leads_within shape = false

abbrev pub is_union : Shape → Bool
is_union (Union members) = true
is_union shape = false

-- x is a member of the union m, where those of inner unions stand in their place
pub record IsMember (nodes : List Shape) (m x : ℕ) : Type 0 where
  pub way : Way (map (steps_of WithinUnions) nodes) m x
  pub last : leads_within (shape_at nodes x) ≡ false

-- x stands at a place in m, of that shape: all members of a union at one place, else each mode at its own
abbrev pub IsInMode : List Shape → ℕ → Shape → ℕ → ℕ → Type 0
IsInMode nodes m (Union members) place x = (place ≡ 0) × IsMember nodes m x
IsInMode nodes m shape place x = (place < length (parts_of shape)) × (slice_index_or (parts_of shape) place 0 ≡ x)

-- the mode p stands at a place in the mode a
pub record IsModePart (nodes : List Shape) (a : Mode) (place : ℕ) (p : Mode) : Type 0 where
  pub at : IsInMode nodes a.id (unfolded nodes a.id) place p.id
  pub flex : p.fixed ≡ passes_on a.fixed (unfolded nodes a.id)

-- at each place of the one stands nothing but what is R-related to something there in the other, and the other way round
abbrev pub SameParts : List Shape → (Mode → Mode → Type 0) → Mode → Mode → Type 0
SameParts nodes R a b =
    ((place : ℕ) (p : Mode) → IsModePart nodes a place p → (q : Mode) × IsModePart nodes b place q × R p q)
    × ((place : ℕ) (q : Mode) → IsModePart nodes b place q → (p : Mode) × IsModePart nodes a place p × R p q)

-- two modes have one constructor
abbrev pub SameConstructor : List Shape → Mode → Mode → Type 0
SameConstructor nodes a b = constructor a.fixed (unfolded nodes a.id) ≡ constructor b.fixed (unfolded nodes b.id)

-- the unfoldings of two modes to a depth are equal
abbrev pub Alike : List Shape → ℕ → Mode → Mode → Type 0
Alike nodes zero a b = Unit {0}
Alike nodes (suc depth) a b = SameConstructor nodes a b × SameParts nodes (Alike nodes depth) a b

-- they are equal at every depth
abbrev pub Equivalent : List Shape → Mode → Mode → Type 0
Equivalent nodes a b = (depth : ℕ) → Alike nodes depth a b
