-- The graphs of steps.
use Rattle.std.proofs.Common.{◌≡◌, ◌<◌, ℕ, List, [], ◌∷◌, length, arith}
use Rattle.std.specs.Prelude.{map}
use Rattle.std.specs.List.{All}
use Rattle.std.proofs.lemmas.List.{get_or-map, length-map}
use Rattle.std.proofs.lemmas.List.Elements.{All-nil}
use Rattle.a68_modes.specs.declared.shape.Shape.{Shape}
use Rattle.a68_modes.specs.declared.shape.Shape.TheVariants.{Ref, Struct, Union, Proc, Same, Blank}
use Rattle.a68_modes.specs.Nodes.{shape_at, ShapeIsWithin, HoldsNodes}
use Rattle.a68_equiv.specs.declared.steps.Inward.{Inward}
use Rattle.a68_equiv.specs.declared.steps.Inward.TheVariants.{BesidesNames, BesidesStructures, WithinUnions}
use Rattle.a68_equiv.specs.Ways.{steps_of, row, StepsStayInside}

-- a step leads to a mode within the shape
pub steps_within : (which : Inward) (n : ℕ) (s : Shape) → ShapeIsWithin n s → All (λ m. m < n) (steps_of which s)
steps_within BesidesNames n (Ref m) h = All-nil (λ m. m < n)
steps_within BesidesNames n (Proc params m) h = All-nil (λ m. m < n)
steps_within BesidesNames n _ h = h
steps_within BesidesStructures n (Struct fields) h = All-nil (λ m. m < n)
steps_within BesidesStructures n (Proc [] m) h = h
steps_within BesidesStructures n (Proc (p ∷ ps) m) h = All-nil (λ m. m < n)
steps_within BesidesStructures n _ h = h
steps_within WithinUnions n (Same m) h = h
steps_within WithinUnions n (Union ms) h = h
steps_within WithinUnions n _ h = All-nil (λ m. m < n)

pub row_of_map : (f : Shape → List ℕ) (nodes : List Shape) (a : ℕ) → a < length nodes → row (map f nodes) a ≡ f (shape_at nodes a)
row_of_map f nodes a h = get_or-map f nodes a Blank [] h

pub closed : (which : Inward) (nodes : List Shape) → HoldsNodes nodes → StepsStayInside (map (steps_of which) nodes)
closed which nodes holds a h =
    let l = length-map nodes (steps_of which) in
    let lt : a < length nodes = omega arith in
    rw (row_of_map (steps_of which) nodes a lt, l) (steps_within which (length nodes) (shape_at nodes a) (holds.within a lt))
