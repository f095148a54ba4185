-- Inner: the headline does not rest on this file.
-- What is known of how many cells values of modes take, and of where the fields of structures lie.
use Rattle.std.specs.Prelude.{◌≡◌, ◌≤◌, ◌+◌, ℕ, min, List, [], length, take, None, Some, IfSome, get_or, slice_get}
use Rattle.std.specs.declared.option.Option.{Option}
use Rattle.a68_modes.specs.Nodes.{shape_at}
use Rattle.a68_modes.specs.Widths.{most_cells, width_of_fields, width_within}
use Rattle.a68_modes.specs.declared.shape.Shape.{Shape}
use Rattle.a68_modes.specs.declared.shape.Shape.TheVariants.{Struct}
use Rattle.a68_modes.specs.declared.widths.Starts.{Starts}
use Rattle.a68_modes.specs.declared.widths.Width.{Width}

-- a value of the mode takes so many cells, however deep structures are looked at from its depth on
abbrev pub IsKnown : List Shape → (mode : ℕ) → Width → Type 0
IsKnown modes m k = (n : ℕ) → k.depth ≤ n → k.cells ≡ min (most_cells + 1) (width_within n modes m)

-- what is known of modes, each under its number
abbrev pub AreKnown : List Shape → List (Option Width) → Type 0
AreKnown modes known = (m : ℕ) → IfSome (get_or known m None) (IsKnown modes m)

-- the fields of a structure; another mode has none
abbrev pub own_fields : Shape → List (ℕ × ℕ)
own_fields (Struct fields) = fields
own_fields _ = []

-- how many cells lie before each of these fields, and before their end
abbrev pub AreStarts : List Shape → List (ℕ × ℕ) → (starts : List ℕ) → Type 0
AreStarts modes fields starts =
    (k : ℕ) → IfSome (slice_get starts k) (λ cells. cells ≡ min (most_cells + 1) (width_of_fields (width_within (length modes) modes) (take k fields)))

-- those of modes, each under its number
abbrev pub AreAllStarts : List Shape → List Starts → Type 0
AreAllStarts modes all = (m : ℕ) → IfSome (slice_get all m) (λ starts. AreStarts modes (own_fields (shape_at modes m)) starts.cells.items)
