-- What a node asks of its parts, whatever is asked of it (Report, 6.1.1, and the clauses of chapters 3 to 5).
use Rattle.std.specs.Prelude.{ℕ, List, [], ◌∷◌, Option, Some, None, Bool, true, false, if◌then◌else◌}
use Rattle.a68_coerce.specs.declared.form.ModeForm.TheVariants as form
use Rattle.a68_definitions.specs.Tags.{called_by}
use Rattle.a68_modes.specs.declared.coercion.Sort.{Sort}
use Rattle.a68_modes.specs.declared.coercion.Sort.TheVariants as by
use Rattle.a68_ranges.specs.Nodes.{kind_at, parts_at}
use Rattle.a68_tree.specs.Trees.{Built}
use Rattle.a68_tree.specs.declared.kind.NodeKind.{NodeKind}
use Rattle.a68_tree.specs.declared.kind.NodeKind.TheVariants as kind
use Rattle.a68_yields.specs.declared.sought.Sought.{Sought}
use Rattle.a68_yields.specs.declared.sought.Sought.TheVariants as sought
use Rattle.a68_yields.specs.declared.sought.Expectation.{Expectation}
use Rattle.a68_yields.specs.declared.sought.Expectation.TheVariants as want

-- of the first part of a node of that kind a mode or a form is asked, by a sort: BOOL (2) or INT (1), or a union, of enquiries; INT of the
-- parts of loops, bounds and trimmers; a name of a destination; and so on
abbrev pub asks_by : NodeKind → Option (Sort × Expectation)
asks_by kind.Conditional = Some (by.Meek, want.Mode 2)
asks_by kind.While = Some (by.Meek, want.Mode 2)
asks_by kind.Case = Some (by.Meek, want.Mode 1)
asks_by kind.From = Some (by.Meek, want.Mode 1)
asks_by kind.By = Some (by.Meek, want.Mode 1)
asks_by kind.To = Some (by.Meek, want.Mode 1)
asks_by kind.Lower = Some (by.Meek, want.Mode 1)
asks_by kind.Upper = Some (by.Meek, want.Mode 1)
asks_by kind.At = Some (by.Meek, want.Mode 1)
asks_by kind.Conformity = Some (by.Meek, want.ModeForm form.Union)
asks_by kind.Assignation = Some (by.Soft, want.ModeForm form.Name)
asks_by kind.Selection = Some (by.Weak, want.ModeForm form.Structure)
asks_by kind.Slice = Some (by.Weak, want.ModeForm form.Row)
asks_by kind.Call = Some (by.Meek, want.ModeForm form.Routine)
asks_by _ = None

-- a subscript is an index of one unit; a trimmer has a Lower, an Upper, an At, or nothing (5.3.2.1)
abbrev pub is_bound : NodeKind → Bool
is_bound kind.Lower = true
is_bound kind.Upper = true
is_bound kind.At = true
is_bound _ = false

abbrev pub is_subscript : Built → List ℕ → Bool
is_subscript tree [] = false
is_subscript tree (p ∷ []) = if is_bound (kind_at tree p) then false else true
is_subscript tree (p ∷ q ∷ ps) = false

-- that of the first part, where there is one
abbrev pub of_first : List ℕ → Option (Sort × Expectation) → Sought
of_first [] asked = sought.Nothing
of_first (p ∷ ps) None = sought.Nothing
of_first (p ∷ ps) (Some asked) = sought.Part asked.0 asked.1 p

abbrev pub sides : List ℕ → Sought
sides (l ∷ r ∷ []) = sought.Sides l r
sides _ = sought.Nothing

abbrev pub operands : List ℕ → Sought
operands (o ∷ []) = sought.Monadic o
operands (l ∷ r ∷ []) = sought.Dyadic l r
operands _ = sought.Nothing

-- of print, write and whole no routine is asked
abbrev pub of_call : (called : Option ℕ) → List ℕ → Sought
of_call (Some place) parts = sought.Nothing
of_call None parts = of_first parts (asks_by kind.Call)

abbrev pub of_index : Built → List ℕ → Sought
of_index tree parts = if is_subscript tree parts then of_first parts (Some (by.Meek, want.Mode 1)) else sought.Nothing

-- what is looked for at a node of that kind with these parts
abbrev pub sought_by : Built → (called : Option ℕ) → NodeKind → List ℕ → Sought
sought_by tree called kind.Identity parts = sides parts
sought_by tree called kind.Monadic parts = operands parts
sought_by tree called kind.Dyadic parts = operands parts
sought_by tree called kind.Call parts = of_call called parts
sought_by tree called kind.Index parts = of_index tree parts
sought_by tree called k parts = of_first parts (asks_by k)

abbrev pub sought_at : Built → (tags : List (Option ℕ)) → (n : ℕ) → Sought
sought_at tree tags n = sought_by tree (called_by tree tags n) (kind_at tree n) (parts_at tree n)
