-- Voiding: where nothing is asked of a unit, what may be called is called (Report, 6.7.1).
use Rattle.std.specs.Prelude.{ℕ, zero, suc, Bool, true, false, ◌&&◌, List, [], ◌∷◌, Option, Some, None, if◌then◌else◌}
use Rattle.std.specs.Option.{option_map_or}
use Rattle.a68_modes.specs.Nodes.{shape_at, is_void}
use Rattle.a68_modes.specs.declared.coercion.Coercion.{Coercion}
use Rattle.a68_modes.specs.declared.coercion.Coercion.TheVariants.{Deproc, Deref, Drop}
use Rattle.a68_modes.specs.declared.shape.Shape.{Shape}
use Rattle.a68_modes.specs.declared.shape.Shape.TheVariants.{Ref, Proc}
use Rattle.a68_refusals.specs.Jumps.{takes_none}
use Rattle.a68_tree.specs.declared.kind.NodeKind.{NodeKind}
use Rattle.a68_tree.specs.declared.kind.NodeKind.TheVariants as kind

-- the units whose values are called there: tags, selections, slices, calls, routine texts and formulas
abbrev pub may_be_called : NodeKind → Bool
may_be_called kind.Tag = true
may_be_called kind.Selection = true
may_be_called kind.Slice = true
may_be_called kind.Call = true
may_be_called kind.RoutineText = true
may_be_called kind.Monadic = true
may_be_called kind.Dyadic = true
may_be_called _ = false

-- nothing is asked of such a unit
abbrev pub is_voided : List Shape → NodeKind → (goal : ℕ) → Bool
is_voided nodes form goal = may_be_called form && is_void (shape_at nodes goal)

-- what a name refers to
abbrev pub name_in : Shape → Option ℕ
name_in (Ref m) = Some m
name_in _ = None

-- a procedure without parameters stands behind names, at most so many
abbrev pub is_proc_behind : (most : ℕ) → List Shape → (mode : ℕ) → Bool
is_proc_behind zero nodes m = false
is_proc_behind (suc n) nodes m = option_map_or (is_proc_behind n nodes) (name_in (shape_at nodes m)) (takes_none (shape_at nodes m))

-- a value is dropped, where there is one
abbrev pub dropping : List Shape → (mode : ℕ) → List Coercion
dropping nodes m = if is_void (shape_at nodes m) then [] else Drop ∷ []

-- a name is dereferenced, a procedure called
abbrev pub next_of : Shape → Option (Coercion × ℕ)
next_of (Ref m) = Some (Deref, m)
next_of (Proc params m) = Some (Deproc, m)
next_of _ = None

-- The coercions of a value of a mode of which nothing is asked: as long as a procedure without parameters stands behind its
-- names, these are dereferenced and it is called, and what is left is dropped. At most so many coercions come before that: no
-- mode that is well formed has more names and procedures one behind the other than there are modes.
abbrev pub voiding : (most : ℕ) → List Shape → (mode : ℕ) → List Coercion
voiding zero nodes m = dropping nodes m
voiding (suc n) nodes m = if is_proc_behind (suc n) nodes m then option_map_or (λ step. step.0 ∷ voiding n nodes step.1) (next_of (shape_at nodes m)) [] else dropping nodes m
