-- What a position asks for where the mode itself is not known.
use Rattle.std.specs.Prelude.{◌≡◌, ◌∷◌, List, Bool, true, false}
use Rattle.a68_coerce.specs.declared.form.ModeForm.{ModeForm}
use Rattle.a68_coerce.specs.declared.form.ModeForm.TheVariants as form
use Rattle.a68_equiv.specs.declared.mode.Mode.{Mode}
use Rattle.a68_equiv.specs.Unfolding.{unfolded, is_union}
use Rattle.a68_modes.specs.declared.shape.Shape.{Shape}
use Rattle.a68_modes.specs.declared.shape.Shape.TheVariants.{Ref, Rows, Struct, Proc}

abbrev pub is_name : Shape → Bool
is_name (Ref a) = true
is_name shape = false

abbrev pub is_row : Shape → Bool
is_row (Rows dims flex element) = true
is_row shape = false

abbrev pub is_structure : Shape → Bool
is_structure (Struct fields) = true
is_structure shape = false

-- a procedure with parameters
abbrev pub is_routine : Shape → Bool
is_routine (Proc (p ∷ ps) a) = true
is_routine shape = false

-- a structure, or a row of structures
abbrev pub has_fields : List Shape → Shape → Bool
has_fields nodes (Struct fields) = true
has_fields nodes (Rows dims flex element) = is_structure (unfolded nodes element)
has_fields nodes shape = false

-- what a name is a name of; the shape itself where it is no name
abbrev pub named_or : List Shape → Shape → Shape
named_or nodes (Ref a) = unfolded nodes a
named_or nodes shape = shape

-- the destination of an assignation is a name (5.2.1); the primary of a slice is a row, or the name of one (5.3.2); the
-- secondary of a selection is a structure or a row of structures, or the name of either (5.3.1); the primary of a call is a
-- procedure with parameters (5.4.3); the enquiry of a conformity clause is a union (3.4.1)
abbrev pub is_of_form : List Shape → ModeForm → Shape → Bool
is_of_form nodes form.Name shape = is_name shape
is_of_form nodes form.Row shape = is_row (named_or nodes shape)
is_of_form nodes form.Structure shape = has_fields nodes (named_or nodes shape)
is_of_form nodes form.Routine shape = is_routine shape
is_of_form nodes form.Union shape = is_union shape

abbrev pub IsOfForm : List Shape → ModeForm → Mode → Type 0
IsOfForm nodes form m = is_of_form nodes form (unfolded nodes m.id) ≡ true
