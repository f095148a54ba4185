-- Inner: the headline does not rest on this file.
-- The instructions of coercions, and of formulas.
use Rattle.std.specs.Prelude.{ℕ, Bool, true, not, ◌&&◌, List, [], ◌∷◌, ◌++◌}
use Rattle.std.specs.Option.{is_some, option_map_or}
use Rattle.a68_modes.specs.declared.standard.TheConstants as standard
use Rattle.a68_code.specs.declared.code.Instr.{Instr}
use Rattle.a68_code.specs.declared.does.Does.TheVariants as does
use Rattle.a68_elab.specs.Made.{behind_proc, behind_ref, rowed_to}
use Rattle.a68_emit.specs.Listing.{instr}
use Rattle.a68_modes.specs.Nodes.{shape_at, is_void}
use Rattle.a68_modes.specs.declared.coercion.Coercion.{Coercion}
use Rattle.a68_modes.specs.declared.coercion.Coercion.TheVariants as coercion
use Rattle.a68_modes.specs.declared.shape.Shape.{Shape}

-- a coercion is built, behind which a path leads to a mode: the mode of a rowing is there
abbrev pub is_built : List Shape → (goal : ℕ) → Coercion → List Coercion → Bool
is_built modes goal coercion.RowUp path = is_some (rowed_to modes goal path)
is_built modes goal coercion.RowUpName path = is_some (rowed_to modes goal path)
is_built modes goal c path = true

abbrev pub are_built : List Shape → (goal : ℕ) → List Coercion → Bool
are_built modes goal [] = true
are_built modes goal (c ∷ path) = is_built modes goal c path && are_built modes goal path

-- the mode of a rowing; VOID where there is none
abbrev pub row_at : List Shape → (goal : ℕ) → List Coercion → ℕ
row_at modes goal path = option_map_or (λ m. m) (rowed_to modes goal path) 0

-- the mode behind a coercion from a mode, where this path leads to the goal
abbrev pub behind : List Shape → (goal mode : ℕ) → Coercion → List Coercion → ℕ
behind modes goal mode coercion.Deref path = behind_ref (shape_at modes mode)
behind modes goal mode coercion.Deproc path = behind_proc (shape_at modes mode)
behind modes goal mode (coercion.Unite m) path = m
behind modes goal mode coercion.Widen path = standard.ROW_OF_BOOL
behind modes goal mode coercion.RowUp path = row_at modes goal path
behind modes goal mode coercion.RowUpName path = row_at modes goal path
behind modes goal mode coercion.Drop path = 0

-- the instruction of a coercion from a mode
abbrev pub coercion_of : List Shape → (place goal mode : ℕ) → Coercion → List Coercion → List Instr
coercion_of modes place goal mode coercion.Deref path = instr place (does.Deref (behind_ref (shape_at modes mode))) ∷ []
coercion_of modes place goal mode coercion.Deproc path =
    instr place (does.Call 0 (not (is_void (shape_at modes (behind_proc (shape_at modes mode)))))) ∷ []
coercion_of modes place goal mode (coercion.Unite m) path = instr place (does.Unite m) ∷ []
coercion_of modes place goal mode coercion.Widen path = instr place does.Widen ∷ []
coercion_of modes place goal mode coercion.RowUp path = instr place (does.RowUp (row_at modes goal path)) ∷ []
coercion_of modes place goal mode coercion.RowUpName path = instr place (does.RowUpName (row_at modes goal path)) ∷ []
coercion_of modes place goal mode coercion.Drop path = instr place does.Drop ∷ []

-- those of a path, from a mode on, which leads to the goal
abbrev pub coercions : List Shape → (place goal mode : ℕ) → List Coercion → List Instr
coercions modes place goal mode [] = []
coercions modes place goal mode (c ∷ path) = coercion_of modes place goal mode c path ++ coercions modes place goal (behind modes goal mode c path) path
