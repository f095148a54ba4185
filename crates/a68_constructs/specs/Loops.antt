-- Inner: the headline does not rest on this file.
-- The instructions of loops, piece by piece.
use Rattle.std.specs.Prelude.{◌+◌, ℕ, Bool, List, [], ◌∷◌, ◌++◌, length, None, Some}
use Rattle.std.specs.declared.option.Option.{Option}
use Rattle.a68_code.specs.declared.code.Instr.{Instr}
use Rattle.a68_code.specs.declared.does.Does.TheVariants as does
use Rattle.a68_elab.specs.Trees.{Trees, Test, no_test, while_in}
use Rattle.a68_emit.specs.Listing.{instr, limits, opens, size, stretch, stretches}

-- FROM, BY and TO, TO's own step, and Counter
abbrev pub counted : (controls : Trees) (limited : Bool) (place at : ℕ) → List Instr
counted controls limited place at = stretches controls at ++ (limits limited place ++ instr place does.Counter ∷ [])

-- WHILE up to its Unless
abbrev pub asked : Test → (at : ℕ) → List Instr
asked no_test at = []
asked (while_in begin slots test) at = opens slots begin ++ stretch test (at + length (opens slots begin))

-- where this Unless stands
abbrev pub unless_at : Test → (at : ℕ) → Option ℕ
unless_at no_test at = None
unless_at (while_in begin slots test) at = Some (at + length (opens slots begin) + size test)
