-- Inner: the headline does not rest on this file.
-- The instructions of choices by a number, piece by piece.
use Rattle.std.specs.Prelude.{◌+◌, ℕ, List, [], ◌∷◌, ◌++◌, nat_lt, if◌then◌else◌}
use Rattle.a68_builder.specs.Aiming.{aimed_at, names_at}
use Rattle.a68_code.specs.declared.code.Instr.{Instr}
use Rattle.a68_code.specs.declared.does.Does.TheVariants as does
use Rattle.a68_elab.specs.Trees.{Tree, Trees, no_trees, ◌and_tree◌, count}
use Rattle.a68_emit.specs.Listing.{arm_places, arm_stretches, instr, size, sizes, stretch}
use Rattle.a68_emit.specs.Stretches.{with_last}

-- behind the enquiry: Case, each part and Jump e, x: the part for no number, e:
abbrev pub case_list : (place : ℕ) (parts : Trees) (out : Tree) (at : ℕ) → List Instr
case_list place parts out at =
    let m = at + 1 in
    let x = m + sizes parts + count parts in
    instr place (does.Case (with_last (arm_places parts m) x)) ∷ (arm_stretches place (x + size out) parts m ++ stretch out x)

-- where the jumps to the end stand
abbrev pub arm_jumps : Trees → (at : ℕ) → List ℕ
arm_jumps no_trees at = []
arm_jumps (tree and_tree trees) at = (at + size tree) ∷ arm_jumps trees (at + size tree + 1)

-- a place put into an instruction, where it names so many
abbrev pub put_at : List Instr → (at which to : ℕ) → List Instr
put_at list at which to = if nat_lt which (names_at list at) then aimed_at list at which to else list

-- these places, from one on
abbrev pub put_all : List Instr → (at which : ℕ) → (places : List ℕ) → List Instr
put_all list at which [] = list
put_all list at which (to ∷ places) = put_all (put_at list at which to) at (which + 1) places
