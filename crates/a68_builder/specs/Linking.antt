-- Instructions that name units of parallel clauses by their numbers, and the same with the entrances of these units.
use Rattle.std.specs.Prelude.{ℕ, List, map, slice_index_or}
use Rattle.a68_code.specs.declared.code.Instr.{Instr}
use Rattle.a68_code.specs.declared.does.Does.{Does}
use Rattle.a68_code.specs.declared.does.Does.TheVariants.{Fork}

-- the entrances of the units of these numbers; 0 where there is no such unit (own)
abbrev pub entrances_numbered : (units numbers : List ℕ) → List ℕ
entrances_numbered units numbers = map (λ n. slice_index_or units n 0) numbers

abbrev pub linked_does : (units : List ℕ) → Does → Does
linked_does units (Fork numbers) = Fork (entrances_numbered units numbers)
linked_does units does = does

abbrev pub linked : (units : List ℕ) → Instr → Instr
linked units i = record { place = i.place; does = linked_does units i.does }
