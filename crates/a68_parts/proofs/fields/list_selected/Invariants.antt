use Rattle.std.proofs.Common.{◌≡◌, map, take}
use Rattle.a68_parts.specs.Selecting.{selected}
use Rattle.a68_parts.proofs.fields.list_selected.Given as goal

abbrev pub invariant-loop-id : goal.invariant-loop-id
invariant-loop-id l = l.places.items ≡ map (selected l.program) (take l.id l.program.tree.nodes)
