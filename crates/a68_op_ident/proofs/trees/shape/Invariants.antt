use Rattle.std.proofs.Common.{◌-◌, ◌≤◌, vec_len}
use Rattle.a68_op_ident.specs.Inner.{Going, IsLeastNumber, IsLatePlace}
use Rattle.a68_op_ident.proofs.trees.shape.Given as goal

abbrev pub invariant-loop-id : goal.invariant-loop-id
invariant-loop-id l = record { going : Going l.fn.tree l.nodes.items l.id; late : IsLeastNumber (IsLatePlace l.fn.tree 0 l.id) l.late; within : l.id ≤ vec_len l.nodes }

abbrev pub decreases-loop-id : goal.decreases-loop-id
decreases-loop-id l = vec_len l.nodes - l.id
