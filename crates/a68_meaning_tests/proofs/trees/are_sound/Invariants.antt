use Rattle.std.proofs.Common.{◌≡◌, ◌<◌, ℕ, length}
use Rattle.std.specs.Prelude.{slice_get, Some}
use Rattle.a68_tree.specs.Trees.{AllBetween}
use Rattle.a68_tree.specs.declared.node.Node.{Node}
use Rattle.a68_meaning_tests.proofs.trees.are_sound.Given as goal

-- the nodes so far are sound
abbrev pub invariant-loop-i : goal.invariant-loop-i
invariant-loop-i g l = record {
  behind : (i : ℕ) (n : Node) → i < l.i → slice_get l.nodes i ≡ Some n → AllBetween i (length l.nodes) n.parts;
  named : (i : ℕ) (n : Node) → i < l.i → slice_get l.nodes i ≡ Some n → n.name < l.names;
}
