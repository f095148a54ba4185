use Rattle.std.proofs.Common.{◌≡◌, ◌<◌, ℕ, false, length}
use Rattle.std.specs.Prelude.{slice_index_or}
use Rattle.a68_ranges.specs.Links.{is_routine_text}
use Rattle.a68_ranges.specs.Nodes.{kind_at}
use Rattle.a68_frames.proofs.outlook.texts_of.Given as goal

abbrev pub invariant-loop-node : goal.invariant-loop-node
invariant-loop-node l = record {
  long : length l.texts.items ≡ l.node;
  are : (range : ℕ) → range < l.node → slice_index_or l.texts.items range false ≡ is_routine_text (kind_at l.tree range);
}
