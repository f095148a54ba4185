use Rattle.a68_frames.specs.Needs.{UsesTag}
use Rattle.a68_notes.specs.Needs.{AreNeeds}
use Rattle.a68_notes.proofs.needs.add_needs.Given as goal

abbrev pub invariant-loop-text : goal.invariant-loop-text
invariant-loop-text l = AreNeeds l.tree (UsesTag l.tree) l.text l.needs.items
