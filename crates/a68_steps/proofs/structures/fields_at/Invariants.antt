use Rattle.std.proofs.Common.{◌≡◌, ◌++◌, List, length}
use Rattle.std.specs.Prelude.{Some, reverse}
use Rattle.a68_acts.specs.Operations.{fields_at}
use Rattle.a68_values.specs.Content.{Content, contents_of}
use Rattle.a68_steps.proofs.structures.fields_at.Given as goal

abbrev pub invariant-loop-part : goal.invariant-loop-part
invariant-loop-part l = record {
  gone : List Content;
  all : l.fn.parts ≡ l.left ++ gone;
  found : fields_at l.field (contents_of gone) ≡ Some (contents_of (reverse l.items.items));
}

abbrev pub decreases-loop-part : goal.decreases-loop-part
decreases-loop-part l = length l.left
