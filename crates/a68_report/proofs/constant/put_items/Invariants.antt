use Rattle.std.proofs.Common.{◌≡◌, ◌++◌, drop}
use Rattle.a68_report.specs.Constants.{items_in}
use Rattle.a68_values.specs.Content.{contents_of}
use Rattle.a68_report.proofs.constant.put_items.Given as goal

abbrev pub invariant-loop-value : goal.invariant-loop-value
invariant-loop-value l = l.text ++ items_in (contents_of (drop l.value-index l.items)) ≡ l.fn.text ++ items_in (contents_of l.items)
