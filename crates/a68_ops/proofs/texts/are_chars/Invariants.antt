use Rattle.std.proofs.Common.{◌≡◌, drop}
use Rattle.a68_values.specs.Content.{contents_of}
use Rattle.a68_ops.specs.Texts as texts
use Rattle.a68_ops.proofs.texts.are_chars.Given as goal

abbrev pub invariant-loop-item : goal.invariant-loop-item
invariant-loop-item l = texts.are_chars (contents_of (drop l.item-index l.items)) ≡ texts.are_chars (contents_of l.items)
