use Rattle.std.proofs.Common.{◌≡◌, map, drop}
use Rattle.a68_signs.specs.Entries.{entry_value}
use Rattle.a68_signs.specs.Signs as signs
use Rattle.a68_signs.proofs.signs.entry_of.Given as goal

abbrev pub invariant-loop-entry : goal.invariant-loop-entry
invariant-loop-entry l =
    signs.entry_of (map entry_value (drop l.entry-index l.entries)) l.sign
    ≡ signs.entry_of (map entry_value l.entries) l.sign
