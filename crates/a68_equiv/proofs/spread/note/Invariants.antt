use Rattle.std.proofs.Common.{take}
use Rattle.a68_equiv.specs.Spread.{AreSameModes, NotesModes}
use Rattle.a68_equiv.proofs.spread.note.Given as goal

abbrev pub invariant-loop-mode : goal.invariant-loop-mode
invariant-loop-mode l = record {
  notes : NotesModes (take l.mode-index l.modes) l.fn.found.items l.found.items;
  known : AreSameModes l.found.items l.known.keys;
}
