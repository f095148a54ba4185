use Rattle.std.proofs.Common.{take}
use Rattle.std.specs.Prelude.{map}
use Rattle.a68_declare.specs.Numbering.{number_in}
use Rattle.a68_equiv.specs.Spread.{AreSameModes, NotesModes}
use Rattle.a68_declare.proofs.image.note.Given as goal

abbrev pub invariant-loop-mode : goal.invariant-loop-mode
invariant-loop-mode l = record {
  notes : NotesModes (map (number_in l.to) (take l.mode-index l.modes)) l.initial.found.items l.found.items;
  known : AreSameModes l.found.items l.known.keys;
}
