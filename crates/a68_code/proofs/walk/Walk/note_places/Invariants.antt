use Rattle.std.proofs.Common.{take}
use Rattle.a68_code.specs.Walk.{at_height, NotesAll}
use Rattle.a68_code.proofs.walk.Walk.note_places.Given as goal

abbrev pub invariant-loop-to : goal.invariant-loop-to
invariant-loop-to l = NotesAll (at_height l.height (take l.to-index l.places)) l.fn.self.heights.items l.fn.self.todo.items l.self.heights.items l.self.todo.items
