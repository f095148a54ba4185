use Rattle.std.proofs.Common.{◌≡◌, ◌<◌, take, length}
use Rattle.std.specs.Prelude.{None, Some, IfSome}
use Rattle.a68_outside.specs.Files.{bytes_at}
use Rattle.a68_outside.proofs.FilesLemmas.{under}
use Rattle.a68_outside.proofs.memory.place_of.Given as goal

abbrev pub invariant-loop-i : goal.invariant-loop-i
invariant-loop-i l = record {
  none : l.found ≡ None → under (take l.i l.files) l.name ≡ None;
  some : IfSome l.found (λ i. (i < length l.files) × (under (take l.i l.files) l.name ≡ Some (bytes_at l.files i)));
}
