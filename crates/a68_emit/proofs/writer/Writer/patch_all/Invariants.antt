use Rattle.std.proofs.Common.{◌≡◌, drop}
use Rattle.a68_emit.specs.Writing.{aim_all}
use Rattle.a68_emit.proofs.writer.Writer.patch_all.Given as goal

abbrev pub invariant-loop-at : goal.invariant-loop-at
invariant-loop-at l = (aim_all l.self.list (drop l.at-index l.places) l.to ≡ aim_all l.initial.self.list l.places l.to) × (l.self.stop ≡ l.initial.self.stop)
