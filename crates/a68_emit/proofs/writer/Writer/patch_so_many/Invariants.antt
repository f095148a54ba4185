use Rattle.std.proofs.Common.{◌≡◌, drop}
use Rattle.a68_emit.specs.Numbers.{put_all}
use Rattle.a68_emit.proofs.writer.Writer.patch_so_many.Given as goal

abbrev pub invariant-loop-which : goal.invariant-loop-which
invariant-loop-which l =
    (put_all l.self.list l.at l.which (drop l.which l.places) ≡ put_all l.initial.self.list l.at 0 l.places) × (l.self.stop ≡ l.initial.self.stop)
