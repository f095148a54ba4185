use Rattle.std.proofs.Common.{List, drop}
use Rattle.std.specs.declared.option.Option.{Option}
use Rattle.a68_base.specs.declared.refusal.Stop.{Stop}
use Rattle.a68_code.specs.declared.code.Instr.{Instr}
use Rattle.a68_emit.specs.Coercing.{coercions}
use Rattle.a68_emit.specs.Writing.{Writes}
use Rattle.a68_emit.proofs.coercions.coerce_along.Given as goal

-- with the rest of the path, the whole of it is written
abbrev pub invariant-loop-at : goal.invariant-loop-at
invariant-loop-at l = (s : Option Stop) (end : List Instr) → Writes l.out.stop s l.out.list end (coercions l.modes l.place l.goal l.mode (drop l.at l.path))
    → Writes l.initial.out.stop s l.initial.out.list end (coercions l.modes l.place l.goal l.initial.mode l.path)
