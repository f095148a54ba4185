use Rattle.std.proofs.Common.{◌≤◌, List, length, take}
use Rattle.std.specs.declared.option.Option.{Option}
use Rattle.a68_base.specs.declared.refusal.Stop.{Stop}
use Rattle.a68_code.specs.declared.code.Instr.{Instr}
use Rattle.a68_elab.specs.Trees.{Tree}
use Rattle.a68_emit.specs.Chains.{TreeIsWritten}
use Rattle.a68_constructs.specs.Endings.{AllEnd}
use Rattle.a68_constructs.proofs.endings.end_all.Given as goal

-- the choices behind the first ones, of which so many are left, are ended
abbrev pub invariant-loop-left : goal.invariant-loop-left
invariant-loop-left l =
    (l.left ≤ length l.endings) × ((t : Tree) (stop : Option Stop) (list : List Instr) → AllEnd l.endings (TreeIsWritten t stop list) l.initial.out.stop l.initial.out.list
    → AllEnd (take l.left l.endings) (TreeIsWritten t stop list) l.out.stop l.out.list)

abbrev pub decreases-loop-left : goal.decreases-loop-left
decreases-loop-left l = l.left
