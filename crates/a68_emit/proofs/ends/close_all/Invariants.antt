use Rattle.std.proofs.Common.{◌≤◌, List, length, take}
use Rattle.std.specs.declared.option.Option.{Option}
use Rattle.a68_base.specs.declared.refusal.Stop.{Stop}
use Rattle.a68_code.specs.declared.code.Instr.{Instr}
use Rattle.a68_elab.specs.Trees.{Tree}
use Rattle.a68_emit.specs.Chains.{Finishes, TreeIsWritten}
use Rattle.a68_emit.proofs.ends.close_all.Given as goal

-- the choices behind the first ones, of which so many are left, are ended
abbrev pub invariant-loop-left : goal.invariant-loop-left
invariant-loop-left l =
    (l.left ≤ length l.opens) × ((t : Tree) (stop : Option Stop) (list : List Instr) → Finishes l.opens (TreeIsWritten t stop list) l.initial.out.stop l.initial.out.list
    → Finishes (take l.left l.opens) (TreeIsWritten t stop list) l.out.stop l.out.list)

abbrev pub decreases-loop-left : goal.decreases-loop-left
decreases-loop-left l = l.left
