-- The definitions of a phrase are one or several.
use Rattle.std.proofs.Common.{◌⊎◌, inl, inr}
use Rattle.a68_tree.specs.declared.kind.NodeKind.{NodeKind}
use Rattle.a68_symbols.specs.declared.sym.Token.{Token}
use Rattle.a68_symbols.specs.declared.sym.Token.TheVariants as t
use Rattle.a68_tree.specs.Forest.{Forest, mark, part, aside, joined, Single, single_part, single_mark, single_aside, Some, some_part, some_mark, some_aside, some_forget, Several, several_parts, several_mark, several_aside}
use Rattle.a68_tree.specs.Grammar as g
use Rattle.a68_tree.specs.Grammar.{IsModes, IsPriorities, IsOps, IsPlanned, IsIdentities, IsProcs, IsVariables, IsDeclared, IsDefinitions}

abbrev OneOrSeveral : Forest → Type 0
OneOrSeveral f = Single f ⊎ Several f

some_of : {f : Forest} → OneOrSeveral f → Some f
some_of (inl s) = of_single s
  where
    of_single : {f : Forest} → Single f → Some f
    of_single single_part = some_part
    of_single (single_mark s) = some_mark (of_single s)
    of_single (single_aside s) = some_aside (of_single s)
some_of (inr s) = of_several s
  where
    of_several : {f : Forest} → Several f → Some f
    of_several (several_parts s) = some_part
    of_several (several_mark s) = some_mark (of_several s)
    of_several (several_aside s) = some_aside (of_several s)

behind_mark : {s : Token} {f : Forest} → OneOrSeveral f → OneOrSeveral (mark s f)
behind_mark (inl s) = inl (single_mark s)
behind_mark (inr s) = inr (several_mark s)

behind_aside : {k : NodeKind} {u f : Forest} → OneOrSeveral f → OneOrSeveral (aside k u f)
behind_aside (inl s) = inl (single_aside s)
behind_aside (inr s) = inr (several_aside s)

-- a comma and more definitions
more : {k : NodeKind} {u f : Forest} → OneOrSeveral f → OneOrSeveral (part k u (mark t.Comma f))
more s = inr (several_parts (some_mark (some_of s)))

modes : {f : Forest} → IsModes f → OneOrSeveral f
modes (g.mode_one d) = inl single_part
modes (g.mode_more d l) = more (modes l)

priorities : {f : Forest} → IsPriorities f → OneOrSeveral f
priorities (g.prio_one s) = inl single_part
priorities (g.prio_more s l) = more (priorities l)

ops : {f : Forest} → IsOps f → OneOrSeveral f
ops (g.op_one s r) = inl single_part
ops (g.op_more s r l) = more (ops l)

planned : {f : Forest} → IsPlanned f → OneOrSeveral f
planned (g.planned_one s u) = inl single_part
planned (g.planned_more s u l) = more (planned l)

identities : {f : Forest} → IsIdentities f → OneOrSeveral f
identities (g.identity_one u) = inl single_part
identities (g.identity_more u l) = more (identities l)

procs : {s : Token} {k : NodeKind} {f : Forest} → IsProcs s k f → OneOrSeveral f
procs (g.procs_one r) = inl single_part
procs (g.procs_more r l) = more (procs l)

variables : {f : Forest} → IsVariables f → OneOrSeveral f
variables (g.variable_one v) = inl single_part
variables (g.variable_more v l) = more (variables l)

declared : {f : Forest} → IsDeclared f → OneOrSeveral f
declared (g.mode_ l) = behind_mark (modes l)
declared (g.prio_ l) = behind_mark (priorities l)
declared (g.op_ l) = behind_mark (ops l)
declared (g.op_plan p l) = behind_mark (behind_aside (planned l))
declared (g.identities d l) = behind_aside (identities l)
declared (g.procs l) = behind_mark (procs l)
declared (g.proc_variables l) = behind_mark (procs l)
declared (g.variables d l) = behind_aside (variables l)
declared (g.loc_variables d l) = behind_mark (behind_aside (variables l))
declared (g.heap_variables d l) = behind_aside (behind_aside (variables l))

-- definitions, and more behind them
single_joined : {f h : Forest} → Single f → Some h → Several (joined f h)
single_joined single_part s = several_parts s
single_joined (single_mark i) s = several_mark (single_joined i s)
single_joined (single_aside i) s = several_aside (single_joined i s)

some_joined : {f : Forest} (h : Forest) → Some f → Some (joined f h)
some_joined h some_part = some_part
some_joined h (some_mark i) = some_mark (some_joined h i)
some_joined h (some_aside i) = some_aside (some_joined h i)
some_joined h (some_forget i) = some_forget (some_joined h i)

several_joined : {f : Forest} (h : Forest) → Several f → Several (joined f h)
several_joined h (several_parts i) = several_parts (some_joined h i)
several_joined h (several_mark i) = several_mark (several_joined h i)
several_joined h (several_aside i) = several_aside (several_joined h i)

both : {f h : Forest} → OneOrSeveral f → Some h → Several (joined f h)
both (inl i) s = single_joined i s
both {h = h} (inr i) s = several_joined h i

pub one_or_several : {f : Forest} → IsDefinitions f → OneOrSeveral f
one_or_several (g.declared i) = declared i
one_or_several (g.and_then i l) = inr (both (declared i) (some_mark (some_forget (some_of (one_or_several l)))))
