-- Declarations: their definitions one after another, and as the grammar groups them.
use Rattle.std.proofs.Common.{◌≡◌, refl, sym, subst}
use Rattle.a68_tree.specs.declared.kind.NodeKind.{NodeKind}
use Rattle.a68_tree.specs.declared.kind.NodeKind.TheVariants as k
use Rattle.a68_symbols.specs.declared.sym.Token.TheVariants as t
use Rattle.a68_tree.specs.Forest.{Forest, end, mark, part, aside, shared, forget, joined}
use Rattle.a68_tree.specs.Grammar as gr
use Rattle.a68_tree.specs.Grammar.{IsDeclarer, IsDefinitions, IsDeclared, IsModes, IsPriorities, IsOps, IsPlan, IsPlanned, IsIdentities, IsProcs, IsVariables, IsVariable}
use Rattle.a68_unit_productions.specs.declared.goal.Defining.{Defining}
use Rattle.a68_unit_productions.specs.declared.goal.Defining.TheVariants as d
use Rattle.a68_read.specs.Middles.{IsInitial, no_initial, an_initial, IsDefinition, defines_mode, defines_priority, defines_operator, defines_planned, defines_identity, defines_procedure, defines_procedure_variable, defines_variable, run, IsTail, tail_end, tail_on, more_same, more_anew}

-- the definitions of one declaration
abbrev pub Group : Defining → Forest → Type 0
Group d.Mode f = IsModes f
Group d.Priority f = IsPriorities f
Group d.Operator f = IsOps f
Group d.Planned f = IsPlanned f
Group d.Identity f = IsIdentities f
Group d.Procedure f = IsProcs t.Equals k.IdentityDefinition f
Group d.ProcedureVariable f = IsProcs t.Becomes k.Variable f
Group d.Variable f = IsVariables f

variable_of : {f : Forest} → IsInitial f → IsVariable (shared (mark t.Tag f))
variable_of no_initial = gr.variable
variable_of (an_initial p) = gr.variable_set p

one : {x : Defining} {j : NodeKind} {u : Forest} → IsDefinition x j u → Group x (part j u end)
one (defines_mode p) = gr.mode_one p
one (defines_priority p) = gr.prio_one p
one (defines_operator p q) = gr.op_one p q
one (defines_planned p q) = gr.planned_one p q
one (defines_identity p) = gr.identity_one p
one (defines_procedure p) = gr.procs_one p
one (defines_procedure_variable p) = gr.procs_one p
one (defines_variable p) = gr.variable_one (variable_of p)

cons : {x : Defining} {j : NodeKind} {u : Forest} (f : Forest) → IsDefinition x j u → Group x f → Group x (part j u (mark t.Comma f))
cons f (defines_mode p) l = gr.mode_more p l
cons f (defines_priority p) l = gr.prio_more p l
cons f (defines_operator p q) l = gr.op_more p q l
cons f (defines_planned p q) l = gr.planned_more p q l
cons f (defines_identity p) l = gr.identity_more p l
cons f (defines_procedure p) l = gr.procs_more p l
cons f (defines_procedure_variable p) l = gr.procs_more p l
cons f (defines_variable p) l = gr.variable_more (variable_of p) l

-- a group alone, or a group and other declarations behind it
data Split (x : Defining) : Forest → Type 0 where
  alone : (f : Forest) → Group x f → Split x f
  before : (f h : Forest) → Group x f → IsDefinitions h → Split x (joined f (mark t.Comma (forget h)))

onto : {x : Defining} {j : NodeKind} {u f : Forest} → IsDefinition x j u → Split x f → Split x (part j u (mark t.Comma f))
onto {j = j} {u = u} p (alone f l) = alone (part j u (mark t.Comma f)) (cons f p l)
onto {j = j} {u = u} p (before f h l m) = before (part j u (mark t.Comma f)) h (cons f p l) m

split : {x : Defining} {j : NodeKind} {u f : Forest} → IsDefinition x j u → IsTail x f → Split x (part j u f)
split {j = j} {u = u} p tail_end = alone (part j u end) (one p)
split p (tail_on (more_same (run q l))) = onto p (split q l)
split {j = j} {u = u} p (tail_on (more_anew {f = h} m)) = before (part j u end) h (one p) m

-- a declaration from what stands before its definitions, and these
from_split : {x : Defining} (to : Forest → Forest) → ((f : Forest) → Group x f → IsDeclared (to f)) → ((f h : Forest) → to (joined f h) ≡ joined (to f) h)
    → {f : Forest} → Split x f → IsDefinitions (to f)
from_split to is moves (alone f l) = gr.declared (is f l)
from_split to is moves (before f h l m) = subst IsDefinitions (sym (moves f (mark t.Comma (forget h)))) (gr.and_then (is f l) m)

pub modes : {j : NodeKind} {u f : Forest} → IsDefinition d.Mode j u → IsTail d.Mode f → IsDefinitions (mark t.Mode (part j u f))
modes p l = from_split {x = d.Mode} (λ f. mark t.Mode f) (λ f g. gr.mode_ g) (λ f h. refl) (split p l)

pub priorities : {j : NodeKind} {u f : Forest} → IsDefinition d.Priority j u → IsTail d.Priority f → IsDefinitions (mark t.Prio (part j u f))
priorities p l = from_split {x = d.Priority} (λ f. mark t.Prio f) (λ f g. gr.prio_ g) (λ f h. refl) (split p l)

pub operators : {j : NodeKind} {u f : Forest} → IsDefinition d.Operator j u → IsTail d.Operator f → IsDefinitions (mark t.Op (part j u f))
operators p l = from_split {x = d.Operator} (λ f. mark t.Op f) (λ f g. gr.op_ g) (λ f h. refl) (split p l)

pub planned : {j : NodeKind} {c u f : Forest} → IsPlan c → IsDefinition d.Planned j u → IsTail d.Planned f → IsDefinitions (mark t.Op (aside k.Plan c (part j u f)))
planned {c = c} q p l = from_split {x = d.Planned} (λ f. mark t.Op (aside k.Plan c f)) (λ f g. gr.op_plan q g) (λ f h. refl) (split p l)

pub identities : {j : NodeKind} {c u f : Forest} → IsDeclarer c → IsDefinition d.Identity j u → IsTail d.Identity f → IsDefinitions (aside k.Declarer c (part j u f))
identities {c = c} q p l = from_split {x = d.Identity} (λ f. aside k.Declarer c f) (λ f g. gr.identities q g) (λ f h. refl) (split p l)

pub procedures : {j : NodeKind} {u f : Forest} → IsDefinition d.Procedure j u → IsTail d.Procedure f → IsDefinitions (mark t.Proc (part j u f))
procedures p l = from_split {x = d.Procedure} (λ f. mark t.Proc f) (λ f g. gr.procs g) (λ f h. refl) (split p l)

pub procedure_variables : {j : NodeKind} {u f : Forest} → IsDefinition d.ProcedureVariable j u → IsTail d.ProcedureVariable f → IsDefinitions (mark t.Proc (part j u f))
procedure_variables p l = from_split {x = d.ProcedureVariable} (λ f. mark t.Proc f) (λ f g. gr.proc_variables g) (λ f h. refl) (split p l)

pub variables : {j : NodeKind} {c u f : Forest} → IsDeclarer c → IsDefinition d.Variable j u → IsTail d.Variable f → IsDefinitions (aside k.Declarer c (part j u f))
variables {c = c} q p l = from_split {x = d.Variable} (λ f. aside k.Declarer c f) (λ f g. gr.variables q g) (λ f h. refl) (split p l)

pub loc_variables : {j : NodeKind} {c u f : Forest} → IsDeclarer c → IsDefinition d.Variable j u → IsTail d.Variable f → IsDefinitions (mark t.Loc (aside k.Declarer c (part j u f)))
loc_variables {c = c} q p l = from_split {x = d.Variable} (λ f. mark t.Loc (aside k.Declarer c f)) (λ f g. gr.loc_variables q g) (λ f h. refl) (split p l)

pub heap_variables : {j : NodeKind} {c u f : Forest} → IsDeclarer c → IsDefinition d.Variable j u → IsTail d.Variable f → IsDefinitions (aside k.Heap (mark t.Heap end) (aside k.Declarer c (part j u f)))
heap_variables {c = c} q p l = from_split {x = d.Variable} (λ f. aside k.Heap (mark t.Heap end) (aside k.Declarer c f)) (λ f g. gr.heap_variables q g) (λ f h. refl) (split p l)
