-- What stands behind the pieces of a form, and with what declarations begin.
use Rattle.std.proofs.Common.{◌≡◌, zero, true, false, List, ◌∷◌, refl, ◌∙◌, subst}
use Rattle.a68_tree.specs.declared.kind.NodeKind.{NodeKind}
use Rattle.a68_tree.specs.declared.kind.NodeKind.TheVariants as k
use Rattle.a68_symbols.specs.declared.sym.Token.TheVariants as t
use Rattle.a68_symbols.specs.declared.sym.Bracket.{Bracket}
use Rattle.a68_symbols.specs.declared.sym.Sym.{Sym}
use Rattle.a68_symbols.specs.declared.sym.Sym.TheVariants.{Closes, Is}
use Rattle.a68_tree.specs.Forest.{Forest, end, mark, part, shared, joined, spells}
use Rattle.a68_tree.specs.Grammar as gr
use Rattle.a68_tree.specs.Grammar.{IsElse, IsElseBrief, IsOut, IsOutBrief, IsOutC, IsOutCBrief, IsUnit, IsDeclarer, IsDefinitions, IsDeclared, IsDeclaration, IsModes, IsPriorities, IsOps, IsPlanned, IsIdentities, IsProcs, IsVariables, IsVariable}
use Rattle.a68_lookahead.specs.Symbols.{starts, label_ahead, Follows, next}
use Rattle.a68_lookahead.specs.Sets as set
use Rattle.a68_lookahead.specs.Ahead.{behind, phrase_ahead, spec_ahead}
use Rattle.a68_lookahead.specs.declared.look.Due.TheVariants as due
use Rattle.a68_lookahead.specs.declared.look.Landmark.TheVariants as lm
use Rattle.a68_lookahead.proofs.Firsts.{here, first_unit, first_declarer, no_first, no_first_pair, closes_clause, closes_unit, clause_unit}
use Rattle.a68_lookahead.proofs.Told.{behind_declarer, plain_ahead, declarer_unspecced}
use Rattle.a68_unit_productions.specs.declared.goal.Defining.{Defining}
use Rattle.a68_unit_productions.specs.declared.goal.Defining.TheVariants as d
use Rattle.a68_read.specs.Middles as m
use Rattle.a68_read.specs.Middles.{AreJoinedDefinitions, run, IsTail, tail_end, tail_on, IsMore, more_same, more_anew, IsDefinition, IsInitial, IsSerialTail, IsCommaTail}
use Rattle.a68_read.specs.Awaits as a
use Rattle.a68_read.specs.Awaits.{IsDeclaring, IsNamed, IsProcedureForm, IsOperatorForm}
use Rattle.a68_tree.proofs.Joining.{joined_end}

pub else_follows : {e : Forest} {r : List Sym} → IsElse e → Follows set.closes r → Follows set.ends_clause (spells e r)
else_follows gr.no_else f = closes_clause f
else_follows (gr.else_ p) f = next refl
else_follows (gr.elif p q x) f = next refl

pub else_brief_follows : {e : Forest} {r : List Sym} → IsElseBrief e → Follows set.closes r → Follows set.ends_clause (spells e r)
else_brief_follows gr.no_else_b f = closes_clause f
else_brief_follows (gr.else_b p) f = next refl
else_brief_follows (gr.elif_b p q x) f = next refl

pub out_follows : {e : Forest} {r : List Sym} → IsOut e → Follows set.closes r → Follows set.ends_clause (spells e r)
out_follows gr.no_out f = closes_clause f
out_follows (gr.out_serial p) f = next refl
out_follows (gr.out_again p q x) f = next refl

pub out_brief_follows : {e : Forest} {r : List Sym} → IsOutBrief e → Follows set.closes r → Follows set.ends_clause (spells e r)
out_brief_follows gr.no_outbrief f = closes_clause f
out_brief_follows (gr.outbrief_serial p) f = next refl
out_brief_follows (gr.outbrief_again p q x) f = next refl

pub outc_follows : {e : Forest} {r : List Sym} → IsOutC e → Follows set.closes r → Follows set.ends_clause (spells e r)
outc_follows gr.no_outc f = closes_clause f
outc_follows (gr.outc_serial p) f = next refl
outc_follows (gr.outc_again p q x) f = next refl

pub outc_brief_follows : {e : Forest} {r : List Sym} → IsOutCBrief e → Follows set.closes r → Follows set.ends_clause (spells e r)
outc_brief_follows gr.no_outcbrief f = closes_clause f
outc_brief_follows (gr.outcbrief_serial p) f = next refl
outc_brief_follows (gr.outcbrief_again p q x) f = next refl

pub after_serial_follows : {j : NodeKind} {f : Forest} {r : List Sym} → m.AfterSerial j f → Follows set.closes r → Follows set.ends_clause (spells f r)
after_serial_follows m.serial_closes f = closes_clause f
after_serial_follows (m.serial_bar p) f = next refl

pub serial_tail_unit : {x : Forest} {r : List Sym} → IsSerialTail x → Follows set.ends_clause r → Follows set.ends_unit (spells x r)
serial_tail_unit m.serial_end f = clause_unit f
serial_tail_unit (m.serial_on p) f = next refl
serial_tail_unit (m.serial_out p) f = next refl

pub comma_tail_unit : {P : Forest → Type 0} {x : Forest} {r : List Sym} → IsCommaTail P x → Follows set.ends_clause r → Follows set.ends_unit (spells x r)
comma_tail_unit m.comma_end f = clause_unit f
comma_tail_unit (m.comma_on p) f = next refl

pub tail_definition : {y : Defining} {x : Forest} {r : List Sym} → IsTail y x → Follows set.ends_declaration r → Follows set.ends_definition (spells x r)
tail_definition tail_end f = Rattle.a68_lookahead.proofs.Firsts.declaration_definition f
tail_definition (tail_on p) f = next refl

-- ---- declarations by their definitions

initial_of : {f : Forest} → IsVariable f → (j : NodeKind) × ((g : Forest) × IsInitial g × (f ≡ shared (mark t.Tag g)))
initial_of gr.variable = (k.Variable, (end, m.no_initial, refl))
initial_of (gr.variable_set {j = j} {u = u} p) = (j, (mark t.Becomes (part j u end), m.an_initial p, refl))

defines_var : {f : Forest} → IsVariable f → IsDefinition d.Variable k.Variable f
defines_var gr.variable = m.defines_variable m.no_initial
defines_var (gr.variable_set p) = m.defines_variable (m.an_initial p)

modes_run : {f x : Forest} → IsModes f → IsTail d.Mode x → AreJoinedDefinitions d.Mode (joined f x)
modes_run (gr.mode_one p) l = run (m.defines_mode p) l
modes_run (gr.mode_more p q) l = run (m.defines_mode p) (tail_on (more_same (modes_run q l)))

priorities_run : {f x : Forest} → IsPriorities f → IsTail d.Priority x → AreJoinedDefinitions d.Priority (joined f x)
priorities_run (gr.prio_one p) l = run (m.defines_priority p) l
priorities_run (gr.prio_more p q) l = run (m.defines_priority p) (tail_on (more_same (priorities_run q l)))

ops_run : {f x : Forest} → IsOps f → IsTail d.Operator x → AreJoinedDefinitions d.Operator (joined f x)
ops_run (gr.op_one p q) l = run (m.defines_operator p q) l
ops_run (gr.op_more p q r) l = run (m.defines_operator p q) (tail_on (more_same (ops_run r l)))

planned_run : {f x : Forest} → IsPlanned f → IsTail d.Planned x → AreJoinedDefinitions d.Planned (joined f x)
planned_run (gr.planned_one p q) l = run (m.defines_planned p q) l
planned_run (gr.planned_more p q r) l = run (m.defines_planned p q) (tail_on (more_same (planned_run r l)))

identities_run : {f x : Forest} → IsIdentities f → IsTail d.Identity x → AreJoinedDefinitions d.Identity (joined f x)
identities_run (gr.identity_one p) l = run (m.defines_identity p) l
identities_run (gr.identity_more p q) l = run (m.defines_identity p) (tail_on (more_same (identities_run q l)))

procs_run : {f x : Forest} → IsProcs t.Equals k.IdentityDefinition f → IsTail d.Procedure x → AreJoinedDefinitions d.Procedure (joined f x)
procs_run (gr.procs_one p) l = run (m.defines_procedure p) l
procs_run (gr.procs_more p q) l = run (m.defines_procedure p) (tail_on (more_same (procs_run q l)))

proc_variables_run : {f x : Forest} → IsProcs t.Becomes k.Variable f → IsTail d.ProcedureVariable x → AreJoinedDefinitions d.ProcedureVariable (joined f x)
proc_variables_run (gr.procs_one p) l = run (m.defines_procedure_variable p) l
proc_variables_run (gr.procs_more p q) l = run (m.defines_procedure_variable p) (tail_on (more_same (proc_variables_run q l)))

variables_run : {f x : Forest} → IsVariables f → IsTail d.Variable x → AreJoinedDefinitions d.Variable (joined f x)
variables_run (gr.variable_one p) l = run (defines_var p) l
variables_run (gr.variable_more p q) l = run (defines_var p) (tail_on (more_same (variables_run q l)))

-- a declaration, and what is joined to it whatever it defines
declared_on : {f x : Forest} → IsDeclared f → ((y : Defining) → IsTail y x) → IsDeclaring (joined f x)
declared_on (gr.mode_ p) l = a.declares_modes (modes_run p (l d.Mode))
declared_on (gr.prio_ p) l = a.declares_priorities (priorities_run p (l d.Priority))
declared_on (gr.op_ p) l = a.declares_operators (a.form_operators (ops_run p (l d.Operator)))
declared_on (gr.op_plan p q) l = a.declares_operators (a.form_planned p (planned_run q (l d.Planned)))
declared_on (gr.identities p q) l = a.declares_named p (a.named_identities (identities_run q (l d.Identity)))
declared_on (gr.procs p) l = a.declares_procedures (a.form_procedures (procs_run p (l d.Procedure)))
declared_on (gr.proc_variables p) l = a.declares_procedures (a.form_procedure_variables (proc_variables_run p (l d.ProcedureVariable)))
declared_on (gr.variables p q) l = a.declares_named p (a.named_variables (variables_run q (l d.Variable)))
declared_on (gr.loc_variables p q) l = a.declares_local p (variables_run q (l d.Variable))
declared_on (gr.heap_variables p q) l = a.declares_heap p (variables_run q (l d.Variable))

pub declaring : {f : Forest} → IsDefinitions f → IsDeclaring f
declaring {f = f} (gr.declared p) = subst IsDeclaring (joined_end f) (declared_on p (λ y. tail_end))
declaring (gr.and_then p q) = declared_on p (λ y. tail_on (more_anew q))

-- ---- with what declarations begin

procedure_ahead : {f : Forest} → IsProcedureForm f → (r : List Sym) → phrase_ahead (Is t.Proc ∷ spells f r) ≡ true
procedure_ahead (a.form_procedures (run (m.defines_procedure p) l)) r = refl
procedure_ahead (a.form_procedure_variables (run (m.defines_procedure_variable p) l)) r = refl

variables_ahead : {c f : Forest} → IsDeclarer c → AreJoinedDefinitions d.Variable f → (r : List Sym) → behind lm.Tag zero due.Declarer (spells c (spells f r)) ≡ true
variables_ahead {f = f} p (run (m.defines_variable q) l) r = behind_declarer lm.Tag p (spells f r)

named_ahead : {c f : Forest} → IsDeclarer c → IsNamed f → (r : List Sym) → behind lm.Tag zero due.Declarer (spells c (spells f r)) ≡ true
named_ahead {f = f} p (a.named_identities (run (m.defines_identity q) l)) r = behind_declarer lm.Tag p (spells f r)
named_ahead p (a.named_variables q) r = variables_ahead p q r

declaring_ahead : {f : Forest} → IsDeclaring f → (r : List Sym) → phrase_ahead (spells f r) ≡ true
declaring_ahead (a.declares_modes p) r = refl
declaring_ahead (a.declares_priorities p) r = refl
declaring_ahead (a.declares_operators p) r = refl
declaring_ahead (a.declares_procedures p) r = procedure_ahead p r
declaring_ahead (a.declares_local p q) r = variables_ahead p q r
declaring_ahead (a.declares_heap p q) r = variables_ahead p q r
declaring_ahead (a.declares_named {f = f} p q) r = plain_ahead p (spells f r) ∙ named_ahead p q r

pub declaration_ahead : {f : Forest} → IsDeclaration f → (r : List Sym) → phrase_ahead (spells f r) ≡ true
declaration_ahead (gr.single p q) r = declaring_ahead (declaring p) r
declaration_ahead (gr.joined_ p q) r = declaring_ahead (declaring p) r

declaring_unspecced : {f : Forest} → IsDeclaring f → (r : List Sym) → spec_ahead (spells f r) ≡ false
declaring_unspecced (a.declares_modes p) r = refl
declaring_unspecced (a.declares_priorities p) r = refl
declaring_unspecced (a.declares_operators p) r = refl
declaring_unspecced (a.declares_procedures p) r = refl
declaring_unspecced (a.declares_local p q) r = refl
declaring_unspecced (a.declares_heap p q) r = refl
declaring_unspecced (a.declares_named {f = f} p q) r = declarer_unspecced p (spells f r)

pub declaration_unspecced : {f : Forest} → IsDeclaration f → (r : List Sym) → spec_ahead (spells f r) ≡ false
declaration_unspecced (gr.single p q) r = declaring_unspecced (declaring p) r
declaration_unspecced (gr.joined_ p q) r = declaring_unspecced (declaring p) r

not_closing : (c : Bracket) {f : Forest} → IsDeclaring f → (r : List Sym) → starts (Closes c) (spells f r) ≡ false
not_closing c (a.declares_modes p) r = refl
not_closing c (a.declares_priorities p) r = refl
not_closing c (a.declares_operators p) r = refl
not_closing c (a.declares_procedures p) r = refl
not_closing c (a.declares_local p q) r = refl
not_closing c (a.declares_heap p q) r = refl
not_closing c (a.declares_named {f = f} p q) r = no_first set.begins_declarer (Closes c) refl (first_declarer p (spells f r))

pub declaration_opens : (c : Bracket) {f : Forest} → IsDeclaration f → (r : List Sym) → starts (Closes c) (spells f r) ≡ false
declaration_opens c (gr.single p q) r = not_closing c (declaring p) r
declaration_opens c (gr.joined_ p q) r = not_closing c (declaring p) r

declaring_unlabelled : {f : Forest} → IsDeclaring f → (r : List Sym) → label_ahead (spells f r) ≡ false
declaring_unlabelled (a.declares_modes p) r = refl
declaring_unlabelled (a.declares_priorities p) r = refl
declaring_unlabelled (a.declares_operators p) r = refl
declaring_unlabelled (a.declares_procedures p) r = refl
declaring_unlabelled (a.declares_local p q) r = refl
declaring_unlabelled (a.declares_heap p q) r = refl
declaring_unlabelled (a.declares_named {f = f} p q) r = no_first_pair set.begins_declarer (Is t.Tag) (Is t.Colon) refl (first_declarer p (spells f r))

pub declaration_unlabelled : {f : Forest} → IsDeclaration f → (r : List Sym) → label_ahead (spells f r) ≡ false
declaration_unlabelled (gr.single p q) r = declaring_unlabelled (declaring p) r
declaration_unlabelled (gr.joined_ p q) r = declaring_unlabelled (declaring p) r

pub unit_opens : (c : Bracket) {j : NodeKind} {u : Forest} → IsUnit j u → (r : List Sym) → starts (Closes c) (spells u r) ≡ false
unit_opens c p r = no_first set.begins_unit (Closes c) refl (first_unit p r)
