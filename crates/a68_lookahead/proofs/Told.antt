-- What looking ahead finds: a routine text is seen, and no other unit is; a declaration is seen, and no unit is.
use Rattle.std.proofs.Common.{◌≡◌, ℕ, zero, suc, Bool, true, false, ◌||◌, List, ◌∷◌, refl, ap, ◌∙◌, ◌⊎◌, inl, inr}
use Rattle.a68_symbols.specs.declared.sym.Token.{Token}
use Rattle.a68_symbols.specs.declared.sym.Token.TheVariants as t
use Rattle.a68_symbols.specs.declared.sym.Bracket.TheVariants as b
use Rattle.a68_symbols.specs.declared.sym.Sym.{Sym}
use Rattle.a68_symbols.specs.declared.sym.Sym.TheVariants.{Opens, Closes, Is}
use Rattle.a68_tree.specs.declared.kind.NodeKind.{NodeKind}
use Rattle.a68_tree.specs.Forest.{Forest, end, mark, group, part, sign, aside, shared, forget, spells, joined}
use Rattle.a68_tree.specs.Grammar as g
use Rattle.a68_tree.specs.Grammar.{IsSign, IsClosing, IsEnclosed, IsFor, IsFrom, IsBy, IsTo, IsWhile, IsSerial, IsLabelled, IsEnquiry, IsUnits2, IsUnit, IsRoutine, IsResult, IsParams, IsTags, IsTertiary, IsSecondary, IsPrimary, IsDeclarer, IsYield, IsDeclaration, IsDefinitions, IsDeclared, IsIdentities, IsVariables}
use Rattle.a68_tree.proofs.Joining.{spells_joined}
use Rattle.a68_lookahead.specs.declared.look.Due.TheVariants as due
use Rattle.a68_lookahead.specs.declared.look.Due.{Due}
use Rattle.a68_lookahead.specs.declared.look.Landmark.{Landmark}
use Rattle.a68_lookahead.specs.declared.look.Landmark.TheVariants as m
use Rattle.a68_lookahead.specs.Ahead.{behind, routine_ahead, phrase_ahead, spec_ahead}
use Rattle.std.proofs.lemmas.Bool.{false≢true}
use Rattle.a68_lookahead.specs.Sets as set
use Rattle.a68_lookahead.specs.Symbols.{Follows, at_end, next}

-- brackets that open in a forest close in it
pub behind_forest : (sought : Landmark) (n : ℕ) (d : Due) (f : Forest) (r : List Sym) → behind sought (suc n) d (spells f r) ≡ behind sought (suc n) d r
behind_forest sought n d end r = refl
behind_forest sought n d (mark s f) r = behind_forest sought n d f r
behind_forest sought n d (group c i f) r = behind_forest sought (suc n) d i (Closes c ∷ spells f r) ∙ behind_forest sought n d f r
behind_forest sought n d (part k u f) r = behind_forest sought n d u (spells f r) ∙ behind_forest sought n d f r
behind_forest sought n d (sign s f) r = behind_forest sought n d f r
behind_forest sought n d (aside k u f) r = behind_forest sought n d u (spells f r) ∙ behind_forest sought n d f r
behind_forest sought n d (shared f) r = behind_forest sought n d f r
behind_forest sought n d (forget f) r = behind_forest sought n d f r

-- where a result may stand a declarer does as well
mutual
  pub behind_declarer : (sought : Landmark) → {d : Forest} → IsDeclarer d → (y : List Sym) → behind sought zero due.Declarer (spells d y) ≡ behind sought zero due.Ended y
  behind_declarer sought (g.plain g.plain_int) y = refl
  behind_declarer sought (g.plain g.plain_other) y = refl
  behind_declarer sought g.long_int y = refl
  behind_declarer sought g.mode_word y = refl
  behind_declarer sought (g.ref d) y = behind_declarer sought d y
  behind_declarer sought (g.rows {f = f} {d = d} l i) y = behind_forest sought zero due.Declarer f (Closes b.Square ∷ spells d y) ∙ behind_declarer sought i y
  behind_declarer sought (g.flex {f = f} {d = d} l i) y = behind_forest sought zero due.Declarer f (Closes b.Square ∷ spells d y) ∙ behind_declarer sought i y
  behind_declarer sought (g.struct_ {f = f} l) y = behind_forest sought zero due.Ended f (Closes b.Round ∷ y)
  behind_declarer sought (g.union_ {d = d} {f = f} i l) y = behind_forest sought zero due.Ended d (Is t.Comma ∷ spells f (Closes b.Round ∷ y)) ∙ behind_forest sought zero due.Ended f (Closes b.Round ∷ y)
  behind_declarer sought (g.proc p) y = behind_proc sought p y
  behind_declarer sought (g.proc_params {p = p} {f = f} l q) y = behind_forest sought zero due.Result p (Closes b.Round ∷ spells f y) ∙ behind_yield sought q y

  as_result : (sought : Landmark) → {d : Forest} → IsDeclarer d → (y : List Sym) → behind sought zero due.Result (spells d y) ≡ behind sought zero due.Ended y
  as_result sought (g.plain g.plain_int) y = refl
  as_result sought (g.plain g.plain_other) y = refl
  as_result sought g.long_int y = refl
  as_result sought g.mode_word y = refl
  as_result sought (g.ref d) y = behind_declarer sought d y
  as_result sought (g.rows {f = f} {d = d} l i) y = behind_forest sought zero due.Declarer f (Closes b.Square ∷ spells d y) ∙ behind_declarer sought i y
  as_result sought (g.flex {f = f} {d = d} l i) y = behind_forest sought zero due.Declarer f (Closes b.Square ∷ spells d y) ∙ behind_declarer sought i y
  as_result sought (g.struct_ {f = f} l) y = behind_forest sought zero due.Ended f (Closes b.Round ∷ y)
  as_result sought (g.union_ {d = d} {f = f} i l) y = behind_forest sought zero due.Ended d (Is t.Comma ∷ spells f (Closes b.Round ∷ y)) ∙ behind_forest sought zero due.Ended f (Closes b.Round ∷ y)
  as_result sought (g.proc p) y = behind_proc sought p y
  as_result sought (g.proc_params {p = p} {f = f} l q) y = behind_forest sought zero due.Result p (Closes b.Round ∷ spells f y) ∙ behind_yield sought q y

  as_proc : (sought : Landmark) → {d : Forest} → IsDeclarer d → (y : List Sym) → behind sought zero due.Procedure (spells d y) ≡ behind sought zero due.Ended y
  as_proc sought (g.plain g.plain_int) y = refl
  as_proc sought (g.plain g.plain_other) y = refl
  as_proc sought g.long_int y = refl
  as_proc sought g.mode_word y = refl
  as_proc sought (g.ref d) y = behind_declarer sought d y
  as_proc sought (g.rows {f = f} {d = d} l i) y = behind_forest sought zero due.Declarer f (Closes b.Square ∷ spells d y) ∙ behind_declarer sought i y
  as_proc sought (g.flex {f = f} {d = d} l i) y = behind_forest sought zero due.Declarer f (Closes b.Square ∷ spells d y) ∙ behind_declarer sought i y
  as_proc sought (g.struct_ {f = f} l) y = behind_forest sought zero due.Ended f (Closes b.Round ∷ y)
  as_proc sought (g.union_ {d = d} {f = f} i l) y = behind_forest sought zero due.Ended d (Is t.Comma ∷ spells f (Closes b.Round ∷ y)) ∙ behind_forest sought zero due.Ended f (Closes b.Round ∷ y)
  as_proc sought (g.proc p) y = behind_proc sought p y
  as_proc sought (g.proc_params {p = p} {f = f} l q) y = behind_forest sought zero due.Result p (Closes b.Round ∷ spells f y) ∙ behind_yield sought q y

  behind_yield : (sought : Landmark) → {f : Forest} → IsYield f → (y : List Sym) → behind sought zero due.Result (spells f y) ≡ behind sought zero due.Ended y
  behind_yield sought (g.yield_ d) y = as_result sought d y
  behind_yield sought g.yield_void y = refl

  behind_proc : (sought : Landmark) → {f : Forest} → IsYield f → (y : List Sym) → behind sought zero due.Procedure (spells f y) ≡ behind sought zero due.Ended y
  behind_proc sought (g.yield_ d) y = as_proc sought d y
  behind_proc sought g.yield_void y = refl

ahead_declarer : {d : Forest} → IsDeclarer d → (y : List Sym) → routine_ahead (spells d y) ≡ behind m.Colon zero due.Result (spells d y)
ahead_declarer (g.plain g.plain_int) y = refl
ahead_declarer (g.plain g.plain_other) y = refl
ahead_declarer g.long_int y = refl
ahead_declarer g.mode_word y = refl
ahead_declarer (g.ref d) y = refl
ahead_declarer (g.rows l i) y = refl
ahead_declarer (g.flex l i) y = refl
ahead_declarer (g.struct_ l) y = refl
ahead_declarer (g.union_ i l) y = refl
ahead_declarer (g.proc p) y = refl
ahead_declarer (g.proc_params l q) y = refl

result_seen : {f : Forest} → IsResult f → (r : List Sym) → routine_ahead (spells f r) ≡ true
result_seen (g.result {u = u} d i) r = ahead_declarer d (Is t.Colon ∷ spells u r) ∙ as_result m.Colon d (Is t.Colon ∷ spells u r)
result_seen (g.result_void i) r = refl

declarer_more : (sought : Landmark) → {d : Forest} → IsDeclarer d → (y : List Sym) → behind sought zero due.More (spells d y) ≡ behind sought zero due.Declarer (spells d y)
declarer_more sought (g.plain g.plain_int) y = refl
declarer_more sought (g.plain g.plain_other) y = refl
declarer_more sought g.long_int y = refl
declarer_more sought g.mode_word y = refl
declarer_more sought (g.ref d) y = refl
declarer_more sought (g.rows l i) y = refl
declarer_more sought (g.flex l i) y = refl
declarer_more sought (g.struct_ l) y = refl
declarer_more sought (g.union_ i l) y = refl
declarer_more sought (g.proc p) y = refl
declarer_more sought (g.proc_params l q) y = refl

-- parameters are seen
mutual
  params_seen : {i : NodeKind} {f : Forest} → IsParams i f → (y : List Sym) → behind m.Parameters zero due.Declarer (spells f (Closes b.Round ∷ y)) ≡ true
  params_seen (g.params {f = f} p q) y = behind_declarer m.Parameters p (spells f (Closes b.Round ∷ y)) ∙ (tags_seen q y).0

  tags_seen : {i : NodeKind} {f : Forest} → IsTags i f → (y : List Sym)
      → (behind m.Parameters zero due.Ended (spells f (Closes b.Round ∷ y)) ≡ true) × (behind m.Parameters zero due.More (spells f (Closes b.Round ∷ y)) ≡ true)
  tags_seen g.tags_end y = (refl, refl)
  tags_seen (g.tags_more q) y = ((tags_seen q y).1, (tags_seen q y).1)
  tags_seen (g.tags_next p) y = (params_more p y, params_more p y)

  params_more : {i : NodeKind} {f : Forest} → IsParams i f → (y : List Sym) → behind m.Parameters zero due.More (spells f (Closes b.Round ∷ y)) ≡ true
  params_more (g.params {f = f} p q) y =
      declarer_more m.Parameters p (spells f (Closes b.Round ∷ y)) ∙ behind_declarer m.Parameters p (spells f (Closes b.Round ∷ y)) ∙ (tags_seen q y).0

-- a routine text is seen
pub routine_seen : {f : Forest} → IsRoutine f → (r : List Sym) → routine_ahead (spells f r) ≡ true
routine_seen (g.routine_params {f = f} l q) r = ap (λ (c : Bool). c || false) (params_seen l (spells f r))
routine_seen (g.routine_plain q) r = result_seen q r

-- ---- and no other unit

-- what is looked for behind a declarer
data Asks : Landmark → Type 0 where
  asks_colon : Asks m.Colon
  asks_parameters : Asks m.Parameters
  asks_spec : Asks m.Spec

-- what is looked for in brackets
data Lists : Landmark → Type 0 where
  lists_parameters : Lists m.Parameters
  lists_spec : Lists m.Spec

asks : {sought : Landmark} → Lists sought → Asks sought
asks lists_parameters = asks_parameters
asks lists_spec = asks_spec

while_ends : {sought : Landmark} → Asks sought → {f : Forest} → IsWhile f → (r : List Sym) → behind sought zero due.Ended (spells f r) ≡ false
while_ends asks_colon (g.while_ p q) r = refl
while_ends asks_parameters (g.while_ p q) r = refl
while_ends asks_spec (g.while_ p q) r = refl
while_ends a (g.no_while p) r = refl

to_ends : {sought : Landmark} → Asks sought → {f : Forest} → IsTo f → (r : List Sym) → behind sought zero due.Ended (spells f r) ≡ false
to_ends asks_colon (g.to_ p q) r = refl
to_ends asks_parameters (g.to_ p q) r = refl
to_ends asks_spec (g.to_ p q) r = refl
to_ends a (g.no_to p) r = while_ends a p r

by_ends : {sought : Landmark} → Asks sought → {f : Forest} → IsBy f → (r : List Sym) → behind sought zero due.Ended (spells f r) ≡ false
by_ends asks_colon (g.by_ p q) r = refl
by_ends asks_parameters (g.by_ p q) r = refl
by_ends asks_spec (g.by_ p q) r = refl
by_ends a (g.no_by p) r = to_ends a p r

from_ends : {sought : Landmark} → Asks sought → {f : Forest} → IsFrom f → (r : List Sym) → behind sought zero due.Ended (spells f r) ≡ false
from_ends asks_colon (g.from_ p q) r = refl
from_ends asks_parameters (g.from_ p q) r = refl
from_ends asks_spec (g.from_ p q) r = refl
from_ends a (g.no_from p) r = by_ends a p r

for_ends : {sought : Landmark} → Asks sought → {f : Forest} → IsFor f → (r : List Sym) → behind sought zero due.Ended (spells f r) ≡ false
for_ends asks_colon (g.for_ p) r = refl
for_ends asks_parameters (g.for_ p) r = refl
for_ends asks_spec (g.for_ p) r = refl
for_ends a (g.no_for p) r = from_ends a p r

enclosed_ends : {sought : Landmark} → Asks sought → {k : NodeKind} {u : Forest} → IsEnclosed k u → (r : List Sym) → behind sought zero due.Ended (spells u r) ≡ false
enclosed_ends a (g.closed c p) r = refl
enclosed_ends a (g.collateral c p) r = refl
enclosed_ends a (g.vacuum c) r = refl
enclosed_ends asks_colon (g.parallel c p) r = refl
enclosed_ends asks_parameters (g.parallel c p) r = refl
enclosed_ends asks_spec (g.parallel c p) r = refl
enclosed_ends a (g.conditional p q e) r = refl
enclosed_ends a (g.conditional_brief p q e) r = refl
enclosed_ends a (g.case_ p q e) r = refl
enclosed_ends a (g.case_brief p q e) r = refl
enclosed_ends a (g.conformity p q e) r = refl
enclosed_ends a (g.conformity_brief p q e) r = refl
enclosed_ends a (g.loop p) r = for_ends a p r

-- no unit begins as parameters or a spec do, up to their bracket
while_unlisted : (sought : Landmark) → {f : Forest} → IsWhile f → (r : List Sym) → behind sought zero due.Declarer (spells f r) ≡ false
while_unlisted sought (g.while_ p q) r = refl
while_unlisted sought (g.no_while p) r = refl

to_unlisted : (sought : Landmark) → {f : Forest} → IsTo f → (r : List Sym) → behind sought zero due.Declarer (spells f r) ≡ false
to_unlisted sought (g.to_ p q) r = refl
to_unlisted sought (g.no_to p) r = while_unlisted sought p r

by_unlisted : (sought : Landmark) → {f : Forest} → IsBy f → (r : List Sym) → behind sought zero due.Declarer (spells f r) ≡ false
by_unlisted sought (g.by_ p q) r = refl
by_unlisted sought (g.no_by p) r = to_unlisted sought p r

from_unlisted : (sought : Landmark) → {f : Forest} → IsFrom f → (r : List Sym) → behind sought zero due.Declarer (spells f r) ≡ false
from_unlisted sought (g.from_ p q) r = refl
from_unlisted sought (g.no_from p) r = by_unlisted sought p r

for_unlisted : (sought : Landmark) → {f : Forest} → IsFor f → (r : List Sym) → behind sought zero due.Declarer (spells f r) ≡ false
for_unlisted sought (g.for_ p) r = refl
for_unlisted sought (g.no_for p) r = from_unlisted sought p r

enclosed_unlisted : (sought : Landmark) → {k : NodeKind} {u : Forest} → IsEnclosed k u → (r : List Sym) → behind sought zero due.Declarer (spells u r) ≡ false
enclosed_unlisted sought (g.closed g.closing_round p) r = refl
enclosed_unlisted sought (g.closed g.closing_begin p) r = refl
enclosed_unlisted sought (g.collateral g.closing_round p) r = refl
enclosed_unlisted sought (g.collateral g.closing_begin p) r = refl
enclosed_unlisted sought (g.vacuum g.closing_round) r = refl
enclosed_unlisted sought (g.vacuum g.closing_begin) r = refl
enclosed_unlisted sought (g.parallel c p) r = refl
enclosed_unlisted sought (g.conditional p q e) r = refl
enclosed_unlisted sought (g.conditional_brief p q e) r = refl
enclosed_unlisted sought (g.case_ p q e) r = refl
enclosed_unlisted sought (g.case_brief p q e) r = refl
enclosed_unlisted sought (g.conformity p q e) r = refl
enclosed_unlisted sought (g.conformity_brief p q e) r = refl
enclosed_unlisted sought (g.loop p) r = for_unlisted sought p r

primary_unlisted : {sought : Landmark} → Lists sought → {k : NodeKind} {u : Forest} → IsPrimary k u → (r : List Sym) → behind sought zero due.Declarer (spells u r) ≡ false
primary_unlisted l (g.slice p i) r = primary_unlisted l p _
primary_unlisted l (g.call p i) r = primary_unlisted l p _
primary_unlisted l (g.cast {u = u} d e) r = behind_declarer _ d (spells u r) ∙ enclosed_ends (asks l) e r
primary_unlisted l (g.cast_void e) r = refl
primary_unlisted l g.tag r = refl
primary_unlisted l (g.denotation g.denotation_digit) r = refl
primary_unlisted l (g.denotation g.denotation_number) r = refl
primary_unlisted l (g.denotation g.denotation_bits) r = refl
primary_unlisted l (g.denotation g.denotation_quoted) r = refl
primary_unlisted l (g.denotation g.denotation_true) r = refl
primary_unlisted l (g.denotation g.denotation_false) r = refl
primary_unlisted l (g.long_denotation g.number_digit) r = refl
primary_unlisted l (g.long_denotation g.number_other) r = refl
primary_unlisted l (g.enclosed e) r = enclosed_unlisted _ e r

secondary_unlisted : {sought : Landmark} → Lists sought → {k : NodeKind} {u : Forest} → IsSecondary k u → (r : List Sym) → behind sought zero due.Declarer (spells u r) ≡ false
secondary_unlisted l (g.selection p) r = refl
secondary_unlisted l (g.generator_loc d) r = refl
secondary_unlisted l (g.generator_heap d) r = refl
secondary_unlisted l (g.primary p) r = primary_unlisted l p r

tertiary_unlisted : {sought : Landmark} → Lists sought → {k : NodeKind} {u : Forest} → IsTertiary k u → (r : List Sym) → behind sought zero due.Declarer (spells u r) ≡ false
tertiary_unlisted l g.nil r = refl
tertiary_unlisted l (g.monadic g.monadic_plus o) r = refl
tertiary_unlisted l (g.monadic g.monadic_minus o) r = refl
tertiary_unlisted l (g.monadic g.monadic_other o) r = refl
tertiary_unlisted l (g.dyadic p s o) r = secondary_unlisted l p _
tertiary_unlisted l (g.secondary p) r = secondary_unlisted l p r

unit_unlisted : {sought : Landmark} → Lists sought → {k : NodeKind} {u : Forest} → IsUnit k u → (r : List Sym) → behind sought zero due.Declarer (spells u r) ≡ false
unit_unlisted l (g.assignation p q) r = tertiary_unlisted l p _
unit_unlisted l (g.identity_is p q) r = tertiary_unlisted l p _
unit_unlisted l (g.identity_isnt p q) r = tertiary_unlisted l p _
unit_unlisted l (g.routine (g.routine_params p q)) r = refl
unit_unlisted lists_parameters (g.routine (g.routine_plain (g.result {u = u} d i))) r = behind_declarer m.Parameters d (Is t.Colon ∷ spells u r)
unit_unlisted lists_spec (g.routine (g.routine_plain (g.result {u = u} d i))) r = behind_declarer m.Spec d (Is t.Colon ∷ spells u r)
unit_unlisted l (g.routine (g.routine_plain (g.result_void i))) r = refl
unit_unlisted l g.skip r = refl
unit_unlisted l g.go_to r = refl
unit_unlisted l g.goto_ r = refl
unit_unlisted l (g.tertiary p) r = tertiary_unlisted l p r

-- nor does a declaration, with neither a comma nor that bracket behind it
identities_unlisted : {sought : Landmark} → Lists sought → {f : Forest} → IsIdentities f → (y : List Sym) → behind sought zero due.Ended (spells f y) ≡ false
identities_unlisted lists_parameters (g.identity_one i) y = refl
identities_unlisted lists_spec (g.identity_one i) y = refl
identities_unlisted lists_parameters (g.identity_more i l) y = refl
identities_unlisted lists_spec (g.identity_more i l) y = refl

variables_more : {f : Forest} → IsVariables f → (y : List Sym) → behind m.Parameters zero due.Named y ≡ false → behind m.Parameters zero due.More (spells f y) ≡ false
variables_more (g.variable_one g.variable) y h = h
variables_more (g.variable_one (g.variable_set i)) y h = refl
variables_more (g.variable_more g.variable v) y h = variables_more v y h
variables_more (g.variable_more (g.variable_set i) v) y h = refl

variables_unlisted : {sought : Landmark} → Lists sought → {f : Forest} → IsVariables f → (y : List Sym) → behind sought zero due.Named y ≡ false → behind sought zero due.Ended (spells f y) ≡ false
variables_unlisted lists_parameters (g.variable_one g.variable) y h = h
variables_unlisted lists_spec (g.variable_one g.variable) y h = h
variables_unlisted lists_parameters (g.variable_one (g.variable_set i)) y h = refl
variables_unlisted lists_spec (g.variable_one (g.variable_set i)) y h = refl
variables_unlisted lists_parameters (g.variable_more g.variable v) y h = variables_more v y h
variables_unlisted lists_spec (g.variable_more g.variable v) y h = refl
variables_unlisted lists_parameters (g.variable_more (g.variable_set i) v) y h = refl
variables_unlisted lists_spec (g.variable_more (g.variable_set i) v) y h = refl

-- what is due where a declaration may stand: at the front, or behind a comma
data Leads : Due → Type 0 where
  leads_first : Leads due.Declarer
  leads_more : Leads due.More

led : {d : Due} → Leads d → (sought : Landmark) → {c : Forest} → IsDeclarer c → (y : List Sym) → behind sought zero d (spells c y) ≡ behind sought zero due.Ended y
led leads_first sought p y = behind_declarer sought p y
led leads_more sought p y = declarer_more sought p y ∙ behind_declarer sought p y

declared_unlisted : {sought : Landmark} → Lists sought → {d : Due} → Leads d → {f : Forest} → IsDeclared f → (y : List Sym) → behind sought zero due.Named y ≡ false → behind sought zero d (spells f y) ≡ false
declared_unlisted l leads_first (g.mode_ p) y h = refl
declared_unlisted l leads_more (g.mode_ p) y h = refl
declared_unlisted l leads_first (g.prio_ p) y h = refl
declared_unlisted l leads_more (g.prio_ p) y h = refl
declared_unlisted l leads_first (g.op_ p) y h = refl
declared_unlisted l leads_more (g.op_ p) y h = refl
declared_unlisted l leads_first (g.op_plan p q) y h = refl
declared_unlisted l leads_more (g.op_plan p q) y h = refl
declared_unlisted l leads_first (g.loc_variables p q) y h = refl
declared_unlisted l leads_more (g.loc_variables p q) y h = refl
declared_unlisted l leads_first (g.heap_variables p q) y h = refl
declared_unlisted l leads_more (g.heap_variables p q) y h = refl
declared_unlisted l leads_first (g.procs (g.procs_one p)) y h = refl
declared_unlisted l leads_more (g.procs (g.procs_one p)) y h = refl
declared_unlisted l leads_first (g.procs (g.procs_more p q)) y h = refl
declared_unlisted l leads_more (g.procs (g.procs_more p q)) y h = refl
declared_unlisted l leads_first (g.proc_variables (g.procs_one p)) y h = refl
declared_unlisted l leads_more (g.proc_variables (g.procs_one p)) y h = refl
declared_unlisted l leads_first (g.proc_variables (g.procs_more p q)) y h = refl
declared_unlisted l leads_more (g.proc_variables (g.procs_more p q)) y h = refl
declared_unlisted l e (g.identities {f = f} p i) y h = led e _ p (spells f y) ∙ identities_unlisted l i y
declared_unlisted l e (g.variables {f = f} p v) y h = led e _ p (spells f y) ∙ variables_unlisted l v y h

definitions_unlisted : {sought : Landmark} → Lists sought → {d : Due} → Leads d → {f : Forest} → IsDefinitions f → (y : List Sym) → behind sought zero due.Named y ≡ false → behind sought zero d (spells f y) ≡ false
definitions_unlisted l e (g.declared p) y h = declared_unlisted l e p y h
definitions_unlisted {sought = sought} lists_parameters {d = d} e (g.and_then {f = f} {h = z} p q) y h =
    ap (behind sought zero d) (spells_joined f (mark t.Comma (forget z)) y)
    ∙ declared_unlisted lists_parameters e p (Is t.Comma ∷ spells z y) (definitions_unlisted lists_parameters leads_more q y h)
definitions_unlisted {sought = sought} lists_spec {d = d} e (g.and_then {f = f} {h = z} p q) y h =
    ap (behind sought zero d) (spells_joined f (mark t.Comma (forget z)) y) ∙ declared_unlisted lists_spec e p (Is t.Comma ∷ spells z y) refl

semicolon : {sought : Landmark} → Lists sought → (y : List Sym) → behind sought zero due.Named (Is t.Semicolon ∷ y) ≡ false
semicolon lists_parameters y = refl
semicolon lists_spec y = refl

declaration_unlisted : {sought : Landmark} → Lists sought → {f : Forest} → IsDeclaration f → (y : List Sym) → behind sought zero due.Declarer (spells f (Is t.Semicolon ∷ y)) ≡ false
declaration_unlisted l (g.single p s) y = definitions_unlisted l leads_first p (Is t.Semicolon ∷ y) (semicolon l y)
declaration_unlisted l (g.joined_ p s) y = definitions_unlisted l leads_first p (Is t.Semicolon ∷ y) (semicolon l y)

-- so no closed or collateral clause and no choice does, behind its bracket
labelled_unlisted : {sought : Landmark} → Lists sought → {f : Forest} → IsLabelled f → (r : List Sym) → behind sought zero due.Declarer (spells f r) ≡ false
labelled_unlisted l (g.label p) r = refl

serial_unlisted : {sought : Landmark} → Lists sought → {f : Forest} → IsSerial f → (r : List Sym) → behind sought zero due.Declarer (spells f r) ≡ false
serial_unlisted l (g.serial_one p) r = unit_unlisted l p r
serial_unlisted l (g.serial_unit p q) r = unit_unlisted l p _
serial_unlisted l (g.serial_exit p q) r = unit_unlisted l p _
serial_unlisted l (g.serial_labelled p) r = labelled_unlisted l p r
serial_unlisted {sought = sought} l (g.serial_declaration {d = d} {f = f} p q) r =
    ap (behind sought zero due.Declarer) (spells_joined d (mark t.Semicolon f) r) ∙ declaration_unlisted l p (spells f r)

enquiry_unlisted : {sought : Landmark} → Lists sought → {f : Forest} → IsEnquiry f → (r : List Sym) → behind sought zero due.Declarer (spells f r) ≡ false
enquiry_unlisted l (g.enquiry_one p) r = unit_unlisted l p r
enquiry_unlisted l (g.enquiry_unit p q) r = unit_unlisted l p _
enquiry_unlisted {sought = sought} l (g.enquiry_declaration {d = d} {f = f} p q) r =
    ap (behind sought zero due.Declarer) (spells_joined d (mark t.Semicolon f) r) ∙ declaration_unlisted l p (spells f r)

units_unlisted : {sought : Landmark} → Lists sought → {f : Forest} → IsUnits2 f → (r : List Sym) → behind sought zero due.Declarer (spells f r) ≡ false
units_unlisted l (g.two p q) r = unit_unlisted l p _

while_unseen : {f : Forest} → IsWhile f → (r : List Sym) → routine_ahead (spells f r) ≡ false
while_unseen (g.while_ p q) r = refl
while_unseen (g.no_while p) r = refl

to_unseen : {f : Forest} → IsTo f → (r : List Sym) → routine_ahead (spells f r) ≡ false
to_unseen (g.to_ p q) r = refl
to_unseen (g.no_to p) r = while_unseen p r

by_unseen : {f : Forest} → IsBy f → (r : List Sym) → routine_ahead (spells f r) ≡ false
by_unseen (g.by_ p q) r = refl
by_unseen (g.no_by p) r = to_unseen p r

from_unseen : {f : Forest} → IsFrom f → (r : List Sym) → routine_ahead (spells f r) ≡ false
from_unseen (g.from_ p q) r = refl
from_unseen (g.no_from p) r = by_unseen p r

for_unseen : {f : Forest} → IsFor f → (r : List Sym) → routine_ahead (spells f r) ≡ false
for_unseen (g.for_ p) r = refl
for_unseen (g.no_for p) r = from_unseen p r

enclosed_unseen : {k : NodeKind} {u : Forest} → IsEnclosed k u → (r : List Sym) → routine_ahead (spells u r) ≡ false
enclosed_unseen (g.closed g.closing_round p) r = ap (λ (c : Bool). c || false) (serial_unlisted lists_parameters p (Closes b.Round ∷ r))
enclosed_unseen (g.closed g.closing_begin p) r = refl
enclosed_unseen (g.collateral g.closing_round p) r = ap (λ (c : Bool). c || false) (units_unlisted lists_parameters p (Closes b.Round ∷ r))
enclosed_unseen (g.collateral g.closing_begin p) r = refl
enclosed_unseen (g.vacuum g.closing_round) r = refl
enclosed_unseen (g.vacuum g.closing_begin) r = refl
enclosed_unseen (g.parallel c p) r = refl
enclosed_unseen (g.conditional p q e) r = refl
enclosed_unseen (g.conditional_brief {d = d} {e = e} p q o) r = ap (λ (c : Bool). c || false) (enquiry_unlisted lists_parameters p (Is t.Bar ∷ spells d (spells e (Closes b.Round ∷ r))))
enclosed_unseen (g.case_ p q e) r = refl
enclosed_unseen (g.case_brief {f = f} {e = e} p q o) r = ap (λ (c : Bool). c || false) (enquiry_unlisted lists_parameters p (Is t.Bar ∷ spells (joined f e) (Closes b.Round ∷ r)))
enclosed_unseen (g.conformity p q e) r = refl
enclosed_unseen (g.conformity_brief {f = f} {e = e} p q o) r = ap (λ (c : Bool). c || false) (enquiry_unlisted lists_parameters p (Is t.Bar ∷ spells (joined f e) (Closes b.Round ∷ r)))
enclosed_unseen (g.loop p) r = for_unseen p r

primary_unseen : {k : NodeKind} {u : Forest} → IsPrimary k u → (r : List Sym) → routine_ahead (spells u r) ≡ false
primary_unseen (g.slice p l) r = primary_unseen p _
primary_unseen (g.call p l) r = primary_unseen p _
primary_unseen (g.cast {u = u} d e) r = ahead_declarer d (spells u r) ∙ as_result m.Colon d (spells u r) ∙ enclosed_ends asks_colon e r
primary_unseen (g.cast_void e) r = enclosed_ends asks_colon e r
primary_unseen g.tag r = refl
primary_unseen (g.denotation g.denotation_digit) r = refl
primary_unseen (g.denotation g.denotation_number) r = refl
primary_unseen (g.denotation g.denotation_bits) r = refl
primary_unseen (g.denotation g.denotation_quoted) r = refl
primary_unseen (g.denotation g.denotation_true) r = refl
primary_unseen (g.denotation g.denotation_false) r = refl
primary_unseen (g.long_denotation g.number_digit) r = refl
primary_unseen (g.long_denotation g.number_other) r = refl
primary_unseen (g.enclosed e) r = enclosed_unseen e r

secondary_unseen : {k : NodeKind} {u : Forest} → IsSecondary k u → (r : List Sym) → routine_ahead (spells u r) ≡ false
secondary_unseen (g.selection p) r = refl
secondary_unseen (g.generator_loc d) r = refl
secondary_unseen (g.generator_heap d) r = refl
secondary_unseen (g.primary p) r = primary_unseen p r

pub tertiary_unseen : {k : NodeKind} {u : Forest} → IsTertiary k u → (r : List Sym) → routine_ahead (spells u r) ≡ false
tertiary_unseen g.nil r = refl
tertiary_unseen (g.monadic g.monadic_plus l) r = refl
tertiary_unseen (g.monadic g.monadic_minus l) r = refl
tertiary_unseen (g.monadic g.monadic_other l) r = refl
tertiary_unseen (g.dyadic p s l) r = secondary_unseen p _
tertiary_unseen (g.secondary p) r = secondary_unseen p r

-- a unit is seen, and then it is a routine text; or it is not seen, and then it is another
pub unit_decided : {k : NodeKind} {u : Forest} → IsUnit k u → (r : List Sym) → (IsRoutine u × (routine_ahead (spells u r) ≡ true)) ⊎ (routine_ahead (spells u r) ≡ false)
unit_decided (g.assignation p q) r = inr (tertiary_unseen p _)
unit_decided (g.identity_is p q) r = inr (tertiary_unseen p _)
unit_decided (g.identity_isnt p q) r = inr (tertiary_unseen p _)
unit_decided (g.routine p) r = inl (p, routine_seen p r)
unit_decided g.skip r = inr refl
unit_decided g.go_to r = inr refl
unit_decided g.goto_ r = inr refl
unit_decided (g.tertiary p) r = inr (tertiary_unseen p r)

-- ---- declarations

identities_tag : {f : Forest} → g.IsIdentities f → (d : Forest) → IsDeclarer d → (r : List Sym) → behind m.Tag zero due.Declarer (spells d (spells f r)) ≡ true
identities_tag {f = f} (g.identity_one i) d p r = behind_declarer m.Tag p _
identities_tag {f = f} (g.identity_more i l) d p r = behind_declarer m.Tag p _

variables_tag : {f : Forest} → g.IsVariables f → (d : Forest) → IsDeclarer d → (r : List Sym) → behind m.Tag zero due.Declarer (spells d (spells f r)) ≡ true
variables_tag (g.variable_one g.variable) d p r = behind_declarer m.Tag p _
variables_tag (g.variable_one (g.variable_set i)) d p r = behind_declarer m.Tag p _
variables_tag (g.variable_more g.variable l) d p r = behind_declarer m.Tag p _
variables_tag (g.variable_more (g.variable_set i) l) d p r = behind_declarer m.Tag p _

proc_ahead : {d : Forest} → IsDeclarer d → (y : List Sym) → phrase_ahead (Is t.Proc ∷ spells d y) ≡ behind m.Tag zero due.Declarer (Is t.Proc ∷ spells d y)
proc_ahead (g.plain g.plain_int) y = refl
proc_ahead (g.plain g.plain_other) y = refl
proc_ahead g.long_int y = refl
proc_ahead g.mode_word y = refl
proc_ahead (g.ref d) y = refl
proc_ahead (g.rows l i) y = refl
proc_ahead (g.flex l i) y = refl
proc_ahead (g.struct_ l) y = refl
proc_ahead (g.union_ i l) y = refl
proc_ahead (g.proc p) y = refl
proc_ahead (g.proc_params l q) y = refl

pub plain_ahead : {d : Forest} → IsDeclarer d → (y : List Sym) → phrase_ahead (spells d y) ≡ behind m.Tag zero due.Declarer (spells d y)
plain_ahead (g.plain g.plain_int) y = refl
plain_ahead (g.plain g.plain_other) y = refl
plain_ahead g.long_int y = refl
plain_ahead g.mode_word y = refl
plain_ahead (g.ref d) y = refl
plain_ahead (g.rows l i) y = refl
plain_ahead (g.flex l i) y = refl
plain_ahead (g.struct_ l) y = refl
plain_ahead (g.union_ i l) y = refl
plain_ahead (g.proc (g.yield_ d)) y = proc_ahead d y
plain_ahead (g.proc g.yield_void) y = refl
plain_ahead (g.proc_params l q) y = refl

-- the declarations that begin with a declarer, with LOC or with HEAP are seen
pub identities_seen : {d f : Forest} → IsDeclarer d → g.IsIdentities f → (r : List Sym) → phrase_ahead (spells d (spells f r)) ≡ true
identities_seen {d = d} {f = f} p l r = plain_ahead p (spells f r) ∙ identities_tag l d p r

pub variables_seen : {d f : Forest} → IsDeclarer d → g.IsVariables f → (r : List Sym) → phrase_ahead (spells d (spells f r)) ≡ true
variables_seen {d = d} {f = f} p l r = plain_ahead p (spells f r) ∙ variables_tag l d p r

pub loc_seen : {d f : Forest} → IsDeclarer d → g.IsVariables f → (r : List Sym) → phrase_ahead (Is t.Loc ∷ spells d (spells f r)) ≡ true
loc_seen {d = d} p l r = variables_tag l d p r

pub heap_seen : {d f : Forest} → IsDeclarer d → g.IsVariables f → (r : List Sym) → phrase_ahead (Is t.Heap ∷ spells d (spells f r)) ≡ true
heap_seen {d = d} p l r = variables_tag l d p r

-- and no unit is, with no tag behind it
while_no_tag : {f : Forest} → IsWhile f → (r : List Sym) → (behind m.Tag zero due.Ended (spells f r) ≡ false) × (phrase_ahead (spells f r) ≡ false)
while_no_tag (g.while_ p q) r = (refl, refl)
while_no_tag (g.no_while p) r = (refl, refl)

to_no_tag : {f : Forest} → IsTo f → (r : List Sym) → (behind m.Tag zero due.Ended (spells f r) ≡ false) × (phrase_ahead (spells f r) ≡ false)
to_no_tag (g.to_ p q) r = (refl, refl)
to_no_tag (g.no_to p) r = while_no_tag p r

by_no_tag : {f : Forest} → IsBy f → (r : List Sym) → (behind m.Tag zero due.Ended (spells f r) ≡ false) × (phrase_ahead (spells f r) ≡ false)
by_no_tag (g.by_ p q) r = (refl, refl)
by_no_tag (g.no_by p) r = to_no_tag p r

from_no_tag : {f : Forest} → IsFrom f → (r : List Sym) → (behind m.Tag zero due.Ended (spells f r) ≡ false) × (phrase_ahead (spells f r) ≡ false)
from_no_tag (g.from_ p q) r = (refl, refl)
from_no_tag (g.no_from p) r = by_no_tag p r

for_no_tag : {f : Forest} → IsFor f → (r : List Sym) → (behind m.Tag zero due.Ended (spells f r) ≡ false) × (phrase_ahead (spells f r) ≡ false)
for_no_tag (g.for_ p) r = (refl, refl)
for_no_tag (g.no_for p) r = from_no_tag p r

enclosed_no_tag : {k : NodeKind} {u : Forest} → IsEnclosed k u → (r : List Sym) → (behind m.Tag zero due.Ended (spells u r) ≡ false) × (phrase_ahead (spells u r) ≡ false)
enclosed_no_tag (g.closed g.closing_round p) r = (refl, refl)
enclosed_no_tag (g.closed g.closing_begin p) r = (refl, refl)
enclosed_no_tag (g.collateral g.closing_round p) r = (refl, refl)
enclosed_no_tag (g.collateral g.closing_begin p) r = (refl, refl)
enclosed_no_tag (g.vacuum g.closing_round) r = (refl, refl)
enclosed_no_tag (g.vacuum g.closing_begin) r = (refl, refl)
enclosed_no_tag (g.parallel c p) r = (refl, refl)
enclosed_no_tag (g.conditional p q e) r = (refl, refl)
enclosed_no_tag (g.conditional_brief p q e) r = (refl, refl)
enclosed_no_tag (g.case_ p q e) r = (refl, refl)
enclosed_no_tag (g.case_brief p q e) r = (refl, refl)
enclosed_no_tag (g.conformity p q e) r = (refl, refl)
enclosed_no_tag (g.conformity_brief p q e) r = (refl, refl)
enclosed_no_tag (g.loop p) r = for_no_tag p r

primary_undeclared : {k : NodeKind} {u : Forest} → IsPrimary k u → (r : List Sym) → phrase_ahead (spells u r) ≡ false
primary_undeclared (g.slice {i = i} p l) r = primary_undeclared p (Opens b.Square ∷ spells i (Closes b.Square ∷ r))
primary_undeclared (g.call {f = f} p l) r = primary_undeclared p (Opens b.Round ∷ spells f (Closes b.Round ∷ r))
primary_undeclared (g.cast {u = u} d e) r = plain_ahead d (spells u r) ∙ behind_declarer m.Tag d (spells u r) ∙ (enclosed_no_tag e r).0
primary_undeclared (g.cast_void e) r = refl
primary_undeclared g.tag r = refl
primary_undeclared (g.denotation g.denotation_digit) r = refl
primary_undeclared (g.denotation g.denotation_number) r = refl
primary_undeclared (g.denotation g.denotation_bits) r = refl
primary_undeclared (g.denotation g.denotation_quoted) r = refl
primary_undeclared (g.denotation g.denotation_true) r = refl
primary_undeclared (g.denotation g.denotation_false) r = refl
primary_undeclared (g.long_denotation g.number_digit) r = refl
primary_undeclared (g.long_denotation g.number_other) r = refl
primary_undeclared (g.enclosed e) r = (enclosed_no_tag e r).1

secondary_undeclared : {k : NodeKind} {u : Forest} → IsSecondary k u → (r : List Sym) → behind m.Tag zero due.Ended r ≡ false → phrase_ahead (spells u r) ≡ false
secondary_undeclared (g.selection p) r h = refl
secondary_undeclared (g.generator_loc d) r h = behind_declarer m.Tag d r ∙ h
secondary_undeclared (g.generator_heap d) r h = behind_declarer m.Tag d r ∙ h
secondary_undeclared (g.primary p) r h = primary_undeclared p r

sign_no_tag : {s : Token} → IsSign s → (r : List Sym) → behind m.Tag zero due.Ended (Is s ∷ r) ≡ false
sign_no_tag (g.sign_monadic g.monadic_plus) r = refl
sign_no_tag (g.sign_monadic g.monadic_minus) r = refl
sign_no_tag (g.sign_monadic g.monadic_other) r = refl
sign_no_tag g.sign_times r = refl
sign_no_tag g.sign_equals r = refl
sign_no_tag g.sign_differs r = refl
sign_no_tag g.sign_less r = refl
sign_no_tag g.sign_at_most r = refl
sign_no_tag g.sign_greater r = refl
sign_no_tag g.sign_at_least r = refl
sign_no_tag g.sign_other r = refl

tertiary_undeclared : {k : NodeKind} {u : Forest} → IsTertiary k u → (r : List Sym) → behind m.Tag zero due.Ended r ≡ false → phrase_ahead (spells u r) ≡ false
tertiary_undeclared g.nil r h = refl
tertiary_undeclared (g.monadic g.monadic_plus l) r h = refl
tertiary_undeclared (g.monadic g.monadic_minus l) r h = refl
tertiary_undeclared (g.monadic g.monadic_other l) r h = refl
tertiary_undeclared (g.dyadic {f = f} p s l) r h = secondary_undeclared p (Is _ ∷ spells f r) (sign_no_tag s (spells f r))
tertiary_undeclared (g.secondary p) r h = secondary_undeclared p r h

pub unit_undeclared : {k : NodeKind} {u : Forest} → IsUnit k u → (r : List Sym) → behind m.Tag zero due.Ended r ≡ false → phrase_ahead (spells u r) ≡ false
unit_undeclared (g.assignation {u = u} p q) r h = tertiary_undeclared p (Is t.Becomes ∷ spells u r) refl
unit_undeclared (g.identity_is {u = u} p q) r h = tertiary_undeclared p (Is t.Is ∷ spells u r) refl
unit_undeclared (g.identity_isnt {u = u} p q) r h = tertiary_undeclared p (Is t.Isnt ∷ spells u r) refl
unit_undeclared (g.routine (g.routine_params p q)) r h = refl
unit_undeclared (g.routine (g.routine_plain (g.result {u = u} d i))) r h = plain_ahead d (Is t.Colon ∷ spells u r) ∙ behind_declarer m.Tag d (Is t.Colon ∷ spells u r)
unit_undeclared (g.routine (g.routine_plain (g.result_void i))) r h = refl
unit_undeclared g.skip r h = refl
unit_undeclared g.go_to r h = refl
unit_undeclared g.goto_ r h = refl
unit_undeclared (g.tertiary p) r h = tertiary_undeclared p r h

-- ---- specs

spec_seen : {s : Forest} → g.IsSpec s → (r : List Sym) → spec_ahead (spells s r) ≡ true
spec_seen (g.spec p) r = behind_declarer m.Spec p (Closes b.Round ∷ Is t.Colon ∷ r)
spec_seen (g.spec_tag p) r = behind_declarer m.Spec p (Is t.Tag ∷ Closes b.Round ∷ Is t.Colon ∷ r)

-- the choices of a conformity clause are seen
pub choices_seen : {f : Forest} → g.IsChoices f → (r : List Sym) → spec_ahead (spells f r) ≡ true
choices_seen (g.choice_one p q) r = spec_seen p _
choices_seen (g.choice_more p q l) r = spec_seen p _

while_unspecced : {f : Forest} → IsWhile f → (r : List Sym) → spec_ahead (spells f r) ≡ false
while_unspecced (g.while_ p q) r = refl
while_unspecced (g.no_while p) r = refl

to_unspecced : {f : Forest} → IsTo f → (r : List Sym) → spec_ahead (spells f r) ≡ false
to_unspecced (g.to_ p q) r = refl
to_unspecced (g.no_to p) r = while_unspecced p r

by_unspecced : {f : Forest} → IsBy f → (r : List Sym) → spec_ahead (spells f r) ≡ false
by_unspecced (g.by_ p q) r = refl
by_unspecced (g.no_by p) r = to_unspecced p r

from_unspecced : {f : Forest} → IsFrom f → (r : List Sym) → spec_ahead (spells f r) ≡ false
from_unspecced (g.from_ p q) r = refl
from_unspecced (g.no_from p) r = by_unspecced p r

for_unspecced : {f : Forest} → IsFor f → (r : List Sym) → spec_ahead (spells f r) ≡ false
for_unspecced (g.for_ p) r = refl
for_unspecced (g.no_for p) r = from_unspecced p r

enclosed_unspecced : {k : NodeKind} {u : Forest} → IsEnclosed k u → (r : List Sym) → spec_ahead (spells u r) ≡ false
enclosed_unspecced (g.closed g.closing_round p) r = serial_unlisted lists_spec p _
enclosed_unspecced (g.closed g.closing_begin p) r = refl
enclosed_unspecced (g.collateral g.closing_round p) r = units_unlisted lists_spec p _
enclosed_unspecced (g.collateral g.closing_begin p) r = refl
enclosed_unspecced (g.vacuum g.closing_round) r = refl
enclosed_unspecced (g.vacuum g.closing_begin) r = refl
enclosed_unspecced (g.parallel c p) r = refl
enclosed_unspecced (g.conditional p q e) r = refl
enclosed_unspecced (g.conditional_brief p q e) r = enquiry_unlisted lists_spec p _
enclosed_unspecced (g.case_ p q e) r = refl
enclosed_unspecced (g.case_brief p q e) r = enquiry_unlisted lists_spec p _
enclosed_unspecced (g.conformity p q e) r = refl
enclosed_unspecced (g.conformity_brief p q e) r = enquiry_unlisted lists_spec p _
enclosed_unspecced (g.loop p) r = for_unspecced p r

pub declarer_unspecced : {d : Forest} → IsDeclarer d → (r : List Sym) → spec_ahead (spells d r) ≡ false
declarer_unspecced (g.plain g.plain_int) r = refl
declarer_unspecced (g.plain g.plain_other) r = refl
declarer_unspecced g.long_int r = refl
declarer_unspecced g.mode_word r = refl
declarer_unspecced (g.ref d) r = refl
declarer_unspecced (g.rows l i) r = refl
declarer_unspecced (g.flex l i) r = refl
declarer_unspecced (g.struct_ l) r = refl
declarer_unspecced (g.union_ i l) r = refl
declarer_unspecced (g.proc p) r = refl
declarer_unspecced (g.proc_params l q) r = refl

-- behind the brackets of a routine text stands no colon
result_uncoloned : {f : Forest} → IsResult f → (r : List Sym) → behind m.Spec zero due.Colon (spells f r) ≡ false
result_uncoloned (g.result (g.plain g.plain_int) i) r = refl
result_uncoloned (g.result (g.plain g.plain_other) i) r = refl
result_uncoloned (g.result g.long_int i) r = refl
result_uncoloned (g.result g.mode_word i) r = refl
result_uncoloned (g.result (g.ref d) i) r = refl
result_uncoloned (g.result (g.rows l d) i) r = refl
result_uncoloned (g.result (g.flex l d) i) r = refl
result_uncoloned (g.result (g.struct_ l) i) r = refl
result_uncoloned (g.result (g.union_ d l) i) r = refl
result_uncoloned (g.result (g.proc p) i) r = refl
result_uncoloned (g.result (g.proc_params l q) i) r = refl
result_uncoloned (g.result_void i) r = refl

tags_unspecced : {i : NodeKind} {f : Forest} → IsTags i f → (y : List Sym) → behind m.Spec zero due.Colon y ≡ false → behind m.Spec zero due.Ended (spells f (Closes b.Round ∷ y)) ≡ false
tags_unspecced g.tags_end y h = h
tags_unspecced (g.tags_more q) y h = refl
tags_unspecced (g.tags_next p) y h = refl

params_unspecced : {i : NodeKind} {f : Forest} → IsParams i f → (y : List Sym) → behind m.Spec zero due.Colon y ≡ false → behind m.Spec zero due.Declarer (spells f (Closes b.Round ∷ y)) ≡ false
params_unspecced (g.params {f = f} p q) y h = behind_declarer m.Spec p (spells f (Closes b.Round ∷ y)) ∙ tags_unspecced q y h

primary_unspecced : {k : NodeKind} {u : Forest} → IsPrimary k u → (r : List Sym) → spec_ahead (spells u r) ≡ false
primary_unspecced (g.slice p l) r = primary_unspecced p _
primary_unspecced (g.call p l) r = primary_unspecced p _
primary_unspecced (g.cast d e) r = declarer_unspecced d _
primary_unspecced (g.cast_void e) r = refl
primary_unspecced g.tag r = refl
primary_unspecced (g.denotation p) r = refl
primary_unspecced (g.long_denotation p) r = refl
primary_unspecced (g.enclosed e) r = enclosed_unspecced e r

secondary_unspecced : {k : NodeKind} {u : Forest} → IsSecondary k u → (r : List Sym) → spec_ahead (spells u r) ≡ false
secondary_unspecced (g.selection p) r = refl
secondary_unspecced (g.generator_loc d) r = refl
secondary_unspecced (g.generator_heap d) r = refl
secondary_unspecced (g.primary p) r = primary_unspecced p r

tertiary_unspecced : {k : NodeKind} {u : Forest} → IsTertiary k u → (r : List Sym) → spec_ahead (spells u r) ≡ false
tertiary_unspecced g.nil r = refl
tertiary_unspecced (g.monadic p l) r = refl
tertiary_unspecced (g.dyadic p s l) r = secondary_unspecced p _
tertiary_unspecced (g.secondary p) r = secondary_unspecced p r

-- and no unit is
pub unit_unspecced : {k : NodeKind} {u : Forest} → IsUnit k u → (r : List Sym) → spec_ahead (spells u r) ≡ false
unit_unspecced (g.assignation p q) r = tertiary_unspecced p _
unit_unspecced (g.identity_is p q) r = tertiary_unspecced p _
unit_unspecced (g.identity_isnt p q) r = tertiary_unspecced p _
unit_unspecced (g.routine (g.routine_params {f = f} p q)) r = params_unspecced p (spells f r) (result_uncoloned q r)
unit_unspecced (g.routine (g.routine_plain (g.result d i))) r = declarer_unspecced d _
unit_unspecced (g.routine (g.routine_plain (g.result_void i))) r = refl
unit_unspecced g.skip r = refl
unit_unspecced g.go_to r = refl
unit_unspecced g.goto_ r = refl
unit_unspecced (g.tertiary p) r = tertiary_unspecced p r

-- ---- what may stand behind a unit

untagged_next : (s : Sym) (x : List Sym) → set.ends_unit s ≡ true → behind m.Tag zero due.Ended (s ∷ x) ≡ false
untagged_next (Opens b.Round) x e = absurd (false≢true e)
untagged_next (Opens b.Square) x e = absurd (false≢true e)
untagged_next (Opens b.Begin) x e = absurd (false≢true e)
untagged_next (Opens b.If) x e = absurd (false≢true e)
untagged_next (Opens b.Case) x e = absurd (false≢true e)
untagged_next (Opens b.Do) x e = refl
untagged_next (Closes c) x e = refl
untagged_next (Is t.Comma) x e = refl
untagged_next (Is t.Semicolon) x e = refl
untagged_next (Is t.Colon) x e = refl
untagged_next (Is t.Bar) x e = refl
untagged_next (Is t.BarColon) x e = refl
untagged_next (Is t.At) x e = refl
untagged_next (Is t.Becomes) x e = absurd (false≢true e)
untagged_next (Is t.Is) x e = absurd (false≢true e)
untagged_next (Is t.Isnt) x e = absurd (false≢true e)
untagged_next (Is t.Equals) x e = absurd (false≢true e)
untagged_next (Is t.Plus) x e = absurd (false≢true e)
untagged_next (Is t.Minus) x e = absurd (false≢true e)
untagged_next (Is t.Times) x e = absurd (false≢true e)
untagged_next (Is t.Differs) x e = absurd (false≢true e)
untagged_next (Is t.Less) x e = absurd (false≢true e)
untagged_next (Is t.AtMost) x e = absurd (false≢true e)
untagged_next (Is t.Greater) x e = absurd (false≢true e)
untagged_next (Is t.AtLeast) x e = absurd (false≢true e)
untagged_next (Is t.Monad) x e = absurd (false≢true e)
untagged_next (Is t.Nomad) x e = absurd (false≢true e)
untagged_next (Is t.Exit) x e = refl
untagged_next (Is t.Go) x e = absurd (false≢true e)
untagged_next (Is t.Goto) x e = absurd (false≢true e)
untagged_next (Is t.Then) x e = refl
untagged_next (Is t.Elif) x e = refl
untagged_next (Is t.Else) x e = refl
untagged_next (Is t.In) x e = refl
untagged_next (Is t.Ouse) x e = refl
untagged_next (Is t.Out) x e = refl
untagged_next (Is t.For) x e = absurd (false≢true e)
untagged_next (Is t.From) x e = absurd (false≢true e)
untagged_next (Is t.By) x e = refl
untagged_next (Is t.To) x e = refl
untagged_next (Is t.While) x e = refl
untagged_next (Is t.Par) x e = absurd (false≢true e)
untagged_next (Is t.Mode) x e = absurd (false≢true e)
untagged_next (Is t.Prio) x e = absurd (false≢true e)
untagged_next (Is t.Op) x e = absurd (false≢true e)
untagged_next (Is t.Proc) x e = absurd (false≢true e)
untagged_next (Is t.Ref) x e = absurd (false≢true e)
untagged_next (Is t.Flex) x e = absurd (false≢true e)
untagged_next (Is t.Struct) x e = absurd (false≢true e)
untagged_next (Is t.Union) x e = absurd (false≢true e)
untagged_next (Is t.Loc) x e = absurd (false≢true e)
untagged_next (Is t.Heap) x e = absurd (false≢true e)
untagged_next (Is t.Of) x e = absurd (false≢true e)
untagged_next (Is t.Skip) x e = absurd (false≢true e)
untagged_next (Is t.Nil) x e = absurd (false≢true e)
untagged_next (Is t.True) x e = absurd (false≢true e)
untagged_next (Is t.False) x e = absurd (false≢true e)
untagged_next (Is t.Long) x e = absurd (false≢true e)
untagged_next (Is t.Int) x e = absurd (false≢true e)
untagged_next (Is t.Plain) x e = absurd (false≢true e)
untagged_next (Is t.Void) x e = absurd (false≢true e)
untagged_next (Is t.ModeWord) x e = absurd (false≢true e)
untagged_next (Is t.Word) x e = absurd (false≢true e)
untagged_next (Is t.Tag) x e = absurd (false≢true e)
untagged_next (Is t.Digit) x e = absurd (false≢true e)
untagged_next (Is t.Number) x e = absurd (false≢true e)
untagged_next (Is t.BitsNumber) x e = absurd (false≢true e)
untagged_next (Is t.Quoted) x e = absurd (false≢true e)

pub untagged : {r : List Sym} → Follows set.ends_unit r → behind m.Tag zero due.Ended r ≡ false
untagged at_end = refl
untagged (next {s = s} {text = x} e) = untagged_next s x e
