-- In no text with a tree do two tags or numbers stand side by side.
use Rattle.std.proofs.Common.{◌≡◌, Bool, true, false, ◌&&◌, List, [], ◌∷◌, refl, sym, subst}
use Rattle.a68_tree.specs.declared.kind.NodeKind.{NodeKind}
use Rattle.a68_symbols.specs.declared.sym.Token.{Token}
use Rattle.a68_symbols.specs.declared.sym.Token.TheVariants as t
use Rattle.a68_symbols.specs.declared.sym.Sym.{Sym}
use Rattle.a68_symbols.specs.declared.sym.Sym.TheVariants.{Is}
use Rattle.a68_tree.specs.Forest.{Forest, mark, forget, joined, spells}
use Rattle.a68_tree.specs.Grammar.{IsAt, IsBound, IsBounds, IsBy, IsChoices, IsDeclaration, IsDeclared, IsDeclarer, IsDeclarers, IsDefinitions, IsElse, IsElseBrief, IsEnclosed, IsEnquiry, IsFor, IsFrom, IsIdentities, IsIndex, IsIndexes, IsLabelled, IsModes, IsMonadic, IsOperands, IsOps, IsOut, IsOutBrief, IsOutC, IsOutCBrief, IsParams, IsPlain, IsPlan, IsPlanned, IsPrimary, IsPriorities, IsProcs, IsResult, IsRoutine, IsSecondary, IsSerial, IsSign, IsSpec, IsSteps, IsTags, IsTertiary, IsTo, IsTrimmer, IsUnit, IsUnits, IsUnits2, IsVariable, IsVariables, IsWhile, IsYield, and_then, assignation, at_, bound_both, bound_colon, bound_more, bound_none, bound_one, bound_upper, by_, call, case_, case_brief, cast, cast_void, choice_more, choice_one, closed, collateral, conditional, conditional_brief, conformity, conformity_brief, declared, declarer_more, declarer_one, denotation, dyadic, elif, elif_b, else_, else_b, enclosed, enquiry_declaration, enquiry_one, enquiry_unit, flex, for_, from_, generator_heap, generator_loc, go_to, goto_, heap_variables, identities, identity_is, identity_isnt, identity_more, identity_one, index_at, index_colon, index_from, index_more, index_one, index_unit, joined_, label, loc_variables, long_denotation, long_int, loop, mode_, mode_more, mode_one, mode_word, monadic, monadic_minus, monadic_other, monadic_plus, nil, no_at, no_by, no_else, no_else_b, no_for, no_from, no_out, no_outbrief, no_outc, no_outcbrief, no_to, no_while, op_, op_more, op_one, op_plan, operand_last, operand_next, operand_sign, out_again, out_serial, outbrief_again, outbrief_serial, outc_again, outc_serial, outcbrief_again, outcbrief_serial, parallel, params, plain, plain_int, plain_other, plan_one, plan_two, planned_more, planned_one, primary, prio_, prio_more, prio_one, proc, proc_params, proc_variables, procs, procs_more, procs_one, ref, result, result_void, routine, routine_params, routine_plain, rows, secondary, selection, serial_declaration, serial_exit, serial_labelled, serial_one, serial_unit, sign_at_least, sign_at_most, sign_differs, sign_equals, sign_greater, sign_less, sign_monadic, sign_other, sign_times, single, skip, slice, spec, spec_tag, steps_exit, steps_labelled, steps_last, steps_unit, struct_, tag, tags_end, tags_more, tags_next, tertiary, to_, trimmer_open, trimmer_upper, two, union_, unit_more, unit_one, vacuum, variable, variable_more, variable_one, variable_set, variables, while_, yield_, yield_void}
use Rattle.a68_tree.proofs.Joining.{spells_joined}

-- a tag or a number
abbrev pub goes : Sym → Bool
goes (Is t.Tag) = true
goes (Is t.Digit) = true
goes (Is t.Number) = true
goes (Is t.BitsNumber) = true
goes _ = false

-- none of these stands beside another, nor the first beside what stands before it
abbrev pub Fine : Bool → List Sym → Type 0
Fine before [] = Unit {0}
Fine before (s ∷ ss) = ((before && goes s) ≡ false) × Fine (goes s) ss

out : (before : Bool) → (before && false) ≡ false
out true = refl
out false = refl

-- behind anything, where it is so behind one
any : (before : Bool) (r : List Sym) → Fine true r → Fine before r
any before [] fine = tt
any true (s ∷ r) fine = fine
any false (s ∷ r) fine = (refl, fine.1)

monadic_out : {s : Token} → IsMonadic s → goes (Is s) ≡ false
monadic_out monadic_plus = refl
monadic_out monadic_minus = refl
monadic_out monadic_other = refl

sign_out : {s : Token} → IsSign s → goes (Is s) ≡ false
sign_out (sign_monadic m) = monadic_out m
sign_out sign_times = refl
sign_out sign_equals = refl
sign_out sign_differs = refl
sign_out sign_less = refl
sign_out sign_at_most = refl
sign_out sign_greater = refl
sign_out sign_at_least = refl
sign_out sign_other = refl

plain_out : {s : Token} → IsPlain s → goes (Is s) ≡ false
plain_out plain_int = refl
plain_out plain_other = refl

-- a symbol that does not go on
lone : (before : Bool) (s : Sym) (r : List Sym) → goes s ≡ false → Fine false r → Fine before (s ∷ r)
lone before s r e fine = rw e (out before, fine)

-- one forest behind another
both : (f g : Forest) (r : List Sym) → Fine false (spells f (spells g r)) → Fine false (spells (joined f g) r)
both f g r fine = subst (λ (l : List Sym). Fine false l) (sym (spells_joined f g r)) fine

mutual
  pub enclosed_fine : {j : NodeKind} {f : Forest} → IsEnclosed j f → (r : List Sym) → Fine false r → Fine false (spells f r)
  enclosed_fine (closed c s) r x = (refl, serial_fine s _ (refl, x))
  enclosed_fine (collateral c s) r x = (refl, units2_fine s _ (refl, x))
  enclosed_fine (vacuum c) r x = (refl, (refl, x))
  enclosed_fine (parallel c s) r x = (refl, (refl, units_fine s _ (refl, x)))
  enclosed_fine (conditional a d e) r x = (refl, enquiry_fine a _ (refl, serial_fine d _ (else_fine e _ (refl, x))))
  enclosed_fine (conditional_brief a d e) r x = (refl, enquiry_fine a _ (refl, serial_fine d _ (else_brief_fine e _ (refl, x))))
  enclosed_fine (case_ {f = f} {e = o} a u e) r x = (refl, enquiry_fine a _ (refl, both f o _ (units2_fine u _ (out_fine e _ (refl, x)))))
  enclosed_fine (case_brief {f = f} {e = o} a u e) r x = (refl, enquiry_fine a _ (refl, both f o _ (units2_fine u _ (out_brief_fine e _ (refl, x)))))
  enclosed_fine (conformity {f = f} {e = o} a u e) r x = (refl, enquiry_fine a _ (refl, both f o _ (choices_fine u _ (outc_fine e _ (refl, x)))))
  enclosed_fine (conformity_brief {f = f} {e = o} a u e) r x = (refl, enquiry_fine a _ (refl, both f o _ (choices_fine u _ (outc_brief_fine e _ (refl, x)))))
  enclosed_fine (loop f) r x = for_fine f r x

  else_fine : {f : Forest} → IsElse f → (r : List Sym) → Fine true r → Fine true (spells f r)
  else_fine no_else r x = x
  else_fine (else_ a) r x = (refl, serial_fine a r x)
  else_fine (elif a d e) r x = (refl, enquiry_fine a _ (refl, serial_fine d _ (else_fine e r x)))

  else_brief_fine : {f : Forest} → IsElseBrief f → (r : List Sym) → Fine true r → Fine true (spells f r)
  else_brief_fine no_else_b r x = x
  else_brief_fine (else_b a) r x = (refl, serial_fine a r x)
  else_brief_fine (elif_b a d e) r x = (refl, enquiry_fine a _ (refl, serial_fine d _ (else_brief_fine e r x)))

  out_fine : {f : Forest} → IsOut f → (r : List Sym) → Fine true r → Fine true (spells f r)
  out_fine no_out r x = x
  out_fine (out_serial a) r x = (refl, serial_fine a r x)
  out_fine (out_again {f = f} {e = o} a u e) r x = (refl, enquiry_fine a _ (refl, both f o r (units2_fine u _ (out_fine e r x))))

  out_brief_fine : {f : Forest} → IsOutBrief f → (r : List Sym) → Fine true r → Fine true (spells f r)
  out_brief_fine no_outbrief r x = x
  out_brief_fine (outbrief_serial a) r x = (refl, serial_fine a r x)
  out_brief_fine (outbrief_again {f = f} {e = o} a u e) r x = (refl, enquiry_fine a _ (refl, both f o r (units2_fine u _ (out_brief_fine e r x))))

  outc_fine : {f : Forest} → IsOutC f → (r : List Sym) → Fine true r → Fine true (spells f r)
  outc_fine no_outc r x = x
  outc_fine (outc_serial a) r x = (refl, serial_fine a r x)
  outc_fine (outc_again {f = f} {e = o} a u e) r x = (refl, enquiry_fine a _ (refl, both f o r (choices_fine u _ (outc_fine e r x))))

  outc_brief_fine : {f : Forest} → IsOutCBrief f → (r : List Sym) → Fine true r → Fine true (spells f r)
  outc_brief_fine no_outcbrief r x = x
  outc_brief_fine (outcbrief_serial a) r x = (refl, serial_fine a r x)
  outc_brief_fine (outcbrief_again {f = f} {e = o} a u e) r x = (refl, enquiry_fine a _ (refl, both f o r (choices_fine u _ (outc_brief_fine e r x))))

  for_fine : {f : Forest} → IsFor f → (r : List Sym) → Fine false r → Fine false (spells f r)
  for_fine (for_ f) r x = (refl, (refl, from_fine f r x true))
  for_fine (no_for f) r x = from_fine f r x false

  from_fine : {f : Forest} → IsFrom f → (r : List Sym) → Fine false r → (before : Bool) → Fine before (spells f r)
  from_fine (from_ u f) r x before = (out before, unit_fine u _ (by_fine f r x true))
  from_fine (no_from f) r x before = by_fine f r x before

  by_fine : {f : Forest} → IsBy f → (r : List Sym) → Fine false r → (before : Bool) → Fine before (spells f r)
  by_fine (by_ u f) r x before = (out before, unit_fine u _ (to_fine f r x true))
  by_fine (no_by f) r x before = to_fine f r x before

  to_fine : {f : Forest} → IsTo f → (r : List Sym) → Fine false r → (before : Bool) → Fine before (spells f r)
  to_fine (to_ u f) r x before = (out before, unit_fine u _ (while_fine f r x true))
  to_fine (no_to f) r x before = while_fine f r x before

  while_fine : {f : Forest} → IsWhile f → (r : List Sym) → Fine false r → (before : Bool) → Fine before (spells f r)
  while_fine (while_ a d) r x before = (out before, enquiry_fine a _ (refl, serial_fine d _ (refl, x)))
  while_fine (no_while d) r x before = (out before, serial_fine d _ (refl, x))

  choices_fine : {f : Forest} → IsChoices f → (r : List Sym) → Fine true r → Fine false (spells f r)
  choices_fine (choice_one s u) r x = spec_fine s _ (unit_fine u r x)
  choices_fine (choice_more s u f) r x = spec_fine s _ (unit_fine u _ (refl, choices_fine f r x))

  spec_fine : {f : Forest} → IsSpec f → (r : List Sym) → Fine false r → Fine false (spells f r)
  spec_fine (spec d) r x = (refl, declarer_fine d _ (refl, (refl, x)))
  spec_fine (spec_tag d) r x = (refl, declarer_fine d _ (refl, (refl, (refl, x))))

  serial_fine : {f : Forest} → IsSerial f → (r : List Sym) → Fine true r → Fine false (spells f r)
  serial_fine (serial_one u) r x = unit_fine u r x
  serial_fine (serial_unit u f) r x = unit_fine u _ (refl, serial_fine f r x)
  serial_fine (serial_declaration {d = d} {f = g} c f) r x = both d (mark t.Semicolon g) r (declaration_fine c _ (refl, serial_fine f r x))
  serial_fine (serial_exit u f) r x = unit_fine u _ (refl, labelled_fine f r x)
  serial_fine (serial_labelled f) r x = labelled_fine f r x

  labelled_fine : {f : Forest} → IsLabelled f → (r : List Sym) → Fine true r → Fine false (spells f r)
  labelled_fine (label f) r x = (refl, (refl, steps_fine f r x))

  steps_fine : {f : Forest} → IsSteps f → (r : List Sym) → Fine true r → Fine false (spells f r)
  steps_fine (steps_labelled f) r x = labelled_fine f r x
  steps_fine (steps_last u) r x = unit_fine u r x
  steps_fine (steps_unit u f) r x = unit_fine u _ (refl, steps_fine f r x)
  steps_fine (steps_exit u f) r x = unit_fine u _ (refl, labelled_fine f r x)

  enquiry_fine : {f : Forest} → IsEnquiry f → (r : List Sym) → Fine true r → Fine false (spells f r)
  enquiry_fine (enquiry_one u) r x = unit_fine u r x
  enquiry_fine (enquiry_unit u f) r x = unit_fine u _ (refl, enquiry_fine f r x)
  enquiry_fine (enquiry_declaration {d = d} {f = g} c f) r x = both d (mark t.Semicolon g) r (declaration_fine c _ (refl, enquiry_fine f r x))

  units_fine : {f : Forest} → IsUnits f → (r : List Sym) → Fine true r → Fine false (spells f r)
  units_fine (unit_one u) r x = unit_fine u r x
  units_fine (unit_more u f) r x = unit_fine u _ (refl, units_fine f r x)

  units2_fine : {f : Forest} → IsUnits2 f → (r : List Sym) → Fine true r → Fine false (spells f r)
  units2_fine (two u f) r x = unit_fine u _ (refl, units_fine f r x)

  unit_fine : {j : NodeKind} {f : Forest} → IsUnit j f → (r : List Sym) → Fine true r → Fine false (spells f r)
  unit_fine (assignation a u) r x = tertiary_fine a _ (refl, unit_fine u r x)
  unit_fine (identity_is a u) r x = tertiary_fine a _ (refl, tertiary_fine u r x)
  unit_fine (identity_isnt a u) r x = tertiary_fine a _ (refl, tertiary_fine u r x)
  unit_fine (routine f) r x = routine_fine f r x
  unit_fine skip r x = (refl, any false r x)
  unit_fine go_to r x = (refl, (refl, (refl, x)))
  unit_fine goto_ r x = (refl, (refl, x))
  unit_fine (tertiary u) r x = tertiary_fine u r x

  routine_fine : {f : Forest} → IsRoutine f → (r : List Sym) → Fine true r → Fine false (spells f r)
  routine_fine (routine_params p f) r x = (refl, params_fine p _ (refl, result_fine f r x))
  routine_fine (routine_plain f) r x = result_fine f r x

  result_fine : {f : Forest} → IsResult f → (r : List Sym) → Fine true r → Fine false (spells f r)
  result_fine (result d u) r x = declarer_fine d _ (refl, unit_fine u r x)
  result_fine (result_void u) r x = (refl, (refl, unit_fine u r x))

  params_fine : {i : NodeKind} {f : Forest} → IsParams i f → (r : List Sym) → Fine true r → Fine false (spells f r)
  params_fine (params d f) r x = declarer_fine d _ (tags_fine f r x)

  tags_fine : {i : NodeKind} {f : Forest} → IsTags i f → (r : List Sym) → Fine true r → Fine false (spells f r)
  tags_fine tags_end r x = (refl, x)
  tags_fine (tags_more f) r x = (refl, (refl, tags_fine f r x))
  tags_fine (tags_next f) r x = (refl, (refl, params_fine f r x))

  tertiary_fine : {j : NodeKind} {f : Forest} → IsTertiary j f → (r : List Sym) → Fine true r → Fine false (spells f r)
  tertiary_fine nil r x = (refl, any false r x)
  tertiary_fine (monadic {s = o} {f = g} s f) r x = lone false (Is o) (spells g r) (monadic_out s) (operands_fine f r x)
  tertiary_fine (dyadic {s = o} {f = g} u s f) r x = secondary_fine u (Is o ∷ spells g r) (lone true (Is o) (spells g r) (sign_out s) (operands_fine f r x))
  tertiary_fine (secondary u) r x = secondary_fine u r x

  operands_fine : {f : Forest} → IsOperands f → (r : List Sym) → Fine true r → Fine false (spells f r)
  operands_fine (operand_sign {s = o} {f = g} s f) r x = lone false (Is o) (spells g r) (monadic_out s) (operands_fine f r x)
  operands_fine (operand_last u) r x = secondary_fine u r x
  operands_fine (operand_next {s = o} {f = g} u s f) r x = secondary_fine u (Is o ∷ spells g r) (lone true (Is o) (spells g r) (sign_out s) (operands_fine f r x))

  secondary_fine : {j : NodeKind} {f : Forest} → IsSecondary j f → (r : List Sym) → Fine true r → Fine false (spells f r)
  secondary_fine (selection u) r x = (refl, (refl, secondary_fine u r x))
  secondary_fine (generator_loc d) r x = (refl, declarer_fine d r (any false r x))
  secondary_fine (generator_heap d) r x = (refl, declarer_fine d r (any false r x))
  secondary_fine (primary u) r x = primary_fine u r x

  primary_fine : {j : NodeKind} {f : Forest} → IsPrimary j f → (r : List Sym) → Fine true r → Fine false (spells f r)
  primary_fine (slice u i) r x = primary_fine u _ (refl, indexes_fine i _ (refl, any false r x))
  primary_fine (call u f) r x = primary_fine u _ (refl, units_fine f _ (refl, any false r x))
  primary_fine (cast d u) r x = declarer_fine d _ (enclosed_fine u r (any false r x))
  primary_fine (cast_void u) r x = (refl, enclosed_fine u r (any false r x))
  primary_fine tag r x = (refl, x)
  primary_fine (denotation {d = s} d) r x = (refl, any (goes (Is s)) r x)
  primary_fine (long_denotation {d = s} d) r x = (refl, (refl, any (goes (Is s)) r x))
  primary_fine (enclosed u) r x = enclosed_fine u r (any false r x)

  indexes_fine : {f : Forest} → IsIndexes f → (r : List Sym) → Fine true r → Fine false (spells f r)
  indexes_fine (index_one i) r x = index_fine i r x
  indexes_fine (index_more i f) r x = index_fine i _ (refl, indexes_fine f r x)

  index_fine : {f : Forest} → IsIndex f → (r : List Sym) → Fine true r → Fine false (spells f r)
  index_fine (index_unit u) r x = unit_fine u r x
  index_fine (index_from u f) r x = unit_fine u _ (refl, trimmer_fine f r x)
  index_fine (index_colon f) r x = (refl, trimmer_fine f r x)
  index_fine (index_at f) r x = any false _ (at_fine f r x)

  trimmer_fine : {f : Forest} → IsTrimmer f → (r : List Sym) → Fine true r → Fine false (spells f r)
  trimmer_fine (trimmer_upper u f) r x = unit_fine u _ (at_fine f r x)
  trimmer_fine (trimmer_open f) r x = any false _ (at_fine f r x)

  at_fine : {f : Forest} → IsAt f → (r : List Sym) → Fine true r → Fine true (spells f r)
  at_fine (at_ u) r x = (refl, unit_fine u r x)
  at_fine no_at r x = x

  declarer_fine : {f : Forest} → IsDeclarer f → (r : List Sym) → Fine false r → Fine false (spells f r)
  declarer_fine (plain {s = o} s) r x = lone false (Is o) r (plain_out s) x
  declarer_fine long_int r x = lone false (Is t.Long) (Is t.Int ∷ r) refl (lone false (Is t.Int) r refl x)
  declarer_fine mode_word r x = (refl, x)
  declarer_fine (ref d) r x = (refl, declarer_fine d r x)
  declarer_fine (rows f d) r x = (refl, bounds_fine f _ (refl, declarer_fine d r x))
  declarer_fine (flex f d) r x = (refl, (refl, bounds_fine f _ (refl, declarer_fine d r x)))
  declarer_fine (struct_ f) r x = (refl, (refl, params_fine f _ (refl, x)))
  declarer_fine (union_ d f) r x = (refl, (refl, declarer_fine d _ (refl, declarers_fine f _ (refl, x))))
  declarer_fine (proc f) r x = (refl, yield_fine f r x)
  declarer_fine (proc_params p f) r x = (refl, (refl, declarers_fine p _ (refl, yield_fine f r x)))

  yield_fine : {f : Forest} → IsYield f → (r : List Sym) → Fine false r → Fine false (spells f r)
  yield_fine (yield_ d) r x = declarer_fine d r x
  yield_fine yield_void r x = (refl, x)

  declarers_fine : {f : Forest} → IsDeclarers f → (r : List Sym) → Fine false r → Fine false (spells f r)
  declarers_fine (declarer_one d) r x = declarer_fine d r x
  declarers_fine (declarer_more d f) r x = declarer_fine d _ (refl, declarers_fine f r x)

  bounds_fine : {f : Forest} → IsBounds f → (r : List Sym) → Fine true r → Fine false (spells f r)
  bounds_fine (bound_one i) r x = bound_fine i r x
  bounds_fine (bound_more i f) r x = bound_fine i _ (refl, bounds_fine f r x)

  bound_fine : {f : Forest} → IsBound f → (r : List Sym) → Fine true r → Fine false (spells f r)
  bound_fine bound_none r x = any false r x
  bound_fine bound_colon r x = (refl, any false r x)
  bound_fine (bound_upper u) r x = unit_fine u r x
  bound_fine (bound_both l u) r x = unit_fine l _ (refl, unit_fine u r x)

  declaration_fine : {f : Forest} → IsDeclaration f → (r : List Sym) → Fine true r → Fine false (spells f r)
  declaration_fine (single f s) r x = definitions_fine f r x
  declaration_fine (joined_ f s) r x = definitions_fine f r x

  definitions_fine : {f : Forest} → IsDefinitions f → (r : List Sym) → Fine true r → Fine false (spells f r)
  definitions_fine (declared f) r x = declared_fine f r x
  definitions_fine (and_then {f = g} {h = h} f d) r x = both g (mark t.Comma (forget h)) r (declared_fine f _ (refl, definitions_fine d r x))

  declared_fine : {f : Forest} → IsDeclared f → (r : List Sym) → Fine true r → Fine false (spells f r)
  declared_fine (mode_ f) r x = (refl, modes_fine f r x)
  declared_fine (prio_ f) r x = (refl, priorities_fine f r x)
  declared_fine (op_ f) r x = (refl, ops_fine f r x)
  declared_fine (op_plan p f) r x = (refl, plan_fine p _ (planned_fine f r x))
  declared_fine (identities d f) r x = declarer_fine d _ (identities_fine f r x)
  declared_fine (procs f) r x = (refl, procs_fine refl f r x)
  declared_fine (proc_variables f) r x = (refl, procs_fine refl f r x)
  declared_fine (variables d f) r x = declarer_fine d _ (variables_fine f r x)
  declared_fine (loc_variables d f) r x = (refl, declarer_fine d _ (variables_fine f r x))
  declared_fine (heap_variables d f) r x = (refl, declarer_fine d _ (variables_fine f r x))

  modes_fine : {f : Forest} → IsModes f → (r : List Sym) → Fine true r → Fine false (spells f r)
  modes_fine (mode_one d) r x = (refl, (refl, declarer_fine d r (any false r x)))
  modes_fine (mode_more d f) r x = (refl, (refl, declarer_fine d _ (refl, modes_fine f r x)))

  priorities_fine : {f : Forest} → IsPriorities f → (r : List Sym) → Fine true r → Fine false (spells f r)
  priorities_fine (prio_one {s = o} s) r x = lone false (Is o) (Is t.Equals ∷ Is t.Digit ∷ r) (sign_out s) (refl, (refl, x))
  priorities_fine (prio_more {s = o} {f = g} s f) r x = lone false (Is o) (Is t.Equals ∷ Is t.Digit ∷ Is t.Comma ∷ spells g r) (sign_out s) (refl, (refl, (refl, priorities_fine f r x)))

  ops_fine : {f : Forest} → IsOps f → (r : List Sym) → Fine true r → Fine false (spells f r)
  ops_fine (op_one {s = o} {r = q} s p) r x = lone false (Is o) (Is t.Equals ∷ spells q r) (sign_out s) (refl, routine_fine p r x)
  ops_fine (op_more {s = o} {r = q} {f = g} s p f) r x = lone false (Is o) (Is t.Equals ∷ spells q (Is t.Comma ∷ spells g r)) (sign_out s) (refl, routine_fine p (Is t.Comma ∷ spells g r) (refl, ops_fine f r x))

  plan_fine : {f : Forest} → IsPlan f → (r : List Sym) → Fine false r → Fine false (spells f r)
  plan_fine (plan_one d f) r x = (refl, declarer_fine d _ (refl, yield_fine f r x))
  plan_fine (plan_two c d f) r x = (refl, declarer_fine c _ (refl, declarer_fine d _ (refl, yield_fine f r x)))

  planned_fine : {f : Forest} → IsPlanned f → (r : List Sym) → Fine true r → Fine false (spells f r)
  planned_fine (planned_one {s = o} {u = v} s u) r x = lone false (Is o) (Is t.Equals ∷ spells v r) (sign_out s) (refl, unit_fine u r x)
  planned_fine (planned_more {s = o} {u = v} {f = g} s u f) r x = lone false (Is o) (Is t.Equals ∷ spells v (Is t.Comma ∷ spells g r)) (sign_out s) (refl, unit_fine u (Is t.Comma ∷ spells g r) (refl, planned_fine f r x))

  identities_fine : {f : Forest} → IsIdentities f → (r : List Sym) → Fine true r → Fine false (spells f r)
  identities_fine (identity_one u) r x = (refl, (refl, unit_fine u r x))
  identities_fine (identity_more u f) r x = (refl, (refl, unit_fine u _ (refl, identities_fine f r x)))

  procs_fine : {s : Token} {i : NodeKind} {f : Forest} → goes (Is s) ≡ false → IsProcs s i f → (r : List Sym) → Fine true r → Fine false (spells f r)
  procs_fine e (procs_one {s = o} {r = q} p) r x = (refl, lone true (Is o) (spells q r) e (routine_fine p r x))
  procs_fine e (procs_more {s = o} {r = q} {f = g} p f) r x = (refl, lone true (Is o) (spells q (Is t.Comma ∷ spells g r)) e (routine_fine p (Is t.Comma ∷ spells g r) (refl, procs_fine e f r x)))

  variables_fine : {f : Forest} → IsVariables f → (r : List Sym) → Fine true r → Fine false (spells f r)
  variables_fine (variable_one f) r x = variable_fine f r x
  variables_fine (variable_more f g) r x = variable_fine f _ (refl, variables_fine g r x)

  variable_fine : {f : Forest} → IsVariable f → (r : List Sym) → Fine true r → Fine false (spells f r)
  variable_fine variable r x = (refl, x)
  variable_fine (variable_set u) r x = (refl, (refl, unit_fine u r x))
