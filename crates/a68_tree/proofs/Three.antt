-- At most three nodes for each symbol: a recursion over the whole grammar.
use Rattle.std.proofs.Common.{◌≡◌, ℕ, ◌+◌, ◌-◌, ◌*◌, ◌≤◌, List, [], ◌∷◌, ◌++◌, length, map, ap, arith}
use Rattle.std.proofs.lemmas.List.{length-map, length-reverse}
use Rattle.a68_tree.specs.declared.kind.NodeKind.{NodeKind}
use Rattle.a68_symbols.specs.declared.sym.Sym.{Sym}
use Rattle.a68_symbols.specs.declared.sym.Sym.TheVariants.{Closes}
use Rattle.a68_symbols.specs.declared.sym.Token.{Token}
use Rattle.a68_symbols.specs.declared.sym.Token.TheVariants as t
use Rattle.a68_tree.specs.Forest.{Forest, end, mark, group, part, sign, aside, shared, forget, spells, joined}
use Rattle.a68_tree.specs.Grammar as g
use Rattle.a68_tree.specs.Grammar.{IsEnclosed, IsElse, IsElseBrief, IsOut, IsOutBrief, IsOutC, IsOutCBrief, IsFor, IsFrom, IsBy, IsTo, IsWhile, IsChoices, IsSpec, IsSerial, IsLabelled, IsSteps, IsEnquiry, IsUnits, IsUnits2, IsUnit, IsRoutine, IsResult, IsParams, IsTags, IsTertiary, IsOperands, IsSecondary, IsPrimary, IsIndexes, IsIndex, IsTrimmer, IsAt, IsDeclarer, IsYield, IsDeclarers, IsBounds, IsBound, IsDeclaration, IsDefinitions, IsDeclared, IsModes, IsPriorities, IsOps, IsPlan, IsPlanned, IsIdentities, IsProcs, IsVariables, IsVariable}
use Rattle.a68_tree.specs.Nodes.{Entry, nodes, signs, with_under, with_node, turned, turned_entry, node_of}
use Rattle.a68_symbols.specs.declared.symbol.Symbol.{Symbol}
use Rattle.a68_tree.specs.declared.node.Node.{Node}
use Rattle.a68_tree.specs.Derived.{IsDerived}
use Rattle.a68_tree.proofs.Order.{length_with}

-- the nodes of a forest, signs among them, and its symbols
abbrev pub count : Forest → ℕ
count end = 0
count (mark t f) = count f
count (group b i f) = count i + count f
count (part k u f) = count u + 1 + count f
count (sign t f) = 1 + count f
count (aside k u f) = count u + 1 + count f
count (shared f) = count f
count (forget f) = count f

abbrev pub marks : Forest → ℕ
marks end = 0
marks (mark t f) = 1 + marks f
marks (group b i f) = 2 + marks i + marks f
marks (part k u f) = marks u + marks f
marks (sign t f) = 1 + marks f
marks (aside k u f) = marks u + marks f
marks (shared f) = marks f
marks (forget f) = marks f

-- ---- how many there are

length_nodes : (old : List Entry) (kept : List ℕ) (f : Forest) (r : List Sym) → length (nodes old kept f r) + signs f ≡ length old + count f
length_nodes old kept end r = omega arith
length_nodes old kept (mark t f) r = length_nodes old kept f r
length_nodes old kept (group b i f) r =
    omega (arith, length_nodes old kept i (Closes b ∷ spells f r), length_nodes (nodes old kept i (Closes b ∷ spells f r)) kept f r)
length_nodes old kept (part k u f) r =
    omega (arith, length_nodes old kept u (spells f r), length_nodes (with_node old kept k u (spells f r)) kept f r, length_with old kept k u (spells f r))
length_nodes old kept (sign t f) r = omega (arith, length_nodes old kept f r)
length_nodes old kept (aside k u f) r =
    let kept' : List ℕ = kept ++ length (with_under old kept u (spells f r)) ∷ [] in
    omega (arith, length_nodes old kept u (spells f r), length_nodes (with_node old kept k u (spells f r)) kept' f r, length_with old kept k u (spells f r))
length_nodes old kept (shared f) r = length_nodes old kept f r
length_nodes old kept (forget f) r = length_nodes old [] f r

length_spells : (f : Forest) (r : List Sym) → length (spells f r) ≡ marks f + length r
length_spells end r = omega arith
length_spells (mark t f) r = omega (arith, length_spells f r)
length_spells (group b i f) r = omega (arith, length_spells i (Closes b ∷ spells f r), length_spells f r)
length_spells (part k u f) r = omega (arith, length_spells u (spells f r), length_spells f r)
length_spells (sign t f) r = omega (arith, length_spells f r)
length_spells (aside k u f) r = omega (arith, length_spells u (spells f r), length_spells f r)
length_spells (shared f) r = length_spells f r
length_spells (forget f) r = length_spells f r

count_joined : (f h : Forest) → count (joined f h) ≡ count f + count h
count_joined end h = omega arith
count_joined (mark t f) h = count_joined f h
count_joined (group b i f) h = omega (arith, count_joined f h)
count_joined (part k u f) h = omega (arith, count_joined f h)
count_joined (sign t f) h = omega (arith, count_joined f h)
count_joined (aside k u f) h = omega (arith, count_joined f h)
count_joined (shared f) h = count_joined f h
count_joined (forget f) h = count_joined f h

marks_joined : (f h : Forest) → marks (joined f h) ≡ marks f + marks h
marks_joined end h = omega arith
marks_joined (mark t f) h = omega (arith, marks_joined f h)
marks_joined (group b i f) h = omega (arith, marks_joined f h)
marks_joined (part k u f) h = omega (arith, marks_joined f h)
marks_joined (sign t f) h = omega (arith, marks_joined f h)
marks_joined (aside k u f) h = omega (arith, marks_joined f h)
marks_joined (shared f) h = marks_joined f h
marks_joined (forget f) h = marks_joined f h

-- ---- the grammar

mutual
  pub few_IsEnclosed : {x : NodeKind} → {y : Forest} → IsEnclosed x y → count y + 2 ≤ 3 * marks y
  few_IsEnclosed (g.closed p0 p1) = omega (arith, few_IsSerial p1)
  few_IsEnclosed (g.collateral p0 p1) = omega (arith, few_IsUnits2 p1)
  few_IsEnclosed (g.vacuum p0) = omega arith
  few_IsEnclosed (g.parallel p0 p1) = omega (arith, few_IsUnits p1)
  few_IsEnclosed (g.conditional p0 p1 p2) = omega (arith, few_IsEnquiry p0, few_IsSerial p1, few_IsElse p2)
  few_IsEnclosed (g.conditional_brief p0 p1 p2) = omega (arith, few_IsEnquiry p0, few_IsSerial p1, few_IsElseBrief p2)
  few_IsEnclosed (g.case_ {a = a} {f = f} {e = e} p0 p1 p2) = omega (arith, few_IsEnquiry p0, few_IsUnits2 p1, few_IsOut p2, count_joined f e, marks_joined f e)
  few_IsEnclosed (g.case_brief {a = a} {f = f} {e = e} p0 p1 p2) = omega (arith, few_IsEnquiry p0, few_IsUnits2 p1, few_IsOutBrief p2, count_joined f e, marks_joined f e)
  few_IsEnclosed (g.conformity {a = a} {f = f} {e = e} p0 p1 p2) = omega (arith, few_IsEnquiry p0, few_IsChoices p1, few_IsOutC p2, count_joined f e, marks_joined f e)
  few_IsEnclosed (g.conformity_brief {a = a} {f = f} {e = e} p0 p1 p2) = omega (arith, few_IsEnquiry p0, few_IsChoices p1, few_IsOutCBrief p2, count_joined f e, marks_joined f e)
  few_IsEnclosed (g.loop p0) = omega (arith, few_IsFor p0)

  few_IsElse : {x : Forest} → IsElse x → count x ≤ 3 * marks x
  few_IsElse g.no_else = omega arith
  few_IsElse (g.else_ p0) = omega (arith, few_IsSerial p0)
  few_IsElse (g.elif p0 p1 p2) = omega (arith, few_IsEnquiry p0, few_IsSerial p1, few_IsElse p2)

  few_IsElseBrief : {x : Forest} → IsElseBrief x → count x ≤ 3 * marks x
  few_IsElseBrief g.no_else_b = omega arith
  few_IsElseBrief (g.else_b p0) = omega (arith, few_IsSerial p0)
  few_IsElseBrief (g.elif_b p0 p1 p2) = omega (arith, few_IsEnquiry p0, few_IsSerial p1, few_IsElseBrief p2)

  few_IsOut : {x : Forest} → IsOut x → count x ≤ 3 * marks x
  few_IsOut g.no_out = omega arith
  few_IsOut (g.out_serial p0) = omega (arith, few_IsSerial p0)
  few_IsOut (g.out_again {a = a} {f = f} {e = e} p0 p1 p2) = omega (arith, few_IsEnquiry p0, few_IsUnits2 p1, few_IsOut p2, count_joined f e, marks_joined f e)

  few_IsOutBrief : {x : Forest} → IsOutBrief x → count x ≤ 3 * marks x
  few_IsOutBrief g.no_outbrief = omega arith
  few_IsOutBrief (g.outbrief_serial p0) = omega (arith, few_IsSerial p0)
  few_IsOutBrief (g.outbrief_again {a = a} {f = f} {e = e} p0 p1 p2) = omega (arith, few_IsEnquiry p0, few_IsUnits2 p1, few_IsOutBrief p2, count_joined f e, marks_joined f e)

  few_IsOutC : {x : Forest} → IsOutC x → count x ≤ 3 * marks x
  few_IsOutC g.no_outc = omega arith
  few_IsOutC (g.outc_serial p0) = omega (arith, few_IsSerial p0)
  few_IsOutC (g.outc_again {a = a} {f = f} {e = e} p0 p1 p2) = omega (arith, few_IsEnquiry p0, few_IsChoices p1, few_IsOutC p2, count_joined f e, marks_joined f e)

  few_IsOutCBrief : {x : Forest} → IsOutCBrief x → count x ≤ 3 * marks x
  few_IsOutCBrief g.no_outcbrief = omega arith
  few_IsOutCBrief (g.outcbrief_serial p0) = omega (arith, few_IsSerial p0)
  few_IsOutCBrief (g.outcbrief_again {a = a} {f = f} {e = e} p0 p1 p2) = omega (arith, few_IsEnquiry p0, few_IsChoices p1, few_IsOutCBrief p2, count_joined f e, marks_joined f e)

  few_IsFor : {x : Forest} → IsFor x → count x + 2 ≤ 3 * marks x
  few_IsFor (g.for_ p0) = omega (arith, few_IsFrom p0)
  few_IsFor (g.no_for p0) = omega (arith, few_IsFrom p0)

  few_IsFrom : {x : Forest} → IsFrom x → count x + 2 ≤ 3 * marks x
  few_IsFrom (g.from_ p0 p1) = omega (arith, few_IsUnit p0, few_IsBy p1)
  few_IsFrom (g.no_from p0) = omega (arith, few_IsBy p0)

  few_IsBy : {x : Forest} → IsBy x → count x + 2 ≤ 3 * marks x
  few_IsBy (g.by_ p0 p1) = omega (arith, few_IsUnit p0, few_IsTo p1)
  few_IsBy (g.no_by p0) = omega (arith, few_IsTo p0)

  few_IsTo : {x : Forest} → IsTo x → count x + 2 ≤ 3 * marks x
  few_IsTo (g.to_ p0 p1) = omega (arith, few_IsUnit p0, few_IsWhile p1)
  few_IsTo (g.no_to p0) = omega (arith, few_IsWhile p0)

  few_IsWhile : {x : Forest} → IsWhile x → count x + 2 ≤ 3 * marks x
  few_IsWhile (g.while_ p0 p1) = omega (arith, few_IsEnquiry p0, few_IsSerial p1)
  few_IsWhile (g.no_while p0) = omega (arith, few_IsSerial p0)

  few_IsChoices : {x : Forest} → IsChoices x → count x ≤ 3 * marks x
  few_IsChoices (g.choice_one p0 p1) = omega (arith, few_IsSpec p0, few_IsUnit p1)
  few_IsChoices (g.choice_more p0 p1 p2) = omega (arith, few_IsSpec p0, few_IsUnit p1, few_IsChoices p2)

  few_IsSpec : {x : Forest} → IsSpec x → count x + 1 ≤ 3 * marks x
  few_IsSpec (g.spec p0) = omega (arith, few_IsDeclarer p0)
  few_IsSpec (g.spec_tag p0) = omega (arith, few_IsDeclarer p0)

  few_IsSerial : {x : Forest} → IsSerial x → count x ≤ 3 * marks x
  few_IsSerial (g.serial_one p0) = omega (arith, few_IsUnit p0)
  few_IsSerial (g.serial_unit p0 p1) = omega (arith, few_IsUnit p0, few_IsSerial p1)
  few_IsSerial (g.serial_declaration {d = d} {f = f} p0 p1) = omega (arith, few_IsDeclaration p0, few_IsSerial p1, count_joined d (mark t.Semicolon f), marks_joined d (mark t.Semicolon f))
  few_IsSerial (g.serial_exit p0 p1) = omega (arith, few_IsUnit p0, few_IsLabelled p1)
  few_IsSerial (g.serial_labelled p0) = few_IsLabelled p0

  few_IsLabelled : {x : Forest} → IsLabelled x → count x ≤ 3 * marks x
  few_IsLabelled (g.label p0) = omega (arith, few_IsSteps p0)

  few_IsSteps : {x : Forest} → IsSteps x → count x ≤ 3 * marks x
  few_IsSteps (g.steps_labelled p0) = few_IsLabelled p0
  few_IsSteps (g.steps_last p0) = omega (arith, few_IsUnit p0)
  few_IsSteps (g.steps_unit p0 p1) = omega (arith, few_IsUnit p0, few_IsSteps p1)
  few_IsSteps (g.steps_exit p0 p1) = omega (arith, few_IsUnit p0, few_IsLabelled p1)

  few_IsEnquiry : {x : Forest} → IsEnquiry x → count x ≤ 3 * marks x
  few_IsEnquiry (g.enquiry_one p0) = omega (arith, few_IsUnit p0)
  few_IsEnquiry (g.enquiry_unit p0 p1) = omega (arith, few_IsUnit p0, few_IsEnquiry p1)
  few_IsEnquiry (g.enquiry_declaration {d = d} {f = f} p0 p1) = omega (arith, few_IsDeclaration p0, few_IsEnquiry p1, count_joined d (mark t.Semicolon f), marks_joined d (mark t.Semicolon f))

  few_IsUnits : {x : Forest} → IsUnits x → count x ≤ 3 * marks x
  few_IsUnits (g.unit_one p0) = omega (arith, few_IsUnit p0)
  few_IsUnits (g.unit_more p0 p1) = omega (arith, few_IsUnit p0, few_IsUnits p1)

  few_IsUnits2 : {x : Forest} → IsUnits2 x → count x ≤ 3 * marks x
  few_IsUnits2 (g.two p0 p1) = omega (arith, few_IsUnit p0, few_IsUnits p1)

  few_IsUnit : {x : NodeKind} → {y : Forest} → IsUnit x y → count y + 1 ≤ 3 * marks y
  few_IsUnit (g.assignation p0 p1) = omega (arith, few_IsTertiary p0, few_IsUnit p1)
  few_IsUnit (g.identity_is p0 p1) = omega (arith, few_IsTertiary p0, few_IsTertiary p1)
  few_IsUnit (g.identity_isnt p0 p1) = omega (arith, few_IsTertiary p0, few_IsTertiary p1)
  few_IsUnit (g.routine p0) = omega (arith, few_IsRoutine p0)
  few_IsUnit g.skip = omega arith
  few_IsUnit g.go_to = omega arith
  few_IsUnit g.goto_ = omega arith
  few_IsUnit (g.tertiary p0) = omega (arith, few_IsTertiary p0)

  few_IsRoutine : {x : Forest} → IsRoutine x → count x + 1 ≤ 3 * marks x
  few_IsRoutine (g.routine_params p0 p1) = omega (arith, few_IsParams p0, few_IsResult p1)
  few_IsRoutine (g.routine_plain p0) = omega (arith, few_IsResult p0)

  few_IsResult : {x : Forest} → IsResult x → count x + 1 ≤ 3 * marks x
  few_IsResult (g.result p0 p1) = omega (arith, few_IsDeclarer p0, few_IsUnit p1)
  few_IsResult (g.result_void p0) = omega (arith, few_IsUnit p0)

  few_IsParams : {x : NodeKind} → {y : Forest} → IsParams x y → count y + 1 ≤ 3 * marks y
  few_IsParams (g.params p0 p1) = omega (arith, few_IsDeclarer p0, few_IsTags p1)

  few_IsTags : {x : NodeKind} → {y : Forest} → IsTags x y → count y + 1 ≤ 3 * marks y
  few_IsTags g.tags_end = omega arith
  few_IsTags (g.tags_more p0) = omega (arith, few_IsTags p0)
  few_IsTags (g.tags_next p0) = omega (arith, few_IsParams p0)

  few_IsTertiary : {x : NodeKind} → {y : Forest} → IsTertiary x y → count y + 1 ≤ 3 * marks y
  few_IsTertiary g.nil = omega arith
  few_IsTertiary (g.monadic p0 p1) = omega (arith, few_IsOperands p1)
  few_IsTertiary (g.dyadic p0 p1 p2) = omega (arith, few_IsSecondary p0, few_IsOperands p2)
  few_IsTertiary (g.secondary p0) = omega (arith, few_IsSecondary p0)

  few_IsOperands : {x : Forest} → IsOperands x → count x ≤ 3 * marks x
  few_IsOperands (g.operand_sign p0 p1) = omega (arith, few_IsOperands p1)
  few_IsOperands (g.operand_last p0) = omega (arith, few_IsSecondary p0)
  few_IsOperands (g.operand_next p0 p1 p2) = omega (arith, few_IsSecondary p0, few_IsOperands p2)

  few_IsSecondary : {x : NodeKind} → {y : Forest} → IsSecondary x y → count y + 1 ≤ 3 * marks y
  few_IsSecondary (g.selection p0) = omega (arith, few_IsSecondary p0)
  few_IsSecondary (g.generator_loc p0) = omega (arith, few_IsDeclarer p0)
  few_IsSecondary (g.generator_heap p0) = omega (arith, few_IsDeclarer p0)
  few_IsSecondary (g.primary p0) = omega (arith, few_IsPrimary p0)

  few_IsPrimary : {x : NodeKind} → {y : Forest} → IsPrimary x y → count y + 1 ≤ 3 * marks y
  few_IsPrimary (g.slice p0 p1) = omega (arith, few_IsPrimary p0, few_IsIndexes p1)
  few_IsPrimary (g.call p0 p1) = omega (arith, few_IsPrimary p0, few_IsUnits p1)
  few_IsPrimary (g.cast p0 p1) = omega (arith, few_IsDeclarer p0, few_IsEnclosed p1)
  few_IsPrimary (g.cast_void p0) = omega (arith, few_IsEnclosed p0)
  few_IsPrimary g.tag = omega arith
  few_IsPrimary (g.denotation p0) = omega arith
  few_IsPrimary (g.long_denotation p0) = omega arith
  few_IsPrimary (g.enclosed p0) = omega (arith, few_IsEnclosed p0)

  few_IsIndexes : {x : Forest} → IsIndexes x → count x ≤ 3 * marks x + 1
  few_IsIndexes (g.index_one p0) = omega (arith, few_IsIndex p0)
  few_IsIndexes (g.index_more p0 p1) = omega (arith, few_IsIndex p0, few_IsIndexes p1)

  few_IsIndex : {x : Forest} → IsIndex x → count x ≤ 3 * marks x
  few_IsIndex (g.index_unit p0) = omega (arith, few_IsUnit p0)
  few_IsIndex (g.index_from p0 p1) = omega (arith, few_IsUnit p0, few_IsTrimmer p1)
  few_IsIndex (g.index_colon p0) = omega (arith, few_IsTrimmer p0)
  few_IsIndex (g.index_at p0) = omega (arith, few_IsAt p0)

  few_IsTrimmer : {x : Forest} → IsTrimmer x → count x ≤ 3 * marks x + 1
  few_IsTrimmer (g.trimmer_upper p0 p1) = omega (arith, few_IsUnit p0, few_IsAt p1)
  few_IsTrimmer (g.trimmer_open p0) = omega (arith, few_IsAt p0)

  few_IsAt : {x : Forest} → IsAt x → count x ≤ 3 * marks x
  few_IsAt (g.at_ p0) = omega (arith, few_IsUnit p0)
  few_IsAt g.no_at = omega arith

  few_IsDeclarer : {x : Forest} → IsDeclarer x → count x + 1 ≤ 3 * marks x
  few_IsDeclarer (g.plain p0) = omega arith
  few_IsDeclarer g.long_int = omega arith
  few_IsDeclarer g.mode_word = omega arith
  few_IsDeclarer (g.ref p0) = omega (arith, few_IsDeclarer p0)
  few_IsDeclarer (g.rows p0 p1) = omega (arith, few_IsBounds p0, few_IsDeclarer p1)
  few_IsDeclarer (g.flex p0 p1) = omega (arith, few_IsBounds p0, few_IsDeclarer p1)
  few_IsDeclarer (g.struct_ p0) = omega (arith, few_IsParams p0)
  few_IsDeclarer (g.union_ p0 p1) = omega (arith, few_IsDeclarer p0, few_IsDeclarers p1)
  few_IsDeclarer (g.proc p0) = omega (arith, few_IsYield p0)
  few_IsDeclarer (g.proc_params p0 p1) = omega (arith, few_IsDeclarers p0, few_IsYield p1)

  few_IsYield : {x : Forest} → IsYield x → count x ≤ 3 * marks x
  few_IsYield (g.yield_ p0) = omega (arith, few_IsDeclarer p0)
  few_IsYield g.yield_void = omega arith

  few_IsDeclarers : {x : Forest} → IsDeclarers x → count x ≤ 3 * marks x
  few_IsDeclarers (g.declarer_one p0) = omega (arith, few_IsDeclarer p0)
  few_IsDeclarers (g.declarer_more p0 p1) = omega (arith, few_IsDeclarer p0, few_IsDeclarers p1)

  few_IsBounds : {x : Forest} → IsBounds x → count x ≤ 3 * marks x + 2
  few_IsBounds (g.bound_one p0) = omega (arith, few_IsBound p0)
  few_IsBounds (g.bound_more p0 p1) = omega (arith, few_IsBound p0, few_IsBounds p1)

  few_IsBound : {x : Forest} → IsBound x → count x ≤ 3 * marks x + 1
  few_IsBound g.bound_none = omega arith
  few_IsBound g.bound_colon = omega arith
  few_IsBound (g.bound_upper p0) = omega (arith, few_IsUnit p0)
  few_IsBound (g.bound_both p0 p1) = omega (arith, few_IsUnit p0, few_IsUnit p1)

  few_IsDeclaration : {x : Forest} → IsDeclaration x → count x ≤ 3 * marks x
  few_IsDeclaration (g.single p0 p1) = omega (arith, few_IsDefinitions p0)
  few_IsDeclaration (g.joined_ p0 p1) = omega (arith, few_IsDefinitions p0)

  few_IsDefinitions : {x : Forest} → IsDefinitions x → count x + 1 ≤ 3 * marks x
  few_IsDefinitions (g.declared p0) = omega (arith, few_IsDeclared p0)
  few_IsDefinitions (g.and_then {f = f} {h = h} p0 p1) = omega (arith, few_IsDeclared p0, few_IsDefinitions p1, count_joined f (mark t.Comma (forget h)), marks_joined f (mark t.Comma (forget h)))

  few_IsDeclared : {x : Forest} → IsDeclared x → count x + 1 ≤ 3 * marks x
  few_IsDeclared (g.mode_ p0) = omega (arith, few_IsModes p0)
  few_IsDeclared (g.prio_ p0) = omega (arith, few_IsPriorities p0)
  few_IsDeclared (g.op_ p0) = omega (arith, few_IsOps p0)
  few_IsDeclared (g.op_plan p0 p1) = omega (arith, few_IsPlan p0, few_IsPlanned p1)
  few_IsDeclared (g.identities p0 p1) = omega (arith, few_IsDeclarer p0, few_IsIdentities p1)
  few_IsDeclared (g.procs p0) = omega (arith, few_IsProcs p0)
  few_IsDeclared (g.proc_variables p0) = omega (arith, few_IsProcs p0)
  few_IsDeclared (g.variables p0 p1) = omega (arith, few_IsDeclarer p0, few_IsVariables p1)
  few_IsDeclared (g.loc_variables p0 p1) = omega (arith, few_IsDeclarer p0, few_IsVariables p1)
  few_IsDeclared (g.heap_variables p0 p1) = omega (arith, few_IsDeclarer p0, few_IsVariables p1)

  few_IsModes : {x : Forest} → IsModes x → count x + 1 ≤ 3 * marks x
  few_IsModes (g.mode_one p0) = omega (arith, few_IsDeclarer p0)
  few_IsModes (g.mode_more p0 p1) = omega (arith, few_IsDeclarer p0, few_IsModes p1)

  few_IsPriorities : {x : Forest} → IsPriorities x → count x + 1 ≤ 3 * marks x
  few_IsPriorities (g.prio_one p0) = omega arith
  few_IsPriorities (g.prio_more p0 p1) = omega (arith, few_IsPriorities p1)

  few_IsOps : {x : Forest} → IsOps x → count x + 1 ≤ 3 * marks x
  few_IsOps (g.op_one p0 p1) = omega (arith, few_IsRoutine p1)
  few_IsOps (g.op_more p0 p1 p2) = omega (arith, few_IsRoutine p1, few_IsOps p2)

  few_IsPlan : {x : Forest} → IsPlan x → count x + 1 ≤ 3 * marks x
  few_IsPlan (g.plan_one p0 p1) = omega (arith, few_IsDeclarer p0, few_IsYield p1)
  few_IsPlan (g.plan_two p0 p1 p2) = omega (arith, few_IsDeclarer p0, few_IsDeclarer p1, few_IsYield p2)

  few_IsPlanned : {x : Forest} → IsPlanned x → count x + 1 ≤ 3 * marks x
  few_IsPlanned (g.planned_one p0 p1) = omega (arith, few_IsUnit p1)
  few_IsPlanned (g.planned_more p0 p1 p2) = omega (arith, few_IsUnit p1, few_IsPlanned p2)

  few_IsIdentities : {x : Forest} → IsIdentities x → count x + 1 ≤ 3 * marks x
  few_IsIdentities (g.identity_one p0) = omega (arith, few_IsUnit p0)
  few_IsIdentities (g.identity_more p0 p1) = omega (arith, few_IsUnit p0, few_IsIdentities p1)

  few_IsProcs : {x : Token} → {y : NodeKind} → {z : Forest} → IsProcs x y z → count z + 1 ≤ 3 * marks z
  few_IsProcs (g.procs_one p0) = omega (arith, few_IsRoutine p0)
  few_IsProcs (g.procs_more p0 p1) = omega (arith, few_IsRoutine p0, few_IsProcs p1)

  few_IsVariables : {x : Forest} → IsVariables x → count x + 1 ≤ 3 * marks x
  few_IsVariables (g.variable_one p0) = omega (arith, few_IsVariable p0)
  few_IsVariables (g.variable_more p0 p1) = omega (arith, few_IsVariable p0, few_IsVariables p1)

  few_IsVariable : {x : Forest} → IsVariable x → count x + 2 ≤ 3 * marks x
  few_IsVariable g.variable = omega arith
  few_IsVariable (g.variable_set p0) = omega (arith, few_IsUnit p0)

pub entries_few : (text : List Sym) (kind : NodeKind) (under : Forest) → IsEnclosed kind under → text ≡ spells under [] → length (with_node [] [] kind under []) ≤ 3 * length text
entries_few text kind under is spelled =
    let e = length_with [] [] kind under [] in
    let f = length_nodes [] [] under [] in
    let h = ap length spelled in
    let i = length_spells under [] in
    omega (arith, e, f, few_IsEnclosed is, h, i)

pub derived_few : (symbols : List Symbol) (text : List Sym) (list : List Node) → IsDerived symbols text list → length list ≤ 3 * length text
derived_few symbols text list tree =
    let es : List Entry = with_node [] [] tree.kind tree.under [] in
    let a = ap length tree.listed in
    let b = length-map (turned es) (node_of symbols) in
    let c = length-reverse (map (turned_entry (length es - 1)) es) in
    let d = length-map es (turned_entry (length es - 1)) in
    omega (arith, a, b, c, d, entries_few text tree.kind tree.under tree.is tree.spelled)
