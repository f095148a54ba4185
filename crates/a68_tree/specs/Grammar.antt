-- The grammar (own, after chapters 3 to 5 and 8): a line for each case. `mark t.X`, `sign t.X` and `group b.X` are symbols;
-- `part k.X u` is a node of kind X with u under it. A name in small letters, as `serial_one`, is that of a case.
use Rattle.a68_tree.specs.declared.kind.NodeKind.{NodeKind}
use Rattle.a68_tree.specs.declared.kind.NodeKind.TheVariants as k
use Rattle.a68_symbols.specs.declared.sym.Bracket.{Bracket}
use Rattle.a68_symbols.specs.declared.sym.Bracket.TheVariants as b
use Rattle.a68_symbols.specs.declared.sym.Token.{Token}
use Rattle.a68_symbols.specs.declared.sym.Token.TheVariants as t
use Rattle.a68_tree.specs.Forest.{Forest, end, mark, group, part, sign, aside, shared, forget, joined, Single, Several}

-- ---- single symbols

-- an operator that may stand before an operand alone
pub data IsMonadic : Token → Type 0 where
  monadic_plus : IsMonadic t.Plus
  monadic_minus : IsMonadic t.Minus
  monadic_other : IsMonadic t.Monad

-- an operator
pub data IsSign : Token → Type 0 where
  sign_monadic : {s : Token} → IsMonadic s → IsSign s
  sign_times : IsSign t.Times
  sign_equals : IsSign t.Equals
  sign_differs : IsSign t.Differs
  sign_less : IsSign t.Less
  sign_at_most : IsSign t.AtMost
  sign_greater : IsSign t.Greater
  sign_at_least : IsSign t.AtLeast
  sign_other : IsSign t.Nomad

-- the brackets about a closed or collateral clause
pub data IsClosing : Bracket → Type 0 where
  closing_round : IsClosing b.Round
  closing_begin : IsClosing b.Begin

pub data IsDenotation : Token → Type 0 where
  denotation_digit : IsDenotation t.Digit
  denotation_number : IsDenotation t.Number
  denotation_bits : IsDenotation t.BitsNumber
  denotation_quoted : IsDenotation t.Quoted
  denotation_true : IsDenotation t.True
  denotation_false : IsDenotation t.False

-- digits alone
pub data IsNumber : Token → Type 0 where
  number_digit : IsNumber t.Digit
  number_other : IsNumber t.Number

-- the name of a mode
pub data IsPlain : Token → Type 0 where
  plain_int : IsPlain t.Int
  plain_other : IsPlain t.Plain

mutual
  -- enclosed: Closed | Collateral | Vacuum | Parallel | Conditional | Case | Conformity | Loop
  pub data IsEnclosed : NodeKind → Forest → Type 0 where
    closed : {c : Bracket} {a : Forest} → IsClosing c → IsSerial a → IsEnclosed k.Closed (group c (part k.Serial a end) end)
    collateral : {c : Bracket} {f : Forest} → IsClosing c → IsUnits2 f → IsEnclosed k.Collateral (group c f end)
    vacuum : {c : Bracket} → IsClosing c → IsEnclosed k.Vacuum (group c end end)
    parallel : {c : Bracket} {f : Forest} → IsClosing c → IsUnits f → IsEnclosed k.Parallel (mark t.Par (group c f end))
    conditional : {a d e : Forest} → IsEnquiry a → IsSerial d → IsElse e → IsEnclosed k.Conditional (group b.If (part k.Serial a (mark t.Then (part k.Serial d e))) end)
    conditional_brief : {a d e : Forest} → IsEnquiry a → IsSerial d → IsElseBrief e → IsEnclosed k.Conditional (group b.Round (part k.Serial a (mark t.Bar (part k.Serial d e))) end)
    case_ : {a f e : Forest} → IsEnquiry a → IsUnits2 f → IsOut e → IsEnclosed k.Case (group b.Case (part k.Serial a (mark t.In (joined f e))) end)
    case_brief : {a f e : Forest} → IsEnquiry a → IsUnits2 f → IsOutBrief e → IsEnclosed k.Case (group b.Round (part k.Serial a (mark t.Bar (joined f e))) end)
    conformity : {a f e : Forest} → IsEnquiry a → IsChoices f → IsOutC e → IsEnclosed k.Conformity (group b.Case (part k.Serial a (mark t.In (joined f e))) end)
    conformity_brief : {a f e : Forest} → IsEnquiry a → IsChoices f → IsOutCBrief e → IsEnclosed k.Conformity (group b.Round (part k.Serial a (mark t.Bar (joined f e))) end)
    loop : {f : Forest} → IsFor f → IsEnclosed k.Loop f

  -- {ELIF Serial THEN Serial} [ELSE Serial]
  pub data IsElse : Forest → Type 0 where
    no_else : IsElse end
    else_ : {a : Forest} → IsSerial a → IsElse (mark t.Else (part k.Serial a end))
    elif : {a d e : Forest} → IsEnquiry a → IsSerial d → IsElse e → IsElse (part k.Conditional (mark t.Elif (part k.Serial a (mark t.Then (part k.Serial d e)))) end)

  -- {'|:' Serial '|' Serial} ['|' Serial]
  pub data IsElseBrief : Forest → Type 0 where
    no_else_b : IsElseBrief end
    else_b : {a : Forest} → IsSerial a → IsElseBrief (mark t.Bar (part k.Serial a end))
    elif_b : {a d e : Forest} → IsEnquiry a → IsSerial d → IsElseBrief e → IsElseBrief (part k.Conditional (mark t.BarColon (part k.Serial a (mark t.Bar (part k.Serial d e)))) end)

  -- {OUSE Serial IN unit ',' units} [OUT Serial]
  pub data IsOut : Forest → Type 0 where
    no_out : IsOut end
    out_serial : {a : Forest} → IsSerial a → IsOut (mark t.Out (part k.Out (part k.Serial a end) end))
    out_again : {a f e : Forest} → IsEnquiry a → IsUnits2 f → IsOut e → IsOut (part k.Out (part k.Case (mark t.Ouse (part k.Serial a (mark t.In (joined f e)))) end) end)

  -- {'|:' Serial '|' unit ',' units} ['|' Serial]
  pub data IsOutBrief : Forest → Type 0 where
    no_outbrief : IsOutBrief end
    outbrief_serial : {a : Forest} → IsSerial a → IsOutBrief (mark t.Bar (part k.Out (part k.Serial a end) end))
    outbrief_again : {a f e : Forest} → IsEnquiry a → IsUnits2 f → IsOutBrief e → IsOutBrief (part k.Out (part k.Case (mark t.BarColon (part k.Serial a (mark t.Bar (joined f e)))) end) end)

  -- {OUSE Serial IN choices} [OUT Serial]
  pub data IsOutC : Forest → Type 0 where
    no_outc : IsOutC end
    outc_serial : {a : Forest} → IsSerial a → IsOutC (mark t.Out (part k.Out (part k.Serial a end) end))
    outc_again : {a f e : Forest} → IsEnquiry a → IsChoices f → IsOutC e → IsOutC (part k.Out (part k.Conformity (mark t.Ouse (part k.Serial a (mark t.In (joined f e)))) end) end)

  -- {'|:' Serial '|' choices} ['|' Serial]
  pub data IsOutCBrief : Forest → Type 0 where
    no_outcbrief : IsOutCBrief end
    outcbrief_serial : {a : Forest} → IsSerial a → IsOutCBrief (mark t.Bar (part k.Out (part k.Serial a end) end))
    outcbrief_again : {a f e : Forest} → IsEnquiry a → IsChoices f → IsOutCBrief e → IsOutCBrief (part k.Out (part k.Conformity (mark t.BarColon (part k.Serial a (mark t.Bar (joined f e)))) end) end)

  -- [FOR tag] [FROM unit] [BY unit] [TO unit] [WHILE Serial] DO Serial OD
  pub data IsFor : Forest → Type 0 where
    for_ : {f : Forest} → IsFrom f → IsFor (mark t.For (part k.For (mark t.Tag end) f))
    no_for : {f : Forest} → IsFrom f → IsFor f

  -- [FROM unit] [BY unit] [TO unit] [WHILE Serial] DO Serial OD
  pub data IsFrom : Forest → Type 0 where
    from_ : {j : NodeKind} {u f : Forest} → IsUnit j u → IsBy f → IsFrom (mark t.From (part k.From (part j u end) f))
    no_from : {f : Forest} → IsBy f → IsFrom f

  -- [BY unit] [TO unit] [WHILE Serial] DO Serial OD
  pub data IsBy : Forest → Type 0 where
    by_ : {j : NodeKind} {u f : Forest} → IsUnit j u → IsTo f → IsBy (mark t.By (part k.By (part j u end) f))
    no_by : {f : Forest} → IsTo f → IsBy f

  -- [TO unit] [WHILE Serial] DO Serial OD
  pub data IsTo : Forest → Type 0 where
    to_ : {j : NodeKind} {u f : Forest} → IsUnit j u → IsWhile f → IsTo (mark t.To (part k.To (part j u end) f))
    no_to : {f : Forest} → IsWhile f → IsTo f

  -- [WHILE Serial] DO Serial OD
  pub data IsWhile : Forest → Type 0 where
    while_ : {a d : Forest} → IsEnquiry a → IsSerial d → IsWhile (mark t.While (part k.While (part k.Serial a end) (group b.Do (part k.Serial d end) end)))
    no_while : {d : Forest} → IsSerial d → IsWhile (group b.Do (part k.Serial d end) end)

  -- spec unit {',' spec unit}
  pub data IsChoices : Forest → Type 0 where
    choice_one : {j : NodeKind} {s u : Forest} → IsSpec s → IsUnit j u → IsChoices (part k.Spec s (part j u end))
    choice_more : {j : NodeKind} {s u f : Forest} → IsSpec s → IsUnit j u → IsChoices f → IsChoices (part k.Spec s (part j u (mark t.Comma f)))

  -- '(' declarer [tag] ')' ':'
  pub data IsSpec : Forest → Type 0 where
    spec : {d : Forest} → IsDeclarer d → IsSpec (group b.Round (part k.Declarer d end) (mark t.Colon end))
    spec_tag : {d : Forest} → IsDeclarer d → IsSpec (group b.Round (part k.Declarer d (part k.Parameter (mark t.Tag end) end)) (mark t.Colon end))

  -- step {(';' step) | (EXIT label step)}: up to the first label
  pub data IsSerial : Forest → Type 0 where
    serial_one : {j : NodeKind} {u : Forest} → IsUnit j u → IsSerial (part j u end)
    serial_unit : {j : NodeKind} {u f : Forest} → IsUnit j u → IsSerial f → IsSerial (part j u (mark t.Semicolon f))
    serial_declaration : {d f : Forest} → IsDeclaration d → IsSerial f → IsSerial (joined d (mark t.Semicolon f))
    serial_exit : {j : NodeKind} {u f : Forest} → IsUnit j u → IsLabelled f → IsSerial (part j u (part k.Exit (mark t.Exit end) f))
    serial_labelled : {f : Forest} → IsLabelled f → IsSerial f

  -- label steps: from a label on, behind which no declaration stands
  pub data IsLabelled : Forest → Type 0 where
    label : {f : Forest} → IsSteps f → IsLabelled (part k.Label (mark t.Tag (mark t.Colon end)) f)

  -- {label} unit {(';' {label} unit) | (EXIT label {label} unit)}
  pub data IsSteps : Forest → Type 0 where
    steps_labelled : {f : Forest} → IsLabelled f → IsSteps f
    steps_last : {j : NodeKind} {u : Forest} → IsUnit j u → IsSteps (part j u end)
    steps_unit : {j : NodeKind} {u f : Forest} → IsUnit j u → IsSteps f → IsSteps (part j u (mark t.Semicolon f))
    steps_exit : {j : NodeKind} {u f : Forest} → IsUnit j u → IsLabelled f → IsSteps (part j u (part k.Exit (mark t.Exit end) f))

  -- {phrase ';'} unit: between IF and THEN, behind WHILE, and so on
  pub data IsEnquiry : Forest → Type 0 where
    enquiry_one : {j : NodeKind} {u : Forest} → IsUnit j u → IsEnquiry (part j u end)
    enquiry_unit : {j : NodeKind} {u f : Forest} → IsUnit j u → IsEnquiry f → IsEnquiry (part j u (mark t.Semicolon f))
    enquiry_declaration : {d f : Forest} → IsDeclaration d → IsEnquiry f → IsEnquiry (joined d (mark t.Semicolon f))

  -- unit {',' unit}
  pub data IsUnits : Forest → Type 0 where
    unit_one : {j : NodeKind} {u : Forest} → IsUnit j u → IsUnits (part j u end)
    unit_more : {j : NodeKind} {u f : Forest} → IsUnit j u → IsUnits f → IsUnits (part j u (mark t.Comma f))

  -- unit ',' unit {',' unit}
  pub data IsUnits2 : Forest → Type 0 where
    two : {j : NodeKind} {u f : Forest} → IsUnit j u → IsUnits f → IsUnits2 (part j u (mark t.Comma f))

  -- Assignation | Identity | RoutineText | Skip | GoTo | tertiary
  pub data IsUnit : NodeKind → Forest → Type 0 where
    assignation : {i j : NodeKind} {a u : Forest} → IsTertiary i a → IsUnit j u → IsUnit k.Assignation (part i a (mark t.Becomes (part j u end)))
    identity_is : {i j : NodeKind} {a u : Forest} → IsTertiary i a → IsTertiary j u → IsUnit k.Identity (part i a (mark t.Is (part j u end)))
    identity_isnt : {i j : NodeKind} {a u : Forest} → IsTertiary i a → IsTertiary j u → IsUnit k.Identity (part i a (mark t.Isnt (part j u end)))
    routine : {f : Forest} → IsRoutine f → IsUnit k.RoutineText f
    skip : IsUnit k.Skip (mark t.Skip end)
    go_to : IsUnit k.GoTo (mark t.Go (mark t.To (mark t.Tag end)))
    goto_ : IsUnit k.GoTo (mark t.Goto (mark t.Tag end))
    tertiary : {j : NodeKind} {u : Forest} → IsTertiary j u → IsUnit j u

  -- ['(' params ')'] (declarer | VOID) ':' unit
  pub data IsRoutine : Forest → Type 0 where
    routine_params : {p f : Forest} → IsParams k.Parameter p → IsResult f → IsRoutine (group b.Round p f)
    routine_plain : {f : Forest} → IsResult f → IsRoutine f

  pub data IsResult : Forest → Type 0 where
    result : {j : NodeKind} {d u : Forest} → IsDeclarer d → IsUnit j u → IsResult (part k.Declarer d (mark t.Colon (part j u end)))
    result_void : {j : NodeKind} {u : Forest} → IsUnit j u → IsResult (part k.VoidWord (mark t.Void end) (mark t.Colon (part j u end)))

  -- declarer tag {',' tag} {',' declarer tag {',' tag}}: of parameters, or of fields
  pub data IsParams : NodeKind → Forest → Type 0 where
    params : {i : NodeKind} {d f : Forest} → IsDeclarer d → IsTags i f → IsParams i (part k.Declarer d f)

  pub data IsTags : NodeKind → Forest → Type 0 where
    tags_end : {i : NodeKind} → IsTags i (part i (mark t.Tag end) end)
    tags_more : {i : NodeKind} {f : Forest} → IsTags i f → IsTags i (part i (mark t.Tag end) (mark t.Comma f))
    tags_next : {i : NodeKind} {f : Forest} → IsParams i f → IsTags i (part i (mark t.Tag end) (mark t.Comma f))

  -- Nil | Formula | secondary
  pub data IsTertiary : NodeKind → Forest → Type 0 where
    nil : IsTertiary k.Nil (mark t.Nil end)
    monadic : {s : Token} {f : Forest} → IsMonadic s → IsOperands f → IsTertiary k.Formula (sign s f)
    dyadic : {j : NodeKind} {s : Token} {u f : Forest} → IsSecondary j u → IsSign s → IsOperands f → IsTertiary k.Formula (part j u (sign s f))
    secondary : {j : NodeKind} {u : Forest} → IsSecondary j u → IsTertiary j u

  -- {sign} secondary {sign {sign} secondary}
  pub data IsOperands : Forest → Type 0 where
    operand_sign : {s : Token} {f : Forest} → IsMonadic s → IsOperands f → IsOperands (sign s f)
    operand_last : {j : NodeKind} {u : Forest} → IsSecondary j u → IsOperands (part j u end)
    operand_next : {j : NodeKind} {s : Token} {u f : Forest} → IsSecondary j u → IsSign s → IsOperands f → IsOperands (part j u (sign s f))

  -- Selection | Generator | primary
  pub data IsSecondary : NodeKind → Forest → Type 0 where
    selection : {j : NodeKind} {u : Forest} → IsSecondary j u → IsSecondary k.Selection (mark t.Tag (mark t.Of (part j u end)))
    generator_loc : {d : Forest} → IsDeclarer d → IsSecondary k.Generator (mark t.Loc (part k.Declarer d end))
    generator_heap : {d : Forest} → IsDeclarer d → IsSecondary k.Generator (mark t.Heap (part k.Declarer d end))
    primary : {j : NodeKind} {u : Forest} → IsPrimary j u → IsSecondary j u

  -- Slice | Call | Cast | Tag | Denotation | LongDenotation | enclosed
  pub data IsPrimary : NodeKind → Forest → Type 0 where
    slice : {j : NodeKind} {u i : Forest} → IsPrimary j u → IsIndexes i → IsPrimary k.Slice (part j u (group b.Square i end))
    call : {j : NodeKind} {u f : Forest} → IsPrimary j u → IsUnits f → IsPrimary k.Call (part j u (group b.Round f end))
    cast : {j : NodeKind} {d u : Forest} → IsDeclarer d → IsEnclosed j u → IsPrimary k.Cast (part k.Declarer d (part j u end))
    cast_void : {j : NodeKind} {u : Forest} → IsEnclosed j u → IsPrimary k.Cast (part k.VoidWord (mark t.Void end) (part j u end))
    tag : IsPrimary k.Tag (mark t.Tag end)
    denotation : {d : Token} → IsDenotation d → IsPrimary k.Denotation (mark d end)
    long_denotation : {d : Token} → IsNumber d → IsPrimary k.LongDenotation (mark t.Long (mark d end))
    enclosed : {j : NodeKind} {u : Forest} → IsEnclosed j u → IsPrimary j u

  -- index {',' index}
  pub data IsIndexes : Forest → Type 0 where
    index_one : {i : Forest} → IsIndex i → IsIndexes (part k.Index i end)
    index_more : {i f : Forest} → IsIndex i → IsIndexes f → IsIndexes (part k.Index i (mark t.Comma f))

  -- unit | [unit] ':' [unit] [AT unit] | AT unit | nothing
  pub data IsIndex : Forest → Type 0 where
    index_unit : {j : NodeKind} {u : Forest} → IsUnit j u → IsIndex (part j u end)
    index_from : {j : NodeKind} {u f : Forest} → IsUnit j u → IsTrimmer f → IsIndex (part k.Lower (part j u end) (mark t.Colon f))
    index_colon : {f : Forest} → IsTrimmer f → IsIndex (mark t.Colon f)
    index_at : {f : Forest} → IsAt f → IsIndex f

  -- [unit] [AT unit]
  pub data IsTrimmer : Forest → Type 0 where
    trimmer_upper : {j : NodeKind} {u f : Forest} → IsUnit j u → IsAt f → IsTrimmer (part k.Upper (part j u end) f)
    trimmer_open : {f : Forest} → IsAt f → IsTrimmer f

  -- [AT unit]
  pub data IsAt : Forest → Type 0 where
    at_ : {j : NodeKind} {u : Forest} → IsUnit j u → IsAt (mark t.At (part k.At (part j u end) end))
    no_at : IsAt end

  -- INT .. | LONG INT | word | REF declarer | [FLEX] '[' bounds ']' declarer | STRUCT | UNION | PROC
  pub data IsDeclarer : Forest → Type 0 where
    plain : {s : Token} → IsPlain s → IsDeclarer (mark s end)
    long_int : IsDeclarer (mark t.Long (mark t.Int end))
    mode_word : IsDeclarer (mark t.ModeWord end)
    ref : {d : Forest} → IsDeclarer d → IsDeclarer (mark t.Ref (part k.Declarer d end))
    rows : {f d : Forest} → IsBounds f → IsDeclarer d → IsDeclarer (group b.Square f (part k.Declarer d end))
    flex : {f d : Forest} → IsBounds f → IsDeclarer d → IsDeclarer (mark t.Flex (group b.Square f (part k.Declarer d end)))
    struct_ : {f : Forest} → IsParams k.Field f → IsDeclarer (mark t.Struct (group b.Round f end))
    union_ : {d f : Forest} → IsDeclarer d → IsDeclarers f → IsDeclarer (mark t.Union (group b.Round (part k.Declarer d (mark t.Comma f)) end))
    proc : {f : Forest} → IsYield f → IsDeclarer (mark t.Proc f)
    proc_params : {p f : Forest} → IsDeclarers p → IsYield f → IsDeclarer (mark t.Proc (group b.Round p f))

  -- declarer | VOID
  pub data IsYield : Forest → Type 0 where
    yield_ : {d : Forest} → IsDeclarer d → IsYield (part k.Declarer d end)
    yield_void : IsYield (part k.VoidWord (mark t.Void end) end)

  -- declarer {',' declarer}
  pub data IsDeclarers : Forest → Type 0 where
    declarer_one : {d : Forest} → IsDeclarer d → IsDeclarers (part k.Declarer d end)
    declarer_more : {d f : Forest} → IsDeclarer d → IsDeclarers f → IsDeclarers (part k.Declarer d (mark t.Comma f))

  -- bound {',' bound}
  pub data IsBounds : Forest → Type 0 where
    bound_one : {i : Forest} → IsBound i → IsBounds (part k.Bound i end)
    bound_more : {i f : Forest} → IsBound i → IsBounds f → IsBounds (part k.Bound i (mark t.Comma f))

  -- nothing | ':' | unit | unit ':' unit
  pub data IsBound : Forest → Type 0 where
    bound_none : IsBound end
    bound_colon : IsBound (mark t.Colon end)
    bound_upper : {j : NodeKind} {u : Forest} → IsUnit j u → IsBound (part k.Upper (part j u end) end)
    bound_both : {i j : NodeKind} {l u : Forest} → IsUnit i l → IsUnit j u → IsBound (part k.Lower (part i l end) (mark t.Colon (part k.Upper (part j u end) end)))

  -- declaration {',' declaration}: one definition, or a node Joined with several; what a definition shares stands before it
  pub data IsDeclaration : Forest → Type 0 where
    single : {f : Forest} → IsDefinitions f → Single f → IsDeclaration (forget f)
    joined_ : {f : Forest} → IsDefinitions f → Several f → IsDeclaration (part k.Joined (forget f) end)

  -- declaration {',' declaration}
  pub data IsDefinitions : Forest → Type 0 where
    declared : {f : Forest} → IsDeclared f → IsDefinitions f
    and_then : {f h : Forest} → IsDeclared f → IsDefinitions h → IsDefinitions (joined f (mark t.Comma (forget h)))

  -- one declaration: its definitions, with what they share set aside in front of them
  pub data IsDeclared : Forest → Type 0 where
    mode_ : {f : Forest} → IsModes f → IsDeclared (mark t.Mode f)
    prio_ : {f : Forest} → IsPriorities f → IsDeclared (mark t.Prio f)
    op_ : {f : Forest} → IsOps f → IsDeclared (mark t.Op f)
    op_plan : {p f : Forest} → IsPlan p → IsPlanned f → IsDeclared (mark t.Op (aside k.Plan p f))
    identities : {d f : Forest} → IsDeclarer d → IsIdentities f → IsDeclared (aside k.Declarer d f)
    procs : {f : Forest} → IsProcs t.Equals k.IdentityDefinition f → IsDeclared (mark t.Proc f)
    proc_variables : {f : Forest} → IsProcs t.Becomes k.Variable f → IsDeclared (mark t.Proc f)
    variables : {d f : Forest} → IsDeclarer d → IsVariables f → IsDeclared (aside k.Declarer d f)
    loc_variables : {d f : Forest} → IsDeclarer d → IsVariables f → IsDeclared (mark t.Loc (aside k.Declarer d f))
    heap_variables : {d f : Forest} → IsDeclarer d → IsVariables f → IsDeclared (aside k.Heap (mark t.Heap end) (aside k.Declarer d f))

  -- word '=' declarer {',' ..}
  pub data IsModes : Forest → Type 0 where
    mode_one : {d : Forest} → IsDeclarer d → IsModes (part k.ModeDefinition (mark t.ModeWord (mark t.Equals (part k.Declarer d end))) end)
    mode_more : {d f : Forest} → IsDeclarer d → IsModes f → IsModes (part k.ModeDefinition (mark t.ModeWord (mark t.Equals (part k.Declarer d end))) (mark t.Comma f))

  -- sign '=' digit {',' ..}
  pub data IsPriorities : Forest → Type 0 where
    prio_one : {s : Token} → IsSign s → IsPriorities (part k.Priority (mark s (mark t.Equals (part k.Digit (mark t.Digit end) end))) end)
    prio_more : {s : Token} {f : Forest} → IsSign s → IsPriorities f → IsPriorities (part k.Priority (mark s (mark t.Equals (part k.Digit (mark t.Digit end) end))) (mark t.Comma f))

  -- sign '=' RoutineText {',' ..}
  pub data IsOps : Forest → Type 0 where
    op_one : {s : Token} {r : Forest} → IsSign s → IsRoutine r → IsOps (part k.OpDefinition (mark s (mark t.Equals (part k.RoutineText r end))) end)
    op_more : {s : Token} {r f : Forest} → IsSign s → IsRoutine r → IsOps f → IsOps (part k.OpDefinition (mark s (mark t.Equals (part k.RoutineText r end))) (mark t.Comma f))

  -- '(' declarer [',' declarer] ')' (declarer | VOID)
  pub data IsPlan : Forest → Type 0 where
    plan_one : {d f : Forest} → IsDeclarer d → IsYield f → IsPlan (group b.Round (part k.Declarer d end) f)
    plan_two : {c d f : Forest} → IsDeclarer c → IsDeclarer d → IsYield f → IsPlan (group b.Round (part k.Declarer c (mark t.Comma (part k.Declarer d end))) f)

  -- sign '=' unit {',' ..}
  pub data IsPlanned : Forest → Type 0 where
    planned_one : {j : NodeKind} {s : Token} {u : Forest} → IsSign s → IsUnit j u → IsPlanned (part k.OpDefinition (shared (mark s (mark t.Equals (part j u end)))) end)
    planned_more : {j : NodeKind} {s : Token} {u f : Forest} → IsSign s → IsUnit j u → IsPlanned f → IsPlanned (part k.OpDefinition (shared (mark s (mark t.Equals (part j u end)))) (mark t.Comma f))

  -- tag '=' unit {',' ..}
  pub data IsIdentities : Forest → Type 0 where
    identity_one : {j : NodeKind} {u : Forest} → IsUnit j u → IsIdentities (part k.IdentityDefinition (shared (mark t.Tag (mark t.Equals (part j u end)))) end)
    identity_more : {j : NodeKind} {u f : Forest} → IsUnit j u → IsIdentities f → IsIdentities (part k.IdentityDefinition (shared (mark t.Tag (mark t.Equals (part j u end)))) (mark t.Comma f))

  -- tag ('=' | ':=') RoutineText {',' ..}
  pub data IsProcs : Token → NodeKind → Forest → Type 0 where
    procs_one : {s : Token} {i : NodeKind} {r : Forest} → IsRoutine r → IsProcs s i (part i (mark t.Tag (mark s (part k.RoutineText r end))) end)
    procs_more : {s : Token} {i : NodeKind} {r f : Forest} → IsRoutine r → IsProcs s i f → IsProcs s i (part i (mark t.Tag (mark s (part k.RoutineText r end))) (mark t.Comma f))

  -- tag [':=' unit] {',' ..}
  pub data IsVariables : Forest → Type 0 where
    variable_one : {f : Forest} → IsVariable f → IsVariables (part k.Variable f end)
    variable_more : {f g : Forest} → IsVariable f → IsVariables g → IsVariables (part k.Variable f (mark t.Comma g))

  pub data IsVariable : Forest → Type 0 where
    variable : IsVariable (shared (mark t.Tag end))
    variable_set : {j : NodeKind} {u : Forest} → IsUnit j u → IsVariable (shared (mark t.Tag (mark t.Becomes (part j u end))))
