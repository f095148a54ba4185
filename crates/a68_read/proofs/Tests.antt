-- What the tests on the first symbols say of the forms of the grammar.
use Rattle.std.proofs.Common.{◌≡◌, Bool, true, false, List, ◌∷◌, refl, ◌||◌}
use Rattle.a68_tree.specs.declared.kind.NodeKind.{NodeKind}
use Rattle.a68_symbols.specs.declared.sym.Token.{Token}
use Rattle.a68_symbols.specs.declared.sym.Token.TheVariants as t
use Rattle.a68_symbols.specs.declared.sym.Bracket.TheVariants as b
use Rattle.a68_symbols.specs.declared.sym.Sym.{Sym}
use Rattle.a68_symbols.specs.declared.sym.Sym.TheVariants.{Opens, Closes, Is}
use Rattle.a68_tree.specs.Forest.{Forest, spells}
use Rattle.a68_tree.specs.Grammar as gr
use Rattle.a68_lookahead.specs.Symbols.{Follows, next, starts, starts_pair, label_ahead, is_monadic, is_operator, is_denotation, is_declarer, ends_trimmer, ends_bound}
use Rattle.a68_lookahead.specs.Sets as set
use Rattle.a68_lookahead.proofs.Firsts as first
use Rattle.a68_lookahead.proofs.Firsts.{no_first, no_next, no_first_pair}
use Rattle.a68_unit_productions.specs.declared.goal.Defining.{Defining}
use Rattle.a68_unit_productions.specs.declared.goal.Defining.TheVariants as d
use Rattle.a68_read.specs.Middles as m
use Rattle.a68_read.specs.Middles.{IsDefinition, AreJoinedDefinitions, run}
use Rattle.a68_read.specs.Awaits as a
use Rattle.a68_read.specs.Awaits.{IsDeclaring, IsNamed, EndsPlace, place_comma, place_closes}

-- where none of the symbols stands first, none of the tests holds
or3 : {p q r : Bool} → p ≡ false → q ≡ false → r ≡ false → (p || (q || r)) ≡ false
or3 e f g = rw (e, f, g) refl

or6 : {p q r s v w : Bool} → p ≡ false → q ≡ false → r ≡ false → s ≡ false → v ≡ false → w ≡ false → (p || (q || (r || (s || (v || w))))) ≡ false
or6 e f g h i j = rw (e, f, g, h, i, j) refl

or4 : {p q r s : Bool} → p ≡ false → q ≡ false → r ≡ false → s ≡ false → (p || (q || (r || s))) ≡ false
or4 e f g h = rw (e, f, g, h) refl

or2 : {p q : Bool} → p ≡ false → q ≡ false → (p || q) ≡ false
or2 e f = rw (e, f) refl

-- ---- monadic signs and operators

pub not_monadic : {j : NodeKind} {u : Forest} → gr.IsSecondary j u → (r : List Sym) → is_monadic (spells u r) ≡ false
not_monadic p r =
    let e = first.first_secondary p r in
    or3 (no_first set.begins_secondary (Is t.Plus) refl e) (no_first set.begins_secondary (Is t.Minus) refl e) (no_first set.begins_secondary (Is t.Monad) refl e)

pub not_operator : {r : List Sym} → Follows set.ends_tertiary r → is_operator r ≡ false
not_operator o =
    or4 (or3 (no_next set.ends_tertiary (Is t.Plus) refl o) (no_next set.ends_tertiary (Is t.Minus) refl o) (no_next set.ends_tertiary (Is t.Monad) refl o))
    (or6 (no_next set.ends_tertiary (Is t.Equals) refl o) (no_next set.ends_tertiary (Is t.Differs) refl o) (no_next set.ends_tertiary (Is t.Less) refl o) (no_next set.ends_tertiary (Is t.AtMost) refl o) (no_next set.ends_tertiary (Is t.Greater) refl o) (no_next set.ends_tertiary (Is t.AtLeast) refl o))
    (no_next set.ends_tertiary (Is t.Times) refl o) (no_next set.ends_tertiary (Is t.Nomad) refl o)

pub monadic_first : {s : Token} → gr.IsMonadic s → (r : List Sym) → is_monadic (Is s ∷ r) ≡ true
monadic_first gr.monadic_plus r = refl
monadic_first gr.monadic_minus r = refl
monadic_first gr.monadic_other r = refl

pub operator_first : {s : Token} → gr.IsSign s → (r : List Sym) → is_operator (Is s ∷ r) ≡ true
operator_first (gr.sign_monadic gr.monadic_plus) r = refl
operator_first (gr.sign_monadic gr.monadic_minus) r = refl
operator_first (gr.sign_monadic gr.monadic_other) r = refl
operator_first gr.sign_times r = refl
operator_first gr.sign_equals r = refl
operator_first gr.sign_differs r = refl
operator_first gr.sign_less r = refl
operator_first gr.sign_at_most r = refl
operator_first gr.sign_greater r = refl
operator_first gr.sign_at_least r = refl
operator_first gr.sign_other r = refl

pub sign_follows : {s : Token} → gr.IsSign s → (r : List Sym) → Follows set.ends_secondary (Is s ∷ r)
sign_follows (gr.sign_monadic gr.monadic_plus) r = next refl
sign_follows (gr.sign_monadic gr.monadic_minus) r = next refl
sign_follows (gr.sign_monadic gr.monadic_other) r = next refl
sign_follows gr.sign_times r = next refl
sign_follows gr.sign_equals r = next refl
sign_follows gr.sign_differs r = next refl
sign_follows gr.sign_less r = next refl
sign_follows gr.sign_at_most r = next refl
sign_follows gr.sign_greater r = next refl
sign_follows gr.sign_at_least r = next refl
sign_follows gr.sign_other r = next refl

-- ---- primaries

pub declarer_first : {c : Forest} → gr.IsDeclarer c → (r : List Sym) → is_declarer (spells c r) ≡ true
declarer_first (gr.plain gr.plain_int) r = refl
declarer_first (gr.plain gr.plain_other) r = refl
declarer_first gr.long_int r = refl
declarer_first gr.mode_word r = refl
declarer_first (gr.ref p) r = refl
declarer_first (gr.rows p q) r = refl
declarer_first (gr.flex p q) r = refl
declarer_first (gr.struct_ p) r = refl
declarer_first (gr.union_ p q) r = refl
declarer_first (gr.proc p) r = refl
declarer_first (gr.proc_params p q) r = refl

pub declarer_no_denotation : {c : Forest} → gr.IsDeclarer c → (r : List Sym) → is_denotation (spells c r) ≡ false
declarer_no_denotation p r =
    let e = first.first_declarer p r in
    or6 (no_first set.begins_declarer (Is t.Digit) refl e) (no_first set.begins_declarer (Is t.Number) refl e) (no_first set.begins_declarer (Is t.BitsNumber) refl e) (no_first set.begins_declarer (Is t.Quoted) refl e) (no_first set.begins_declarer (Is t.True) refl e) (no_first set.begins_declarer (Is t.False) refl e)

pub enclosed_no_denotation : {j : NodeKind} {u : Forest} → gr.IsEnclosed j u → (r : List Sym) → is_denotation (spells u r) ≡ false
enclosed_no_denotation p r =
    let e = first.first_enclosed p r in
    or6 (no_first set.begins_enclosed (Is t.Digit) refl e) (no_first set.begins_enclosed (Is t.Number) refl e) (no_first set.begins_enclosed (Is t.BitsNumber) refl e) (no_first set.begins_enclosed (Is t.Quoted) refl e) (no_first set.begins_enclosed (Is t.True) refl e) (no_first set.begins_enclosed (Is t.False) refl e)

-- the same of LONG and a number
pub declarer_no_long : {c : Forest} → gr.IsDeclarer c → {s : Token} → gr.IsNumber s → (r : List Sym) → starts_pair (Is t.Long) (Is s) (spells c r) ≡ false
declarer_no_long (gr.plain gr.plain_int) n r = refl
declarer_no_long (gr.plain gr.plain_other) n r = refl
declarer_no_long gr.long_int gr.number_digit r = refl
declarer_no_long gr.long_int gr.number_other r = refl
declarer_no_long gr.mode_word n r = refl
declarer_no_long (gr.ref p) n r = refl
declarer_no_long (gr.rows p q) n r = refl
declarer_no_long (gr.flex p q) n r = refl
declarer_no_long (gr.struct_ p) n r = refl
declarer_no_long (gr.union_ p q) n r = refl
declarer_no_long (gr.proc p) n r = refl
declarer_no_long (gr.proc_params p q) n r = refl

pub enclosed_no_long : {j : NodeKind} {u : Forest} → gr.IsEnclosed j u → (s : Sym) (r : List Sym) → starts_pair (Is t.Long) s (spells u r) ≡ false
enclosed_no_long p s r = no_first_pair set.begins_enclosed (Is t.Long) s refl (first.first_enclosed p r)

or9 : {a b c d e f g h i : Bool} → a ≡ false → b ≡ false → c ≡ false → d ≡ false → e ≡ false → f ≡ false → g ≡ false → h ≡ false → i ≡ false → (a || (b || (c || (d || (e || (f || (g || (h || i)))))))) ≡ false
or9 j k l m n o p q r = rw (j, k, l, m, n, o, p, q, r) refl

pub enclosed_no_declarer : {j : NodeKind} {u : Forest} → gr.IsEnclosed j u → (r : List Sym) → is_declarer (spells u r) ≡ false
enclosed_no_declarer p r =
    let e = first.first_enclosed p r in
    or9 (or2 (no_first set.begins_enclosed (Is t.Int) refl e) (no_first set.begins_enclosed (Is t.Plain) refl e)) (no_first set.begins_enclosed (Is t.Long) refl e) (no_first set.begins_enclosed (Is t.ModeWord) refl e) (no_first set.begins_enclosed (Is t.Ref) refl e) (no_first set.begins_enclosed (Is t.Flex) refl e) (no_first set.begins_enclosed (Is t.Struct) refl e) (no_first set.begins_enclosed (Is t.Union) refl e) (no_first set.begins_enclosed (Is t.Proc) refl e) (no_first set.begins_enclosed (Opens b.Square) refl e)

-- a tag before OF is no primary
pub no_selection : {j : NodeKind} {u : Forest} → gr.IsPrimary j u → (r : List Sym) → Follows set.ends_base r → starts_pair (Is t.Tag) (Is t.Of) (spells u r) ≡ false
no_selection (gr.slice {i = i} p l) r o = no_selection p (Opens b.Square ∷ spells i (Closes b.Square ∷ r)) (next refl)
no_selection (gr.call {f = f} p l) r o = no_selection p (Opens b.Round ∷ spells f (Closes b.Round ∷ r)) (next refl)
no_selection (gr.cast {u = u} p q) r o = no_first_pair set.begins_declarer (Is t.Tag) (Is t.Of) refl (first.first_declarer p (spells u r))
no_selection (gr.cast_void p) r o = refl
no_selection gr.tag r o = no_next set.ends_base (Is t.Of) refl o
no_selection (gr.denotation gr.denotation_digit) r o = refl
no_selection (gr.denotation gr.denotation_number) r o = refl
no_selection (gr.denotation gr.denotation_bits) r o = refl
no_selection (gr.denotation gr.denotation_quoted) r o = refl
no_selection (gr.denotation gr.denotation_true) r o = refl
no_selection (gr.denotation gr.denotation_false) r o = refl
no_selection (gr.long_denotation p) r o = refl
no_selection (gr.enclosed p) r o = no_first_pair set.begins_enclosed (Is t.Tag) (Is t.Of) refl (first.first_enclosed p r)

-- ---- places in square brackets

pub unit_no_bound : {j : NodeKind} {u : Forest} → gr.IsUnit j u → (r : List Sym) → ends_bound (spells u r) ≡ false
unit_no_bound p r = let e = first.first_unit p r in or2 (no_first set.begins_unit (Is t.Comma) refl e) (no_first set.begins_unit (Closes b.Square) refl e)

pub unit_no_trimmer : {j : NodeKind} {u : Forest} → gr.IsUnit j u → (r : List Sym) → ends_trimmer (spells u r) ≡ false
unit_no_trimmer p r = or2 (no_first set.begins_unit (Is t.At) refl (first.first_unit p r)) (unit_no_bound p r)

pub place_unit : {r : List Sym} → EndsPlace r → Follows set.ends_unit r
place_unit place_comma = next refl
place_unit place_closes = next refl

pub at_unit : {f : Forest} {r : List Sym} → gr.IsAt f → EndsPlace r → Follows set.ends_unit (spells f r)
at_unit (gr.at_ p) o = next refl
at_unit gr.no_at o = place_unit o

-- ---- labels

-- a unit begins with a tag and a colon only where it is a tag before a colon
primary_unlabelled : {j : NodeKind} {u : Forest} → gr.IsPrimary j u → (r : List Sym) → starts (Is t.Colon) r ≡ false → label_ahead (spells u r) ≡ false
primary_unlabelled (gr.slice {i = i} p l) r o = primary_unlabelled p (Opens b.Square ∷ spells i (Closes b.Square ∷ r)) refl
primary_unlabelled (gr.call {f = f} p l) r o = primary_unlabelled p (Opens b.Round ∷ spells f (Closes b.Round ∷ r)) refl
primary_unlabelled (gr.cast {u = u} p q) r o = no_first_pair set.begins_declarer (Is t.Tag) (Is t.Colon) refl (first.first_declarer p (spells u r))
primary_unlabelled (gr.cast_void p) r o = refl
primary_unlabelled gr.tag r o = o
primary_unlabelled (gr.denotation gr.denotation_digit) r o = refl
primary_unlabelled (gr.denotation gr.denotation_number) r o = refl
primary_unlabelled (gr.denotation gr.denotation_bits) r o = refl
primary_unlabelled (gr.denotation gr.denotation_quoted) r o = refl
primary_unlabelled (gr.denotation gr.denotation_true) r o = refl
primary_unlabelled (gr.denotation gr.denotation_false) r o = refl
primary_unlabelled (gr.long_denotation p) r o = refl
primary_unlabelled (gr.enclosed p) r o = no_first_pair set.begins_enclosed (Is t.Tag) (Is t.Colon) refl (first.first_enclosed p r)

secondary_unlabelled : {j : NodeKind} {u : Forest} → gr.IsSecondary j u → (r : List Sym) → starts (Is t.Colon) r ≡ false → label_ahead (spells u r) ≡ false
secondary_unlabelled (gr.selection p) r o = refl
secondary_unlabelled (gr.generator_loc p) r o = refl
secondary_unlabelled (gr.generator_heap p) r o = refl
secondary_unlabelled (gr.primary p) r o = primary_unlabelled p r o

sign_no_colon : {s : Token} → gr.IsSign s → (r : List Sym) → starts (Is t.Colon) (Is s ∷ r) ≡ false
sign_no_colon (gr.sign_monadic gr.monadic_plus) r = refl
sign_no_colon (gr.sign_monadic gr.monadic_minus) r = refl
sign_no_colon (gr.sign_monadic gr.monadic_other) r = refl
sign_no_colon gr.sign_times r = refl
sign_no_colon gr.sign_equals r = refl
sign_no_colon gr.sign_differs r = refl
sign_no_colon gr.sign_less r = refl
sign_no_colon gr.sign_at_most r = refl
sign_no_colon gr.sign_greater r = refl
sign_no_colon gr.sign_at_least r = refl
sign_no_colon gr.sign_other r = refl

tertiary_unlabelled : {j : NodeKind} {u : Forest} → gr.IsTertiary j u → (r : List Sym) → starts (Is t.Colon) r ≡ false → label_ahead (spells u r) ≡ false
tertiary_unlabelled gr.nil r o = refl
tertiary_unlabelled (gr.monadic gr.monadic_plus q) r o = refl
tertiary_unlabelled (gr.monadic gr.monadic_minus q) r o = refl
tertiary_unlabelled (gr.monadic gr.monadic_other q) r o = refl
tertiary_unlabelled (gr.dyadic {s = s} {f = f} p q l) r o = secondary_unlabelled p (Is s ∷ spells f r) (sign_no_colon q (spells f r))
tertiary_unlabelled (gr.secondary p) r o = secondary_unlabelled p r o

pub unit_unlabelled : {j : NodeKind} {u : Forest} → gr.IsUnit j u → (r : List Sym) → starts (Is t.Colon) r ≡ false → label_ahead (spells u r) ≡ false
unit_unlabelled (gr.assignation {u = u} p q) r o = tertiary_unlabelled p (Is t.Becomes ∷ spells u r) refl
unit_unlabelled (gr.identity_is {u = u} p q) r o = tertiary_unlabelled p (Is t.Is ∷ spells u r) refl
unit_unlabelled (gr.identity_isnt {u = u} p q) r o = tertiary_unlabelled p (Is t.Isnt ∷ spells u r) refl
unit_unlabelled (gr.routine (gr.routine_params p q)) r o = refl
unit_unlabelled (gr.routine (gr.routine_plain p)) r o = no_first_pair set.begins_result (Is t.Tag) (Is t.Colon) refl (first.first_result p r)
unit_unlabelled gr.skip r o = refl
unit_unlabelled gr.go_to r o = refl
unit_unlabelled gr.goto_ r o = refl
unit_unlabelled (gr.tertiary p) r o = tertiary_unlabelled p r o

-- ---- routine texts

pub routine_no_skip : {f : Forest} → gr.IsRoutine f → (r : List Sym) → starts (Is t.Skip) (spells f r) ≡ false
routine_no_skip (gr.routine_params p q) r = refl
routine_no_skip (gr.routine_plain p) r = no_first set.begins_result (Is t.Skip) refl (first.first_result p r)

pub routine_no_go : {f : Forest} → gr.IsRoutine f → (r : List Sym) → starts (Is t.Go) (spells f r) ≡ false
routine_no_go (gr.routine_params p q) r = refl
routine_no_go (gr.routine_plain p) r = no_first set.begins_result (Is t.Go) refl (first.first_result p r)

pub routine_no_goto : {f : Forest} → gr.IsRoutine f → (r : List Sym) → starts (Is t.Goto) (spells f r) ≡ false
routine_no_goto (gr.routine_params p q) r = refl
routine_no_goto (gr.routine_plain p) r = no_first set.begins_result (Is t.Goto) refl (first.first_result p r)

pub yield_no_bracket : {f : Forest} → gr.IsYield f → (r : List Sym) → starts (Opens b.Round) (spells f r) ≡ false
yield_no_bracket (gr.yield_ p) r = no_first set.begins_declarer (Opens b.Round) refl (first.first_declarer p r)
yield_no_bracket gr.yield_void r = refl

-- ---- declarations

pub declarer_no_procedure : {c : Forest} → gr.IsDeclarer c → (r : List Sym) → starts_pair (Is t.Proc) (Is t.Tag) (spells c r) ≡ false
declarer_no_procedure (gr.plain gr.plain_int) r = refl
declarer_no_procedure (gr.plain gr.plain_other) r = refl
declarer_no_procedure gr.long_int r = refl
declarer_no_procedure gr.mode_word r = refl
declarer_no_procedure (gr.ref p) r = refl
declarer_no_procedure (gr.rows p q) r = refl
declarer_no_procedure (gr.flex p q) r = refl
declarer_no_procedure (gr.struct_ p) r = refl
declarer_no_procedure (gr.union_ p q) r = refl
declarer_no_procedure (gr.proc (gr.yield_ p)) r = no_first set.begins_declarer (Is t.Tag) refl (first.first_declarer p r)
declarer_no_procedure (gr.proc gr.yield_void) r = refl
declarer_no_procedure (gr.proc_params p q) r = refl

-- one more definition of the same declaration
pub goes_on : {y : Defining} {j : NodeKind} {u : Forest} → IsDefinition y j u → (r : List Sym) → Rattle.a68_unit_productions.specs.Declarations.goes_on y (spells u r) ≡ true
goes_on (m.defines_mode p) r = refl
goes_on (m.defines_priority s) r = operator_first s (Is t.Equals ∷ Is t.Digit ∷ r)
goes_on (m.defines_operator {r = z} s p) r = operator_first s (Is t.Equals ∷ spells z r)
goes_on (m.defines_planned {u = z} s p) r = operator_first s (Is t.Equals ∷ spells z r)
goes_on (m.defines_identity p) r = refl
goes_on (m.defines_procedure p) r = refl
goes_on (m.defines_procedure_variable p) r = refl
goes_on (m.defines_variable p) r = refl

-- or another declaration
named_tag : {f : Forest} → IsNamed f → (r : List Sym) → starts (Is t.Equals) (spells f r) ≡ false
named_tag (a.named_identities (run (m.defines_identity p) l)) r = refl
named_tag (a.named_variables (run (m.defines_variable p) l)) r = refl

anew_mode : {f : Forest} → IsDeclaring f → (r : List Sym) → starts_pair (Is t.ModeWord) (Is t.Equals) (spells f r) ≡ false
anew_mode (a.declares_modes p) r = refl
anew_mode (a.declares_priorities p) r = refl
anew_mode (a.declares_operators p) r = refl
anew_mode (a.declares_procedures p) r = refl
anew_mode (a.declares_local p q) r = refl
anew_mode (a.declares_heap p q) r = refl
anew_mode (a.declares_named (gr.plain gr.plain_int) n) r = refl
anew_mode (a.declares_named (gr.plain gr.plain_other) n) r = refl
anew_mode (a.declares_named gr.long_int n) r = refl
anew_mode (a.declares_named gr.mode_word n) r = named_tag n r
anew_mode (a.declares_named (gr.ref v) n) r = refl
anew_mode (a.declares_named (gr.rows v w) n) r = refl
anew_mode (a.declares_named (gr.flex v w) n) r = refl
anew_mode (a.declares_named (gr.struct_ v) n) r = refl
anew_mode (a.declares_named (gr.union_ v w) n) r = refl
anew_mode (a.declares_named (gr.proc v) n) r = refl
anew_mode (a.declares_named (gr.proc_params v w) n) r = refl

anew_operator : {f : Forest} → IsDeclaring f → (r : List Sym) → is_operator (spells f r) ≡ false
anew_operator (a.declares_modes p) r = refl
anew_operator (a.declares_priorities p) r = refl
anew_operator (a.declares_operators p) r = refl
anew_operator (a.declares_procedures p) r = refl
anew_operator (a.declares_local p q) r = refl
anew_operator (a.declares_heap p q) r = refl
anew_operator (a.declares_named (gr.plain gr.plain_int) n) r = refl
anew_operator (a.declares_named (gr.plain gr.plain_other) n) r = refl
anew_operator (a.declares_named gr.long_int n) r = refl
anew_operator (a.declares_named gr.mode_word n) r = refl
anew_operator (a.declares_named (gr.ref v) n) r = refl
anew_operator (a.declares_named (gr.rows v w) n) r = refl
anew_operator (a.declares_named (gr.flex v w) n) r = refl
anew_operator (a.declares_named (gr.struct_ v) n) r = refl
anew_operator (a.declares_named (gr.union_ v w) n) r = refl
anew_operator (a.declares_named (gr.proc v) n) r = refl
anew_operator (a.declares_named (gr.proc_params v w) n) r = refl

anew_tag : {f : Forest} → IsDeclaring f → (r : List Sym) → starts (Is t.Tag) (spells f r) ≡ false
anew_tag (a.declares_modes p) r = refl
anew_tag (a.declares_priorities p) r = refl
anew_tag (a.declares_operators p) r = refl
anew_tag (a.declares_procedures p) r = refl
anew_tag (a.declares_local p q) r = refl
anew_tag (a.declares_heap p q) r = refl
anew_tag (a.declares_named (gr.plain gr.plain_int) n) r = refl
anew_tag (a.declares_named (gr.plain gr.plain_other) n) r = refl
anew_tag (a.declares_named gr.long_int n) r = refl
anew_tag (a.declares_named gr.mode_word n) r = refl
anew_tag (a.declares_named (gr.ref v) n) r = refl
anew_tag (a.declares_named (gr.rows v w) n) r = refl
anew_tag (a.declares_named (gr.flex v w) n) r = refl
anew_tag (a.declares_named (gr.struct_ v) n) r = refl
anew_tag (a.declares_named (gr.union_ v w) n) r = refl
anew_tag (a.declares_named (gr.proc v) n) r = refl
anew_tag (a.declares_named (gr.proc_params v w) n) r = refl

pub anew : (y : Defining) {f : Forest} → IsDeclaring f → (r : List Sym) → Rattle.a68_unit_productions.specs.Declarations.goes_on y (spells f r) ≡ false
anew d.Mode p r = anew_mode p r
anew d.Priority p r = anew_operator p r
anew d.Operator p r = anew_operator p r
anew d.Planned p r = anew_operator p r
anew d.Identity p r = anew_tag p r
anew d.Procedure p r = anew_tag p r
anew d.ProcedureVariable p r = anew_tag p r
anew d.Variable p r = anew_tag p r
