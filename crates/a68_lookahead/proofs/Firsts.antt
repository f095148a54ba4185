-- With which symbol each form begins.
use Rattle.std.proofs.Common.{rules, ◌≡◌, Bool, true, false, List, ◌∷◌, refl, ◌∙◌, ap, ◌||◌, ◌&&◌}
use denote.Enum.Bare.{same_true}
use Rattle.a68_symbols.specs.contracts.sym.Bracket.{the_type as bracket_type}
use Rattle.a68_symbols.specs.contracts.sym.Token.{the_type as token_type}
use Rattle.a68_symbols.specs.declared.sym.Token.{Token}
use Rattle.a68_symbols.specs.declared.sym.Token.TheVariants as t
use Rattle.a68_symbols.specs.declared.sym.Bracket.TheVariants as b
use Rattle.a68_symbols.specs.declared.sym.Sym.{Sym}
use Rattle.a68_symbols.specs.declared.sym.Sym.TheVariants.{Opens, Closes, Is}
use Rattle.a68_tree.specs.declared.kind.NodeKind.{NodeKind}
use Rattle.a68_tree.specs.Forest.{Forest, spells}
use Rattle.a68_tree.specs.Grammar as g
use Rattle.a68_tree.specs.Grammar.{IsEnclosed, IsFor, IsFrom, IsBy, IsTo, IsWhile, IsUnit, IsRoutine, IsResult, IsTertiary, IsSecondary, IsPrimary, IsDeclarer}
use Rattle.a68_lookahead.specs.Symbols.{same, starts, starts_pair, Begins, Follows, at_end, next}
use Rattle.a68_lookahead.specs.Sets as set

pub or_left : (a b : Bool) → a ≡ true → (a || b) ≡ true
or_left true b e = refl
or_left false b e = absurd (cc)

pub or_right : (a b : Bool) → b ≡ true → (a || b) ≡ true
or_right true b e = refl
or_right false b e = e

-- a text that begins with a symbol of a set begins with one of a larger set
pub widen : (A B : Sym → Bool) → ((s : Sym) → A s ≡ true → B s ≡ true) → {x : List Sym} → Begins A x → Begins B x
widen A B up b = record { first = b.first; rest = b.rest; is = b.is; within = up b.first b.within }

pub here : (A : Sym → Bool) (s : Sym) {x : List Sym} → A s ≡ true → Begins A (s ∷ x)
here A s {x = x} e = record { first = s; rest = x; is = refl; within = e }

up_to : (s : Sym) → set.begins_while s ≡ true → set.begins_to s ≡ true
up_to s e = or_left (set.begins_while s) _ e

up_by : (s : Sym) → set.begins_to s ≡ true → set.begins_by s ≡ true
up_by s e = or_left (set.begins_to s) _ e

up_from : (s : Sym) → set.begins_by s ≡ true → set.begins_from s ≡ true
up_from s e = or_left (set.begins_by s) _ e

up_loop : (s : Sym) → set.begins_from s ≡ true → set.begins_loop s ≡ true
up_loop s e = or_left (set.begins_from s) _ e

up_enclosed : (s : Sym) → set.begins_loop s ≡ true → set.begins_enclosed s ≡ true
up_enclosed s e = or_left (set.begins_loop s) _ e

up_base : (s : Sym) → set.begins_enclosed s ≡ true → set.begins_base s ≡ true
up_base s e = or_left (set.begins_enclosed s) _ e

up_result : (s : Sym) → set.begins_declarer s ≡ true → set.begins_result s ≡ true
up_result s e = or_left (set.begins_declarer s) _ e

result_base : (s : Sym) → set.begins_result s ≡ true → set.begins_base s ≡ true
result_base s e = or_right (set.begins_enclosed s) _ (or_left (set.begins_result s) _ e)

up_secondary : (s : Sym) → set.begins_base s ≡ true → set.begins_secondary s ≡ true
up_secondary s e = or_left (set.begins_base s) _ e

up_tertiary : (s : Sym) → set.begins_secondary s ≡ true → set.begins_tertiary s ≡ true
up_tertiary s e = or_left (set.begins_secondary s) _ e

up_unit : (s : Sym) → set.begins_tertiary s ≡ true → set.begins_unit s ≡ true
up_unit s e = or_left (set.begins_tertiary s) _ e

pub first_while : {f : Forest} → IsWhile f → (r : List Sym) → Begins set.begins_while (spells f r)
first_while (g.while_ p q) r = here _ (Is t.While) refl
first_while (g.no_while p) r = here _ (Opens b.Do) refl

pub first_to : {f : Forest} → IsTo f → (r : List Sym) → Begins set.begins_to (spells f r)
first_to (g.to_ p q) r = here _ (Is t.To) refl
first_to (g.no_to p) r = widen set.begins_while set.begins_to up_to (first_while p r)

pub first_by : {f : Forest} → IsBy f → (r : List Sym) → Begins set.begins_by (spells f r)
first_by (g.by_ p q) r = here _ (Is t.By) refl
first_by (g.no_by p) r = widen set.begins_to set.begins_by up_by (first_to p r)

pub first_from : {f : Forest} → IsFrom f → (r : List Sym) → Begins set.begins_from (spells f r)
first_from (g.from_ p q) r = here _ (Is t.From) refl
first_from (g.no_from p) r = widen set.begins_by set.begins_from up_from (first_by p r)

pub first_loop : {f : Forest} → IsFor f → (r : List Sym) → Begins set.begins_loop (spells f r)
first_loop (g.for_ p) r = here _ (Is t.For) refl
first_loop (g.no_for p) r = widen set.begins_from set.begins_loop up_loop (first_from p r)

pub first_enclosed : {k : NodeKind} {u : Forest} → IsEnclosed k u → (r : List Sym) → Begins set.begins_enclosed (spells u r)
first_enclosed (g.closed g.closing_round p) r = here _ (Opens b.Round) refl
first_enclosed (g.closed g.closing_begin p) r = here _ (Opens b.Begin) refl
first_enclosed (g.collateral g.closing_round p) r = here _ (Opens b.Round) refl
first_enclosed (g.collateral g.closing_begin p) r = here _ (Opens b.Begin) refl
first_enclosed (g.vacuum g.closing_round) r = here _ (Opens b.Round) refl
first_enclosed (g.vacuum g.closing_begin) r = here _ (Opens b.Begin) refl
first_enclosed (g.parallel c p) r = here _ (Is t.Par) refl
first_enclosed (g.conditional p q e) r = here _ (Opens b.If) refl
first_enclosed (g.conditional_brief p q e) r = here _ (Opens b.Round) refl
first_enclosed (g.case_ p q e) r = here _ (Opens b.Case) refl
first_enclosed (g.case_brief p q e) r = here _ (Opens b.Round) refl
first_enclosed (g.conformity p q e) r = here _ (Opens b.Case) refl
first_enclosed (g.conformity_brief p q e) r = here _ (Opens b.Round) refl
first_enclosed (g.loop p) r = widen set.begins_loop set.begins_enclosed up_enclosed (first_loop p r)

pub first_declarer : {d : Forest} → IsDeclarer d → (r : List Sym) → Begins set.begins_declarer (spells d r)
first_declarer (g.plain g.plain_int) r = here _ (Is t.Int) refl
first_declarer (g.plain g.plain_other) r = here _ (Is t.Plain) refl
first_declarer g.long_int r = here _ (Is t.Long) refl
first_declarer g.mode_word r = here _ (Is t.ModeWord) refl
first_declarer (g.ref d) r = here _ (Is t.Ref) refl
first_declarer (g.rows l d) r = here _ (Opens b.Square) refl
first_declarer (g.flex l d) r = here _ (Is t.Flex) refl
first_declarer (g.struct_ l) r = here _ (Is t.Struct) refl
first_declarer (g.union_ d l) r = here _ (Is t.Union) refl
first_declarer (g.proc p) r = here _ (Is t.Proc) refl
first_declarer (g.proc_params l p) r = here _ (Is t.Proc) refl

pub first_denotation : {d : Token} → g.IsDenotation d → set.begins_denotation (Is d) ≡ true
first_denotation g.denotation_digit = refl
first_denotation g.denotation_number = refl
first_denotation g.denotation_bits = refl
first_denotation g.denotation_quoted = refl
first_denotation g.denotation_true = refl
first_denotation g.denotation_false = refl

denotation_base : (s : Sym) → set.begins_denotation s ≡ true → set.begins_base s ≡ true
denotation_base s e = or_right (set.begins_enclosed s) _ (or_right (set.begins_result s) _ (or_left (set.begins_denotation s) _ e))

pub first_primary : {k : NodeKind} {u : Forest} → IsPrimary k u → (r : List Sym) → Begins set.begins_base (spells u r)
first_primary (g.slice p l) r = first_primary p _
first_primary (g.call p l) r = first_primary p _
first_primary (g.cast d e) r = widen set.begins_result set.begins_base result_base (widen set.begins_declarer set.begins_result up_result (first_declarer d _))
first_primary (g.cast_void e) r = here _ (Is t.Void) refl
first_primary g.tag r = here _ (Is t.Tag) refl
first_primary (g.denotation {d = d} p) r = here _ (Is d) (denotation_base (Is d) (first_denotation p))
first_primary (g.long_denotation p) r = here _ (Is t.Long) refl
first_primary (g.enclosed e) r = widen set.begins_enclosed set.begins_base up_base (first_enclosed e r)

pub first_secondary : {k : NodeKind} {u : Forest} → IsSecondary k u → (r : List Sym) → Begins set.begins_secondary (spells u r)
first_secondary (g.selection p) r = here _ (Is t.Tag) refl
first_secondary (g.generator_loc d) r = here _ (Is t.Loc) refl
first_secondary (g.generator_heap d) r = here _ (Is t.Heap) refl
first_secondary (g.primary p) r = widen set.begins_base set.begins_secondary up_secondary (first_primary p r)

pub first_tertiary : {k : NodeKind} {u : Forest} → IsTertiary k u → (r : List Sym) → Begins set.begins_tertiary (spells u r)
first_tertiary g.nil r = here _ (Is t.Nil) refl
first_tertiary (g.monadic g.monadic_plus l) r = here _ (Is t.Plus) refl
first_tertiary (g.monadic g.monadic_minus l) r = here _ (Is t.Minus) refl
first_tertiary (g.monadic g.monadic_other l) r = here _ (Is t.Monad) refl
first_tertiary (g.dyadic p s l) r = widen set.begins_secondary set.begins_tertiary up_tertiary (first_secondary p _)
first_tertiary (g.secondary p) r = widen set.begins_secondary set.begins_tertiary up_tertiary (first_secondary p r)

base_unit : (s : Sym) → set.begins_base s ≡ true → set.begins_unit s ≡ true
base_unit s e = up_unit s (up_tertiary s (up_secondary s e))

pub first_result : {f : Forest} → IsResult f → (r : List Sym) → Begins set.begins_result (spells f r)
first_result (g.result d i) r = widen set.begins_declarer set.begins_result up_result (first_declarer d _)
first_result (g.result_void i) r = here _ (Is t.Void) refl

pub first_unit : {k : NodeKind} {u : Forest} → IsUnit k u → (r : List Sym) → Begins set.begins_unit (spells u r)
first_unit (g.assignation p q) r = widen set.begins_tertiary set.begins_unit up_unit (first_tertiary p _)
first_unit (g.identity_is p q) r = widen set.begins_tertiary set.begins_unit up_unit (first_tertiary p _)
first_unit (g.identity_isnt p q) r = widen set.begins_tertiary set.begins_unit up_unit (first_tertiary p _)
first_unit (g.routine (g.routine_params l p)) r = here _ (Opens b.Round) refl
first_unit (g.routine (g.routine_plain p)) r = widen set.begins_base set.begins_unit base_unit (widen set.begins_result set.begins_base result_base (first_result p r))
first_unit g.skip r = here _ (Is t.Skip) refl
first_unit g.go_to r = here _ (Is t.Go) refl
first_unit g.goto_ r = here _ (Is t.Goto) refl
first_unit (g.tertiary p) r = widen set.begins_tertiary set.begins_unit up_unit (first_tertiary p r)

-- ---- tests on the first symbol

pub same_is : (a b : Sym) → same a b ≡ true → a ≡ b
same_is (Opens a) (Opens b) e = ap Opens (same_true bracket_type (search rules) a b e)
same_is (Opens a) (Closes b) e = cc
same_is (Opens a) (Is b) e = cc
same_is (Closes a) (Opens b) e = cc
same_is (Closes a) (Closes b) e = ap Closes (same_true bracket_type (search rules) a b e)
same_is (Closes a) (Is b) e = cc
same_is (Is a) (Opens b) e = cc
same_is (Is a) (Closes b) e = cc
same_is (Is a) (Is b) e = ap Is (same_true token_type (search rules) a b e)

-- a test that fails wherever it would be wrong
pub decides : (x : Bool) → (x ≡ true → ⊥) → x ≡ false
decides true no_ = absurd (no_ refl)
decides false no_ = refl

-- where a text begins with a symbol of a set, it begins with no symbol that is not of it
pub no_first : (A : Sym → Bool) (s : Sym) → A s ≡ false → {x : List Sym} → Begins A x → starts s x ≡ false
no_first A s out p = ap (starts s) p.is ∙ decides (same p.first s) (λ e. absurd (cc (ap A (same_is p.first s e), p.within, out)))

pub no_next : (A : Sym → Bool) (s : Sym) → A s ≡ false → {x : List Sym} → Follows A x → starts s x ≡ false
no_next A s out at_end = refl
no_next A s out (next {s = a} p) = decides (same a s) (λ e. absurd (cc (ap A (same_is a s e), p, out)))

-- ---- larger sets behind

pub wider : (A B : Sym → Bool) → ((s : Sym) → A s ≡ true → B s ≡ true) → {x : List Sym} → Follows A x → Follows B x
wider A B up at_end = at_end
wider A B up (next {s = s} p) = next (up s p)

pub closes_clause : {x : List Sym} → Follows set.closes x → Follows set.ends_clause x
closes_clause p = wider set.closes set.ends_clause (λ s e. or_left (set.closes s) _ e) p

pub clause_unit : {x : List Sym} → Follows set.ends_clause x → Follows set.ends_unit x
clause_unit p = wider set.ends_clause set.ends_unit (λ s e. or_left (set.ends_clause s) _ e) p

pub closes_unit : {x : List Sym} → Follows set.closes x → Follows set.ends_unit x
closes_unit p = clause_unit (closes_clause p)

pub declaration_definition : {x : List Sym} → Follows set.ends_declaration x → Follows set.ends_definition x
declaration_definition p = wider set.ends_declaration set.ends_definition (λ s e. or_left (set.ends_declaration s) _ e) p

pub definition_unit : {x : List Sym} → Follows set.ends_definition x → Follows set.ends_unit x
definition_unit p = wider set.ends_definition set.ends_unit (λ s e. or_right (set.ends_clause s) _ (or_left (set.ends_definition s) _ e)) p

pub unit_tertiary : {x : List Sym} → Follows set.ends_unit x → Follows set.ends_tertiary x
unit_tertiary p = wider set.ends_unit set.ends_tertiary (λ s e. or_left (set.ends_unit s) _ e) p

pub tertiary_secondary : {x : List Sym} → Follows set.ends_tertiary x → Follows set.ends_secondary x
tertiary_secondary p = wider set.ends_tertiary set.ends_secondary (λ s e. or_left (set.ends_tertiary s) _ e) p

pub secondary_base : {x : List Sym} → Follows set.ends_secondary x → Follows set.ends_base x
secondary_base p = wider set.ends_secondary set.ends_base (λ s e. or_left (set.ends_secondary s) _ e) p

-- two symbols, where the first or the second is not there
pub no_first_pair : (A : Sym → Bool) (s z : Sym) → A s ≡ false → {x : List Sym} → Begins A x → starts_pair s z x ≡ false
no_first_pair A s z out p = ap (starts_pair s z) p.is ∙ ap (λ (c : Bool). c && starts z p.rest) (decides (same p.first s) (λ e. absurd (cc (ap A (same_is p.first s e), p.within, out))))
