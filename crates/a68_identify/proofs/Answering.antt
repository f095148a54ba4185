-- The operator that a formula applies.
use Rattle.std.proofs.Common.{◌≡◌, ◌≢◌, ◌<◌, ℕ, List, [], ◌∷◌, length, refl, sym, ap, ◌∙◌, arith, subst, Some, None, slice_get, Option, true, false}
use Rattle.std.specs.Prelude.{◌↔◌, IsTrue, is_some, slice_index_or}
use Rattle.std.specs.List.{Contains}
use Rattle.std.proofs.lemmas.Bool.{false≢true}
use Rattle.a68_coerce.specs.Balanced.{BalancesAt, FormsAt, IsBalanced, IsFormed}
use Rattle.a68_coerce.specs.declared.form.ModeForm.TheVariants as form
use Rattle.a68_coerce.specs.declared.leaf.Balanced.{Balanced}
use Rattle.a68_coerce.specs.declared.leaf.Leaf.{Leaf}
use Rattle.a68_declare.specs.Outcome.{ByNode}
use Rattle.a68_equiv.specs.declared.mode.Mode.{Mode}
use Rattle.a68_equiv.specs.Related.{as_it_stands}
use Rattle.a68_identify.proofs.Firsts.{first_among, first_holds, first_one}
use Rattle.a68_identify.specs.Identified.{OperandFits, firmly, any_row, DefinitionFits, StandardFits, FirstThatHolds, NoneHolds, Own, own_here, own_further, IsOwn, IsFirstThatHolds, IsOperator, by_text, by_standard}
use Rattle.a68_identify.specs.declared.identified.Identified.{Identified}
use Rattle.a68_identify.specs.declared.identified.Identified.TheVariants.{Declared, Standard}
use Rattle.a68_modes.specs.declared.coercion.Sort.TheVariants as by
use Rattle.a68_modes.specs.declared.shape.Shape.{Shape}
use Rattle.a68_signs.specs.Signs.{candidates}
use Rattle.a68_signs.specs.declared.signs.Operator.{Operator}
use Rattle.a68_ranges.proofs.Looking.{lies_one}
use Rattle.a68_ranges.proofs.Taking.{read, some_one}
use Rattle.a68_ranges.specs.Nodes.{name_at}
use Rattle.a68_ranges.specs.Definitions.{declared_in}
use Rattle.a68_ranges.specs.Surroundings.{Lies}
use Rattle.a68_ranges.specs.Tables.{AreRanges, Nested, outermost, within, RangeTables, TellsAbout}
use Rattle.a68_ranges.specs.declared.nests.Layer.{Layer}
use Rattle.a68_tree.specs.Trees.{Built}

-- ---- an operand and a parameter

module _ (nodes : List Shape) (leaves : List Leaf) where
  no_row : {parameter : ℕ} → ((k : ℕ) (to : Mode) → FormsAt nodes by.Weak form.Row to leaves k → ⊥) → parameter ≡ 0 → OperandFits nodes leaves parameter → ⊥
  no_row none e (firmly i other at) = other e
  no_row none e (any_row b is at) = none b.leaf b.mode at.0

  pub row_fits : (found : Option Balanced) → IsFormed nodes by.Weak form.Row leaves found → IsTrue (is_some found) ↔ OperandFits nodes leaves 0
  row_fits (Some b) is = (λ t. any_row b refl is, λ f. refl)
  row_fits None none = (λ t. absurd (false≢true t), λ f. absurd (no_row none refl f))

  no_mode : {parameter : ℕ} → ((k : ℕ) → BalancesAt nodes by.Firm (as_it_stands parameter) leaves k → ⊥) → parameter ≢ 0 → OperandFits nodes leaves parameter → ⊥
  no_mode none other (firmly i is at) = none i at
  no_mode none other (any_row b is at) = other is

  pub mode_fits : (parameter : ℕ) (found : Option ℕ) → parameter ≢ 0 → IsBalanced nodes by.Firm (as_it_stands parameter) leaves found → IsTrue (is_some found) ↔ OperandFits nodes leaves parameter
  mode_fits parameter (Some i) other is = (λ t. firmly i other is.0, λ f. refl)
  mode_fits parameter None other none = (λ t. absurd (false≢true t), λ f. absurd (no_mode none other f))

-- ---- one operator

module _ (tree : Built) (nodes : List Shape) (of : ByNode) (sign : ℕ) (operands : List (List Leaf)) where
  abbrev FitsHere : ℕ → Type 0
  FitsHere d = DefinitionFits tree nodes of sign operands d

  pub own_one : {ranges others : List ℕ} {d e : ℕ} → Own tree nodes of sign operands ranges d → Own tree nodes of sign operands others e → ranges ≡ others → d ≡ e
  own_one (own_here {range = r} a) (own_here {range = q} b) same =
      let heads : r ≡ q = cc in
      first_one FitsHere a b (ap (declared_in tree) heads)
  own_one (own_here {range = r} {definition = d} a) (own_further {range = q} none b) same =
      let heads : r ≡ q = cc in
      absurd (none d (subst (λ x. Contains (declared_in tree x) d) heads (first_among FitsHere a)) (first_holds FitsHere a))
  own_one (own_further {range = r} none a) (own_here {range = q} {definition = e} b) same =
      let heads : q ≡ r = cc in
      absurd (none e (subst (λ x. Contains (declared_in tree x) e) heads (first_among FitsHere b)) (first_holds FitsHere b))
  own_one (own_further {more = m} none a) (own_further {more = n} never b) same =
      let tails : m ≡ n = cc in
      own_one a b tails

pub operator_one : (tree : Built) (nodes : List Shape) (of : ByNode) (at sign : ℕ) (operands : List (List Leaf)) (one other : Identified)
    → IsOperator tree nodes of at sign operands one → IsOperator tree nodes of at sign operands other → one ≡ other
operator_one tree nodes of at sign operands one other (by_text ranges lies a) (by_text others lie b) = ap (λ d. Declared d) (own_one tree nodes of sign operands a b (lies_one lies lie refl))
operator_one tree nodes of at sign operands one other (by_text {definition = d} ranges lies a) (by_standard others spelling lie none is b) =
    absurd (none d (subst (λ rs. Own tree nodes of sign operands rs d) (lies_one lies lie refl) a))
operator_one tree nodes of at sign operands one other (by_standard ranges spelling lies none is a) (by_text {definition = d} others lie b) =
    absurd (none d (subst (λ rs. Own tree nodes of sign operands rs d) (lies_one lie lies refl) b))
operator_one tree nodes of at sign operands one other (by_standard ranges spelling lies none is a) (by_standard others other_spelling lie never it b) =
    let same = some_one (sym is ∙ it) in
    ap (λ o. Standard o) (first_one (StandardFits nodes operands) a b (ap (λ s. candidates s (length operands)) same))

-- ---- outwards

record Outwards (layers : List Layer) (layer : Layer) (ranges : List ℕ) : Type 0 where
  more : List ℕ
  is : ranges ≡ layer.range ∷ more
  rest : Nested layers layer.outer more

nested_in : {layers : List Layer} {nest : Option ℕ} {ranges : List ℕ} → Nested layers nest ranges → (number : ℕ) (layer : Layer) → nest ≡ Some number → slice_get layers number ≡ Some layer → Outwards layers layer ranges
nested_in outermost number layer e is = absurd (cc)
nested_in {layers = layers} (within {ranges = more} i other it rest) number layer e is =
    let same : other ≡ layer = some_one (sym it ∙ ap (slice_get layers) (some_one e) ∙ is) in
    record { more = more; is = ap (λ (l : Layer). l.range ∷ more) same; rest = subst (λ (l : Layer). Nested layers l.outer more) same rest }

nested_none : {layers : List Layer} {nest : Option ℕ} {ranges : List ℕ} → Nested layers nest ranges → nest ≡ None → ranges ≡ []
nested_none outermost e = refl
nested_none (within i layer is rest) e = absurd (cc)

own_nowhere : {tree : Built} {nodes : List Shape} {of : ByNode} {sign : ℕ} {operands : List (List Leaf)} {d : ℕ} → Own tree nodes of sign operands [] d → ⊥
own_nowhere o = elim o [ ]

module _ (tree : Built) (nodes : List Shape) (of : ByNode) (sign : ℕ) (operands : List (List Leaf)) where
  own_in : {range d : ℕ} {more : List ℕ} → NoneHolds (DefinitionFits tree nodes of sign operands) (declared_in tree range) → Own tree nodes of sign operands (range ∷ more) d → Own tree nodes of sign operands more d
  own_in none (own_here {definition = d} a) = absurd (none d (first_among (DefinitionFits tree nodes of sign operands) a) (first_holds (DefinitionFits tree nodes of sign operands) a))
  own_in none (own_further never b) = b

  -- what is found in the ranges from here is found in the ranges from the start
  pub record Further (layers : List Layer) (next : Option ℕ) (whole : List ℕ) : Type 0 where
    pub ranges : List ℕ
    pub nested : Nested layers next ranges
    pub found : (d : ℕ) → Own tree nodes of sign operands ranges d → Own tree nodes of sign operands whole d
    pub only : (d : ℕ) → Own tree nodes of sign operands whole d → Own tree nodes of sign operands ranges d

  module _ (layers : List Layer) (whole : List ℕ) where
    pub further_more : (next : Option ℕ) (number : ℕ) (layer : Layer) → Further layers next whole → next ≡ Some number → slice_get layers number ≡ Some layer
        → NoneHolds (DefinitionFits tree nodes of sign operands) (declared_in tree layer.range) → Further layers layer.outer whole
    further_more next number layer f e is none =
        let o = nested_in f.nested number layer e is in
        record {
          ranges = o.more;
          nested = o.rest;
          found = λ d own. f.found d (subst (λ rs. Own tree nodes of sign operands rs d) (sym o.is) (own_further none own));
          only = λ d own. own_in none (subst (λ rs. Own tree nodes of sign operands rs d) o.is (f.only d own));
        }

    pub found_here : (next : Option ℕ) (number d : ℕ) (layer : Layer) → Further layers next whole → next ≡ Some number → slice_get layers number ≡ Some layer
        → FirstThatHolds (DefinitionFits tree nodes of sign operands) (declared_in tree layer.range) d → Own tree nodes of sign operands whole d
    found_here next number d layer f e is first =
        let o = nested_in f.nested number layer e is in
        f.found d (subst (λ rs. Own tree nodes of sign operands rs d) (sym o.is) (own_here first))

    pub found_nowhere : (next : Option ℕ) → Further layers next whole → next ≡ None → (d : ℕ) → Own tree nodes of sign operands whole d → ⊥
    found_nowhere next f e d own = own_nowhere (subst (λ rs. Own tree nodes of sign operands rs d) (nested_none f.nested e) (f.only d own))

    pub own_start : (start : Option ℕ) → Nested layers start whole → Further layers start whole
    own_start start nested = record { ranges = whole; nested = nested; found = λ d own. own; only = λ d own. own }

    pub some_own : (next : Option ℕ) (number : ℕ) (layer : Layer) (found : Option ℕ) → Further layers next whole → next ≡ Some number → slice_get layers number ≡ Some layer → is_some found ≡ true
        → IsFirstThatHolds (DefinitionFits tree nodes of sign operands) (declared_in tree layer.range) found → IsOwn tree nodes of sign operands whole found
    some_own next number layer None f e is some first = absurd (false≢true some)
    some_own next number layer (Some d) f e is some first = found_here next number d layer f e is first

  pub is_none : (range : ℕ) (found : Option ℕ) → is_some found ≡ false → IsFirstThatHolds (DefinitionFits tree nodes of sign operands) (declared_in tree range) found
      → NoneHolds (DefinitionFits tree nodes of sign operands) (declared_in tree range)
  is_none range None none first = first
  is_none range (Some d) none first = absurd (false≢true (sym none))

-- ---- at a node

module _ (tree : Built) (nodes : List Shape) (of : ByNode) (at sign : ℕ) (operands : List (List Leaf)) (tables : RangeTables) (are : AreRanges tree tables) (low : at < length tree.nodes) (named : sign ≡ name_at tree at)
    (found : Option ℕ) (own : (about : List ℕ) → Lies tree at about → IsOwn tree nodes of sign operands about found) where
  about_at : TellsAbout tree tables.nests.layers at (slice_index_or tables.nests.about at None)
  about_at = let long = are.nests.long in are.nests.about at (slice_index_or tables.nests.about at None) (read tables.nests.about at None (omega arith))

  pub declared_is : (d : ℕ) → found ≡ Some d → IsOperator tree nodes of at (name_at tree at) operands (Declared d)
  declared_is d e =
      let t = about_at in
      subst (λ s. IsOperator tree nodes of at s operands (Declared d)) named
      (by_text t.ranges t.lies (subst (λ o. IsOwn tree nodes of sign operands t.ranges o) e (own t.ranges t.lies)))

  none_own : found ≡ None → (ranges : List ℕ) → Lies tree at ranges → IsOwn tree nodes of sign operands ranges None
  none_own e ranges lies = subst (λ o. IsOwn tree nodes of sign operands ranges o) e (own ranges lies)

  module _ (spelling : List ℕ) (count : ℕ) (list : List Operator) (standard : Option Operator) (is : slice_get tree.spellings sign ≡ Some spelling) (long : count ≡ length operands)
      (listed : list ≡ candidates spelling count) (first : IsFirstThatHolds (StandardFits nodes operands) list standard) (e : found ≡ None) where
    first_standard : IsFirstThatHolds (StandardFits nodes operands) (candidates spelling (length operands)) standard
    first_standard = subst (λ xs. IsFirstThatHolds (StandardFits nodes operands) xs standard) (listed ∙ ap (candidates spelling) long) first

    pub standard_is : (o : Operator) → standard ≡ Some o → IsOperator tree nodes of at (name_at tree at) operands (Standard o)
    standard_is o s =
        let t = about_at in
        subst (λ x. IsOperator tree nodes of at x operands (Standard o)) named
        (by_standard t.ranges spelling t.lies (none_own e t.ranges t.lies) is (subst (λ x. IsFirstThatHolds (StandardFits nodes operands) (candidates spelling (length operands)) x) s first_standard))

    neither : (any : Identified) → NoneHolds (StandardFits nodes operands) (candidates spelling (length operands)) → IsOperator tree nodes of at sign operands any → ⊥
    neither any none (by_text {definition = d} ranges lies o) = none_own e ranges lies d o
    neither any none (by_standard {o = o} ranges other lies never it f) =
        let same : other ≡ spelling = some_one (sym it ∙ is) in
        none o (subst (λ s. Contains (candidates s (length operands)) o) same (first_among (StandardFits nodes operands) f)) (first_holds (StandardFits nodes operands) f)

    pub none_is : standard ≡ None → (any : Identified) → IsOperator tree nodes of at (name_at tree at) operands any → ⊥
    none_is s any o =
        neither any (subst (λ x. IsFirstThatHolds (StandardFits nodes operands) (candidates spelling (length operands)) x) s first_standard)
        (subst (λ x. IsOperator tree nodes of at x operands any) (sym named) o)
