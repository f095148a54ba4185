-- What is looked for among the operator definitions of a range, and in its surroundings among the ranges that have layers.
use Rattle.std.proofs.Common.{◌≡◌, ℕ, zero, suc, Bool, true, false, List, [], ◌∷◌, refl, sym, ◌∙◌, arith, subst, Some, None, Option}
use Rattle.std.specs.Prelude.{◌&&◌, if◌then◌else◌, nat_eq}
use Rattle.std.specs.List.{Contains}
use Rattle.std.proofs.lemmas.Bool.{false≢true}
use Rattle.a68_coerce.specs.declared.leaf.Leaf.{Leaf}
use Rattle.a68_declare.specs.Outcome.{ByNode}
use Rattle.a68_identify.proofs.Firsts.{first_among, first_holds}
use Rattle.a68_identify.specs.Identified.{DefinitionFits, FirstThatHolds, first_here, first_later, NoneHolds, Own, own_here, own_further, IsOwn, IsFirstThatHolds}
use Rattle.a68_identify.specs.Operators.{is_operator_definition}
use Rattle.a68_modes.specs.declared.shape.Shape.{Shape}
use Rattle.a68_ranges.proofs.Looking.{nothing_declared}
use Rattle.a68_ranges.specs.Definitions.{defines, declared_in}
use Rattle.a68_ranges.specs.Links.{has_layer, layered}
use Rattle.a68_ranges.specs.Nodes.{kind_at, name_at}
use Rattle.a68_ranges.specs.Tables.{has_name, is_sort, same_sort, operators_in, operators_named}
use Rattle.a68_ranges.specs.declared.sort.IndicatorKind.TheVariants as sorts
use Rattle.a68_tree.specs.Trees.{Built}
use Rattle.a68_tree.specs.declared.kind.NodeKind.{NodeKind}
use Rattle.a68_tree.specs.declared.kind.NodeKind.TheVariants as kind

-- ---- the operator definitions of a sign in a range

-- what defines an operator of a sign is an operator definition of that sign
is_operator : (k : NodeKind) (named : Bool) → (is_operator_definition k && named) ≡ true → (is_sort sorts.Operator (defines k) && named) ≡ true
unfolding defines same_sort
is_operator kind.OpDefinition named e = e
is_operator _ named e = absurd (false≢true e)

module _ (tree : Built) (sign : ℕ) (Holds : ℕ → Type 0) (only : (d : ℕ) → Holds d → has_name tree sorts.Operator sign d ≡ true) where
  contains_on : (ds : List ℕ) (x : ℕ) → has_name tree sorts.Operator sign x ≡ true → Contains ds x → Contains (operators_named tree sign ds) x
  contains_on [] x t (k, low, e) = absurd (omega arith)
  contains_on (d ∷ ds) x t (zero, low, e) =
      subst (λ b. Contains (if b then d ∷ operators_named tree sign ds else operators_named tree sign ds) x) (sym (subst (λ y. has_name tree sorts.Operator sign y ≡ true) (sym e) t)) (0, omega arith, e)
  contains_on (d ∷ ds) x t (suc k, low, e) = go (has_name tree sorts.Operator sign d) (contains_on ds x t (k, omega arith, e))
    where
      go : (b : Bool) → Contains (operators_named tree sign ds) x → Contains (if b then d ∷ operators_named tree sign ds else operators_named tree sign ds) x
      go true c = let l = c.1 in (suc c.0, omega arith, c.2)
      go false c = c

  first_on : (ds : List ℕ) (x : ℕ) → FirstThatHolds Holds (operators_named tree sign ds) x → FirstThatHolds Holds ds x
  first_on [] x f = f
  first_on (d ∷ ds) x f = go (has_name tree sorts.Operator sign d) refl (λ y g. first_on ds y g) f
    where
      head : ((y : ℕ) → FirstThatHolds Holds (operators_named tree sign ds) y → FirstThatHolds Holds ds y) → {y : ℕ} → FirstThatHolds Holds (d ∷ operators_named tree sign ds) y → FirstThatHolds Holds (d ∷ ds) y
      head on (first_here h) = first_here h
      head on (first_later {y = y} none rest) = first_later none (on y rest)

      go : (b : Bool) → has_name tree sorts.Operator sign d ≡ b → ((y : ℕ) → FirstThatHolds Holds (operators_named tree sign ds) y → FirstThatHolds Holds ds y)
          → FirstThatHolds Holds (if b then d ∷ operators_named tree sign ds else operators_named tree sign ds) x → FirstThatHolds Holds (d ∷ ds) x
      go true e on f = head on f
      go false e on f = first_later (λ h. false≢true (sym e ∙ only d h)) (on x f)

  -- the first that holds among the operator definitions of the sign is the first among all
  pub is_first_on : (ds : List ℕ) (found : Option ℕ) → IsFirstThatHolds Holds (operators_named tree sign ds) found → IsFirstThatHolds Holds ds found
  is_first_on ds None none = λ x among h. none x (contains_on ds x (only x h) among) h
  is_first_on ds (Some x) f = first_on ds x f

module _ (tree : Built) (nodes : List Shape) (of : ByNode) (sign : ℕ) (operands : List (List Leaf)) where
  fits_only : (d : ℕ) → DefinitionFits tree nodes of sign operands d → has_name tree sorts.Operator sign d ≡ true
  fits_only d f = is_operator (kind_at tree d) (nat_eq (name_at tree d) sign) f.sign_is

  pub first_in_range : (range : ℕ) (found : Option ℕ) → IsFirstThatHolds (DefinitionFits tree nodes of sign operands) (operators_in tree range sign) found
      → IsFirstThatHolds (DefinitionFits tree nodes of sign operands) (declared_in tree range) found
  unfolding operators_in
  first_in_range range found f = is_first_on tree sign (DefinitionFits tree nodes of sign operands) fits_only (declared_in tree range) found f

  -- ---- the ranges that have layers

  none_fits : (range : ℕ) → has_layer tree range ≡ false → NoneHolds (DefinitionFits tree nodes of sign operands) (declared_in tree range)
  none_fits range e x among h = nothing_declared tree range x e among

  own_head : (range : ℕ) (some ranges : List ℕ) → ((d : ℕ) → Own tree nodes of sign operands some d → Own tree nodes of sign operands ranges d) → {d : ℕ} → Own tree nodes of sign operands (range ∷ some) d
      → Own tree nodes of sign operands (range ∷ ranges) d
  own_head range some ranges on (own_here f) = own_here f
  own_head range some ranges on (own_further {definition = d} none more) = own_further none (on d more)

  own_on : (ranges : List ℕ) (d : ℕ) → Own tree nodes of sign operands (layered tree ranges) d → Own tree nodes of sign operands ranges d
  own_on [] d o = o
  own_on (range ∷ ranges) d o = go (has_layer tree range) refl (λ e g. own_on ranges e g) o
    where
      go : (b : Bool) → has_layer tree range ≡ b → ((e : ℕ) → Own tree nodes of sign operands (layered tree ranges) e → Own tree nodes of sign operands ranges e)
          → Own tree nodes of sign operands (if b then range ∷ layered tree ranges else layered tree ranges) d → Own tree nodes of sign operands (range ∷ ranges) d
      go true e on o = own_head range (layered tree ranges) ranges on o
      go false e on o = own_further (none_fits range e) (on d o)

  own_back : (ranges : List ℕ) (d : ℕ) → Own tree nodes of sign operands ranges d → Own tree nodes of sign operands (layered tree ranges) d
  own_back [] d o = o
  own_back (range ∷ ranges) d o = go (has_layer tree range) refl (λ e g. own_back ranges e g) o
    where
      drops : has_layer tree range ≡ false → ((e : ℕ) → Own tree nodes of sign operands ranges e → Own tree nodes of sign operands (layered tree ranges) e) → {e : ℕ}
          → Own tree nodes of sign operands (range ∷ ranges) e → Own tree nodes of sign operands (layered tree ranges) e
      drops no_layer on (own_here {definition = e} f) =
          absurd (none_fits range no_layer e (first_among (DefinitionFits tree nodes of sign operands) f) (first_holds (DefinitionFits tree nodes of sign operands) f))
      drops no_layer on (own_further {definition = e} none more) = on e more

      go : (b : Bool) → has_layer tree range ≡ b → ((e : ℕ) → Own tree nodes of sign operands ranges e → Own tree nodes of sign operands (layered tree ranges) e)
          → Own tree nodes of sign operands (range ∷ ranges) d → Own tree nodes of sign operands (if b then range ∷ layered tree ranges else layered tree ranges) d
      go true e on o = own_head range ranges (layered tree ranges) on o
      go false e on o = drops e on o

  -- the definition in those of the ranges that have layers is that in all of them
  pub is_own_on : (ranges : List ℕ) (found : Option ℕ) → IsOwn tree nodes of sign operands (layered tree ranges) found → IsOwn tree nodes of sign operands ranges found
  is_own_on ranges None none = λ d o. none d (own_back ranges d o)
  is_own_on ranges (Some d) o = own_on ranges d o
