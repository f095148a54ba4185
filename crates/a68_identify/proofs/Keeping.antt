-- The operators of formulas over a list of modes and over a longer one.
use Rattle.std.proofs.Common.{◌≡◌, ◌<◌, ◌≤◌, ℕ, zero, suc, List, [], ◌∷◌, length, refl, sym, ◌∙◌, arith, subst, Some, slice_get}
use Rattle.std.specs.List.{All, Contains}
use Rattle.std.proofs.lemmas.List.Elements.{All-cons, All-nil}
use Rattle.a68_coerce.proofs.Longer.{interning_forms, interning_paths}
use Rattle.a68_coerce.specs.Balanced.{LeafLeads, LeafSuits, BalancesAt, IsFormed}
use Rattle.a68_coerce.specs.Below.{IsLeafBelow}
use Rattle.a68_coerce.specs.Kept.{InterningKeeps, KeepForms, KeepPaths}
use Rattle.a68_coerce.specs.Paths.{Leads}
use Rattle.a68_coerce.specs.declared.form.ModeForm.TheVariants as form
use Rattle.a68_coerce.specs.declared.leaf.Balanced.{Balanced}
use Rattle.a68_coerce.specs.declared.leaf.Leaf.{Leaf}
use Rattle.a68_coerce.specs.declared.leaf.Leaf.TheVariants as leaf
use Rattle.a68_declare.specs.Outcome.{ByNode}
use Rattle.a68_equiv.specs.declared.mode.Mode.{Mode}
use Rattle.a68_equiv.specs.Related.{as_it_stands}
use Rattle.a68_identify.proofs.Firsts.{first_map, none_map}
use Rattle.a68_identify.proofs.Serving.{operands_there}
use Rattle.a68_identify.proofs.Standing.{candidates_low}
use Rattle.a68_identify.specs.Identified.{OperandFits, firmly, any_row, AllFit, DefinitionFits, StandardFits, standard_parameters, Own, own_here, own_further, IsOperator, by_text, by_standard, IsLow}
use Rattle.a68_identify.specs.Kept.{KeepOperators}
use Rattle.a68_identify.specs.Operators.{operand_modes}
use Rattle.a68_identify.specs.Pairs.{none_left, one_more}
use Rattle.a68_identify.specs.declared.identified.Identified.{Identified}
use Rattle.a68_modes.proofs.Holding.{fifteen}
use Rattle.a68_modes.specs.Nodes.{HoldsNodes}
use Rattle.a68_modes.specs.declared.coercion.Coercion.{Coercion}
use Rattle.a68_modes.specs.declared.coercion.Sort.{Sort}
use Rattle.a68_modes.specs.declared.coercion.Sort.TheVariants as by
use Rattle.a68_modes.specs.declared.shape.Shape.{Shape}
use Rattle.a68_signs.specs.Signs.{candidates}
use Rattle.a68_signs.specs.declared.signs.Operator.{Operator}
use Rattle.a68_ranges.proofs.Taking.{is_there, read, some_one}
use Rattle.a68_ranges.specs.Definitions.{declared_in}
use Rattle.a68_tree.specs.Trees.{Built}

leaf_there : (n : ℕ) (leaves : List Leaf) (k : ℕ) (l : Leaf) → All (IsLeafBelow n) leaves → slice_get leaves k ≡ Some l → IsLeafBelow n l
leaf_there n leaves k l all at =
    let h = is_there leaves k l at in
    subst (IsLeafBelow n) (some_one (sym (read leaves k l h) ∙ at)) (all k l h)

-- ---- one way: where paths and forms of the first n modes are carried over

module _ (nodes others : List Shape) (n : ℕ) (paths : (sort : Sort) (from to : Mode) (path : List Coercion) → from.id < n → to.id < n → Leads nodes sort from to path → Leads others sort from to path)
    (forms : (leaves : List Leaf) (b : Balanced) → All (IsLeafBelow n) leaves → IsFormed nodes by.Weak form.Row leaves (Some b) → IsFormed others by.Weak form.Row leaves (Some b)) where
  leads_on : (sort : Sort) (to : Mode) (l : Leaf) → to.id < n → IsLeafBelow n l → LeafLeads nodes sort to l → LeafLeads others sort to l
  leads_on by_sort to (leaf.Mode m) g b w = (w.0, paths by_sort (as_it_stands m) to w.0 b g w.1)
  leads_on by_sort to leaf.StrongOnly g b w = absurd w

  suits_on : (to : Mode) (l : Leaf) → to.id < n → IsLeafBelow n l → LeafSuits nodes to l → LeafSuits others to l
  suits_on to (leaf.Mode m) g b w = (w.0, paths by.Strong (as_it_stands m) to w.0 b g w.1)
  suits_on to leaf.StrongOnly g b w = tt

  balances_on : (sort : Sort) (to : Mode) (leaves : List Leaf) (i : ℕ) → to.id < n → All (IsLeafBelow n) leaves → BalancesAt nodes sort to leaves i → BalancesAt others sort to leaves i
  balances_on sort to leaves i g all w = record {
    leaf = w.leaf;
    there = w.there;
    leads = leads_on sort to w.leaf g (leaf_there n leaves i w.leaf all w.there) w.leads;
    others = λ k other at apart. suits_on to other g (leaf_there n leaves k other all at) (w.others k other at apart);
  }

  fits_on : (leaves : List Leaf) (p : ℕ) → All (IsLeafBelow n) leaves → p < n → OperandFits nodes leaves p → OperandFits others leaves p
  fits_on leaves p all low (firmly i apart at) = firmly i apart (balances_on by.Firm (as_it_stands p) leaves i low all at)
  fits_on leaves p all low (any_row b at is) = any_row b at (forms leaves b all is)

  pub all_fit_on : {os : List (List Leaf)} {ps : List ℕ} → AllFit nodes os ps → All (All (IsLeafBelow n)) os → All (λ p. p < n) ps → AllFit others os ps
  all_fit_on none_left all low = none_left
  all_fit_on (one_more {x = o} {y = p} fit rest) all low =
      one_more (fits_on o p (all 0 o (omega arith)) (low 0 p (omega arith)) fit)
      (all_fit_on rest (λ k d h. all (suc k) d (omega arith)) (λ k d h. low (suc k) d (omega arith)))

-- ---- both ways

standard_below : (n : ℕ) (o : Operator) (count : ℕ) → 15 ≤ n → IsLow o → All (λ p. p < n) (standard_parameters o count)
standard_below n o zero some low = let r = low.1 in All-cons (λ p. p < n) o.right [] (omega arith) (All-nil (λ p. p < n))
standard_below n o (suc zero) some low = let r = low.1 in All-cons (λ p. p < n) o.right [] (omega arith) (All-nil (λ p. p < n))
standard_below n o (suc (suc count)) some low =
    let l = low.0 in
    let r = low.1 in
    All-cons (λ p. p < n) o.left (o.right ∷ []) (omega arith) (All-cons (λ p. p < n) o.right [] (omega arith) (All-nil (λ p. p < n)))

module _ (tree : Built) (nodes others : List Shape) (of : ByNode) (sign : ℕ) (operands : List (List Leaf)) (n : ℕ) (some : 15 ≤ n)
    (there : (d : ℕ) → All (λ p. p < n) (operand_modes tree of d))
    (forth : (ps : List ℕ) → All (λ p. p < n) ps → AllFit nodes operands ps → AllFit others operands ps)
    (back : (ps : List ℕ) → All (λ p. p < n) ps → AllFit others operands ps → AllFit nodes operands ps) where
  definition_on : (d : ℕ) → DefinitionFits tree nodes of sign operands d → DefinitionFits tree others of sign operands d
  definition_on d f = record { sign_is = f.sign_is; fit = forth (operand_modes tree of d) (there d) f.fit }

  definition_back : (d : ℕ) → DefinitionFits tree others of sign operands d → DefinitionFits tree nodes of sign operands d
  definition_back d f = record { sign_is = f.sign_is; fit = back (operand_modes tree of d) (there d) f.fit }

  own_on : {ranges : List ℕ} {d : ℕ} → Own tree nodes of sign operands ranges d → Own tree others of sign operands ranges d
  own_on (own_here {range = r} first) =
      own_here (first_map (DefinitionFits tree nodes of sign operands) (DefinitionFits tree others of sign operands) first (λ d c. definition_on d) (λ d c. definition_back d))
  own_on (own_further {range = r} none rest) =
      own_further (none_map (DefinitionFits tree nodes of sign operands) (DefinitionFits tree others of sign operands) (declared_in tree r) none (λ d c. definition_back d)) (own_on rest)

  low_in : (spelling : List ℕ) (o : Operator) → Contains (candidates spelling (length operands)) o → All (λ p. p < n) (standard_parameters o (length operands))
  low_in spelling o c = standard_below n o (length operands) some (subst IsLow c.2 (candidates_low spelling (length operands) c.0 o c.1))

module _ (tree : Built) (nodes others : List Shape) (of : ByNode) (sign : ℕ) (operands : List (List Leaf)) (n : ℕ) (some : 15 ≤ n)
    (there : (d : ℕ) → All (λ p. p < n) (operand_modes tree of d))
    (forth : (ps : List ℕ) → All (λ p. p < n) ps → AllFit nodes operands ps → AllFit others operands ps)
    (back : (ps : List ℕ) → All (λ p. p < n) ps → AllFit others operands ps → AllFit nodes operands ps) where
  pub operator_on : {at : ℕ} {found : Identified} → IsOperator tree nodes of at sign operands found → IsOperator tree others of at sign operands found
  operator_on (by_text ranges lies own) = by_text ranges lies (own_on tree nodes others of sign operands n some there forth back own)
  operator_on (by_standard ranges spelling lies none is first) =
      by_standard ranges spelling lies (λ d own. none d (own_on tree others nodes of sign operands n some there back forth own)) is
      (first_map (StandardFits nodes operands) (StandardFits others operands) first
      (λ o c. forth (standard_parameters o (length operands)) (low_in tree nodes others of sign operands n some there forth back spelling o c))
      (λ o c. back (standard_parameters o (length operands)) (low_in tree nodes others of sign operands n some there forth back spelling o c)))

keep_operators : (nodes after : List Shape) → HoldsNodes nodes → KeepPaths nodes after → KeepForms nodes after → KeepOperators nodes after
keep_operators nodes after holds paths forms tree of at sign operands found are all =
    let n = length nodes in
    let there = λ (d : ℕ). operands_there tree nodes of holds are d (operand_modes tree of d) refl in
    let forth = λ (ps : List ℕ) (low : All (λ p. p < n) ps) (fit : AllFit nodes operands ps).
    all_fit_on nodes after n (λ sort from to path h g. (paths sort from to path h g).0) (λ leaves b every. (forms by.Weak form.Row leaves (Some b) every).0) fit all low in
    let back = λ (ps : List ℕ) (low : All (λ p. p < n) ps) (fit : AllFit after operands ps).
    all_fit_on after nodes n (λ sort from to path h g. (paths sort from to path h g).1) (λ leaves b every. (forms by.Weak form.Row leaves (Some b) every).1) fit all low in (
      operator_on tree nodes after of sign operands n (fifteen nodes holds) there forth back,
      operator_on tree after nodes of sign operands n (fifteen nodes holds) there back forth,
    )

pub interning_operators : InterningKeeps KeepOperators
interning_operators nodes after shape id holds formed within free w =
    keep_operators nodes after holds (interning_paths nodes after shape id holds formed within free w) (interning_forms nodes after shape id holds formed within free w)
