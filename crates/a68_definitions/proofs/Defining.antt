-- The modes of definitions are among the modes that are there.
use Rattle.std.proofs.Common.{◌≡◌, ◌<◌, ◌≤◌, ◌∷◌, ◌⊎◌, inl, inr, ⊎_elim, [], ℕ, zero, suc, List, Bool, true, false, Option, None, Some, length, map, get_or, refl, arith, length-append, if◌then◌else◌}
use Rattle.std.proofs.lemmas.List.Elements.{All-map}
use Rattle.std.specs.List.{All}
use Rattle.std.specs.Prelude.{slice_index_or, slice_set}
use Rattle.a68_declare.proofs.Standing.{fifteen}
use Rattle.a68_declare.specs.Outcome.{AreByNode, AreModesOf, ByNode}
use Rattle.a68_declarers.specs.Shapes.{front}
use Rattle.a68_definitions.specs.Defined.{AllBelow, AreBelow, IsGranted, IsRequestBelow, fixed_mode_at, first_declarer, identity, is_parameter, has_parameters, mode_at, parameters, part_from_end, part_number, requested, variable, with_mode, with_parameters}
use Rattle.a68_definitions.specs.declared.requests.Request.{Request}
use Rattle.a68_definitions.specs.declared.requests.Request.TheVariants as request
use Rattle.a68_mode_table.specs.Growing.{IsInterned, an_old_one, a_new_one}
use Rattle.a68_modes.specs.declared.shape.Shape.{Shape}
use Rattle.a68_modes.specs.declared.shape.Shape.TheVariants.{Proc, Ref}
use Rattle.a68_modes.specs.Nodes.{HoldsNodes}
use Rattle.a68_ranges.proofs.Taking.{below_or}
use Rattle.a68_ranges.specs.Nodes.{kind_at, parts_at}
use Rattle.a68_tree.specs.Trees.{Built}
use Rattle.a68_tree.specs.declared.kind.NodeKind.{NodeKind}
use Rattle.a68_tree.specs.declared.kind.NodeKind.TheVariants as kind

-- the modes of declarers, one by one
all_fixed : (n : ℕ) (of : ByNode) (ds : List ℕ) → AreBelow n of → All (λ m. m < n) (map (fixed_mode_at of) ds)
all_fixed n of ds below = All-map (λ m. m < n) (fixed_mode_at of) ds (λ k d h. below.without_flex (slice_index_or ds k d))

identity_below : (n : ℕ) (of : ByNode) (table parts : List ℕ) → 0 < n → AreBelow n of → AllBelow n table → IsRequestBelow n (identity of table parts)
identity_below n of table [] some below all = some
identity_below n of table (r ∷ []) some below all = all r
identity_below n of table (d ∷ u ∷ more) some below all = below.without_flex d

variable_below : (n : ℕ) (of : ByNode) (table parts : List ℕ) (d : Option ℕ) → AreBelow n of → AllBelow n table → IsRequestBelow n (variable of table parts d)
variable_below n of table parts (Some d) below all = below.as_they_stand d
variable_below n of table parts None below all = all (part_number parts 0)

-- what is requested is there
pub requested_below : (tree : Built) (of : ByNode) (n : ℕ) (table : List ℕ) (k : NodeKind) (parts : List ℕ) → 1 < n → AreBelow n of → AllBelow n table
    → IsRequestBelow n (requested tree of table k parts)
requested_below tree of n table kind.For parts some below all = some
requested_below tree of n table kind.RoutineText parts some below all = (all_fixed n of (parameters tree 0 parts) below, below.without_flex (part_from_end parts 2))
requested_below tree of n table kind.Plan parts some below all = (all_fixed n of (front parts) below, below.without_flex (part_from_end parts 1))
requested_below tree of n table kind.IdentityDefinition parts some below all = identity_below n of table parts (omega arith) below all
requested_below tree of n table kind.OpDefinition parts some below all = all (part_number parts 0)
requested_below tree of n table kind.Variable parts some below all = variable_below n of table parts (first_declarer tree parts) below all
requested_below tree of n table kind.Generator parts some below all = below.as_they_stand (part_from_end parts 1)
requested_below tree of n table kind.Cast parts some below all = below.without_flex (part_number parts 0)
requested_below tree of n table _ parts some below all = omega arith

-- a mode that joins others, and those
pub record IsLonger (nodes after : List Shape) (m : ℕ) : Type 0 where
  pub long : length nodes ≤ length after
  pub there : m < length after

pub interned_long : (nodes : List Shape) (shape : Shape) (after : List Shape) (m : ℕ) → IsInterned nodes shape after m → IsLonger nodes after m
interned_long nodes shape after m (an_old_one there is same) = rw same (record { long = omega arith; there = there })
interned_long nodes shape after m (a_new_one none added last) = rw added (record { long = omega (arith, length-append nodes (shape ∷ [])); there = omega (arith, last, length-append nodes (shape ∷ [])) })

pub granted_long : (nodes : List Shape) (r : Request) (after : List Shape) (m : ℕ) → IsRequestBelow (length nodes) r → IsGranted nodes r after m → IsLonger nodes after m
granted_long nodes request.Nothing after m below g = rw g.0 (record { long = omega arith; there = omega (arith, below, g.1) })
granted_long nodes (request.There x) after m below g = rw g.0 (record { long = omega arith; there = omega (arith, below, g.1) })
granted_long nodes (request.Name of) after m below g = interned_long nodes (Ref of) after m g
granted_long nodes (request.Routine params result) after m below g = interned_long nodes (Proc params result) after m g

-- an entry of a table that was written to is the old one, or what was written
set_entry : (xs : List ℕ) (i y k : ℕ) → (get_or (slice_set xs i y) k 0 ≡ get_or xs k 0) ⊎ (get_or (slice_set xs i y) k 0 ≡ y)
set_entry [] i y k = inl refl
set_entry (x ∷ xs) zero y zero = inr refl
set_entry (x ∷ xs) zero y (suc k) = inl refl
set_entry (x ∷ xs) (suc i) y zero = inl refl
set_entry (x ∷ xs) (suc i) y (suc k) = set_entry xs i y k

-- a table with one entry more
pub set_below : (n : ℕ) (table : List ℕ) (node m : ℕ) → AllBelow n table → m < n → AllBelow n (slice_set table node m)
set_below n table node m all below k = at (set_entry table node m k)
  where
    at : (get_or (slice_set table node m) k 0 ≡ get_or table k 0) ⊎ (get_or (slice_set table node m) k 0 ≡ m) → part_number (slice_set table node m) k < n
    at (inl same) = rw same (all k)
    at (inr new) = rw new below

parameters_by : (tree : Built) (of : ByNode) (n before p : ℕ) (ps table : List ℕ) (is : Bool) → AllBelow n (with_parameters tree of before ps (slice_set table p (fixed_mode_at of before)))
    → AllBelow n (with_parameters tree of p ps table) → AllBelow n (if is then with_parameters tree of before ps (slice_set table p (fixed_mode_at of before)) else with_parameters tree of p ps table)
parameters_by tree of n before p ps table true one other = one
parameters_by tree of n before p ps table false one other = other

pub parameters_below : (tree : Built) (of : ByNode) (n before : ℕ) (parts table : List ℕ) → AreBelow n of → AllBelow n table → AllBelow n (with_parameters tree of before parts table)
parameters_below tree of n before [] table below all = all
parameters_below tree of n before (p ∷ ps) table below all =
    parameters_by tree of n before p ps table (is_parameter (kind_at tree p))
    (parameters_below tree of n before ps (slice_set table p (fixed_mode_at of before)) below (set_below n table p (fixed_mode_at of before) all (below.without_flex before)))
    (parameters_below tree of n p ps table below all)

pub mode_below : (tree : Built) (of : ByNode) (n node m : ℕ) (table : List ℕ) → AreBelow n of → AllBelow n table → m < n → AllBelow n (with_mode tree of node m table)
mode_below tree of n node m table below all h = by (has_parameters (kind_at tree node))
  where
    set : AllBelow n (slice_set table node m)
    set = set_below n table node m all h

    by : (is : Bool) → AllBelow n (if is then with_parameters tree of 0 (parts_at tree node) (slice_set table node m) else slice_set table node m)
    by true = parameters_below tree of n 0 (parts_at tree node) (slice_set table node m) below set
    by false = set

pub of_longer : (n more : ℕ) (of : ByNode) → n ≤ more → AreBelow n of → AreBelow more of
of_longer n more of h below = record {
  as_they_stand = λ d. let x : mode_at of d < n = below.as_they_stand d in omega arith;
  without_flex = λ d. let x : fixed_mode_at of d < n = below.without_flex d in omega arith;
}

pub all_longer : (n more : ℕ) (table : List ℕ) → n ≤ more → AllBelow n table → AllBelow more table
all_longer n more table h all k = let x : part_number table k < n = all k in omega arith

-- there is more than one mode
pub some_modes : (nodes : List Shape) → HoldsNodes nodes → 1 < length nodes
some_modes nodes holds = let all : 15 ≤ length nodes = fifteen nodes holds in omega arith

-- ---- the modes that are found of declarers

by_node_below : (tree : Built) (n : ℕ) (numbers : ℕ → ℕ) (list : List ℕ) → 0 < n → ((d : ℕ) → numbers d < n) → AreByNode tree numbers list → (d : ℕ) → part_number list d < n
by_node_below tree n numbers list some below are d =
    ⊎_elim (λ h. let e = are.each d (let l = are.long in omega arith) in rw e (below d)) (λ h. rw (default_past list d 0 h) some) (below_or d (length list))
  where
    default_past : (xs : List ℕ) (k d : ℕ) → length xs ≤ k → slice_index_or xs k d ≡ d
    default_past [] k d h = refl
    default_past (x ∷ xs) zero d h = absurd (omega arith)
    default_past (x ∷ xs) (suc k) d h = default_past xs k d (omega arith)

pub modes_below : (tree : Built) (nodes : List Shape) (of : ByNode) → AreModesOf tree nodes of → AreBelow (length nodes) of
modes_below tree nodes of are =
    let many = some_modes nodes are.cleans.clean.holds in
    record {
      as_they_stand = by_node_below tree (length nodes) (λ d. are.to (are.number d false)) of.as_they_stand (omega arith)
          (λ d. are.cleans.there (are.number d false) (are.raw_are.declared.there d false)) are.at;
      without_flex = by_node_below tree (length nodes) (λ d. are.to (are.number d true)) of.without_flex (omega arith)
          (λ d. are.cleans.there (are.number d true) (are.raw_are.declared.there d true)) are.fixed;
    }
