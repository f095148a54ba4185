-- The nodes of a tree one by one, from the last to the first.
use Rattle.std.proofs.Common.{◌≡◌, ℕ, List, ◌<◌, ◌≤◌, ◌+◌, ◌⊎◌, inl, inr, Option, Some, length, ap, ◌∙◌, subst, arith}
use Rattle.a68_refusals.proofs.Fitting.{one_misfit}
use Rattle.a68_refusals.proofs.Ordering.{OneMore, first_of_same, one_more}
use Rattle.a68_refusals.specs.First.{Asked, Breaks, IsBroken, IsBrokenFrom, IsFirstRefused, IsMisfitAt, itself, coerced, own_at, told_misfit, told_own}
use Rattle.a68_refusals.specs.Order.{IsFirstOf, earlier}
use Rattle.a68_modes.specs.declared.shape.Shape.{Shape}
use Rattle.a68_positions.specs.declared.position.Position.{Position}
use Rattle.a68_refusals.specs.Rules.{own_rule}
use Rattle.a68_refusals.specs.Units.{IsMisfit}
use Rattle.a68_tree.specs.Trees.{Built}
use Rattle.a68_tree.specs.declared.kind.NodeKind.{NodeKind}
use Rattle.a68_yields.specs.declared.yielding.Finding.{Finding}
use Rattle.a68_yields.specs.declared.yielding.Yielding.{Yielding}
use Rattle.a68_refusals.specs.declared.turn.Broken.{Broken}
use Rattle.a68_refusals.specs.declared.unit.Misfit.{Misfit}
use Rattle.a68_ranges.specs.Nodes.{kind_at}
use Rattle.a68_positions.specs.Given.{position_at}
use Rattle.a68_yields.specs.Leaves.{yield_at}

module _ (a : Asked) (n : ℕ) (m : Option Misfit) (is : IsMisfitAt a n m) where
  abbrev Two : Broken → Type 0
  Two b = OneMore (OneMore (IsBrokenFrom a (n + 1)) (told_own a.tree n (own_at a n))) (told_misfit a.tree n m) b

  two_parts : (k : ℕ) → (n ≤ k) → (n + 1 ≤ k) ⊎ (k ≡ n)
  two_parts k at_least = grind arith

  here : (b : Broken) → Breaks a n b → Two b
  here b (itself e) = inl (inr e)
  here b (coerced other also e) =
      inr (subst (λ x. told_misfit a.tree n x ≡ Some b) (one_misfit a.nodes n (kind_at a.tree n) (yield_at a.ys n) (position_at a.ps n) other m also is) e)

  to : (b : Broken) → IsBrokenFrom a n b → Two b
  to b (k, at_least, lt, breaks) = elim (two_parts k at_least) [
    | inl more ↦ inl (inl (k, more, lt, breaks))
    | inr same ↦ here b (subst (λ x. Breaks a x b) same breaks)
  ]

  from : n < length a.tree.nodes → (b : Broken) → Two b → IsBrokenFrom a n b
  from there b (inl (inl (k, more, lt, breaks))) = (k, omega arith, lt, breaks)
  from there b (inl (inr e)) = (n, omega arith, there, itself e)
  from there b (inr e) = (n, omega arith, there, coerced m is e)

  -- one node more
  pub walk_on : n < length a.tree.nodes → (found : Option Broken) → IsFirstOf (IsBrokenFrom a (n + 1)) found
      → IsFirstOf (IsBrokenFrom a n) (earlier (earlier found (told_own a.tree n (own_at a n))) (told_misfit a.tree n m))
  walk_on there found first =
      let own = told_own a.tree n (own_at a n) in
      let unfit = told_misfit a.tree n m in
      first_of_same Two (IsBrokenFrom a n) (earlier (earlier found own) unfit) (from there) to
      (one_more (OneMore (IsBrokenFrom a (n + 1)) own) (earlier found own) unfit (one_more (IsBrokenFrom a (n + 1)) found own first))

-- what is known at a node is what the tables have
module _ (tree : Built) (tags : List (Option ℕ)) (defined : List ℕ) (ys : List Yielding) (n : ℕ) where
  pub same_rule : (m nodes : List Shape) → m ≡ nodes → (f found : Finding) → f ≡ found → (o own : Position) → o ≡ own → (k kind : NodeKind) → k ≡ kind
      → own_rule tree tags defined m ys n f o k ≡ own_rule tree tags defined nodes ys n found own kind
  same_rule m nodes a f found b o own d k kind e =
      ap (λ x. own_rule tree tags defined x ys n f o k) a ∙ ap (λ x. own_rule tree tags defined nodes ys n x o k) b
      ∙ ap (λ x. own_rule tree tags defined nodes ys n found x k) d ∙ ap (λ x. own_rule tree tags defined nodes ys n found own x) e

pub same_misfit : (nodes : List Shape) (n : ℕ) (k kind : NodeKind) → k ≡ kind → (y yielding : Yielding) → y ≡ yielding → (o own : Position) → o ≡ own → (found : Option Misfit)
    → IsMisfit nodes n k y o found → IsMisfit nodes n kind yielding own found
same_misfit nodes n k kind a y yielding b o own d found is =
    let one = subst (λ x. IsMisfit nodes n x y o found) a is in
    let two = subst (λ x. IsMisfit nodes n kind x o found) b one in
    subst (λ x. IsMisfit nodes n kind yielding x found) d two

-- no node yet
pub none_yet : (a : Asked) (end : ℕ) → end ≡ length a.tree.nodes → (b : Broken) → IsBrokenFrom a end b → ⊥
none_yet a end e b (k, at_least, lt, breaks) = omega arith

-- all nodes
pub all_nodes : (a : Asked) (start : ℕ) (found : Option Broken) → start ≡ 0 → IsFirstOf (IsBrokenFrom a start) found → IsFirstRefused a found
all_nodes a start found e first =
    first_of_same (IsBrokenFrom a start) (IsBroken a (length a.tree.nodes)) found (λ b h. (h.0, h.2, h.3)) (λ b h. (h.0, omega (arith, e), h.1, h.2)) first
