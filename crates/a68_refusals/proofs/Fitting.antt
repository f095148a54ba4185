-- Units and what is asked of them.
use Rattle.std.proofs.Common.{◌≡◌, ℕ, List, [], ◌∷◌, suc, zero, Option, Some, None, refl, sym, ◌∙◌, subst, slice_get}
use Rattle.std.specs.Prelude.{◌↔◌, ◌≢◌, IsTrue, is_some, not}
use Rattle.std.proofs.lemmas.Bool.{false≢true}
use Rattle.a68_coerce.specs.Balanced.{BalancesAt, IsBalanced, LeafLeads, LeafSuits}
use Rattle.a68_coerce.specs.Paths.{CanLead}
use Rattle.a68_coerce.specs.declared.leaf.Leaf.{Leaf}
use Rattle.a68_coerce.specs.declared.leaf.Leaf.TheVariants as leaf
use Rattle.a68_equiv.specs.Related.{as_it_stands}
use Rattle.a68_equiv.specs.declared.mode.Mode.{Mode}
use Rattle.a68_modes.specs.declared.coercion.Sort.{Sort}
use Rattle.a68_modes.specs.declared.shape.Shape.{Shape}
use Rattle.a68_positions.specs.declared.position.Position.{Position}
use Rattle.a68_positions.specs.declared.position.Position.TheVariants as position
use Rattle.a68_refusals.specs.Units.{IsGoalMisfit, IsMisfit, hands_on_it, suits, misfits}
use Rattle.a68_refusals.specs.declared.unit.Misfit.{Misfit}
use Rattle.a68_tree.specs.declared.kind.NodeKind.{NodeKind}
use Rattle.a68_yields.specs.declared.yielding.Yielding.{Yielding}

module _ (nodes : List Shape) (s : Sort) (to : Mode) (from : ℕ) where
  past : (k : ℕ) (other : Leaf) → slice_get (leaf.Mode from ∷ []) k ≡ Some other → k ≢ 0 → LeafSuits nodes to other
  past zero other is apart = absurd (apart refl)
  past (suc k) other is apart = absurd (cc)

  balances : CanLead nodes s (as_it_stands from) to → BalancesAt nodes s to (leaf.Mode from ∷ []) 0
  balances lead = record { leaf = leaf.Mode from; there = refl; leads = lead; others = past }

  led : (i : ℕ) → BalancesAt nodes s to (leaf.Mode from ∷ []) i → CanLead nodes s (as_it_stands from) to
  led zero at = let e : at.leaf ≡ leaf.Mode from = let there = at.there in cc in subst (λ l. LeafLeads nodes s to l) e at.leads
  led (suc i) at = let there = at.there in absurd (cc)

  -- a unit is balanced alone where it leads
  pub leads_alone : (found : Option ℕ) → IsBalanced nodes s to (leaf.Mode from ∷ []) found → IsTrue (is_some found) ↔ CanLead nodes s (as_it_stands from) to
  leads_alone (Some i) is = (λ t. led i is.0, λ lead. refl)
  leads_alone None none = (λ t. absurd (false≢true t), λ lead. absurd (none 0 (balances lead)))

-- a goal misfits or it does not
module _ (nodes : List Shape) (m : ℕ) (setter : Option ℕ) (k : NodeKind) (y : Yielding) where
  one_goal : (f g : Option Misfit) → IsGoalMisfit nodes m setter k y f → IsGoalMisfit nodes m setter k y g → f ≡ g
  one_goal f g (hands_on_it a e) (hands_on_it b d) = e ∙ sym d
  one_goal f g (hands_on_it a e) (suits b fits d) = absurd (false≢true (sym b ∙ a))
  one_goal f g (hands_on_it a e) (misfits b fits d) = absurd (false≢true (sym b ∙ a))
  one_goal f g (suits a fits e) (hands_on_it b d) = absurd (false≢true (sym a ∙ b))
  one_goal f g (suits a fits e) (suits b also d) = e ∙ sym d
  one_goal f g (suits a fits e) (misfits b not d) = absurd (fits not)
  one_goal f g (misfits a not e) (hands_on_it b d) = absurd (false≢true (sym a ∙ b))
  one_goal f g (misfits a not e) (suits b fits d) = absurd (fits not)
  one_goal f g (misfits a not e) (misfits b also d) = e ∙ sym d

-- a node has one misfit, or none
pub one_misfit : (nodes : List Shape) (n : ℕ) (k : NodeKind) (y : Yielding) (own : Position) (f g : Option Misfit) → IsMisfit nodes n k y own f → IsMisfit nodes n k y own g → f ≡ g
one_misfit nodes n k y (position.Goal m setter) f g p q = one_goal nodes m setter k y f g p q
one_misfit nodes n k y (position.Asks by None) f g p q = p ∙ sym q
one_misfit nodes n k y (position.Asks by (Some m)) f g p q = p ∙ sym q
one_misfit nodes n k y position.Nowhere f g p q = p ∙ sym q
one_misfit nodes n k y position.Unlooked f g p q = p ∙ sym q
one_misfit nodes n k y position.Called f g p q = p ∙ sym q
one_misfit nodes n k y (position.Items call) f g p q = p ∙ sym q
