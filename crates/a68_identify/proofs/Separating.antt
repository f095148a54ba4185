-- Modes of which is seen at once that they neither fit nor are related.
use Rattle.std.proofs.Common.{◌≡◌, ◌≢◌, ◌<◌, ◌∙◌, ⊎_elim, ℕ, zero, suc, List, [], ◌∷◌, sym, ap, subst, Some, slice_get, Bool, true, false}
use Rattle.std.specs.Prelude.{IsTrue, not}
use Rattle.std.specs.List.{All}
use Rattle.std.proofs.lemmas.Bool.{false≢true}
use Rattle.std.proofs.lemmas.List.Elements.{All-head}
use Rattle.a68_coerce.specs.Balanced.{LeafLeads}
use Rattle.a68_coerce.specs.Below.{IsLeafBelow}
use Rattle.a68_coerce.specs.Paths.{FirmTo, UnitesTo, a_member, a_union, meekly, uniting}
use Rattle.a68_coerce.specs.declared.goal.CoercionGoal.TheVariants as goal
use Rattle.a68_coerce.specs.declared.leaf.Leaf.{Leaf}
use Rattle.a68_coerce.specs.declared.leaf.Leaf.TheVariants as leaf
use Rattle.a68_equiv.specs.declared.mode.Mode.{Mode}
use Rattle.a68_equiv.specs.Related.{AreMeeklyRelated, AreRelated, IsSelfOrMember, LeadsMeekly, as_it_stands}
use Rattle.a68_equiv.specs.Unfolding.{is_union, unfolded}
use Rattle.a68_identify.specs.Identified.{OperandFits, firmly, any_row}
use Rattle.a68_modes.specs.declared.coercion.Coercion.{Coercion}
use Rattle.a68_modes.specs.declared.coercion.Sort.TheVariants as by
use Rattle.a68_modes.specs.declared.shape.Shape.{Shape}
use Rattle.a68_modes.specs.declared.shape.Shape.TheVariants.{Union}
use Rattle.a68_ranges.proofs.Taking.{some_one}

-- what holds is not refuted
pub no_both : (b : Bool) → IsTrue b → IsTrue (not b) → ⊥
no_both true t f = false≢true f
no_both false t f = false≢true t

-- a unit that stands alone has a mode that is there
pub lone_below : (count mode : ℕ) (leaves : List Leaf) → leaves ≡ leaf.Mode mode ∷ [] → All (IsLeafBelow count) leaves → mode < count
lone_below count mode leaves lone below = All-head (IsLeafBelow count) (leaf.Mode mode) [] (subst (All (IsLeafBelow count)) lone below)

module _ (nodes : List Shape) where
  united : {n k : Mode} → is_union (unfolded nodes n.id) ≡ false → UnitesTo nodes n k → ⊥
  united none (a_member e at) = false≢true (sym none ∙ ap is_union e)
  united none (a_union e f all) = false≢true (sym none ∙ ap is_union e)

  -- what leads firmly to a mode that is no union leads meekly to it
  firm_meekly : {m n : Mode} {path : List Coercion} → is_union (unfolded nodes n.id) ≡ false → FirmTo nodes m (goal.Mode n) path → LeadsMeekly nodes m n
  firm_meekly {path = path} none (meekly w) = (w.0, path, w.1, w.2)
  firm_meekly none (uniting never u) = absurd (united none u.unites)

  module _ (mode parameter : ℕ) (none : is_union (unfolded nodes parameter) ≡ false) where
    alone : (i : ℕ) (l : Leaf) → slice_get (leaf.Mode mode ∷ []) i ≡ Some l → LeafLeads nodes by.Firm (as_it_stands parameter) l → LeadsMeekly nodes (as_it_stands mode) (as_it_stands parameter)
    alone zero l e leads =
        let same : leaf.Mode mode ≡ l = some_one e in
        let way = subst (LeafLeads nodes by.Firm (as_it_stands parameter)) (sym same) leads in
        firm_meekly none way.1
    alone (suc i) l e leads = absurd (cc)

    fits_meekly : (leaves : List Leaf) → leaves ≡ leaf.Mode mode ∷ [] → parameter ≢ 0 → OperandFits nodes leaves parameter → LeadsMeekly nodes (as_it_stands mode) (as_it_stands parameter)
    fits_meekly leaves lone some (firmly i other at) = alone i at.leaf (subst (λ (ls : List Leaf). slice_get ls i ≡ Some at.leaf) lone at.there) at.leads
    fits_meekly leaves lone some (any_row b is at) = absurd (some is)

  -- a unit alone, whose mode does not lead meekly to a parameter that is no union, does not fit it
  pub is_apart : (mode parameter : ℕ) (leaves : List Leaf) → leaves ≡ leaf.Mode mode ∷ [] → is_union (unfolded nodes parameter) ≡ false → parameter ≢ 0
      → (LeadsMeekly nodes (as_it_stands mode) (as_it_stands parameter) → ⊥) → OperandFits nodes leaves parameter → ⊥
  is_apart mode parameter leaves lone none some not_led fits = not_led (fits_meekly mode parameter none leaves lone some fits)

  only_itself : (m x : ℕ) (s : Shape) → is_union s ≡ false → IsSelfOrMember nodes m s x → x ≡ m
  only_itself m x (Union members) none is = absurd (false≢true (sym none))
  only_itself m x _ none is = is

  -- two modes that are no unions, of which neither leads meekly to the other, are not related
  pub are_apart : (one other : ℕ) → is_union (unfolded nodes one) ≡ false → is_union (unfolded nodes other) ≡ false
      → (LeadsMeekly nodes (as_it_stands one) (as_it_stands other) → ⊥) → (LeadsMeekly nodes (as_it_stands other) (as_it_stands one) → ⊥) → AreRelated nodes one other → ⊥
  are_apart one other none never not_led not_back r =
      let a : r.0 ≡ one = only_itself one r.0 (unfolded nodes one) none r.2 in
      let b : r.1 ≡ other = only_itself other r.1 (unfolded nodes other) never r.3 in
      let either : AreMeeklyRelated nodes one other = subst (λ x. AreMeeklyRelated nodes x other) a (subst (λ y. AreMeeklyRelated nodes r.0 y) b r.4) in
      ⊎_elim (λ w. not_led w) (λ w. not_back w) either
