-- From a row to what it is a row of, and back by adding dimensions.
use Rattle.std.proofs.Common.{◌≡◌, ◌<◌, ◌+◌, ◌^◌, ℕ, zero, suc, List, [], ◌∷◌, ◌++◌, length, refl, sym, ap, subst, add-one, arith, ◌∙◌}
use Rattle.a68_modes.specs.declared.shape.Shape.{Shape}
use Rattle.a68_modes.specs.declared.shape.Shape.TheVariants.{Rows}
use Rattle.a68_modes.specs.Nodes.{HoldsNodes}
use Rattle.a68_modes.specs.declared.coercion.Coercion.{Coercion}
use Rattle.a68_modes.specs.declared.coercion.Coercion.TheVariants.{RowUp}
use Rattle.a68_equiv.specs.declared.mode.Mode.{Mode}
use Rattle.a68_equiv.specs.Dimensions.{HaveDimensions}
use Rattle.a68_equiv.specs.Unfolding.{unfolded, behind}
use Rattle.a68_coerce.specs.declared.goal.CoercionGoal.{CoercionGoal}
use Rattle.a68_coerce.specs.declared.goal.CoercionGoal.TheVariants as goal
use Rattle.a68_coerce.specs.Below.{IsGoalBelow, row_next, depth, depth_of_shape}
use Rattle.a68_coerce.specs.Goals.{IsRowOver, IsVoidGoal}
use Rattle.a68_coerce.specs.Paths.{No, FirmTo, WidenedTo, StrongTo}
use Rattle.a68_coerce.specs.Paths.StrongTo.{rowing}
use Rattle.a68_coerce.specs.Routes.{with_rows}
use Rattle.a68_coerce.proofs.Depth.{dimensions, same_count}
use Rattle.a68_coerce.proofs.Going.{most}
use Rattle.a68_coerce.proofs.Orders.{no_row}

shift : (q : List Coercion) (n : ℕ) → with_rows (q ++ RowUp ∷ []) n ≡ with_rows q (suc n)
shift q zero = refl
shift q (suc n) = ap (λ (p : List Coercion). p ++ RowUp ∷ []) (shift q n)

-- the whole goal is a row, so many dimensions up, of this goal
pub record IsUp (nodes : List Shape) (m : Mode) (whole g : CoercionGoal) (rows : ℕ) : Type 0 where
  pub leads : (q : List Coercion) → StrongTo nodes m g q → StrongTo nodes m whole (with_rows q rows)
  pub none : No (StrongTo nodes m g) → No (StrongTo nodes m whole)
  pub below : IsGoalBelow (length nodes) g
  pub room : rows + depth nodes g < 2 ^ 64

-- rows are no deeper than there are nodes
shallow : (nodes : List Shape) → HoldsNodes nodes → HaveDimensions nodes → (n : ℕ) → depth_of_shape nodes (unfolded nodes n) < 2 ^ 64
shallow nodes holds have n = go (unfolded nodes n) refl
  where
    go : (s : Shape) → unfolded nodes n ≡ s → depth_of_shape nodes s < 2 ^ 64
    go (Rows dims flex e) is =
        let small = (dimensions nodes have (behind nodes (length nodes) n) dims e flex is).1 in
        let count = same_count nodes (length nodes) e in
        let few = most (row_next nodes) (length nodes) e in
        let all = holds.few in
        omega arith
    go _ is = omega arith

module _ (nodes : List Shape) (m : Mode) where
  pub begun : (n : Mode) → HoldsNodes nodes → HaveDimensions nodes → n.id < length nodes → IsUp nodes m (goal.Mode n) (goal.Mode n) 0
  begun n holds have h = record { leads = λ q v. v; none = λ no. no; below = h; room = let s = shallow nodes holds have n.id in omega arith }

  pub up : (whole g h : CoercionGoal) (rows : ℕ) → IsUp nodes m whole g rows → (IsVoidGoal nodes g → ⊥) → No (FirmTo nodes m g) → No (WidenedTo nodes m g) → IsRowOver nodes g h → IsGoalBelow (length nodes) h → depth nodes h < depth nodes g
      → IsUp nodes m whole h (rows + 1)
  up whole g h rows u nv a b e below deep = record {
    leads = λ q v. subst (λ (p : List Coercion). StrongTo nodes m whole p) (shift q rows ∙ ap (with_rows q) (sym (add-one rows))) (u.leads (q ++ RowUp ∷ []) (rowing {h = h} {q = q} a b e v refl));
    none = λ no. u.none (no_row nodes m g h nv a b e no);
    below = below;
    room = let r = u.room in omega arith;
  }
