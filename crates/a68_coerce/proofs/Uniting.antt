-- The first mode on the meek way that unites.
use Rattle.std.proofs.Common.{◌≡◌, ◌<◌, ◌+◌, ℕ, List, [], ◌∷◌, ◌++◌, None, length, ap, sym, subst}
use Rattle.a68_modes.specs.declared.shape.Shape.{Shape}
use Rattle.a68_modes.specs.declared.coercion.Coercion.{Coercion}
use Rattle.a68_modes.specs.declared.coercion.Coercion.TheVariants.{Unite}
use Rattle.a68_equiv.specs.declared.mode.Mode.{Mode}
use Rattle.a68_equiv.specs.Related.{Meek, meek_step}
use Rattle.a68_equiv.specs.Unfolding.{unfolded}
use Rattle.a68_equiv.specs.Ways.{AreWellFormed}
use Rattle.a68_modes.specs.Nodes.{HoldsNodes}
use Rattle.a68_coerce.specs.Paths.{UnitedTo, UnitesTo, IsFirstNode}
use Rattle.a68_coerce.proofs.Walking.{nowhere, one_end, short}
use Rattle.a68_coerce.specs.Routes.{meek_way}
use Rattle.a68_coerce.proofs.Going.{Counted, started, onward, counted_way}

-- so far the walk has passed nothing that unites
pub record Uniting (nodes : List Shape) (from to : Mode) (count : ℕ) (at : Mode) : Type 0 where
  pub path : List Coercion
  pub counted : Counted nodes (λ r k. UnitesTo nodes to k) from count path at

module _ (nodes : List Shape) (from to : Mode) where
  pub sets_out : from.id < length nodes → Uniting nodes from to 0 from
  sets_out h = record { path = []; counted = started nodes (λ r k. UnitesTo nodes to k) from h }

  module _ (count : ℕ) (at : Mode) (w : Uniting nodes from to count at) where
    pub found : (node : ℕ) → UnitesTo nodes to at → IsFirstNode nodes at node → UnitedTo nodes from to (meek_way nodes count from ++ Unite node ∷ [])
    found node u n = record {
      mode = at;
      meekly = w.path;
      way = w.counted.walked.reached;
      unites = u;
      first = λ q more k e v h. let x = w.counted.walked.only q k v h in short w.path q more x.0 e x.1;
      node = node;
      node_is = n;
      whole = ap (λ (p : List Coercion). p ++ Unite node ∷ []) (counted_way nodes (λ r k. UnitesTo nodes to k) from count w.path at w.counted);
    }

    pub no_node : UnitesTo nodes to at → ((id : ℕ) → IsFirstNode nodes at id → ⊥) → (whole : List Coercion) → UnitedTo nodes from to whole → ⊥
    no_node u none whole v =
        let x = w.counted.walked.only v.meekly v.mode v.way v.unites in
        let same : w.path ≡ v.meekly = v.first w.path x.0 at x.1 w.counted.walked.reached u in
        let end : at ≡ v.mode = one_end w.counted.walked.reached (subst (λ (p : List Coercion). Meek nodes from p v.mode) (sym same) v.way) in
        none v.node (subst (λ (m : Mode). IsFirstNode nodes m v.node) (sym end) v.node_is)

    pub none_unites : (UnitesTo nodes to at → ⊥) → meek_step (unfolded nodes at.id) ≡ None → (whole : List Coercion) → UnitedTo nodes from to whole → ⊥
    none_unites not e whole v = nowhere nodes (λ r k. UnitesTo nodes to k) from w.path at w.counted.walked not e v.meekly v.mode v.way v.unites

    pub goes_on : (next : Mode) (c : Coercion) → HoldsNodes nodes → AreWellFormed nodes → (UnitesTo nodes to at → ⊥) → next.id < length nodes → Meek nodes at (c ∷ []) next → Uniting nodes from to (count + 1) next
    goes_on next c holds formed not h v = record { path = w.path ++ c ∷ []; counted = onward nodes (λ r k. UnitesTo nodes to k) from count w.path at next c holds formed w.counted h not v }
