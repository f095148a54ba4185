-- A tree whose formulas are shaped declares what it declared while they were flat.
use Rattle.std.proofs.Common.{◌≡◌, ℕ, zero, suc, ◌+◌, ◌<◌, ◌≤◌, Bool, true, false, List, [], ◌∷◌, ◌++◌, length, refl, sym, ◌∙◌, ap, subst, arith, Some, None, slice_get, inl, inr, ◌⊎◌}
use Rattle.std.specs.Prelude.{if◌then◌else◌}
use Rattle.std.specs.Option.{option_map_or}
use Rattle.std.specs.declared.option.Option.{Option}
use Rattle.std.proofs.lemmas.Bool.{false≢true}
use Rattle.std.proofs.lemmas.Option.{slice_get_within}
use Rattle.a68_check.specs.Annotates.{DeclaresOnce}
use Rattle.a68_op_ident.specs.Formulas.{Placed, alone, under, over, is_formula, is_sign, monadic_node, dyadic_node}
use Rattle.a68_op_ident.specs.Shapes.{Shaped, IsShaped, IsLeft, IsOperatorNode}
use Rattle.a68_op_ident.specs.declared.formula.Operand.{Operand}
use Rattle.a68_op_ident.specs.declared.formula.FormulaPart.{FormulaPart}
use Rattle.a68_op_ident.proofs.Lists.{eq_or_more}
use Rattle.a68_op_ident.proofs.Parts.{same_count, sign_nodes}
use Rattle.a68_op_ident.proofs.Shaping.{split, here_at, left_of, right_of}
use Rattle.a68_ranges.specs.Definitions.{defines, defining, if_defines, if_joined, is_joined, unjoined, declared_by, declared_in}
use Rattle.a68_ranges.specs.Nodes.{kind_at, name_at, node_at, parts_at}
use Rattle.a68_ranges.specs.Twice.{IsTwice}
use Rattle.a68_ranges.specs.declared.sort.IndicatorKind.{IndicatorKind}
use Rattle.a68_ranges.proofs.Taking.{past}
use Rattle.a68_tree.specs.Trees.{Built}
use Rattle.a68_tree.specs.declared.kind.NodeKind.{NodeKind}
use Rattle.a68_tree.specs.declared.kind.NodeKind.TheVariants as kind
use Rattle.a68_tree.specs.declared.node.Node.{Node}

-- ---- formulas, signs and operators declare nothing and define nothing

data IsInert : NodeKind → Type 0 where
  formula : IsInert kind.Formula
  sign : IsInert kind.Sign
  monadic : IsInert kind.Monadic
  dyadic : IsInert kind.Dyadic

inert_defines : (k : NodeKind) → IsInert k → defines k ≡ None
unfolding defines
inert_defines k formula = refl
inert_defines k sign = refl
inert_defines k monadic = refl
inert_defines k dyadic = refl

inert_joined : (k : NodeKind) → IsInert k → is_joined k ≡ false
inert_joined k formula = refl
inert_joined k sign = refl
inert_joined k monadic = refl
inert_joined k dyadic = refl

inert_declares : (tree : Built) (k : NodeKind) (ps : List ℕ) → IsInert k → declared_by tree k ps ≡ []
inert_declares tree k ps formula = refl
inert_declares tree k ps sign = refl
inert_declares tree k ps monadic = refl
inert_declares tree k ps dyadic = refl

formula_inert : (k : NodeKind) → is_formula k ≡ true → IsInert k
formula_inert kind.Formula e = formula
formula_inert _ e = absurd (false≢true e)

sign_inert : (k : NodeKind) → is_sign k ≡ true → IsInert k
sign_inert kind.Sign e = sign
sign_inert _ e = absurd (false≢true e)

-- an inert node stands there
abbrev IsInertIn : List Node → ℕ → Type 0
IsInertIn nodes id = (n : Node) × (slice_get nodes id ≡ Some n) × IsInert n.kind

kind_there : (tree : Built) (id : ℕ) → IsInertIn tree.nodes id → IsInert (kind_at tree id)
kind_there tree id (n, at, is) = subst IsInert (sym (ap (λ (o : Option Node). option_map_or (λ (m : Node). m.kind) o kind.Skip) at)) is

placed_inert : {nodes : List Node} {ts : List FormulaPart} {id next : ℕ} {top : Operand} → Placed nodes ts id next top → (k : ℕ) → id ≤ k → k < next → IsInertIn nodes k
placed_inert (alone o) k from to = absurd (omega arith)
placed_inert {nodes = nodes} {id = id} (under s o c here a) k from to =
    elim (eq_or_more id k from) [
      | inl e ↦ (monadic_node s o, ap (slice_get nodes) (sym e) ∙ here, monadic)
      | inr u ↦ placed_inert a k (omega arith) to
    ]
placed_inert {nodes = nodes} {id = id} (over left right s p middle a b parts l r here x y) k from to =
    elim (split k id middle from) [
      | here_at e ↦ (dyadic_node s a b, ap (slice_get nodes) e ∙ here, dyadic)
      | left_of u v ↦ placed_inert x k u v
      | right_of u ↦ placed_inert y k u to
    ]

-- ---- each node of the shaped tree is that of the flat one, or both are inert

data Alike (flat shaped : Built) (id : ℕ) : Type 0 where
  same : node_at shaped id ≡ node_at flat id → Alike flat shaped id
  inert : IsInert (kind_at flat id) → IsInert (kind_at shaped id) → Alike flat shaped id

flat_inert : (flat : Built) (id : ℕ) → IsOperatorNode flat id → IsInertIn flat.nodes id
flat_inert flat id o =
    let low = o.from in
    let high = o.below in
    elim (eq_or_more o.formula id low) [
      | inl e ↦ (o.node, ap (slice_get flat.nodes) (sym e) ∙ o.there, formula_inert o.node.kind o.formed)
      | inr u ↦ (let at = sign_nodes flat.nodes (o.formula + 1) false o.node.parts o.tokens o.reads id (omega arith) (omega arith) in (at.node, at.there, sign_inert at.node.kind at.kind_is))
    ]

shaped_inert : (flat : Built) (shaped : List Node) (bound id : ℕ) (o : IsOperatorNode flat id) → IsShaped flat shaped bound o.formula o.node.parts ⊎ IsLeft flat shaped o.formula o.node
    → IsInertIn shaped id
shaped_inert flat shaped bound id o (inl is) =
    let count = same_count flat.nodes (o.formula + 1) false o.node.parts o.tokens is.tokens o.reads is.reads in
    let low = o.from in
    let high = o.below in
    placed_inert is.placed id low (omega arith)
shaped_inert flat shaped bound id o (inr is) = absurd (is.unread o.node o.tokens o.there o.reads)

module _ (flat shaped : Built) (s : Shaped flat shaped) where
  node_alike : (id : ℕ) (n : Node) → slice_get flat.nodes id ≡ Some n → IsOperatorNode flat id ⊎ (slice_get shaped.nodes id ≡ Some n) → Alike flat shaped id
  node_alike id n at (inl o) =
      inert (kind_there flat id (flat_inert flat id o))
      (kind_there shaped id (shaped_inert flat shaped.nodes (length flat.nodes) id o (s.nodes.formulas o.formula o.node (slice_get_within flat.nodes o.formula o.node o.there) o.there o.formed)))
  node_alike id n at (inr e) = same (e ∙ sym at)

  -- there is a node of the flat tree, or of neither
  at_place : (id : ℕ) (o : Option Node) → slice_get flat.nodes id ≡ o → Alike flat shaped id
  at_place id (Some n) e = node_alike id n e (s.nodes.kept id n (slice_get_within flat.nodes id n e) e)
  at_place id None e =
      let long = s.nodes.long in
      let beyond = outside flat.nodes id e in
      same (past shaped.nodes id (omega arith) ∙ sym e)
    where
      outside : (ns : List Node) (k : ℕ) → slice_get ns k ≡ None → length ns ≤ k
      outside [] k e = omega arith
      outside (n ∷ ns) zero e = absurd (cc)
      outside (n ∷ ns) (suc k) e = let rest = outside ns k e in omega arith

  alike : (id : ℕ) → Alike flat shaped id
  alike id = at_place id (slice_get flat.nodes id) refl

  -- ---- so they declare the same

  defines_by : (id : ℕ) → Alike flat shaped id → defines (kind_at shaped id) ≡ defines (kind_at flat id)
  defines_by id (same e) = ap (λ (o : Option Node). defines (option_map_or (λ (n : Node). n.kind) o kind.Skip)) e
  defines_by id (inert a b) = inert_defines (kind_at shaped id) b ∙ sym (inert_defines (kind_at flat id) a)

  defines_alike : (id : ℕ) → defines (kind_at shaped id) ≡ defines (kind_at flat id)
  defines_alike id = defines_by id (alike id)

  inert_parts : (tree : Built) (p : ℕ) (k : NodeKind) → IsInert k → if_joined tree p k ≡ p ∷ []
  inert_parts tree p k is = ap (λ (b : Bool). if b then parts_at tree p else p ∷ []) (inert_joined k is)

  joined_by : (p : ℕ) → Alike flat shaped p → if_joined shaped p (kind_at shaped p) ≡ if_joined flat p (kind_at flat p)
  joined_by p (same e) =
      ap (λ (o : Option Node). if is_joined (option_map_or (λ (n : Node). n.kind) o kind.Skip) then option_map_or (λ (n : Node). n.parts) o [] else p ∷ []) e
  joined_by p (inert a b) = inert_parts shaped p (kind_at shaped p) b ∙ sym (inert_parts flat p (kind_at flat p) a)

  unjoined_alike : (ps : List ℕ) → unjoined shaped ps ≡ unjoined flat ps
  unjoined_alike [] = refl
  unjoined_alike (p ∷ ps) = ap (λ xs. xs ++ unjoined shaped ps) (joined_by p (alike p)) ∙ ap (λ xs. if_joined flat p (kind_at flat p) ++ xs) (unjoined_alike ps)

  defining_alike : (ps : List ℕ) → defining shaped ps ≡ defining flat ps
  defining_alike [] = refl
  defining_alike (p ∷ ps) =
      ap (λ (d : Option IndicatorKind). if_defines p d ++ defining shaped ps) (defines_alike p) ∙ ap (λ xs. if_defines p (defines (kind_at flat p)) ++ xs) (defining_alike ps)

  by_alike : (k : NodeKind) (ps : List ℕ) → declared_by shaped k ps ≡ declared_by flat k ps
  by_alike kind.Serial ps = ap (defining shaped) (unjoined_alike ps) ∙ defining_alike (unjoined flat ps)
  by_alike kind.RoutineText ps = defining_alike ps
  by_alike kind.Spec ps = defining_alike ps
  by_alike kind.Loop ps = defining_alike ps
  by_alike kind.Declarer ps = defining_alike ps
  by_alike _ ps = refl

  declared_at : (range : ℕ) → Alike flat shaped range → declared_by shaped (kind_at shaped range) (parts_at shaped range) ≡ declared_by flat (kind_at flat range) (parts_at flat range)
  declared_at range (same e) =
      ap (λ (o : Option Node). declared_by shaped (option_map_or (λ (n : Node). n.kind) o kind.Skip) (option_map_or (λ (n : Node). n.parts) o [])) e
      ∙ by_alike (kind_at flat range) (parts_at flat range)
  declared_at range (inert a b) =
      inert_declares shaped (kind_at shaped range) (parts_at shaped range) b ∙ sym (inert_declares flat (kind_at flat range) (parts_at flat range) a)

  declared_alike : (range : ℕ) → declared_in shaped range ≡ declared_in flat range
  unfolding declared_in
  declared_alike range = declared_at range (alike range)

  -- what defines something has its name
  name_by : (id : ℕ) (sort : IndicatorKind) → defines (kind_at shaped id) ≡ Some sort → Alike flat shaped id → name_at shaped id ≡ name_at flat id
  name_by id sort is (same e) = ap (λ (o : Option Node). option_map_or (λ (n : Node). n.name) o 0) e
  name_by id sort is (inert a b) = let none = inert_defines (kind_at shaped id) b in absurd (cc)

  twice_alike : (later : ℕ) → IsTwice shaped later → IsTwice flat later
  twice_alike later t =
      let long = s.nodes.long in
      let here = t.there in
      record {
        range = t.range;
        i = t.i;
        j = t.j;
        earlier = t.earlier;
        sort = t.sort;
        there = omega arith;
        before = t.before;
        earlier_is = ap (λ xs. slice_get xs t.i) (sym (declared_alike t.range)) ∙ t.earlier_is;
        later_is = ap (λ xs. slice_get xs t.j) (sym (declared_alike t.range)) ∙ t.later_is;
        earlier_sort = sym (defines_alike t.earlier) ∙ t.earlier_sort;
        later_sort = sym (defines_alike later) ∙ t.later_sort;
        single = t.single;
        same = sym (name_by t.earlier t.sort t.earlier_sort (alike t.earlier)) ∙ t.same ∙ name_by later t.sort t.later_sort (alike later);
      }

  pub declares_once : DeclaresOnce flat → DeclaresOnce shaped
  declares_once once id t = once id (twice_alike id t)
