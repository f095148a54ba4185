-- The parents of nodes, as they are found node by node.
use Rattle.std.proofs.Common.{◌≡◌, ◌<◌, ◌≤◌, ℕ, zero, suc, ◌+◌, List, [], ◌∷◌, length, refl, sym, ap, ◌∙◌, arith, subst, inl, inr, ⊎_elim, Some, None, slice_get, slice_set, Option}
use Rattle.std.specs.Prelude.{slice_index_or}
use Rattle.std.proofs.Math.ListN.{length-set}
use Rattle.std.proofs.lemmas.Bool.Decides.{eqb_tells}
use Rattle.a68_ranges.proofs.Taking.{some_one, is_there, get-set_here, get-set_there}
use Rattle.a68_ranges.specs.Nodes.{parts_at}
use Rattle.a68_ranges.specs.Parents.{IsParentBefore, AreParentsBefore, IsParentAmong, other, part, HaveParts}
use Rattle.a68_ranges.specs.declared.nests.Parent.{Parent}
use Rattle.a68_tree.specs.Trees.{Built, AllBetween}
use Rattle.a68_tree.specs.declared.node.Node.{Node}
use Rattle.std.specs.Option.{option_map, option_map_or}

-- no part is noted yet
pub have_none : (parts : List ℕ) (node : ℕ) (old : List (Option Parent)) → HaveParts parts node (length parts) old old
have_none parts node old = record {
  long = refl;
  each = λ p. other (λ k h e. let w = is_there parts k p e in absurd (omega arith));
}

not_here : {parts : List ℕ} {node from j p : ℕ} {old new : Option (Option Parent)} → from ≡ j + 1 → (slice_get parts j ≡ Some p → ⊥)
    → IsParentAmong parts node from p old new → IsParentAmong parts node j p old new
not_here {parts = parts} {j = j} {p = p} e never (other f) =
    other (λ k h g. ⊎_elim (λ s. absurd (never (subst (λ x. slice_get parts x ≡ Some p) s.1 g))) (λ s. let d = s.1 in f k (omega arith) g) (eqb_tells k j))
not_here {parts = parts} {j = j} {p = p} e never (part place low is least) =
    part place (omega arith) is
    (λ k h g. ⊎_elim (λ s. absurd (never (subst (λ x. slice_get parts x ≡ Some p) s.1 g))) (λ s. let d = s.1 in least k (omega arith) g) (eqb_tells k j))

-- one part more
pub have_more : (parts : List ℕ) (node from j q : ℕ) (old mid : List (Option Parent)) → from ≡ j + 1 → slice_get parts j ≡ Some q → q < length mid
    → HaveParts parts node from old mid → HaveParts parts node j old (slice_set mid q (Some (record { node = node; place = j })))
have_more parts node from j q old mid e is within have = record {
  long = length-set mid q _ ∙ have.long;
  each = λ p. ⊎_elim
      (λ s. subst (λ x. IsParentAmong parts node j x (slice_get old x) (slice_get (slice_set mid q (Some (record { node = node; place = j }))) x)) (sym s.1)
      (rw (get-set_here mid q (Some (record { node = node; place = j })) within) (part j (omega arith) is (λ k h g. h))))
      (λ s. rw (get-set_there mid q p (Some (record { node = node; place = j })) s.1)
      (not_here e (λ g. s.1 (some_one (sym g ∙ is))) (have.each p)))
      (eqb_tells p q);
}

-- all parts are below a bound
pub all_below : (node count : ℕ) (parts : List ℕ) → AllBetween node count parts → (k d : ℕ) → k < length parts → slice_index_or parts k d < count
all_below node count [] all k d h = absurd (omega arith)
all_below node count (p ∷ ps) all zero d h = all.1
all_below node count (p ∷ ps) all (suc k) d h = all_below node count ps all.2 k d (omega arith)

-- all parts stand behind their node
pub all_behind : (node count : ℕ) (parts : List ℕ) → AllBetween node count parts → (k p : ℕ) → slice_get parts k ≡ Some p → node < p
all_behind node count [] all k p e = absurd (cc)
all_behind node count (q ∷ ps) all zero p e = let s = some_one e in let b = all.0 in omega arith
all_behind node count (q ∷ ps) all (suc k) p e = all_behind node count ps all.2 k p e

module _ (tree : Built) (node : ℕ) (parts : List ℕ) (is : parts_at tree node ≡ parts) (there : node < length tree.nodes) (behind : AllBetween node (length tree.nodes) parts) where
  kept : (p : ℕ) (parent : Option Parent) → ((k : ℕ) → 0 ≤ k → slice_get parts k ≡ Some p → ⊥) → IsParentBefore tree node p parent → IsParentBefore tree (node + 1) p parent
  kept p None never old = λ n k h g. ⊎_elim
      (λ s. never k (omega arith) (ap (λ (ps : List ℕ). slice_get ps k) (sym is ∙ ap (parts_at tree) (sym s.1)) ∙ g.1))
      (λ s. let d = s.1 in old n k (omega arith) g) (eqb_tells n node)
  kept p (Some parent) never old = (
    omega (arith, old.0),
    old.1,
    old.2,
    λ n k h g. ⊎_elim
        (λ s. absurd (never k (omega arith) (ap (λ (ps : List ℕ). slice_get ps k) (sym is ∙ ap (parts_at tree) (sym s.1)) ∙ g.1)))
        (λ s. let d = s.1 in old.3 n k (omega arith) g) (eqb_tells n node),
  )

  here : (p place : ℕ) → slice_get parts place ≡ Some p → ((k : ℕ) → 0 ≤ k → slice_get parts k ≡ Some p → place ≤ k) → IsParentBefore tree (node + 1) p (Some (record { node = node; place = place }))
  here p place e least = (
    omega arith,
    all_behind node (length tree.nodes) parts behind place p e,
    (there, ap (λ (ps : List ℕ). slice_get ps place) is ∙ e),
    λ n k h g. ⊎_elim
        (λ s. inr (s.1, least k (omega arith) (ap (λ (ps : List ℕ). slice_get ps k) (sym is ∙ ap (parts_at tree) (sym s.1)) ∙ g.1)))
        (λ s. let d = s.1 in inl (omega arith)) (eqb_tells n node),
  )

  now : (p : ℕ) (parent : Option Parent) (old new : Option (Option Parent)) → ((o : Option Parent) → old ≡ Some o → IsParentBefore tree node p o)
      → IsParentAmong parts node 0 p old new → new ≡ Some parent → IsParentBefore tree (node + 1) p parent
  now p parent old new before (other never) e = kept p parent never (before parent e)
  now p parent old new before (part place low is least) e = subst (λ o. IsParentBefore tree (node + 1) p o) (some_one e) (here p place is least)

  -- the parents by one node more
  pub before_more : (old new : List (Option Parent)) → AreParentsBefore tree node old → HaveParts parts node 0 old new → AreParentsBefore tree (node + 1) new
  before_more old new before have = record {
    long = have.long ∙ before.long;
    each = λ p parent e. now p parent (slice_get old p) (slice_get new p) (λ o f. before.each p o f) (have.each p) e;
  }

-- the parts of a node, as they are read
pub parts_read : (tree : Built) (id : ℕ) (ps : List ℕ) → option_map (λ (n : Node). n.parts) (slice_get tree.nodes id) ≡ Some ps → parts_at tree id ≡ ps
parts_read tree id ps e = go (slice_get tree.nodes id) e
  where
    go : (o : Option Node) → option_map (λ (n : Node). n.parts) o ≡ Some ps → option_map_or (λ (n : Node). n.parts) o [] ≡ ps
    go None e = absurd (cc)
    go (Some n) e = some_one e
