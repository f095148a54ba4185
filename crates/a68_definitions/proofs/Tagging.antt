-- The table of applied tags, one node after another.
use Rattle.std.proofs.Common.{◌≡◌, ◌<◌, ◌≤◌, ◌+◌, ◌++◌, ◌∷◌, ◌∙◌, [], ℕ, Bool, true, false, List, Option, None, Some, length, get_or, slice_get, refl, sym, ap, arith, subst, below_more, length-append}
use Rattle.std.proofs.Math.ListN.{get_or-append}
use Rattle.std.proofs.Math.Seq.{get_or-append_seam}
use Rattle.a68_definitions.specs.Tags.{AreTagsBefore, IsTagAt, applies_tag}
use Rattle.a68_ranges.proofs.Taking.{past}
use Rattle.a68_ranges.specs.Nodes.{kind_at, name_at, parts_at}
use Rattle.a68_ranges.specs.Standard.{IsTagOf}
use Rattle.a68_tree.specs.Trees.{Built}
use Rattle.a68_tree.specs.declared.node.Node.{Node}

-- what holds of the first i places and of the next one
pub each_more : {X : Type 0} (P : ℕ → X → Type 0) (xs : List X) (i : ℕ) (x d : X) → length xs ≡ i → ((k : ℕ) → k < i → P k (get_or xs k d)) → P i x
    → (k : ℕ) → k < i + 1 → P k (get_or (xs ++ x ∷ []) k d)
each_more P xs i x d long each here = below_more (λ k. P k (get_or (xs ++ x ∷ []) k d)) i (λ k h. subst (P k) (sym (earlier k h)) (each k h)) (subst (P i) (sym last) here)
  where
    earlier : (k : ℕ) → k < i → get_or (xs ++ x ∷ []) k d ≡ get_or xs k d
    earlier k h = get_or-append xs (x ∷ []) d k (omega arith)

    last : get_or (xs ++ x ∷ []) i d ≡ x
    last = subst (λ (k : ℕ). get_or (xs ++ x ∷ []) k d ≡ x) long (get_or-append_seam xs x [] d)

pub tags_more : (tree : Built) (count : ℕ) (tags : List (Option ℕ)) (found : Option ℕ) → AreTagsBefore tree count tags
    → IsTagAt tree count (applies_tag (kind_at tree count)) found → AreTagsBefore tree (count + 1) (tags ++ found ∷ [])
tags_more tree count tags found before is = record {
  long = omega (arith, length-append tags (found ∷ []), before.long);
  each = each_more (λ n f. IsTagAt tree n (applies_tag (kind_at tree n)) f) tags count found None before.long before.each is;
}

-- what is found at a node, by its kind
module _ (tree : Built) (n : ℕ) (node : Node) (applies : Bool) (there : slice_get tree.nodes n ≡ Some node) (told : applies ≡ applies_tag node.kind) where
  kind_is : kind_at tree n ≡ node.kind
  kind_is = rw there refl

  named : name_at tree n ≡ node.name
  named = rw there refl

  told_at : applies ≡ applies_tag (kind_at tree n)
  told_at = told ∙ sym (ap applies_tag kind_is)

  pub tag_found : (found : Option ℕ) → applies ≡ true → IsTagOf tree n node.name found → IsTagAt tree n (applies_tag (kind_at tree n)) found
  tag_found found is of = subst (λ (b : Bool). IsTagAt tree n b found) (sym is ∙ told_at) (subst (λ (m : ℕ). IsTagOf tree n m found) (sym named) of)

  pub tag_none : applies ≡ false → IsTagAt tree n (applies_tag (kind_at tree n)) None
  tag_none is = subst (λ (b : Bool). IsTagAt tree n b None) (sym is ∙ told_at) refl

-- a number of no node has no parts
pub parts_past : (tree : Built) (id : ℕ) → length tree.nodes ≤ id → parts_at tree id ≡ []
parts_past tree id h = rw (past tree.nodes id h) refl
