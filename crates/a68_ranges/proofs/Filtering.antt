-- The operator definitions of each sign, as they are added.
use Rattle.std.proofs.Common.{◌≡◌, ℕ, ◌+◌, Bool, true, false, List, [], ◌∷◌, ◌++◌, take, length, refl, sym, ap, ◌∙◌, arith, subst, ⊎_elim, Some, slice_get}
use Rattle.std.specs.Prelude.{if◌then◌else◌}
use Rattle.std.proofs.lemmas.Bool.Decides.{eqb_tells}
use Rattle.a68_ranges.proofs.Declaring.{append_nil}
use Rattle.a68_ranges.proofs.Indexing.{declares_nothing, other_name, other_sort, own_name}
use Rattle.a68_ranges.proofs.Taking.{take_next, below_or}
use Rattle.a68_ranges.specs.Nodes.{kind_at, name_at}
use Rattle.a68_ranges.specs.Definitions.{defines, declared_in}
use Rattle.a68_ranges.specs.Signed.{IsAdded, IsOneAdded, AreOperatorsBefore}
use Rattle.a68_ranges.specs.Tables.{AreOperators, at_sign, has_name, is_sort, operators_in, operators_named}
use Rattle.a68_ranges.specs.declared.sort.IndicatorKind.TheVariants as sorts
use Rattle.a68_tree.specs.Trees.{Built}

named_append : (tree : Built) (sign : ℕ) (xs ys : List ℕ) → operators_named tree sign (xs ++ ys) ≡ operators_named tree sign xs ++ operators_named tree sign ys
named_append tree sign [] ys = refl
named_append tree sign (x ∷ xs) ys = go (has_name tree sorts.Operator sign x) (named_append tree sign xs ys)
  where
    go : (b : Bool) → operators_named tree sign (xs ++ ys) ≡ operators_named tree sign xs ++ operators_named tree sign ys
        → (if b then x ∷ operators_named tree sign (xs ++ ys) else operators_named tree sign (xs ++ ys)) ≡ (if b then x ∷ operators_named tree sign xs else operators_named tree sign xs) ++ operators_named tree sign ys
    go true e = ap (λ zs. x ∷ zs) e
    go false e = e

-- ---- one node more of a range

pub record Added (tree : Built) (range : ℕ) (list : List ℕ) (i : ℕ) (old new : List ((ℕ × ℕ) × List ℕ)) : Type 0 where
  pub own : (sign : ℕ) → at_sign new range sign ≡ operators_named tree sign (take (i + 1) list)
  pub others : (r sign : ℕ) → (r ≡ range → ⊥) → at_sign new r sign ≡ at_sign old r sign

module _ (tree : Built) (range : ℕ) (list : List ℕ) (i d : ℕ) (old new : List ((ℕ × ℕ) × List ℕ)) (is : slice_get list i ≡ Some d)
    (before : (sign : ℕ) → at_sign old range sign ≡ operators_named tree sign (take i list)) where
  next : (sign : ℕ) → operators_named tree sign (take (i + 1) list) ≡ operators_named tree sign (take i list) ++ operators_named tree sign (d ∷ [])
  next sign = ap (operators_named tree sign) (take_next list i d is) ∙ named_append tree sign (take i list) (d ∷ [])

  -- of another sign, or none
  passed : (sign : ℕ) → has_name tree sorts.Operator sign d ≡ false → at_sign old range sign ≡ operators_named tree sign (take (i + 1) list)
  passed sign other =
      before sign ∙ sym (append_nil (operators_named tree sign (take i list))) ∙ ap (λ (b : Bool). operators_named tree sign (take i list) ++ (if b then d ∷ [] else [])) (sym other) ∙ sym (next sign)

  skipped : is_sort sorts.Operator (defines (kind_at tree d)) ≡ false → new ≡ old → Added tree range list i old new
  skipped counts stays = rw stays (record {
    own = λ sign. passed sign (other_sort tree sorts.Operator sign d counts);
    others = λ r sign apart. refl;
  })

  counted : is_sort sorts.Operator (defines (kind_at tree d)) ≡ true → IsAdded old new range (name_at tree d) d → Added tree range list i old new
  counted counts added = record {
    own = λ sign. ⊎_elim
        (λ h. subst (λ n. at_sign new range n ≡ operators_named tree n (take (i + 1) list)) h.1
        (added.0 ∙ ap (λ (xs : List ℕ). xs ++ d ∷ []) (before (name_at tree d))
        ∙ ap (λ (b : Bool). operators_named tree (name_at tree d) (take i list) ++ (if b then d ∷ [] else [])) (sym (own_name tree sorts.Operator d counts)) ∙ sym (next (name_at tree d))))
        (λ h. added.1 range sign (λ e. h.1 (sym e.1)) ∙ passed sign (other_name tree sorts.Operator sign d h.1))
        (eqb_tells (name_at tree d) sign);
    others = λ r sign apart. added.1 r sign (λ e. apart e.0);
  }

  pub added_more : IsOneAdded tree old new range d (is_sort sorts.Operator (defines (kind_at tree d))) → Added tree range list i old new
  added_more one = go (is_sort sorts.Operator (defines (kind_at tree d))) refl one
    where
      go : (b : Bool) → is_sort sorts.Operator (defines (kind_at tree d)) ≡ b → IsOneAdded tree old new range d b → Added tree range list i old new
      go false e one = skipped e one
      go true e one = counted e one

-- ---- all ranges

-- one range more
pub operators_more : (tree : Built) (count : ℕ) (old new : List ((ℕ × ℕ) × List ℕ)) → AreOperatorsBefore tree old count
    → ((sign : ℕ) → at_sign new count sign ≡ operators_named tree sign (declared_in tree count)) → ((r sign : ℕ) → (r ≡ count → ⊥) → at_sign new r sign ≡ at_sign old r sign)
    → AreOperatorsBefore tree new (count + 1)
unfolding operators_in
operators_more tree count old new before own others = (
  λ r sign h. ⊎_elim (λ e. subst (λ k. at_sign new k sign ≡ operators_named tree sign (declared_in tree k)) (sym e.1) (own sign))
      (λ e. let d = e.1 in others r sign e.1 ∙ before.0 r sign (omega arith)) (eqb_tells r count),
  λ r sign h. others r sign (λ e. absurd (omega arith)) ∙ before.1 r sign (omega arith),
)

pub operators_all : (tree : Built) (entries : List ((ℕ × ℕ) × List ℕ)) (count : ℕ) → count ≡ length tree.nodes → AreOperatorsBefore tree entries count → AreOperators tree entries
unfolding operators_in
operators_all tree entries count all before range sign =
    ⊎_elim (λ h. before.0 range sign (omega arith))
    (λ h. before.1 range sign (omega arith) ∙ ap (operators_named tree sign) (sym (declares_nothing tree range h)))
    (below_or range (length tree.nodes))
