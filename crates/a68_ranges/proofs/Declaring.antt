-- What ranges declare, node by node.
use Rattle.std.proofs.Common.{◌≡◌, ℕ, ◌+◌, List, [], ◌∷◌, ◌++◌, take, refl, sym, ap, ◌∙◌, Some, slice_get, append_assoc}
use Rattle.a68_ranges.proofs.Taking.{take_next}
use Rattle.a68_ranges.specs.Nodes.{kind_at}
use Rattle.a68_ranges.specs.Definitions.{defines, if_defines, defining, if_joined, unjoined}
use Rattle.a68_tree.specs.Trees.{Built}

pub append_nil : (xs : List ℕ) → xs ++ [] ≡ xs
append_nil [] = refl
append_nil (x ∷ xs) = ap (λ ys. x ∷ ys) (append_nil xs)

defining_append : (tree : Built) (ps qs : List ℕ) → defining tree (ps ++ qs) ≡ defining tree ps ++ defining tree qs
defining_append tree [] qs = refl
defining_append tree (p ∷ ps) qs =
    ap (λ rest. if_defines p (defines (kind_at tree p)) ++ rest) (defining_append tree ps qs) ∙ sym (append_assoc (if_defines p (defines (kind_at tree p))) (defining tree ps) (defining tree qs))

unjoined_append : (tree : Built) (ps qs : List ℕ) → unjoined tree (ps ++ qs) ≡ unjoined tree ps ++ unjoined tree qs
unjoined_append tree [] qs = refl
unjoined_append tree (p ∷ ps) qs =
    ap (λ rest. if_joined tree p (kind_at tree p) ++ rest) (unjoined_append tree ps qs) ∙ sym (append_assoc (if_joined tree p (kind_at tree p)) (unjoined tree ps) (unjoined tree qs))

pub grown : (start list new more added : List ℕ) → new ≡ list ++ added → list ≡ start ++ more → new ≡ start ++ (more ++ added)
grown start list new more added e f = e ∙ ap (λ xs. xs ++ added) f ∙ append_assoc start more added

-- one part more
pub defining_more : (tree : Built) (start list new parts : List ℕ) (i p : ℕ) → slice_get parts i ≡ Some p → list ≡ start ++ defining tree (take i parts)
    → new ≡ list ++ if_defines p (defines (kind_at tree p)) → new ≡ start ++ defining tree (take (i + 1) parts)
defining_more tree start list new parts i p is before added =
    grown start list new (defining tree (take i parts)) (if_defines p (defines (kind_at tree p))) added before
    ∙ ap (λ xs. start ++ xs)
    (ap (λ xs. defining tree (take i parts) ++ xs) (sym (append_nil (if_defines p (defines (kind_at tree p)))))
    ∙ sym (defining_append tree (take i parts) (p ∷ [])) ∙ ap (defining tree) (sym (take_next parts i p is)))

-- one phrase more
pub unjoined_more : (tree : Built) (start list new phrases : List ℕ) (i p : ℕ) → slice_get phrases i ≡ Some p → list ≡ start ++ defining tree (unjoined tree (take i phrases))
    → new ≡ list ++ defining tree (if_joined tree p (kind_at tree p)) → new ≡ start ++ defining tree (unjoined tree (take (i + 1) phrases))
unjoined_more tree start list new phrases i p is before added =
    grown start list new (defining tree (unjoined tree (take i phrases))) (defining tree (if_joined tree p (kind_at tree p))) added before
    ∙ ap (λ xs. start ++ xs)
    (sym (defining_append tree (unjoined tree (take i phrases)) (if_joined tree p (kind_at tree p)))
    ∙ ap (λ xs. defining tree (unjoined tree (take i phrases) ++ xs)) (sym (append_nil (if_joined tree p (kind_at tree p))))
    ∙ ap (defining tree) (sym (unjoined_append tree (take i phrases) (p ∷ [])) ∙ ap (unjoined tree) (sym (take_next phrases i p is))))
