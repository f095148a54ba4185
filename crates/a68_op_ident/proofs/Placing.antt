-- Nodes of formulas that are placed stay placed while others are.
use Rattle.std.proofs.Common.{◌≡◌, ℕ, zero, suc, ◌+◌, ◌<◌, ◌≤◌, false, List, [], ◌∷◌, ◌++◌, length, take, drop, refl, sym, ◌∙◌, ap, subst, arith, Some, None, slice_get, slice_set}
use Rattle.std.proofs.Math.ListN.{length-set}
use Rattle.std.specs.declared.option.Option.{Option}
use Rattle.a68_op_ident.specs.Formulas.{EachOf, Placed, alone, under, over, monadic_node, dyadic_node, standing, IsRanked, signs}
use Rattle.a68_op_ident.specs.Inner.{Alternates, IsRoot, Same}
use Rattle.a68_op_ident.specs.declared.formula.Operand.{Operand}
use Rattle.a68_op_ident.specs.declared.formula.Sign.{Sign}
use Rattle.a68_op_ident.specs.declared.formula.FormulaPart.{FormulaPart}
use Rattle.a68_op_ident.specs.declared.formula.FormulaPart.TheVariants as token
use Rattle.a68_op_ident.proofs.Lists.{split_at, get-set_here, get-set_there, all_left, all_right}
use Rattle.a68_op_ident.proofs.Roots.{binds_from, binds_above, binds_closest, root_first, sides_alternate, operand_alone, signs-append}
use Rattle.a68_tree.specs.declared.node.Node.{Node}

-- what is placed begins before it ends
pub in_order : {ns : List Node} {ts : List FormulaPart} {id next : ℕ} {top : Operand} → Placed ns ts id next top → id ≤ next
in_order (alone o) = omega arith
in_order (under s o c n a) = let x = in_order a in omega arith
in_order (over left right s p middle a b e l r n x y) = let u = in_order x in let v = in_order y in omega arith

-- it stays where its nodes stay
pub keeps : {ns ns' : List Node} {ts : List FormulaPart} {id next : ℕ} {top : Operand} → Placed ns ts id next top
    → ((k : ℕ) → id ≤ k → k < next → slice_get ns' k ≡ slice_get ns k) → Placed ns' ts id next top
keeps (alone o) same = alone o
keeps {id = id} (under s o c n a) same =
    let x = in_order a in
    under s o c (same id (omega arith) (omega arith) ∙ n) (keeps a (λ k u v. same k (omega arith) v))
keeps {id = id} (over left right s p middle a b e l r n x y) same =
    let below = in_order x in
    let above = in_order y in
    over left right s p middle a b e l r (same id (omega arith) (omega arith) ∙ n)
    (keeps x (λ k u v. same k (omega arith) (omega arith))) (keeps y (λ k u v. same k (omega arith) (omega arith)))

-- ---- below a sign

-- the parts of a formula whose sign stands at the root
pub record Halves (tokens : List FormulaPart) (root : ℕ) : Type 0 where
  pub left_order : Alternates false (take root tokens)
  pub right_order : Alternates false (drop (root + 1) tokens)
  pub left_ranked : EachOf IsRanked (take root tokens)
  pub right_ranked : EachOf IsRanked (drop (root + 1) tokens)
  pub count : signs tokens ≡ signs (take root tokens) + (1 + signs (drop (root + 1) tokens))

pub halves : (tokens : List FormulaPart) (root : ℕ) (s : Sign) (p : Option ℕ) → slice_get tokens root ≡ Some (token.Dyad s p) → Alternates false tokens → EachOf IsRanked tokens → Halves tokens root
halves tokens root s p there order ranked =
    let left = take root tokens in
    let right = drop (root + 1) tokens in
    let split : tokens ≡ left ++ token.Dyad s p ∷ right = split_at tokens root (token.Dyad s p) there in
    let two = sides_alternate false left right s p (subst (Alternates false) split order) in
    let all : EachOf IsRanked (left ++ token.Dyad s p ∷ right) = subst (EachOf IsRanked) split ranked in
    record {
      left_order = two.0;
      right_order = two.1;
      left_ranked = all_left IsRanked left _ all;
      right_ranked = (all_right IsRanked left (token.Dyad s p ∷ right) all).1;
      count = ap signs split ∙ signs-append left (token.Dyad s p ∷ right);
    }

-- what stands behind a monadic sign at the root
pub record Rest (tokens : List FormulaPart) (root : ℕ) : Type 0 where
  pub first : root ≡ 0
  pub order : Alternates false (drop (root + 1) tokens)
  pub ranked : EachOf IsRanked (drop (root + 1) tokens)
  pub count : signs tokens ≡ 1 + signs (drop (root + 1) tokens)

-- all tokens are the first one and the rest
from_first : (tokens : List FormulaPart) (root : ℕ) (t : FormulaPart) → slice_get tokens root ≡ Some t → root ≡ 0 → tokens ≡ t ∷ drop (root + 1) tokens
from_first tokens root t there first =
    let split = split_at tokens root t there in
    split ∙ ap (λ (k : ℕ). take k tokens ++ t ∷ drop (root + 1) tokens) first

pub rest : (tokens : List FormulaPart) (root : ℕ) (s : Sign) → IsRoot tokens (length tokens) root → slice_get tokens root ≡ Some (token.Monad s) → Alternates false tokens → EachOf IsRanked tokens → Rest tokens root
rest tokens root s is there order ranked =
    let first = root_first tokens root (token.Monad s) is there refl in
    let whole = from_first tokens root (token.Monad s) there first in
    let all : EachOf IsRanked (token.Monad s ∷ drop (root + 1) tokens) = subst (EachOf IsRanked) whole ranked in
    record {
      first = first;
      order = subst (Alternates false) whole order;
      ranked = all.1;
      count = ap signs whole;
    }

-- ---- what is placed

pub one_operand : (tokens : List FormulaPart) (nodes : List Node) (root id : ℕ) (o : Operand) → IsRoot tokens (length tokens) root → slice_get tokens root ≡ Some (token.Operand o)
    → Alternates false tokens → EachOf IsRanked tokens → Placed nodes tokens id id o × (signs tokens ≡ 0)
one_operand tokens nodes root id o is there order ranked =
    let first = root_first tokens root (token.Operand o) is there refl in
    let whole = from_first tokens root (token.Operand o) there first in
    let all : EachOf IsRanked (token.Operand o ∷ drop (root + 1) tokens) = subst (EachOf IsRanked) whole ranked in
    let none = operand_alone o (drop (root + 1) tokens) (subst (Alternates false) whole order) (binds_closest tokens root (token.Operand o) is there refl) all.1 in
    let one : tokens ≡ token.Operand o ∷ [] = whole ∙ ap (λ (r : List FormulaPart). token.Operand o ∷ r) none in
    (subst (λ (ts : List FormulaPart). Placed nodes ts id id o) (sym one) (alone o), ap signs one)

pub put_under : (tokens : List FormulaPart) (n1 : List Node) (root id next : ℕ) (s : Sign) (o : Operand) → IsRoot tokens (length tokens) root → slice_get tokens root ≡ Some (token.Monad s)
    → Placed n1 (drop (root + 1) tokens) (id + 1) next o → id < length n1
    → Placed (slice_set n1 id (monadic_node s o)) tokens id next (standing id (monadic_node s o))
put_under tokens n1 root id next s o is there a within =
    let first = root_first tokens root (token.Monad s) is there refl in
    let whole = from_first tokens root (token.Monad s) there first in
    subst (λ (ts : List FormulaPart). Placed (slice_set n1 id (monadic_node s o)) ts id next (standing id (monadic_node s o))) (sym whole)
    (under s o (binds_closest tokens root (token.Monad s) is there refl) (get-set_here n1 id (monadic_node s o) within)
    (keeps a (λ k p q. get-set_there n1 id k (monadic_node s o) (λ e. absurd (omega arith)))))

pub put_over : (tokens : List FormulaPart) (n1 n2 : List Node) (root id middle next p : ℕ) (s : Sign) (a b : Operand) → IsRoot tokens (length tokens) root → slice_get tokens root ≡ Some (token.Dyad s (Some p))
    → Placed n1 (take root tokens) (id + 1) middle a → Placed n2 (drop (root + 1) tokens) middle next b → Same n1 n2 middle next → id < length n2
    → Placed (slice_set n2 id (dyadic_node s a b)) tokens id next (standing id (dyadic_node s a b))
put_over tokens n1 n2 root id middle next p s a b is there x y same within =
    let node = dyadic_node s a b in
    let other = get-set_there n2 id in
    let u = in_order x in
    over (take root tokens) (drop (root + 1) tokens) s p middle a b (split_at tokens root (token.Dyad s (Some p)) there)
    (binds_from tokens root p (token.Dyad s (Some p)) is there refl) (binds_above tokens root p (token.Dyad s (Some p)) is there refl)
    (get-set_here n2 id node within)
    (keeps x (λ k p q. other k node (λ e. absurd (omega arith)) ∙ same.before k (omega arith)))
    (keeps y (λ k p q. other k node (λ e. absurd (omega arith))))

-- a dyadic sign that has a priority, since all have
pub ranked_at : (tokens : List FormulaPart) (root : ℕ) (s : Sign) (p : Option ℕ) → EachOf IsRanked tokens → slice_get tokens root ≡ Some (token.Dyad s p) → (q : ℕ) × (p ≡ Some q)
ranked_at tokens root s None ranked there = absurd (all_ranked tokens root ranked there)
  where
    all_ranked : (ts : List FormulaPart) (k : ℕ) → EachOf IsRanked ts → slice_get ts k ≡ Some (token.Dyad s None) → ⊥
    all_ranked [] k a e = absurd (cc)
    all_ranked (t ∷ ts) zero a e = let same : t ≡ token.Dyad s None = cc in subst IsRanked same a.0
    all_ranked (t ∷ ts) (suc k) a e = all_ranked ts k a.1 e
ranked_at tokens root s (Some q) ranked there = (q, refl)

-- ---- what stays

pub same_all : (ns : List Node) (id : ℕ) → Same ns ns id id
same_all ns id = record { long = refl; before = λ k p. refl; behind = λ k p. refl }

pub same_under : (n0 n1 : List Node) (id next : ℕ) (node : Node) → Same n0 n1 (id + 1) next → id < next → Same n0 (slice_set n1 id node) id next
same_under n0 n1 id next node a lt = record {
  long = length-set n1 id node ∙ a.long;
  before = λ k u. get-set_there n1 id k node (λ e. absurd (omega arith)) ∙ a.before k (omega arith);
  behind = λ k u. get-set_there n1 id k node (λ e. absurd (omega arith)) ∙ a.behind k u;
}

pub same_over : (n0 n1 n2 : List Node) (id middle next : ℕ) (node : Node) → Same n0 n1 (id + 1) middle → Same n1 n2 middle next → id < middle → middle ≤ next → Same n0 (slice_set n2 id node) id next
same_over n0 n1 n2 id middle next node a b lt le = record {
  long = length-set n2 id node ∙ b.long ∙ a.long;
  before = λ k u. get-set_there n2 id k node (λ e. absurd (omega arith)) ∙ b.before k (omega arith) ∙ a.before k (omega arith);
  behind = λ k u. get-set_there n2 id k node (λ e. absurd (omega arith)) ∙ b.behind k u ∙ a.behind k (omega arith);
}
