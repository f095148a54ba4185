-- A flat tree is shaped in one way.
use Rattle.std.proofs.Common.{◌≡◌, ℕ, suc, ◌+◌, ◌<◌, ◌≤◌, ◌⊎◌, inl, inr, Bool, true, false, List, [], ◌∷◌, ◌++◌, length, refl, sym, ◌∙◌, ap, subst, arith, Some, None, slice_get}
use Rattle.std.specs.declared.option.Option.{Option}
use Rattle.std.proofs.lemmas.Option.{slice_get_within, slice_get-get_or}
use Rattle.a68_base.specs.declared.refusal.Refusal.{Refusal}
use Rattle.a68_op_ident.specs.Formulas.{EachOf, IsToken, ReadsParts, HasItsPriority, IsRanked, BindsFrom, BindsAbove, BindsClosest, is_operand, signs_of, signs, Placed, alone, under, over, monadic_node, dyadic_node}
use Rattle.a68_op_ident.specs.Lacking.{LacksPriority, IsUnshaped}
use Rattle.a68_op_ident.specs.Shapes.{Shaped, ShapedTo, IsShaped, IsLeft, IsOperatorNode}
use Rattle.a68_op_ident.specs.declared.formula.Operand.{Operand}
use Rattle.a68_op_ident.specs.declared.formula.Sign.{Sign}
use Rattle.a68_op_ident.specs.declared.formula.FormulaPart.{FormulaPart}
use Rattle.a68_op_ident.specs.declared.formula.FormulaPart.TheVariants as token
use Rattle.a68_op_ident.proofs.Lists.{some_same, eq_or_more, all_at}
use Rattle.a68_op_ident.proofs.Parts.{alike, same_count}
use Rattle.a68_op_ident.proofs.Late.{lacks_always}
use Rattle.a68_op_ident.proofs.Shaping.{split, here_at, left_of, right_of}
use Rattle.a68_ranges.specs.Standard.{IsPriorityOf}
use Rattle.a68_tree.specs.Trees.{Built}
use Rattle.a68_tree.specs.declared.kind.NodeKind.TheVariants as kind
use Rattle.a68_tree.specs.declared.node.Node.{Node}

same_lists : {A : Type 0} (xs ys : List A) → length xs ≡ length ys → ((i : ℕ) → i < length xs → slice_get xs i ≡ slice_get ys i) → xs ≡ ys
same_lists [] [] long same = refl
same_lists [] (y ∷ ys) long same = absurd (omega arith)
same_lists (x ∷ xs) [] long same = absurd (omega arith)
same_lists (x ∷ xs) (y ∷ ys) long same =
    let head : Some x ≡ Some y = same 0 (omega arith) in
    let tail = same_lists xs ys (omega arith) (λ i p. same (suc i) (omega arith)) in
    cc (head, tail)

-- ---- the sign over all others is one

head_same : {x y : FormulaPart} {xs ys : List FormulaPart} → x ∷ xs ≡ y ∷ ys → x ≡ y
head_same e = cc

tail_same : {x y : FormulaPart} {xs ys : List FormulaPart} → x ∷ xs ≡ y ∷ ys → xs ≡ ys
tail_same e = cc

from_same : {s r : Sign} {p q : Option ℕ} → token.Dyad s p ≡ token.Dyad r q → (s ≡ r) × (p ≡ q)
from_same e = (cc, cc)

-- a sign is among those of which something holds
there_holds : (P : FormulaPart → Type 0) (xs ys : List FormulaPart) (t : FormulaPart) → EachOf P (xs ++ t ∷ ys) → P t
there_holds P [] ys t a = a.0
there_holds P (x ∷ xs) ys t a = there_holds P xs ys t a.1

record SameSides (left right left' right' : List FormulaPart) (s s' : Sign) : Type 0 where
  lefts : left ≡ left'
  rights : right ≡ right'
  signs_are : s ≡ s'

same_sides : (left right left' right' : List FormulaPart) (s s' : Sign) (p p' : ℕ) → left ++ token.Dyad s (Some p) ∷ right ≡ left' ++ token.Dyad s' (Some p') ∷ right'
    → EachOf (BindsFrom p) left → EachOf (BindsAbove p) right → EachOf (BindsFrom p') left' → EachOf (BindsAbove p') right' → SameSides left right left' right' s s'
same_sides [] right [] right' s s' p p' e l r l' r' = record { lefts = refl; rights = tail_same e; signs_are = (from_same (head_same e)).0 }
same_sides [] right (x ∷ left') right' s s' p p' e l r l' r' =
    let first : BindsFrom p' (token.Dyad s (Some p)) = subst (BindsFrom p') (sym (head_same e)) l'.0 in
    let behind : BindsAbove p (token.Dyad s' (Some p')) = there_holds (BindsAbove p) left' right' (token.Dyad s' (Some p')) (subst (EachOf (BindsAbove p)) (tail_same e) r) in
    let low : p' ≤ p = first in
    let high : p < p' = behind in
    absurd (omega arith)
same_sides (x ∷ left) right [] right' s s' p p' e l r l' r' =
    let first : BindsFrom p (token.Dyad s' (Some p')) = subst (BindsFrom p) (head_same e) l.0 in
    let behind : BindsAbove p' (token.Dyad s (Some p)) = there_holds (BindsAbove p') left right (token.Dyad s (Some p)) (subst (EachOf (BindsAbove p')) (sym (tail_same e)) r') in
    let low : p ≤ p' = first in
    let high : p' < p = behind in
    absurd (omega arith)
same_sides (x ∷ left) right (y ∷ left') right' s s' p p' e l r l' r' =
    let rest = same_sides left right left' right' s s' p p' (tail_same e) l.1 r l'.1 r' in
    let head : x ≡ y = head_same e in
    let tails = rest.lefts in
    record { lefts = cc (head, tails); rights = rest.rights; signs_are = rest.signs_are }

-- one operand is no formula of a dyadic sign
no_operand : (o : Operand) (left right : List FormulaPart) (s : Sign) (p : ℕ) → token.Operand o ∷ [] ≡ left ++ token.Dyad s (Some p) ∷ right → ⊥
no_operand o [] right s p e = let h : token.Operand o ≡ token.Dyad s (Some p) = head_same e in absurd (cc)
no_operand o (x ∷ []) right s p e = let t : [] ≡ token.Dyad s (Some p) ∷ right = tail_same e in absurd (cc)
no_operand o (x ∷ y ∷ left) right s p e = let t : [] ≡ y ∷ left ++ token.Dyad s (Some p) ∷ right = tail_same e in absurd (cc)

-- nor is a monadic sign over what binds closest
no_monad : (m : Sign) (ts left right : List FormulaPart) (s : Sign) (p : ℕ) → EachOf BindsClosest ts → token.Monad m ∷ ts ≡ left ++ token.Dyad s (Some p) ∷ right → ⊥
no_monad m ts [] right s p a e = let h : token.Monad m ≡ token.Dyad s (Some p) = head_same e in absurd (cc)
no_monad m ts (x ∷ left) right s p a e =
    let none : Some p ≡ None = there_holds BindsClosest left right (token.Dyad s (Some p)) (subst (EachOf BindsClosest) (tail_same e) a) in absurd (cc)

-- what is placed ends at one place, has one node over it, and has the same nodes
record AreOne (a b : List Node) (id next next' : ℕ) (top top' : Operand) : Type 0 where
  ends : next ≡ next'
  tops : top ≡ top'
  nodes : (k : ℕ) → id ≤ k → k < next → slice_get a k ≡ slice_get b k

operand_same : {o q : Operand} {xs ys : List FormulaPart} → token.Operand o ∷ xs ≡ token.Operand q ∷ ys → o ≡ q
operand_same e = cc

monad_same : {s r : Sign} {xs ys : List FormulaPart} → token.Monad s ∷ xs ≡ token.Monad r ∷ ys → s ≡ r
monad_same e = cc

mixed : {o : Operand} {s : Sign} {xs ys : List FormulaPart} → token.Operand o ∷ xs ≡ token.Monad s ∷ ys → ⊥
mixed e = absurd (cc)

standing_same : {i i' : ℕ} {n n' : Node} → i ≡ i' → n ≡ n' → (let x : Operand = record { id = i; span = n.span } in x) ≡ (let y : Operand = record { id = i'; span = n'.span } in y)
standing_same a b = rw (a, b) refl

one_placed : {a b : List Node} {ts ts' : List FormulaPart} {id id' next next' : ℕ} {top top' : Operand} → Placed a ts id next top → Placed b ts' id' next' top' → ts ≡ ts' → id ≡ id' → AreOne a b id next next' top top'
one_placed (alone o) (alone q) e i = record { ends = i; tops = operand_same e; nodes = λ k p q. absurd (omega arith) }
one_placed (alone o) (under s q c n x) e i = absurd (mixed e)
one_placed (alone o) (over left right s p middle u v parts l r n x y) e i = absurd (no_operand o left right s p (e ∙ parts))
one_placed (under s q c n x) (alone o) e i = absurd (mixed (sym e))
one_placed {a = a} {b = b} {id = id} (under {ts = xs} s o c n x) (under {ts = ys} s' o' c' n' x') e i =
    let below = one_placed x x' (tail_same e) (omega arith) in
    let signs_are = monad_same e in
    let node : monadic_node s o ≡ monadic_node s' o' = ap (λ z. monadic_node z o) signs_are ∙ ap (λ z. monadic_node s' z) below.tops in
    let here : slice_get a id ≡ slice_get b id = n ∙ ap Some node ∙ sym n' ∙ ap (λ k. slice_get b k) (sym i) in
    record {
      ends = below.ends;
      tops = standing_same i node;
      nodes = λ k from to. elim (eq_or_more id k from) [
        | inl z ↦ ap (λ j. slice_get a j) (sym z) ∙ here ∙ ap (λ j. slice_get b j) z
        | inr z ↦ below.nodes k (omega arith) to
      ];
    }
one_placed (under {ts = xs} s o c n x) (over left right r p middle u v parts l h m y z) e i = absurd (no_monad s xs left right r p c (e ∙ parts))
one_placed (over left right s p middle u v parts l r n x y) (alone o) e i = absurd (no_operand o left right s p (sym e ∙ parts))
one_placed (over left right s p middle u v parts l r n x y) (under {ts = xs} s' o' c' n' x') e i = absurd (no_monad s' xs left right s p c' (sym e ∙ parts))
one_placed {a = a} {b = b} {id = id} (over left right s p middle u v parts l r n x y) (over left' right' s' p' middle' u' v' parts' l' r' n' x' y') e i =
    let sides = same_sides left right left' right' s s' p p' (sym parts ∙ e ∙ parts') l r l' r' in
    let lefts = one_placed x x' sides.lefts (omega arith) in
    let rights = one_placed y y' sides.rights lefts.ends in
    let node : dyadic_node s u v ≡ dyadic_node s' u' v' = ap (λ z. dyadic_node z u v) sides.signs_are ∙ ap (λ z. dyadic_node s' z v) lefts.tops ∙ ap (λ z. dyadic_node s' u' z) rights.tops in
    let here : slice_get a id ≡ slice_get b id = n ∙ ap Some node ∙ sym n' ∙ ap (λ k. slice_get b k) (sym i) in
    record {
      ends = rights.ends;
      tops = standing_same i node;
      nodes = λ k from to. elim (split k id middle from) [
        | here_at e ↦ ap (λ j. slice_get a j) e ∙ here ∙ ap (λ j. slice_get b j) (sym e)
        | left_of f t ↦ lefts.nodes k f t
        | right_of f ↦ rights.nodes k f to
      ];
    }

-- ---- a formula is read in one way

module _ (flat : Built) (one : (at name : ℕ) (p q : Option ℕ) → IsPriorityOf flat at name p → IsPriorityOf flat at name q → p ≡ q) where
  one_token : (from : ℕ) (after : Bool) (p : ℕ) (t u : FormulaPart) → IsToken flat.nodes from after p t → IsToken flat.nodes from after p u → HasItsPriority flat t → HasItsPriority flat u → t ≡ u
  one_token from false p (token.Operand o) (token.Operand q) a b h j = ap (λ x. token.Operand x) (some_same (sym a ∙ b))
  one_token from false p (token.Operand o) (token.Monad s) a b h j = let e = (alike flat.nodes from false p (token.Operand o) (token.Monad s) a b).0 in absurd (omega arith)
  one_token from false p (token.Operand o) (token.Dyad s q) a b h j = absurd b
  one_token from false p (token.Monad s) (token.Operand o) a b h j = let e = (alike flat.nodes from false p (token.Monad s) (token.Operand o) a b).0 in absurd (omega arith)
  one_token from false p (token.Monad s) (token.Monad r) a b h j = ap (λ x. token.Monad x) (some_same (sym a ∙ b))
  one_token from false p (token.Monad s) (token.Dyad r q) a b h j = absurd b
  one_token from false p (token.Dyad s q) u a b h j = absurd a
  one_token from true p (token.Operand o) u a b h j = absurd a
  one_token from true p (token.Monad s) u a b h j = absurd a
  one_token from true p (token.Dyad s q) (token.Operand o) a b h j = absurd b
  one_token from true p (token.Dyad s q) (token.Monad r) a b h j = absurd b
  one_token from true p (token.Dyad s q) (token.Dyad r z) a b h j =
      let same : s ≡ r = some_same (sym a ∙ b) in
      let priority : q ≡ z = one s.id s.name q z h (subst (λ (x : Sign). IsPriorityOf flat x.id x.name z) (sym same) j) in
      ap (λ (x : Sign). token.Dyad x q) same ∙ ap (λ (x : Option ℕ). token.Dyad r x) priority

  one_reading : (from : ℕ) (after : Bool) (parts : List ℕ) (ts us : List FormulaPart) → ReadsParts flat.nodes from after parts ts → ReadsParts flat.nodes from after parts us
      → EachOf (HasItsPriority flat) ts → EachOf (HasItsPriority flat) us → ts ≡ us
  one_reading from after [] [] [] a b h j = refl
  one_reading from after [] [] (u ∷ us) a b h j = absurd b
  one_reading from after [] (t ∷ ts) us a b h j = absurd a
  one_reading from after (p ∷ ps) [] us a b h j = absurd a
  one_reading from after (p ∷ ps) (t ∷ ts) [] a b h j = absurd b
  one_reading from after (p ∷ ps) (t ∷ ts) (u ∷ us) a b h j =
      let head = one_token from after p t u a.0 b.0 h.0 j.0 in
      let rest : ReadsParts flat.nodes (from + signs_of t) (is_operand t) ps us = subst (λ (x : FormulaPart). ReadsParts flat.nodes (from + signs_of x) (is_operand x) ps us) (sym head) b.1 in
      let tail = one_reading (from + signs_of t) (is_operand t) ps ts us a.1 rest h.1 j.1 in
      ap (λ (x : FormulaPart). x ∷ ts) head ∙ ap (λ (xs : List FormulaPart). u ∷ xs) tail

  -- two shapes of a formula have the same nodes
  one_shaped : {a b : List Node} {f id : ℕ} {parts : List ℕ} (ts : List FormulaPart) → ReadsParts flat.nodes (f + 1) false parts ts → f ≤ id → id < f + signs ts
      → IsShaped flat a (length flat.nodes) f parts → IsShaped flat b (length flat.nodes) f parts → slice_get a id ≡ slice_get b id
  one_shaped {f = f} {id = id} {parts = parts} ts reads from below is so =
      let same = one_reading (f + 1) false parts is.tokens so.tokens is.reads so.reads is.priorities so.priorities in
      let count = same_count flat.nodes (f + 1) false parts ts is.tokens reads is.reads in
      (one_placed is.placed so.placed same refl).nodes id from (omega arith)

  shaped_at : {a b : List Node} {id : ℕ} (o : IsOperatorNode flat id) → IsShaped flat a (length flat.nodes) o.formula o.node.parts ⊎ IsLeft flat a o.formula o.node
      → IsShaped flat b (length flat.nodes) o.formula o.node.parts ⊎ IsLeft flat b o.formula o.node → slice_get a id ≡ slice_get b id
  shaped_at o (inl is) (inl so) = one_shaped o.tokens o.reads o.from o.below is so
  shaped_at o (inr is) so = absurd (is.unread o.node o.tokens o.there o.reads)
  shaped_at o is (inr so) = absurd (so.unread o.node o.tokens o.there o.reads)

  -- the nodes of a formula are the same
  one_formula : {a b : List Node} {id : ℕ} → ShapedTo flat a (length flat.nodes) → ShapedTo flat b (length flat.nodes) → IsOperatorNode flat id → slice_get a id ≡ slice_get b id
  one_formula one other is =
      let within = slice_get_within flat.nodes is.formula is.node is.there in
      shaped_at is (one.formulas is.formula is.node within is.there is.formed) (other.formulas is.formula is.node within is.there is.formed)

  one_kept : {a b : List Node} {id : ℕ} {n : Node} → ShapedTo flat a (length flat.nodes) → ShapedTo flat b (length flat.nodes)
      → IsOperatorNode flat id ⊎ (slice_get a id ≡ Some n) → IsOperatorNode flat id ⊎ (slice_get b id ≡ Some n) → slice_get a id ≡ slice_get b id
  one_kept one other (inl is) q = one_formula one other is
  one_kept one other (inr p) (inl is) = one_formula one other is
  one_kept one other (inr p) (inr q) = p ∙ sym q

  one_nodes : (a b : List Node) → ShapedTo flat a (length flat.nodes) → ShapedTo flat b (length flat.nodes) → b ≡ a
  one_nodes a b one other =
      let p = one.long in
      let q = other.long in
      same_lists b a (omega arith) (λ i lt.
      let within : i < length flat.nodes = omega arith in
      let at = slice_get-get_or flat.nodes i (record { kind = kind.Sign; span = record { from = 0; to = 0 }; name = 0; parts = [] }) within in
      one_kept other one (other.kept i _ within at) (one.kept i _ within at))

  pub one_shape : (one other : Built) → Shaped flat one → Shaped flat other → other ≡ one
  one_shape one other a b =
      let nodes = one_nodes one.nodes other.nodes a.nodes b.nodes in
      let spellings : other.spellings ≡ one.spellings = b.spellings ∙ sym a.spellings in
      let starts : other.starts ≡ one.starts = b.starts ∙ sym a.starts in
      ap (λ n. let t : Built = record { nodes = n; spellings = other.spellings; starts = other.starts } in t) nodes
      ∙ ap (λ s. let t : Built = record { nodes = one.nodes; spellings = s; starts = other.starts } in t) spellings
      ∙ ap (λ s. let t : Built = record { nodes = one.nodes; spellings = one.spellings; starts = s } in t) starts

  never_shaped : {nodes : List Node} (sign : ℕ) (l : LacksPriority flat sign) → IsShaped flat nodes (length flat.nodes) l.formula l.node.parts ⊎ IsLeft flat nodes l.formula l.node → ⊥
  never_shaped sign l (inl is) =
      let there = lacks_always flat (l.formula + 1) false l.node.parts l.tokens is.tokens l.place l.dyad l.reads is.reads l.priorities is.priorities l.lacks in
      all_at IsRanked is.tokens l.place (token.Dyad l.dyad None) is.ranked there
  never_shaped sign l (inr is) = is.unread l.node l.tokens l.there l.reads

  -- a tree that is refused is not shaped
  pub no_shape : (shaped : Built) (why : Refusal) → IsUnshaped flat why → Shaped flat shaped → ⊥
  no_shape shaped why u s =
      let l = u.first.broken in
      never_shaped u.id l (s.nodes.formulas l.formula l.node (slice_get_within flat.nodes l.formula l.node l.there) l.there l.formed)
