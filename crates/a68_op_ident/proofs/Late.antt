-- Signs that lack a priority.
use Rattle.std.proofs.Common.{◌≡◌, ℕ, zero, suc, ◌+◌, ◌<◌, inl, inr, Bool, true, false, List, [], ◌∷◌, length, refl, sym, ◌∙◌, ap, subst, arith, Some, None, slice_get}
use Rattle.std.specs.Option.{option_and_then, option_map_or}
use Rattle.std.specs.declared.option.Option.{Option}
use Rattle.std.proofs.lemmas.Option.{slice_get_within}
use Rattle.a68_op_ident.specs.Formulas.{EachOf, IsToken, ReadsParts, HasItsPriority, IsRanked, is_operand, signs_of, next_sign}
use Rattle.a68_op_ident.specs.Inner.{IsLeastNumber, IsLateToken, late_of}
use Rattle.a68_op_ident.specs.declared.formula.Sign.{Sign}
use Rattle.a68_op_ident.specs.declared.formula.FormulaPart.{FormulaPart}
use Rattle.a68_op_ident.specs.declared.formula.FormulaPart.TheVariants as token
use Rattle.a68_op_ident.proofs.Lists.{some_same}
use Rattle.a68_op_ident.proofs.Parts.{alike, next_is}
use Rattle.a68_ranges.specs.Nodes.{place_at}
use Rattle.a68_ranges.specs.Standard.{IsPriorityOf}
use Rattle.a68_tree.specs.Trees.{Built}
use Rattle.a68_tree.specs.declared.node.Node.{Node}

-- a sign without a priority has none
none_stays : (tree : Built) (at name : ℕ) (p : Option ℕ) → IsPriorityOf tree at name None → IsPriorityOf tree at name p → p ≡ None
none_stays tree at name None a b = refl
none_stays tree at name (Some p) a (inl b) = absurd (a.0 b.0 b.1)
none_stays tree at name (Some p) a (inr b) = let e : None ≡ Some p = sym a.1 ∙ b.1 in absurd (cc)

lacks_too : (tree : Built) (from : ℕ) (after : Bool) (p : ℕ) (s : Sign) (t : FormulaPart) → IsToken tree.nodes from after p (token.Dyad s None) → IsToken tree.nodes from after p t
    → HasItsPriority tree (token.Dyad s None) → HasItsPriority tree t → t ≡ token.Dyad s None
lacks_too tree from false p s t a b u v = absurd a
lacks_too tree from true p s (token.Operand o) a b u v = absurd b
lacks_too tree from true p s (token.Monad r) a b u v = absurd b
lacks_too tree from true p s (token.Dyad r q) a b u v =
    let same : r ≡ s = some_same (sym b ∙ a) in
    let none : q ≡ None = none_stays tree s.id s.name q u (subst (λ (x : Sign). IsPriorityOf tree x.id x.name q) same v) in
    ap (λ (x : Sign). token.Dyad x q) same ∙ ap (λ (o : Option ℕ). token.Dyad s o) none

-- a sign that lacks a priority lacks it however its formula is read
pub lacks_always : (tree : Built) (from : ℕ) (after : Bool) (parts : List ℕ) (ts us : List FormulaPart) (k : ℕ) (s : Sign) → ReadsParts tree.nodes from after parts ts → ReadsParts tree.nodes from after parts us
    → EachOf (HasItsPriority tree) ts → EachOf (HasItsPriority tree) us → slice_get ts k ≡ Some (token.Dyad s None) → slice_get us k ≡ Some (token.Dyad s None)
lacks_always tree from after [] [] us k s a b u v e = absurd (cc)
lacks_always tree from after [] (t ∷ ts) us k s a b u v e = absurd a
lacks_always tree from after (p ∷ ps) [] us k s a b u v e = absurd a
lacks_always tree from after (p ∷ ps) (t ∷ ts) [] k s a b u v e = absurd b
lacks_always tree from after (p ∷ ps) (t ∷ ts) (x ∷ us) zero s a b u v e =
    let is : t ≡ token.Dyad s None = some_same e in
    ap (λ (y : FormulaPart). Some y) (lacks_too tree from after p s x (subst (λ (y : FormulaPart). IsToken tree.nodes from after p y) is a.0) b.0 (subst (HasItsPriority tree) is u.0) v.0)
lacks_always tree from after (p ∷ ps) (t ∷ ts) (x ∷ us) (suc k) s a b u v e =
    let same = alike tree.nodes from after p x t b.0 a.0 in
    lacks_always tree (from + signs_of t) (is_operand t) ps ts us k s a.1
    (subst (λ (y : Bool). ReadsParts tree.nodes (from + signs_of t) y ps us) same.1 (subst (λ (j : ℕ). ReadsParts tree.nodes (from + j) (is_operand x) ps us) same.0 b.1)) u.1 v.1 e

-- where a sign stands
pub record StandsAt (tree : Built) (s : Sign) : Type 0 where
  pub within : s.id < length tree.nodes
  pub place : place_at tree s.id ≡ s.from

sign_stands : (tree : Built) (from p : ℕ) (s : Sign) → next_sign tree.nodes from p ≡ Some s → StandsAt tree s
sign_stands tree from p s e =
    let r = (next_is tree.nodes from p s e).1 in
    let id : p ≡ s.id = ap (λ (x : Sign). x.id) r.is in
    let low = slice_get_within tree.nodes p r.node r.there in
    record {
      within = omega arith;
      place = ap (place_at tree) (sym id) ∙ ap (λ (o : Option Node). option_map_or (λ (n : Node). n.span.from) o 0) r.there ∙ ap (λ (x : Sign). x.from) r.is;
    }

dyad_stands : (tree : Built) (from : ℕ) (after : Bool) (p : ℕ) (s : Sign) (q : Option ℕ) → IsToken tree.nodes from after p (token.Dyad s q) → StandsAt tree s
dyad_stands tree from false p s q a = absurd a
dyad_stands tree from true p s q a = sign_stands tree from p s a

pub stands_at : (tree : Built) (from : ℕ) (after : Bool) (parts : List ℕ) (ts : List FormulaPart) (k : ℕ) (s : Sign) (q : Option ℕ) → ReadsParts tree.nodes from after parts ts → slice_get ts k ≡ Some (token.Dyad s q) → StandsAt tree s
stands_at tree from after [] [] k s q r e = absurd (cc)
stands_at tree from after [] (t ∷ ts) k s q r e = absurd r
stands_at tree from after (p ∷ ps) [] k s q r e = absurd r
stands_at tree from after (p ∷ ps) (t ∷ ts) zero s q r e = dyad_stands tree from after p s q (subst (λ (y : FormulaPart). IsToken tree.nodes from after p y) (some_same e) r.0)
stands_at tree from after (p ∷ ps) (t ∷ ts) (suc k) s q r e = stands_at tree (from + signs_of t) (is_operand t) ps ts k s q r.1 e

-- ---- tokens that lack one

pub record IsLacking (o : Option FormulaPart) (place : ℕ) : Type 0 where
  pub dyad : Sign
  pub is : o ≡ Some (token.Dyad dyad None)
  pub here : dyad.from ≡ place

pub late_is : (o : Option FormulaPart) (place : ℕ) → option_and_then late_of o ≡ Some place → IsLacking o place
late_is None place e = absurd (cc)
late_is (Some (token.Operand o)) place e = absurd (cc)
late_is (Some (token.Monad s)) place e = absurd (cc)
late_is (Some (token.Dyad s (Some p))) place e = absurd (cc)
late_is (Some (token.Dyad s None)) place e = record { dyad = s; is = refl; here = some_same e }

ranked_one : (t : FormulaPart) → ((place : ℕ) → late_of t ≡ Some place → ⊥) → IsRanked t
ranked_one (token.Operand o) none = tt
ranked_one (token.Monad s) none = tt
ranked_one (token.Dyad s (Some p)) none = tt
ranked_one (token.Dyad s None) none = none s.from refl

all_ranked : (ts : List FormulaPart) → ((k place : ℕ) → option_and_then late_of (slice_get ts k) ≡ Some place → ⊥) → EachOf IsRanked ts
all_ranked [] none = tt
all_ranked (t ∷ ts) none = (ranked_one t (none 0), all_ranked ts (λ k. none (suc k)))

late_there : (ts : List FormulaPart) (k place : ℕ) → option_and_then late_of (slice_get ts k) ≡ Some place → k < length ts
late_there ts k place e = let l = late_is (slice_get ts k) place e in slice_get_within ts k (token.Dyad l.dyad None) l.is

-- where none lacks a priority, all have one
pub ranked : (ts : List FormulaPart) → IsLeastNumber (IsLateToken ts (length ts)) None → EachOf IsRanked ts
ranked ts none = all_ranked ts (λ k place e. none place (k, late_there ts k place e, e))
