-- The sign that stands over all others, and the two sides of it.
use Rattle.std.proofs.Common.{◌≡◌, ℕ, ◌+◌, ⊎_elim, Bool, true, false, List, [], ◌∷◌, ◌++◌, length, take, drop, refl, sym, ap, ◌∙◌, subst, arith, Some, None, slice_get}
use Rattle.std.specs.declared.option.Option.{Option}
use Rattle.std.proofs.lemmas.Bool.{leb-true, leb-false, le-leb, false≢true}
use Rattle.std.proofs.lemmas.Option.{slice_get-get_or, slice_get_within}
use Rattle.a68_op_ident.specs.Formulas.{EachOf, priority_of, FromPriority, AbovePriority, BindsFrom, BindsAbove, BindsClosest, IsRanked, signs}
use Rattle.a68_op_ident.specs.Inner.{Alternates, IsRoot, stands_over}
use Rattle.a68_op_ident.specs.declared.formula.FormulaPart.{FormulaPart}
use Rattle.a68_op_ident.specs.declared.formula.FormulaPart.TheVariants as token
use Rattle.a68_op_ident.proofs.Lists.{some_same, less_or_not, eq_or_more, old_or_new, all_before, all_from}

-- what stands over one that a third does not stand over stands over the third
over_past : (a b c : Option ℕ) → stands_over a b ≡ true → stands_over c b ≡ false → stands_over a c ≡ true
over_past None b c p q = absurd (false≢true p)
over_past (Some a) b None p q = refl
over_past (Some a) None (Some c) p q = absurd (false≢true (sym q))
over_past (Some a) (Some b) (Some c) p q = let x = leb-true a b p in let y = leb-false c b q in le-leb a c (omega arith)

over_through : (a b c : Option ℕ) → stands_over a b ≡ true → stands_over b c ≡ true → stands_over a c ≡ true
over_through None b c p q = absurd (false≢true p)
over_through (Some a) None c p q = absurd (false≢true q)
over_through (Some a) (Some b) None p q = refl
over_through (Some a) (Some b) (Some c) p q = let x = leb-true a b p in let y = leb-true b c q in le-leb a c (omega arith)

pub first_root : (tokens : List FormulaPart) → IsRoot tokens 1 0
first_root tokens = record { below = omega arith; left = λ k t r p e f. absurd (omega arith); right = λ k t r p q e f. absurd (omega arith) }

-- the next token stands over the root
pub new_root : (tokens : List FormulaPart) (k root : ℕ) (t r : FormulaPart) → IsRoot tokens k root → slice_get tokens k ≡ Some t → slice_get tokens root ≡ Some r
    → stands_over (priority_of t) (priority_of r) ≡ true → IsRoot tokens (k + 1) k
new_root tokens k root t r is at there over = record {
  below = omega arith;
  left = λ j u x p e f.
      let same : t ≡ x = some_same (sym at ∙ f) in
      let past : stands_over (priority_of t) (priority_of u) ≡ true = ⊎_elim
      (λ lt. over_through (priority_of t) (priority_of r) (priority_of u) over (is.left j u r lt e there))
      (λ ge. ⊎_elim
      (λ eq. let one : r ≡ u = some_same (sym there ∙ ap (slice_get tokens) eq ∙ e) in subst (λ (z : FormulaPart). stands_over (priority_of t) (priority_of z) ≡ true) one over)
      (λ gt. over_past (priority_of t) (priority_of r) (priority_of u) over (is.right j u r gt p e there))
      (eq_or_more root j ge))
      (less_or_not j root) in
      subst (λ (z : FormulaPart). stands_over (priority_of z) (priority_of u) ≡ true) same past;
  right = λ j u x p q e f. absurd (omega arith);
}

-- the next token does not
pub old_root : (tokens : List FormulaPart) (k root : ℕ) (t r : FormulaPart) → IsRoot tokens k root → slice_get tokens k ≡ Some t → slice_get tokens root ≡ Some r
    → stands_over (priority_of t) (priority_of r) ≡ false → IsRoot tokens (k + 1) root
old_root tokens k root t r is at there over =
    let below = is.below in
    record {
      below = omega arith;
      left = is.left;
      right = λ j u x p q e f. ⊎_elim
          (λ lt. is.right j u x p lt e f)
          (λ eq. let one : t ≡ u = some_same (sym at ∙ ap (slice_get tokens) (sym eq) ∙ e) in
          let two : r ≡ x = some_same (sym there ∙ f) in
          subst (λ (z : FormulaPart). stands_over (priority_of u) (priority_of z) ≡ false) two (subst (λ (z : FormulaPart). stands_over (priority_of z) (priority_of r) ≡ false) one over))
          (old_or_new j k q);
    }

-- ---- the two sides

from_over : (p : ℕ) (o : Option ℕ) → stands_over (Some p) o ≡ true → FromPriority p o
from_over p None e = tt
from_over p (Some q) e = leb-true p q e

above_over : (p : ℕ) (o : Option ℕ) → stands_over o (Some p) ≡ false → AbovePriority p o
above_over p None e = tt
above_over p (Some q) e = leb-false q p e

closest_over : (o : Option ℕ) → stands_over o None ≡ false → o ≡ None
closest_over None e = refl
closest_over (Some p) e = absurd (false≢true (sym e))

pub binds_from : (tokens : List FormulaPart) (root p : ℕ) (r : FormulaPart) → IsRoot tokens (length tokens) root → slice_get tokens root ≡ Some r → priority_of r ≡ Some p → EachOf (BindsFrom p) (take root tokens)
binds_from tokens root p r is there e = all_before (BindsFrom p) tokens root
    (λ k t lt at. from_over p (priority_of t) (subst (λ (o : Option ℕ). stands_over o (priority_of t) ≡ true) e (is.left k t r lt at there)))

pub binds_above : (tokens : List FormulaPart) (root p : ℕ) (r : FormulaPart) → IsRoot tokens (length tokens) root → slice_get tokens root ≡ Some r → priority_of r ≡ Some p → EachOf (BindsAbove p) (drop (root + 1) tokens)
binds_above tokens root p r is there e = all_from (BindsAbove p) tokens (root + 1)
    (λ k t ge at. above_over p (priority_of t) (subst (λ (o : Option ℕ). stands_over (priority_of t) o ≡ false) e (is.right k t r (omega arith) (slice_get_within tokens k t at) at there)))

pub binds_closest : (tokens : List FormulaPart) (root : ℕ) (r : FormulaPart) → IsRoot tokens (length tokens) root → slice_get tokens root ≡ Some r → priority_of r ≡ None → EachOf BindsClosest (drop (root + 1) tokens)
binds_closest tokens root r is there e = all_from BindsClosest tokens (root + 1)
    (λ k t ge at. closest_over (priority_of t) (subst (λ (o : Option ℕ). stands_over (priority_of t) o ≡ false) e (is.right k t r (omega arith) (slice_get_within tokens k t at) at there)))

never : (o q : Option ℕ) → o ≡ None → stands_over o q ≡ true → ⊥
never None q e f = false≢true f
never (Some p) q e f = absurd (cc)

-- a token of no priority stands over others only where it is the first one
pub root_first : (tokens : List FormulaPart) (root : ℕ) (r : FormulaPart) → IsRoot tokens (length tokens) root → slice_get tokens root ≡ Some r → priority_of r ≡ None → root ≡ 0
root_first tokens root r is there e = ⊎_elim
    (λ lt. let at = slice_get-get_or tokens 0 r (omega (arith, is.below)) in absurd (never (priority_of r) _ e (is.left 0 _ r lt at there)))
    (λ le. omega arith)
    (less_or_not 0 root)

-- ---- operands and signs in turn

pub sides_alternate : (after : Bool) (left right : List FormulaPart) (s : _) (p : Option ℕ) → Alternates after (left ++ token.Dyad s p ∷ right) → Alternates after left × Alternates false right
sides_alternate true [] right s p a = (refl, a)
sides_alternate false [] right s p a = absurd a
sides_alternate false (token.Operand o ∷ left) right s p a = sides_alternate true left right s p a
sides_alternate false (token.Monad t ∷ left) right s p a = sides_alternate false left right s p a
sides_alternate false (token.Dyad t q ∷ left) right s p a = absurd a
sides_alternate true (token.Operand o ∷ left) right s p a = absurd a
sides_alternate true (token.Monad t ∷ left) right s p a = absurd a
sides_alternate true (token.Dyad t q ∷ left) right s p a = sides_alternate false left right s p a

-- an operand over all others stands alone
pub operand_alone : (o : _) (right : List FormulaPart) → Alternates false (token.Operand o ∷ right) → EachOf BindsClosest right → EachOf IsRanked right → right ≡ []
operand_alone o [] a closest ranked = refl
operand_alone o (token.Operand q ∷ right) a closest ranked = absurd a
operand_alone o (token.Monad t ∷ right) a closest ranked = absurd a
operand_alone o (token.Dyad t None ∷ right) a closest ranked = absurd ranked.0
operand_alone o (token.Dyad t (Some p) ∷ right) a closest ranked = let e = closest.0 in absurd (cc)

pub signs-append : (xs ys : List FormulaPart) → signs (xs ++ ys) ≡ signs xs + signs ys
signs-append [] ys = omega arith
signs-append (x ∷ xs) ys = let more = signs-append xs ys in omega arith
