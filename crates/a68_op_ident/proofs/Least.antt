-- The least number for which something holds.
use Rattle.std.proofs.Common.{◌≡◌, ℕ, ◌+◌, ◌⊎◌, inl, inr, ⊎_elim, Bool, true, false, List, nat_le, refl, sym, ap, ◌∙◌, arith, Some, None, slice_get}
use Rattle.std.specs.Prelude.{if◌then◌else◌}
use Rattle.std.specs.Option.{option_and_then}
use Rattle.std.specs.declared.option.Option.{Option}
use Rattle.std.proofs.lemmas.Bool.{leb-true, leb-false}
use Rattle.a68_op_ident.specs.Inner.{IsLeastNumber, IsLateToken, lesser, late_of}
use Rattle.a68_op_ident.specs.declared.formula.FormulaPart.{FormulaPart}
use Rattle.a68_op_ident.proofs.Lists.{some_same, old_or_new}

-- the least of two kinds is the lesser of the two
pub joined : (A B C : ℕ → Type 0) (x y : Option ℕ) → IsLeastNumber A x → IsLeastNumber B y → ((p : ℕ) → A p → C p) → ((p : ℕ) → B p → C p) → ((p : ℕ) → C p → A p ⊎ B p) → IsLeastNumber C (lesser x y)
joined A B C None None a b f g h = λ p c. ⊎_elim (a p) (b p) (h p c)
joined A B C None (Some y) a b f g h = (g y b.0, λ p c. ⊎_elim (λ i. absurd (a p i)) (b.1 p) (h p c))
joined A B C (Some x) None a b f g h = (f x a.0, λ p c. ⊎_elim (a.1 p) (λ i. absurd (b p i)) (h p c))
joined A B C (Some x) (Some y) a b f g h = go (nat_le x y) refl
  where
    go : (t : Bool) → nat_le x y ≡ t → IsLeastNumber C (if t then Some x else Some y)
    go true e = let le = leb-true x y e in (f x a.0, λ p c. ⊎_elim (a.1 p) (λ i. let m = b.1 p i in omega arith) (h p c))
    go false e = let lt = leb-false x y e in (g y b.0, λ p c. ⊎_elim (λ i. let m = a.1 p i in omega arith) (b.1 p) (h p c))

-- the one number of an option
own : (o : Option ℕ) → IsLeastNumber (λ p. o ≡ Some p) o
own None = λ p e. absurd (cc)
own (Some x) = (refl, λ p e. let same = some_same e in omega arith)

pub none_late : (tokens : List FormulaPart) → IsLeastNumber (IsLateToken tokens 0) None
none_late tokens = λ p l. let lt = l.1 in absurd (omega arith)

-- one token more
pub late_more : (tokens : List FormulaPart) (k : ℕ) (t : FormulaPart) (late : Option ℕ) → slice_get tokens k ≡ Some t → IsLeastNumber (IsLateToken tokens k) late
    → IsLeastNumber (IsLateToken tokens (k + 1)) (lesser late (late_of t))
late_more tokens k t late at before =
    let here : option_and_then late_of (slice_get tokens k) ≡ late_of t = ap (option_and_then late_of) at in
    joined (IsLateToken tokens k) (λ p. late_of t ≡ Some p) (IsLateToken tokens (k + 1)) late (late_of t) before (own (late_of t))
    (λ p l. let lt = l.1 in (l.0, omega arith, l.2))
    (λ p e. (k, omega arith, here ∙ e))
    (λ p l. ⊎_elim (λ lt. inl (l.0, lt, l.2)) (λ same. inr (sym here ∙ ap (λ (j : ℕ). option_and_then late_of (slice_get tokens j)) (sym same) ∙ l.2)) (old_or_new l.0 k l.1))
