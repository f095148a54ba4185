-- The first symbol by the tests that hold of it.
use Rattle.std.proofs.Common.{◌≡◌, Bool, true, false, List, ◌∷◌, refl, sym, ap, ◌∙◌, ◌||◌}
use Rattle.std.proofs.lemmas.Bool.{false≢true}
use Rattle.a68_symbols.specs.declared.sym.Token.{Token}
use Rattle.a68_symbols.specs.declared.sym.Token.TheVariants as t
use Rattle.a68_symbols.specs.declared.sym.Sym.{Sym}
use Rattle.a68_symbols.specs.declared.sym.Sym.TheVariants.{Is}
use Rattle.a68_tree.specs.Grammar as gr
use Rattle.a68_tree.specs.Grammar.{IsMonadic, IsSign, IsDenotation, IsPlain}
use Rattle.a68_lookahead.specs.Symbols.{same, is_monadic, is_comparison, is_operator, is_denotation, is_plain}
use Rattle.a68_lookahead.proofs.Firsts.{same_is}
use Rattle.a68_read.proofs.Tests.{monadic_first, operator_first}
use Rattle.a68_read.specs.Readings.{LacksAny, FirstOf}

pub begins : (text rest : List Sym) (first wanted : Sym) → text ≡ first ∷ rest → same first wanted ≡ true → text ≡ wanted ∷ rest
begins text rest first wanted e s = e ∙ ap (λ (x : Sym). x ∷ rest) (same_is first wanted s)

-- one of the tests holds of the first symbol
one : (P : Token → Type 0) (s : Sym) (t : Token) (rest : List Sym) → P t → same s (Is t) ≡ true → FirstOf P (s ∷ rest) rest
one P s t rest p e = record { token = t; such = p; first = ap (λ (x : Sym). x ∷ rest) (same_is s (Is t) e) }

either : {X : Type 0} (p q : Bool) → (p || q) ≡ true → (p ≡ true → X) → (q ≡ true → X) → X
either true q e f g = f refl
either false q e f g = g e

pub monadic_of : (s : Sym) (rest : List Sym) → is_monadic (s ∷ rest) ≡ true → FirstOf IsMonadic (s ∷ rest) rest
monadic_of s rest e =
    either (same s (Is t.Plus)) (same s (Is t.Minus) || same s (Is t.Monad)) e (one IsMonadic s t.Plus rest gr.monadic_plus)
    (λ f. either (same s (Is t.Minus)) (same s (Is t.Monad)) f (one IsMonadic s t.Minus rest gr.monadic_minus) (one IsMonadic s t.Monad rest gr.monadic_other))

as_sign : (s : Sym) (rest : List Sym) → FirstOf IsMonadic (s ∷ rest) rest → FirstOf IsSign (s ∷ rest) rest
as_sign s rest f = record { token = f.token; such = gr.sign_monadic f.such; first = f.first }

comparison_of : (s : Sym) (rest : List Sym) → is_comparison (s ∷ rest) ≡ true → FirstOf IsSign (s ∷ rest) rest
comparison_of s rest e =
    either (same s (Is t.Equals)) (same s (Is t.Differs) || (same s (Is t.Less) || (same s (Is t.AtMost) || (same s (Is t.Greater) || same s (Is t.AtLeast))))) e (one IsSign s t.Equals rest gr.sign_equals)
    (λ f. either (same s (Is t.Differs)) (same s (Is t.Less) || (same s (Is t.AtMost) || (same s (Is t.Greater) || same s (Is t.AtLeast)))) f (one IsSign s t.Differs rest gr.sign_differs)
    (λ g. either (same s (Is t.Less)) (same s (Is t.AtMost) || (same s (Is t.Greater) || same s (Is t.AtLeast))) g (one IsSign s t.Less rest gr.sign_less)
    (λ h. either (same s (Is t.AtMost)) (same s (Is t.Greater) || same s (Is t.AtLeast)) h (one IsSign s t.AtMost rest gr.sign_at_most)
    (λ i. either (same s (Is t.Greater)) (same s (Is t.AtLeast)) i (one IsSign s t.Greater rest gr.sign_greater) (one IsSign s t.AtLeast rest gr.sign_at_least)))))

pub operator_of : (s : Sym) (rest : List Sym) → is_operator (s ∷ rest) ≡ true → FirstOf IsSign (s ∷ rest) rest
operator_of s rest e =
    either (is_monadic (s ∷ rest)) (is_comparison (s ∷ rest) || (same s (Is t.Times) || same s (Is t.Nomad))) e (λ f. as_sign s rest (monadic_of s rest f))
    (λ f. either (is_comparison (s ∷ rest)) (same s (Is t.Times) || same s (Is t.Nomad)) f (comparison_of s rest)
    (λ g. either (same s (Is t.Times)) (same s (Is t.Nomad)) g (one IsSign s t.Times rest gr.sign_times) (one IsSign s t.Nomad rest gr.sign_other)))

pub denotation_of : (s : Sym) (rest : List Sym) → is_denotation (s ∷ rest) ≡ true → FirstOf IsDenotation (s ∷ rest) rest
denotation_of s rest e =
    either (same s (Is t.Digit)) (same s (Is t.Number) || (same s (Is t.BitsNumber) || (same s (Is t.Quoted) || (same s (Is t.True) || same s (Is t.False))))) e (one IsDenotation s t.Digit rest gr.denotation_digit)
    (λ f. either (same s (Is t.Number)) (same s (Is t.BitsNumber) || (same s (Is t.Quoted) || (same s (Is t.True) || same s (Is t.False)))) f (one IsDenotation s t.Number rest gr.denotation_number)
    (λ g. either (same s (Is t.BitsNumber)) (same s (Is t.Quoted) || (same s (Is t.True) || same s (Is t.False))) g (one IsDenotation s t.BitsNumber rest gr.denotation_bits)
    (λ h. either (same s (Is t.Quoted)) (same s (Is t.True) || same s (Is t.False)) h (one IsDenotation s t.Quoted rest gr.denotation_quoted)
    (λ i. either (same s (Is t.True)) (same s (Is t.False)) i (one IsDenotation s t.True rest gr.denotation_true) (one IsDenotation s t.False rest gr.denotation_false)))))

pub plain_of : (s : Sym) (rest : List Sym) → is_plain (s ∷ rest) ≡ true → FirstOf IsPlain (s ∷ rest) rest
plain_of s rest e = either (same s (Is t.Int)) (same s (Is t.Plain)) e (one IsPlain s t.Int rest gr.plain_int) (one IsPlain s t.Plain rest gr.plain_other)

-- and none holds where no such symbol stands first
none : (x : Bool) → x ≡ true → x ≡ false → ⊥
none x e f = false≢true (sym f ∙ e)

pub no_monadic : (text : List Sym) → is_monadic text ≡ false → LacksAny IsMonadic text
no_monadic text e s x p f = none (is_monadic (Is s ∷ x)) (monadic_first p x) (sym (ap is_monadic f) ∙ e)

pub no_operator : (text : List Sym) → is_operator text ≡ false → LacksAny IsSign text
no_operator text e s x p f = none (is_operator (Is s ∷ x)) (operator_first p x) (sym (ap is_operator f) ∙ e)

denotation_first : {s : Token} → IsDenotation s → (x : List Sym) → is_denotation (Is s ∷ x) ≡ true
denotation_first gr.denotation_digit x = refl
denotation_first gr.denotation_number x = refl
denotation_first gr.denotation_bits x = refl
denotation_first gr.denotation_quoted x = refl
denotation_first gr.denotation_true x = refl
denotation_first gr.denotation_false x = refl

pub no_denotation : (text : List Sym) → is_denotation text ≡ false → LacksAny IsDenotation text
no_denotation text e s x p f = none (is_denotation (Is s ∷ x)) (denotation_first p x) (sym (ap is_denotation f) ∙ e)

plain_first : {s : Token} → IsPlain s → (x : List Sym) → is_plain (Is s ∷ x) ≡ true
plain_first gr.plain_int x = refl
plain_first gr.plain_other x = refl

pub no_plain : (text : List Sym) → is_plain text ≡ false → LacksAny IsPlain text
no_plain text e s x p f = none (is_plain (Is s ∷ x)) (plain_first p x) (sym (ap is_plain f) ∙ e)

-- the same over a text that is known by its first symbol
pub known : (P : Token → Type 0) (is : List Sym → Bool) (text rest : List Sym) (s : Sym) → text ≡ s ∷ rest → ((s : Sym) (rest : List Sym) → is (s ∷ rest) ≡ true → FirstOf P (s ∷ rest) rest)
    → is text ≡ true → FirstOf P text rest
known P is text rest s e of_ h = let f = of_ s rest (sym (ap is e) ∙ h) in record { token = f.token; such = f.such; first = e ∙ f.first }
