-- The classes of the words of a text in which nothing is broken.
use Rattle.std.proofs.Common.{◌≡◌, ◌≢◌, ℕ, ◌+◌, ◌<◌, ◌≤◌, ◌⊎◌, inl, inr, List, [], ◌∷◌, ◌++◌, Option, Some, None, length, refl, ap, sym, subst, ◌∙◌, arith, zero, suc, below_more, if◌then◌else◌}
use Rattle.std.specs.Prelude.{slice_get}
use Rattle.std.specs.Option.{is_some}
use Rattle.std.proofs.Math.ListN.{length-append}
use Rattle.std.proofs.lemmas.Option.{slice_get_within}
use Rattle.a68_base.specs.declared.refusal.Rule.TheVariants.{S4, N2}
use Rattle.a68_symbols.specs.declared.symbol.Symbol.{Symbol}
use Rattle.a68_symbols.specs.declared.symbol.SymbolKind.{SymbolKind}
use Rattle.a68_symbols.specs.declared.symbol.SymbolKind.TheVariants.{Word, Tag, Number, BitsNumber, Quoted, Mark}
use Rattle.a68_symbols.specs.Names.{Named}
use Rattle.a68_words.specs.declared.class.Class.{Class}
use Rattle.a68_words.specs.declared.class.Class.TheVariants.{Reserved, ModeWord, OperatorWord}
use Rattle.a68_words.specs.declared.role.Role.{Role}
use Rattle.a68_words.specs.declared.role.Role.TheVariants.{Standard, Bold}
use Rattle.a68_words.specs.declared.known.Known.{Known}
use Rattle.a68_words.specs.Roles.{is_definable}
use Rattle.a68_words.specs.Levels.{role_at}
use Rattle.a68_words.specs.Definitions.{Defines}
use Rattle.a68_words.specs.Classes.{AreClasses, HasClass, IsClassOf, IsDefined, IsDefinedAt}
use Rattle.a68_words.specs.Classes.BreaksAt.{defined_otherwise, undefined}
use Rattle.a68_words.specs.Classes.HasClass.{reserved, standard, defined}
use Rattle.a68_words.specs.Known.{IsFine, IsKnown, Outline, class_in}
use Rattle.a68_words.specs.Spellings.{names_of, roles_of}
use Rattle.a68_words.specs.Steps.{IsFirstSymbol, is_standard_role, is_bold_role}
use Rattle.a68_words.proofs.Judging.{defines_cases, defines_within}

before_or_behind : (j k : ℕ) → (j ≤ k) ⊎ (k ≤ j)
before_or_behind j k = grind arith

-- a word is not defined in two ways
clash : (o : Outline) → IsFine o → (i j k : ℕ) (a b : Class) → IsDefinedAt o.roles o.names i j a → IsDefinedAt o.roles o.names i k b → a ≢ b → ⊥
clash o fine i j k a b at there ne = elim (before_or_behind j k) [
  | inl le ↦ fine k S4 (defined_otherwise there.0 le (at.0, at.1 ∙ sym there.1) ne)
  | inr le ↦ fine j S4 (defined_otherwise at.0 le (there.0, there.1 ∙ sym at.1) (λ same. ne (sym same)))
]

as_mode : (o : Outline) → IsFine o → (i k : ℕ) → IsDefinedAt o.roles o.names i k ModeWord → IsDefined o.roles o.names i ModeWord
as_mode o fine i k at = record {
  somewhere = (k, at);
  only = λ j other there. elim (defines_cases o.roles j other there.0) [
    | inl m ↦ m
    | inr op ↦ absurd (clash o fine i k j ModeWord other at there (λ same. cc (same, op)))
  ];
}

as_operator : (o : Outline) → IsFine o → (i k : ℕ) → IsDefinedAt o.roles o.names i k OperatorWord → IsDefined o.roles o.names i OperatorWord
as_operator o fine i k at = record {
  somewhere = (k, at);
  only = λ j other there. elim (defines_cases o.roles j other there.0) [
    | inl m ↦ absurd (clash o fine i k j OperatorWord other at there (λ same. cc (same, m)))
    | inr op ↦ op
  ];
}

has_class : (o : Outline) → IsFine o → (i : ℕ) (r : Role) (fm fo : Option ℕ) → role_at o.roles i ≡ r
    → IsFirstSymbol (λ j. IsDefinedAt o.roles o.names i j ModeWord) (length o.roles) fm
    → IsFirstSymbol (λ j. IsDefinedAt o.roles o.names i j OperatorWord) (length o.roles) fo
    → HasClass o.roles o.names i (if is_standard_role r then OperatorWord else (if is_bold_role r then (if is_some fm then ModeWord else OperatorWord) else Reserved))
has_class o fine i Standard fm fo e m op = standard e
has_class o fine i Bold (Some k) fo e m op = defined e (as_mode o fine i k m.1)
has_class o fine i Bold None (Some k) e m op = defined e (as_operator o fine i k op.1)
has_class o fine i Bold None None e m op =
    absurd (fine i N2 (undefined e (λ j class at. elim (defines_cases o.roles j class at.0) [
      | inl is ↦ m j (defines_within o.roles j class at.0) (subst (λ (c : Class). Defines o.roles j c) is at.0, at.1)
      | inr is ↦ op j (defines_within o.roles j class at.0) (subst (λ (c : Class). Defines o.roles j c) is at.0, at.1)
    ])))
has_class o fine i _ fm fo e m op = reserved (ap is_definable e)

class_is : (o : Outline) → IsFine o → (i : ℕ) (known : Known) (kind : SymbolKind) → IsKnown o.roles o.names i known
    → IsClassOf o.roles o.names i kind (class_in kind known)
class_is o fine i known Word is = (refl, has_class o fine i known.role known.first_mode known.first_operator (sym is.role) is.first_mode is.first_operator)
class_is o fine i known Tag is = λ e. absurd (cc (e))
class_is o fine i known Number is = λ e. absurd (cc (e))
class_is o fine i known BitsNumber is = λ e. absurd (cc (e))
class_is o fine i known Quoted is = λ e. absurd (cc (e))
class_is o fine i known Mark is = λ e. absurd (cc (e))

-- the classes of the first n symbols
pub record AreFirstClasses (symbols : List Symbol) (o : Outline) (n : ℕ) (classes : List (Option Class)) : Type 0 where
  pub whole : length classes ≡ n
  pub each : (k : ℕ) → k < n → (s : Symbol) → slice_get symbols k ≡ Some s
      → (class : Option Class) × (slice_get classes k ≡ Some class) × IsClassOf o.roles o.names k s.kind class

got_left : (xs ys : List (Option Class)) (k : ℕ) (x : Option Class) → slice_get xs k ≡ Some x → slice_get (xs ++ ys) k ≡ Some x
got_left [] ys k x e = absurd (cc)
got_left (y ∷ xs) ys zero x e = e
got_left (y ∷ xs) ys (suc k) x e = got_left xs ys k x e

got_seam : (xs : List (Option Class)) (x : Option Class) → slice_get (xs ++ x ∷ []) (length xs) ≡ Some x
got_seam [] x = refl
got_seam (y ∷ xs) x = got_seam xs x

pub classes_more : (symbols : List Symbol) (o : Outline) (n : ℕ) (known : Known) (class : Option Class) (s : Symbol) (old new : List (Option Class))
    → AreFirstClasses symbols o n old → IsFine o → IsKnown o.roles o.names n known → slice_get symbols n ≡ Some s → class ≡ class_in s.kind known
    → new ≡ old ++ class ∷ [] → AreFirstClasses symbols o (n + 1) new
classes_more symbols o n known class s old new are fine is here c e = rw e (record {
  whole = omega (arith, length-append old (class ∷ []), are.whole);
  each = below_more
      (λ (k : ℕ). (r : Symbol) → slice_get symbols k ≡ Some r
      → (found : Option Class) × (slice_get (old ++ class ∷ []) k ≡ Some found) × IsClassOf o.roles o.names k r.kind found) n
      (λ k h r at. let p = are.each k h r at in (p.0, got_left old (class ∷ []) k p.0 p.1, p.2))
      (λ r at.
      let same : s ≡ r = cc (here, at) in (
        class,
        subst (λ (k : ℕ). slice_get (old ++ class ∷ []) k ≡ Some class) are.whole (got_seam old class),
        subst (λ (r : Symbol). IsClassOf o.roles o.names n r.kind class) same (rw c (class_is o fine n known s.kind is)),
      ));
})

pub classes_all : (found : Named) (o : Outline) (classes : List (Option Class)) → o ≡ record { roles = roles_of found; names = names_of found }
    → AreFirstClasses found.symbols o (length found.symbols) classes → AreClasses found classes
classes_all found o classes e are = record {
  whole = are.whole;
  each = λ i s at.
      let p = are.each i (slice_get_within found.symbols i s at) s at in
      (p.0, p.1, subst (λ (o : Outline). IsClassOf o.roles o.names i s.kind p.0) e p.2);
}
