-- The answer for a text from its outline.
use Rattle.std.proofs.Common.{◌≡◌, ℕ, ◌<◌, List, Option, Some, None, length, refl, ap, subst, ◌∙◌, arith}
use Rattle.std.specs.Prelude.{slice_get}
use Rattle.std.proofs.lemmas.List.{length-map}
use Rattle.a68_symbols.specs.declared.symbol.Symbol.{Symbol}
use Rattle.a68_symbols.specs.Names.{Named}
use Rattle.a68_words.specs.declared.class.Class.{Class}
use Rattle.a68_words.specs.declared.role.Role.{Role}
use Rattle.a68_words.specs.declared.known.BrokenRule.{BrokenRule}
use Rattle.a68_words.specs.Classes.{AreClasses, IsClassed, IsRefusedAt}
use Rattle.a68_words.specs.Known.{IsFirstFault, Outline}
use Rattle.a68_words.specs.Spellings.{names_of, role_in, roles_of}
use Rattle.a68_words.proofs.Faults.{breaks_within}

abbrev pub outline_of : Named → Outline
outline_of found = record { roles = roles_of found; names = names_of found }

pub outline_is : (found : Named) (o : Outline) (roles : List Role) (names : List ℕ) → o ≡ record { roles = roles; names = names }
    → roles ≡ roles_of found → names ≡ names_of found → o ≡ outline_of found
outline_is found o roles names e p q = rw (e, p, q) refl

pub roles_length : (found : Named) (o : Outline) → o ≡ outline_of found → length o.roles ≡ length found.symbols
roles_length found o e = ap (λ (o : Outline). length o.roles) e ∙ length-map found.symbols (role_in found)

pub symbol_within : (found : Named) (o : Outline) (fault : BrokenRule) → o ≡ outline_of found → IsFirstFault o (Some fault) → fault.symbol < length found.symbols
symbol_within found o fault e first =
    let lt : fault.symbol < length o.roles = breaks_within o fault.symbol fault.rule first.0 in
    let same : length o.roles ≡ length found.symbols = roles_length found o e in
    omega arith

pub is_refused : (found : Named) (o : Outline) (fault : BrokenRule) (s : Symbol) → o ≡ outline_of found → IsFirstFault o (Some fault)
    → slice_get found.symbols fault.symbol ≡ Some s → IsRefusedAt found fault.rule s.span.from
is_refused found o fault s e first is =
    let there : IsFirstFault (outline_of found) (Some fault) = subst (λ (o : Outline). IsFirstFault o (Some fault)) e first in
    record { at = fault.symbol; symbol = s; is = is; here = refl; broken = there.0; first = there.1 }

pub is_classed : (found : Named) (o : Outline) (classes : List (Option Class)) → o ≡ outline_of found → AreClasses found classes
    → IsFirstFault o None → IsClassed found classes
is_classed found o classes e are fine = record { words = are; fine = subst (λ (o : Outline). IsFirstFault o None) e fine }
