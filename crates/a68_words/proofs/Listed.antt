-- Lists that hold one item for each symbol of a text.
use Rattle.std.proofs.Common.{◌≡◌, ℕ, ◌+◌, List, [], ◌∷◌, ◌++◌, take, map, slice_get, Option, None, Some, ap, ap₂, sym, ◌∙◌}
use Rattle.std.specs.Option.{option_map}
use Rattle.std.proofs.lemmas.List.{take_more, map-append}
use Rattle.std.proofs.lemmas.Option.{slice_get_within, get_or_from_slice_get, slice_get-map}
use Rattle.a68_symbols.specs.declared.symbol.Symbol.{Symbol}
use Rattle.a68_symbols.specs.declared.sym.Sym.{Sym}
use Rattle.a68_symbols.specs.Names.{Spelled, Named}
use Rattle.a68_symbols.specs.Spellings.{bytes_of, sym_in, syms_of}
use Rattle.a68_words.specs.declared.role.Role.{Role}
use Rattle.a68_words.specs.Spellings.{role_of, role_in}

opened : (o : Option Spelled) (bytes : List ℕ) → option_map (λ (s : Spelled). s.bytes) o ≡ Some bytes → bytes_of o ≡ bytes
opened None bytes e = cc
opened (Some s) bytes e = cc

one_more : {X : Type 0} (f : Symbol → X) (xs : List Symbol) (i : ℕ) (s : Symbol) → slice_get xs i ≡ Some s → map f (take (i + 1) xs) ≡ map f (take i xs) ++ f s ∷ []
one_more f xs i s e =
    ap (map f) (take_more xs i s (slice_get_within xs i s e) ∙ ap (λ (x : Symbol). take i xs ++ x ∷ []) (get_or_from_slice_get xs i s s e)) ∙ map-append f (take i xs) (s ∷ [])

pub one_role : (found : Named) (i : ℕ) (s : Symbol) (is_sym : Sym) (bytes : List ℕ) (old new : List Role) → slice_get found.symbols i ≡ Some s
    → slice_get (syms_of found) i ≡ Some is_sym
    → option_map (λ (s : Spelled). s.bytes) (slice_get found.spellings s.name) ≡ Some bytes
    → old ≡ map (role_in found) (take i found.symbols) → new ≡ old ++ role_of is_sym bytes ∷ []
    → new ≡ map (role_in found) (take (i + 1) found.symbols)
one_role found i s is_sym bytes old new e g f before p =
    let here : ◌≡◌ {A = Option Sym} (Some (sym_in found s)) (Some is_sym) = sym (slice_get-map (sym_in found) found.symbols i ∙ ap (option_map (sym_in found)) e) ∙ g in
    let same : sym_in found s ≡ is_sym = cc in
    let is : role_in found s ≡ role_of is_sym bytes = ap₂ role_of same (opened (slice_get found.spellings s.name) bytes f) in
    rw (one_more (role_in found) found.symbols i s e, is, ← before) p

pub one_name : (symbols : List Symbol) (i : ℕ) (s : Symbol) (old new : List ℕ) → slice_get symbols i ≡ Some s
    → old ≡ map (λ (s : Symbol). s.name) (take i symbols) → new ≡ old ++ s.name ∷ []
    → new ≡ map (λ (s : Symbol). s.name) (take (i + 1) symbols)
one_name symbols i s old new e before p = rw (one_more (λ (s : Symbol). s.name) symbols i s e, ← before) p
