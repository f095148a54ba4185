-- The symbols of the grammar that the symbols of a text are.
use Rattle.std.proofs.Common.{◌≡◌, ℕ, ◌+◌, List, [], ◌∷◌, ◌++◌, take, map, slice_get, Option, None, Some, sym, ap, ◌∙◌}
use Rattle.std.specs.Option.{option_map}
use Rattle.std.proofs.lemmas.List.{take_more, map-append}
use Rattle.std.proofs.lemmas.Option.{slice_get_within, get_or_from_slice_get, slice_get-map}
use Rattle.a68_symbols.specs.declared.sym.Sym.{Sym}
use Rattle.a68_symbols.specs.declared.symbol.Symbol.{Symbol}
use Rattle.a68_symbols.specs.declared.symbol.SymbolKind.{SymbolKind}
use Rattle.a68_symbols.specs.declared.symbol.Spelling.{Spelling}
use Rattle.a68_symbols.specs.Kept.{IsKept}
use Rattle.a68_symbols.specs.Names.{Spelled, Named, spelled_of}
use Rattle.a68_symbols.specs.Spellings.{bytes_of, sym_of, sym_in, sym_spelled, syms_of}

-- what the table says of a spelling is what the symbol is
by_spelling : (o : Option Spelling) (kind : SymbolKind) (y : Sym) → option_map sym_spelled o ≡ Some y
    → option_map (λ (x : Spelled). x.kind) (option_map spelled_of o) ≡ Some kind → sym_of kind (bytes_of (option_map spelled_of o)) ≡ y
by_spelling None kind y e f = cc
by_spelling (Some k) kind y e f =
    let same : k.kind ≡ kind = cc in
    let is : sym_spelled k ≡ y = cc in
    rw (← same) is

pub sym_here : (xs : List Symbol) (ks : List Spelling) (syms : List Sym) (i : ℕ) (s : Symbol) (y : Sym) → IsKept xs ks syms → slice_get xs i ≡ Some s
    → slice_get syms s.name ≡ Some y → slice_get (syms_of (record { symbols = xs; spellings = map spelled_of ks })) i ≡ Some y
sym_here xs ks syms i s y kept e f =
    let found : Named = record { symbols = xs; spellings = map spelled_of ks } in
    let spelled : option_map sym_spelled (slice_get ks s.name) ≡ Some y = sym (slice_get-map sym_spelled ks s.name) ∙ (rw kept.read at f) in
    let own : option_map (λ (x : Spelled). x.kind) (slice_get (map spelled_of ks) s.name) ≡ Some s.kind = kept.sound.kinds i s e in
    let kind = rw (slice_get-map spelled_of ks s.name) at own in
    let is : sym_in found s ≡ y = rw (slice_get-map spelled_of ks s.name) (by_spelling (slice_get ks s.name) s.kind y spelled kind) in
    slice_get-map (sym_in found) xs i ∙ ap (option_map (sym_in found)) e ∙ ap (λ (x : Sym). Some x) is

-- one spelling more
pub one_spelled : (ks : List Spelling) (i : ℕ) (k : Spelling) (old new : List Sym) → slice_get ks i ≡ Some k → old ≡ map sym_spelled (take i ks)
    → new ≡ old ++ sym_spelled k ∷ [] → new ≡ map sym_spelled (take (i + 1) ks)
one_spelled ks i k old new e before p =
    let more : take (i + 1) ks ≡ take i ks ++ k ∷ [] = take_more ks i k (slice_get_within ks i k e) ∙ ap (λ (x : Spelling). take i ks ++ x ∷ []) (get_or_from_slice_get ks i k k e) in
    rw (more, map-append sym_spelled (take i ks) (k ∷ []), ← before) p

-- one symbol more
pub one_sym : (syms : List Sym) (i : ℕ) (y : Sym) (old new : List Sym) → slice_get syms i ≡ Some y → old ≡ take i syms → new ≡ old ++ y ∷ [] → new ≡ take (i + 1) syms
one_sym syms i y old new e before p =
    rw before at p ∙ sym (take_more syms i y (slice_get_within syms i y e) ∙ ap (λ (x : Sym). take i syms ++ x ∷ []) (get_or_from_slice_get syms i y y e))
