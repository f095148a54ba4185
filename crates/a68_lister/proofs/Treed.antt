-- A text with a tree is laid out without running symbols together.
use Rattle.std.proofs.Common.{◌≡◌, ℕ, ◌+◌, ◌≤◌, Bool, true, false, ◌&&◌, List, [], ◌∷◌, Option, length, map, refl, sym, subst, arith}
use Rattle.std.proofs.lemmas.List.{length-map}
use Rattle.std.specs.Prelude.{slice_get}
use Rattle.a68_lister.proofs.Beside.{goes, Fine, enclosed_fine}
use Rattle.a68_lister.proofs.Relisting.{relists}
use Rattle.a68_lister.specs.Parting.{goes_on, Parted}
use Rattle.a68_lister.specs.Relists.{Relisting}
use Rattle.a68_parse.specs.Texts.{text_of, classed, with_class}
use Rattle.a68_symbols.specs.declared.symbol.Symbol.{Symbol}
use Rattle.a68_symbols.specs.declared.symbol.SymbolKind.{SymbolKind}
use Rattle.a68_symbols.specs.declared.symbol.SymbolKind.TheVariants.{Word, Tag, Number, BitsNumber, Quoted, Mark}
use Rattle.a68_symbols.specs.Limits.{most_symbols}
use Rattle.a68_symbols.specs.Names.{Named}
use Rattle.a68_symbols.specs.Symbols.{Piece, piece_of, IsCut, cut_ended, cut_passed, cut_taken}
use Rattle.a68_symbols.proofs.Again.{true≢false}
use Rattle.a68_symbols.specs.declared.sym.Sym.{Sym}
use Rattle.a68_symbols.specs.Spellings.{sym_of, sym_in, number_sym, is_digit, bytes_of}
use Rattle.a68_words.specs.declared.class.Class.{Class}

-- a tag or a number is one to the grammar
number_goes : (s : List ℕ) (class : Option Class) → goes (with_class (number_sym s) class) ≡ true
number_goes s class = by (is_digit s) refl
  where
    by : (v : Bool) → is_digit s ≡ v → goes (with_class (number_sym s) class) ≡ true
    by true v = rw v refl
    by false v = rw v refl

sym_goes : (kind : SymbolKind) (s : List ℕ) (class : Option Class) → goes_on kind ≡ true → goes (with_class (sym_of kind s) class) ≡ true
sym_goes Word s class on = cc
sym_goes Tag s class on = refl
sym_goes Number s class on = number_goes s class
sym_goes BitsNumber s class on = refl
sym_goes Quoted s class on = cc
sym_goes Mark s class on = cc

not_both : (k j : SymbolKind) (s u : List ℕ) (c d : Option Class) → (goes (with_class (sym_of k s) c) && goes (with_class (sym_of j u) d)) ≡ false → (goes_on k && goes_on j) ≡ false
not_both k j s u c d fine = by (goes_on k) (goes_on j) refl refl
  where
    by : (v w : Bool) → goes_on k ≡ v → goes_on j ≡ w → (goes_on k && goes_on j) ≡ false
    by true true p q = absurd (true≢false true refl (let e : (true && true) ≡ false = rw (sym_goes k s c p, sym_goes j u d q) at fine in e))
    by true false p q = rw (p, q) refl
    by false w p q = rw p refl

parted : (found : Named) (ss : List Symbol) (classes : List (Option Class)) (before : Bool) → length classes ≡ length ss → Fine before (classed (map (sym_in found) ss) classes)
    → Parted (map (λ (s : Symbol). s.kind) ss)
parted found [] classes before long fine = tt
parted found (s ∷ []) classes before long fine = tt
parted found (s ∷ r ∷ ss) [] before long fine = absurd (omega (arith, long))
parted found (s ∷ r ∷ ss) (c ∷ []) before long fine = absurd (omega (arith, long))
parted found (s ∷ r ∷ ss) (c ∷ d ∷ classes) before long fine = (
  not_both s.kind r.kind (bytes_of (slice_get found.spellings s.name)) (bytes_of (slice_get found.spellings r.name)) c d fine.1.0,
  parted found (r ∷ ss) (d ∷ classes) (goes (with_class (sym_in found s) c)) (omega (arith, long)) fine.1,
)

cut_few : {long : Bool} {at before : ℕ} {t : List ℕ} {ps : List Piece} → IsCut long at before t ps → before ≤ most_symbols → before + length ps ≤ most_symbols
cut_few cut_ended le = omega (arith, le)
cut_few (cut_passed front cut) le = cut_few cut le
cut_few (cut_taken {before = before} {more = more} front room cut) le =
    let later : before + 1 + length more ≤ most_symbols = cut_few cut (omega (arith, room)) in omega (arith, later)

pub relisting : Relisting
relisting text found are names classes list long tree short =
    let fine : Fine false (text_of found classes) = subst (λ (l : List Sym). Fine false l) (sym tree.spelled) (enclosed_fine tree.is [] tt) in
    let few = cut_few are.has.1 (omega arith) in
    relists text found are.has names (parted found found.symbols classes false long fine) (omega (arith, few, length-map found.symbols piece_of)) short
