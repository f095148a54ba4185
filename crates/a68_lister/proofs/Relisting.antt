-- A text that is laid out anew has the symbols that it had.
use Rattle.std.proofs.Common.{◌≡◌, ℕ, zero, suc, ◌+◌, ◌-◌, ◌<◌, ◌≤◌, Bool, false, List, [], ◌∷◌, ◌++◌, Some, None, length, take, drop, map, refl, sym, ap, subst, ◌∙◌, arith}
use Rattle.std.specs.Prelude.{slice_get}
use Rattle.std.proofs.lemmas.List.{drop-drop}
use Rattle.std.proofs.Math.Seq.{drop-append_seam, take-append_seam}
use Rattle.a68_base.specs.declared.refusal.Rule.{Rule}
use Rattle.a68_lister.proofs.Laid.{EachSpells, bytes_in, kinds_of, pieces_from, cut_laid}
use Rattle.a68_lister.proofs.Standing.{Spells, spells, long_spelled, spells_word, spells_tag, spells_number, spells_bits, spells_quoted, spells_mark}
use Rattle.a68_lister.specs.Layout.{gap, laid_out, listed, depth_behind, bytes_of, spelling_in, spellings_in}
use Rattle.a68_lister.specs.Parting.{Parted, kinds_in}
use Rattle.a68_lister.specs.Relists.{Relists, spelled_symbols}
use Rattle.a68_symbols.specs.declared.symbol.Symbol.{Symbol}
use Rattle.a68_symbols.specs.declared.symbol.SymbolKind.{SymbolKind}
use Rattle.a68_symbols.specs.Limits.{most_bytes, most_symbols}
use Rattle.a68_symbols.specs.Names.{Named, Spelled, AreNamed, spelled_in, spelling_of, stretch_of}
use Rattle.a68_symbols.specs.Symbols.{Piece, piece_of, IsCut, cut_ended, cut_passed, cut_taken, HasSymbols, IsRefused, too_long, stopped, SymbolsAre}
use Rattle.a68_symbols.specs.Words.{is_long}
use Rattle.a68_symbols.proofs.Cutting.{one_list, not_both}

-- ---- the spellings of a text's symbols

abbrev spelled : Named → Symbol → Spelled
spelled found s = record { kind = s.kind; bytes = spelling_in found s }

abbrev spelled_list : Named → List Symbol → List Spelled
spelled_list found [] = []
spelled_list found (s ∷ ss) = record { kind = s.kind; bytes = spelling_in found s } ∷ spelled_list found ss

bytes_map : (found : Named) (ss : List Symbol) → bytes_in (spelled_list found ss) ≡ map (spelling_in found) ss
bytes_map found [] = refl
bytes_map found (s ∷ ss) = ap (λ (l : List (List ℕ)). spelling_in found s ∷ l) (bytes_map found ss)

kinds_map : (found : Named) (ss : List Symbol) → kinds_of (spelled_list found ss) ≡ map (λ (s : Symbol). s.kind) ss
kinds_map found [] = refl
kinds_map found (s ∷ ss) = ap (λ (l : List SymbolKind). s.kind ∷ l) (kinds_map found ss)

list_long : (found : Named) (ss : List Symbol) → length (spelled_list found ss) ≡ length ss
list_long found [] = refl
list_long found (s ∷ ss) = ap (λ (n : ℕ). suc n) (list_long found ss)

-- each piece of a text spells its kind
abbrev EachStands : List ℕ → Bool → List Piece → Type 0
EachStands text long [] = Unit {0}
EachStands text long (p ∷ ps) =
    Spells long p.kind (spelling_of p.kind (stretch_of text p.span)) × EachStands text (is_long p.kind (spelling_of p.kind (stretch_of text p.span))) ps

all_stand : (text : List ℕ) {long : Bool} {at before : ℕ} {t : List ℕ} {ps : List Piece} → IsCut long at before t ps → t ≡ drop at text → EachStands text long ps
all_stand text cut_ended e = tt
all_stand text (cut_passed {at = at} {n = n} front cut) e = all_stand text cut (ap (λ (l : List ℕ). drop n l) e ∙ drop-drop n at text)
all_stand text (cut_taken {long = long} {at = at} {n = n} {text = t} {kind = kind} {more = more} front room cut) e =
    let same : at + n - at ≡ n = omega arith in
    let stretch : take n t ≡ take (at + n - at) (drop at text) = ap (λ (l : List ℕ). take n l) e ∙ sym (ap (λ (k : ℕ). take k (drop at text)) same) in
    let same_long : is_long kind (take n t) ≡ is_long kind (spelling_of kind (take (at + n - at) (drop at text))) =
    long_spelled long t n kind front ∙ ap (λ (l : List ℕ). is_long kind (spelling_of kind l)) stretch in
    let later = all_stand text cut (ap (λ (l : List ℕ). drop n l) e ∙ drop-drop n at text) in
    (subst (λ (l : List ℕ). Spells long kind (spelling_of kind l)) stretch (spells front), subst (λ (x : Bool). EachStands text x more) same_long later)

abbrev OwnFrom : List ℕ → Named → List Symbol → Type 0
OwnFrom text found ss = (i : ℕ) (s : Symbol) → slice_get ss i ≡ Some s → slice_get found.spellings s.name ≡ Some (spelled_in text s)

own_bytes : (text : List ℕ) (found : Named) (s : Symbol) → slice_get found.spellings s.name ≡ Some (spelled_in text s) → spelling_in found s ≡ spelling_of s.kind (stretch_of text s.span)
own_bytes text found s e = ap bytes_of e

each_spells : (text : List ℕ) (found : Named) (long : Bool) (ss : List Symbol) → OwnFrom text found ss → EachStands text long (map piece_of ss) → EachSpells long (spelled_list found ss)
each_spells text found long [] own stand = tt
each_spells text found long (s ∷ ss) own stand =
    let bytes = sym (own_bytes text found s (own 0 s refl)) in
    let later = subst (λ (l : List ℕ). EachStands text (is_long s.kind l) (map piece_of ss)) bytes stand.1 in
    (subst (λ (l : List ℕ). Spells long s.kind l) bytes stand.0, each_spells text found (is_long s.kind (spelling_in found s)) ss (λ i r e. own (suc i) r e) later)

-- ---- where they stand in the listing

abbrev moved : Named → (at : ℕ) (before : List ℕ) (depth : ℕ) → List Symbol → List Symbol
moved found at before depth [] = []
moved found at before depth (s ∷ ss) =
    record {
      kind = s.kind;
      span = record { from = at + length (gap before depth (spelling_in found s)); to = at + length (gap before depth (spelling_in found s)) + length (spelling_in found s) };
      name = s.name;
    } ∷ moved found (at + length (gap before depth (spelling_in found s)) + length (spelling_in found s)) (spelling_in found s) (depth_behind depth (spelling_in found s)) ss

moved_pieces : (found : Named) (at : ℕ) (before : List ℕ) (depth : ℕ) (ss : List Symbol) → map piece_of (moved found at before depth ss) ≡ pieces_from at before depth (spelled_list found ss)
moved_pieces found at before depth [] = refl
moved_pieces found at before depth (s ∷ ss) =
    ap (λ (l : List Piece). piece_of (record {
      kind = s.kind;
      span = record { from = at + length (gap before depth (spelling_in found s)); to = at + length (gap before depth (spelling_in found s)) + length (spelling_in found s) };
      name = s.name;
    }) ∷ l) (moved_pieces found (at + length (gap before depth (spelling_in found s)) + length (spelling_in found s)) (spelling_in found s) (depth_behind depth (spelling_in found s)) ss)

-- a symbol of the listing, and that of the text
record Moved (text : List ℕ) (found : Named) (new old : Symbol) : Type 0 where
  name : new.name ≡ old.name
  same : spelled_in text new ≡ spelled found old

alone : {long : Bool} {kind : SymbolKind} {s : List ℕ} → Spells long kind s → spelling_of kind s ≡ s
alone (spells_word r w e) = w
alone (spells_tag r w) = w
alone (spells_number r w e) = w
alone (spells_bits r w e) = w
alone (spells_quoted q) = refl
alone (spells_mark e w) = w

-- a piece of the listing is its spelling
piece_spelled : {long : Bool} (text : List ℕ) (at : ℕ) (b rest : List ℕ) (kind : SymbolKind) → drop at text ≡ b ++ rest → Spells long kind b
    → spelling_of kind (stretch_of text (record { from = at; to = at + length b })) ≡ b
piece_spelled text at b rest kind e spells =
    let same : at + length b - at ≡ length b = omega arith in
    let stretch : take (at + length b - at) (drop at text) ≡ b = ap (λ (k : ℕ). take k (drop at text)) same ∙ ap (λ (l : List ℕ). take (length b) l) e ∙ take-append_seam b rest in
    ap (λ (l : List ℕ). spelling_of kind l) stretch ∙ alone spells

-- where the text stands behind a gap, and behind a symbol
behind_gap : (text : List ℕ) (at : ℕ) (g rest : List ℕ) → drop at text ≡ g ++ rest → drop (at + length g) text ≡ rest
behind_gap text at g rest e = sym (drop-drop (length g) at text) ∙ ap (λ (l : List ℕ). drop (length g) l) e ∙ drop-append_seam g rest

old_of : (text : List ℕ) (found : Named) (long : Bool) (ss : List Symbol) (at : ℕ) (before : List ℕ) (depth : ℕ) → drop at text ≡ laid_out before depth (bytes_in (spelled_list found ss)) → EachSpells long (spelled_list found ss)
    → (i : ℕ) (new : Symbol) → slice_get (moved found at before depth ss) i ≡ Some new → (old : Symbol) × (slice_get ss i ≡ Some old) × Moved text found new old
old_of text found long [] at before depth e each i new there = absurd (let f : None ≡ Some new = there in cc f)
old_of text found long (s ∷ ss) at before depth e each zero new there =
    let b : List ℕ = spelling_in found s in
    let g : List ℕ = gap before depth b in
    let rest : List ℕ = laid_out b (depth_behind depth b) (bytes_in (spelled_list found ss)) in
    let whole : Some (record { kind = s.kind; span = record { from = at + length g; to = at + length g + length b }; name = s.name }) ≡ Some new = there in
    let is : record { kind = s.kind; span = record { from = at + length g; to = at + length g + length b }; name = s.name } ≡ new = cc whole in
    let here : spelled_in text (record { kind = s.kind; span = record { from = at + length g; to = at + length g + length b }; name = s.name }) ≡ spelled found s =
    ap {A = List ℕ} {B = Spelled} (λ (l : List ℕ). record { kind = s.kind; bytes = l }) (piece_spelled text (at + length g) b rest s.kind (behind_gap text at g (b ++ rest) e) each.0) in
    (s, refl, subst (λ (x : Symbol). Moved text found x s) is (record { name = refl; same = here }))
old_of text found long (s ∷ ss) at before depth e each (suc i) new there =
    let b : List ℕ = spelling_in found s in
    let g : List ℕ = gap before depth b in
    let rest : List ℕ = laid_out b (depth_behind depth b) (bytes_in (spelled_list found ss)) in
    old_of text found (is_long s.kind b) ss (at + length g + length b) b (depth_behind depth b) (behind_gap text (at + length g) b rest (behind_gap text at g (b ++ rest) e)) each.1 i new there

new_of : (found : Named) (ss : List Symbol) (at : ℕ) (before : List ℕ) (depth : ℕ) (i : ℕ) (old : Symbol) → slice_get ss i ≡ Some old
    → (new : Symbol) × (slice_get (moved found at before depth ss) i ≡ Some new) × (new.name ≡ old.name)
new_of found [] at before depth i old there = absurd (let f : None ≡ Some old = there in cc f)
new_of found (s ∷ ss) at before depth zero old there =
    let b : List ℕ = spelling_in found s in
    let g : List ℕ = gap before depth b in
    let whole : Some s ≡ Some old = there in
    let is : s ≡ old = cc whole in
    (record { kind = s.kind; span = record { from = at + length g; to = at + length g + length b }; name = s.name }, refl, ap (λ (x : Symbol). x.name) is)
new_of found (s ∷ ss) at before depth (suc i) old there =
    let b : List ℕ = spelling_in found s in
    new_of found ss (at + length (gap before depth b) + length b) b (depth_behind depth b) i old there

-- ---- the law

same_spelled : (found again : Named) → again.spellings ≡ found.spellings → (at : ℕ) (before : List ℕ) (depth : ℕ) (ss : List Symbol)
    → map (spelled again) (moved found at before depth ss) ≡ map (spelled found) ss
same_spelled found again e at before depth [] = refl
same_spelled found again e at before depth (s ∷ ss) =
    let b : List ℕ = spelling_in found s in
    let head : bytes_of (slice_get again.spellings s.name) ≡ bytes_of (slice_get found.spellings s.name) = ap (λ (l : List Spelled). bytes_of (slice_get l s.name)) e in
    let tail = same_spelled found again e (at + length (gap before depth b) + length b) b (depth_behind depth b) ss in
    let first : record { kind = s.kind; bytes = bytes_of (slice_get again.spellings s.name) } ≡ spelled found s = ap {A = List ℕ} {B = Spelled} (λ (l : List ℕ). record { kind = s.kind; bytes = l }) head in
    ap (λ (x : Spelled). x ∷ map (spelled again) (moved found (at + length (gap before depth b) + length b) b (depth_behind depth b) ss)) first ∙ ap (λ (l : List Spelled). spelled found s ∷ l) tail

spellings_of : (found : Named) (ss : List Symbol) → map (λ (x : Spelled). x.bytes) (map (spelled found) ss) ≡ map (spelling_in found) ss
spellings_of found [] = refl
spellings_of found (s ∷ ss) = ap (λ (l : List (List ℕ)). spelling_in found s ∷ l) (spellings_of found ss)

module _ (text : List ℕ) (found : Named) (has : HasSymbols text (map piece_of found.symbols)) (names : AreNamed text found) (parted : Parted (kinds_in found))
    (few : length found.symbols ≤ most_symbols) (short : length (listed (spellings_in found)) ≤ most_bytes) where
  new_text : List ℕ
  new_text = listed (spellings_in found)

  again : Named
  again = record { symbols = moved found 0 [] 0 found.symbols; spellings = found.spellings }

  each : EachSpells false (spelled_list found found.symbols)
  each = each_spells text found false found.symbols (λ i s e. names.own i s e) (all_stand text has.1 refl)

  laid : laid_out [] 0 (bytes_in (spelled_list found found.symbols)) ≡ listed (spellings_in found)
  laid = ap (λ (l : List (List ℕ)). laid_out [] 0 l) (bytes_map found found.symbols)

  parts : Parted (kinds_of (spelled_list found found.symbols))
  parts = subst (λ (l : List SymbolKind). Parted l) (sym (kinds_map found found.symbols)) parted

  cut : IsCut false 0 0 (listed (spellings_in found)) (map piece_of (moved found 0 [] 0 found.symbols))
  cut =
      let room : 0 + length (spelled_list found found.symbols) ≤ most_symbols = omega (arith, list_long found found.symbols, few) in
      let made : IsCut false 0 0 (laid_out [] 0 (bytes_in (spelled_list found found.symbols))) (pieces_from 0 [] 0 (spelled_list found found.symbols)) =
      cut_laid false (spelled_list found found.symbols) [] 0 0 0 each parts room in
      subst (λ (l : List Piece). IsCut false 0 0 (listed (spellings_in found)) l) (sym (moved_pieces found 0 [] 0 found.symbols))
      (subst (λ (l : List ℕ). IsCut false 0 0 l (pieces_from 0 [] 0 (spelled_list found found.symbols))) laid made)

  symbols_are : SymbolsAre (listed (spellings_in found)) (map piece_of (moved found 0 [] 0 found.symbols))
  symbols_are = record {
    has = (short, cut);
    only = λ others h. one_list cut h.1;
    fine = λ rule place r. by rule place r;
  }
    where
      by : (rule : Rule) (place : ℕ) → IsRefused (listed (spellings_in found)) rule place → ⊥
      by rule place (too_long long) = omega (arith, long, short)
      by rule place (stopped le stops) = not_both stops cut

  old : (i : ℕ) (new : Symbol) → slice_get (moved found 0 [] 0 found.symbols) i ≡ Some new → (o : Symbol) × (slice_get found.symbols i ≡ Some o) × Moved (listed (spellings_in found)) found new o
  old i new there = old_of (listed (spellings_in found)) found false found.symbols 0 [] 0 (sym laid) each i new there

  own_spelled : (i : ℕ) (s : Symbol) → slice_get found.symbols i ≡ Some s → spelled found s ≡ spelled_in text s
  own_spelled i s there = ap {A = List ℕ} {B = Spelled} (λ (l : List ℕ). record { kind = s.kind; bytes = l }) (own_bytes text found s (names.own i s there))

  named : AreNamed (listed (spellings_in found)) (record { symbols = moved found 0 [] 0 found.symbols; spellings = found.spellings })
  named = record {
    own = λ i new there.
        let o = old i new there in
        ap (λ (n : ℕ). slice_get found.spellings n) o.2.name ∙ names.own i o.0 o.1 ∙ ap (λ (x : Spelled). Some x) (sym (own_spelled i o.0 o.1) ∙ sym o.2.same);
    one = λ i j s r es er.
        let o = old i s es in
        let p = old j r er in
        let base = names.one i j o.0 p.0 o.1 p.1 in (
          λ e. o.2.same ∙ own_spelled i o.0 o.1 ∙ base.0 (sym o.2.name ∙ e ∙ p.2.name) ∙ sym (own_spelled j p.0 p.1) ∙ sym p.2.same,
          λ e. o.2.name ∙ base.1 (sym (own_spelled i o.0 o.1) ∙ sym o.2.same ∙ e ∙ p.2.same ∙ own_spelled j p.0 p.1) ∙ sym p.2.name,
        );
    order = λ i s there n lt.
        let o = old i s there in
        let f = names.order i o.0 o.1 n (subst (λ (k : ℕ). n < k) o.2.name lt) in
        let m = new_of found found.symbols 0 [] 0 f.0 f.1 f.3 in
        (f.0, m.0, f.2, m.1, m.2 ∙ f.4);
    used = λ n lt.
        let f = names.used n lt in
        let m = new_of found found.symbols 0 [] 0 f.0 f.1 f.2 in
        (f.0, m.0, m.1, m.2 ∙ f.3);
  }

  same : spelled_symbols again ≡ spelled_symbols found
  unfolding again
  same = same_spelled found (record { symbols = moved found 0 [] 0 found.symbols; spellings = found.spellings }) refl 0 [] 0 found.symbols

  pub relists : Relists found
  unfolding again
  relists = record {
    again = again;
    symbols = symbols_are;
    named = named;
    same = same;
    still = ap (λ (l : List (List ℕ)). listed l) (sym (spellings_of again again.symbols) ∙ ap (λ (l : List Spelled). map (λ (x : Spelled). x.bytes) l) same ∙ spellings_of found found.symbols);
  }
