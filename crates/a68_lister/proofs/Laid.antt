-- A list of spellings that is laid out has the symbols that they spell.
use Rattle.std.proofs.Common.{◌≡◌, ℕ, ◌+◌, ◌<◌, ◌≤◌, Bool, true, false, ◌&&◌, List, [], ◌∷◌, ◌++◌, length, take, refl, sym, subst, arith}
use Rattle.std.proofs.Math.Seq.{drop-append_seam, take-append_seam}
use Rattle.a68_lister.proofs.Recut.{StopsIn, cut_layout, gap_passes, gap_form, stops_nil, stops_layout, stops_blanks, stops_behind, stops_symbol, spells_some}
use Rattle.a68_lister.proofs.Standing.{Spells, cut_alone}
use Rattle.a68_lister.specs.Layout.{blanks, gap, laid_out, depth_behind}
use Rattle.a68_lister.specs.Parting.{goes_on, Parted}
use Rattle.a68_symbols.specs.declared.form.Given.TheVariants.{Symbol}
use Rattle.a68_symbols.specs.declared.symbol.SymbolKind.{SymbolKind}
use Rattle.a68_symbols.specs.Bytes.{is_layout}
use Rattle.a68_symbols.specs.Limits.{most_symbols}
use Rattle.a68_symbols.specs.Names.{Spelled}
use Rattle.a68_symbols.specs.Symbols.{Piece, Front, IsCut, cut_ended, cut_taken}
use Rattle.a68_symbols.specs.Words.{is_long}

-- each spells a symbol of its kind, the first behind LONG or not
abbrev pub EachSpells : Bool → List Spelled → Type 0
EachSpells long [] = Unit {0}
EachSpells long (x ∷ xs) = Spells long x.kind x.bytes × EachSpells (is_long x.kind x.bytes) xs

abbrev pub bytes_in : List Spelled → List (List ℕ)
bytes_in [] = []
bytes_in (x ∷ xs) = x.bytes ∷ bytes_in xs

abbrev pub kinds_of : List Spelled → List SymbolKind
kinds_of [] = []
kinds_of (x ∷ xs) = x.kind ∷ kinds_of xs

-- where they stand, laid out from a byte on
abbrev pub pieces_from : (at : ℕ) (before : List ℕ) (depth : ℕ) → List Spelled → List Piece
pieces_from at before depth [] = []
pieces_from at before depth (x ∷ xs) =
    record { kind = x.kind; span = record { from = at + length (gap before depth x.bytes); to = at + length (gap before depth x.bytes) + length x.bytes } }
    ∷ pieces_from (at + length (gap before depth x.bytes) + length x.bytes) x.bytes (depth_behind depth x.bytes) xs

-- what stands behind a symbol begins with layout
record Behind (u : List ℕ) : Type 0 where
  byte : ℕ
  rest : List ℕ
  layout : is_layout byte ≡ true
  same : u ≡ byte ∷ rest

behind : (s : List ℕ) → 0 < length s → (depth : ℕ) (xs : List Spelled) → Behind (laid_out s depth (bytes_in xs))
behind [] some depth xs = absurd (omega (arith, some))
behind (b ∷ s) some depth [] = record { byte = 10; rest = []; layout = refl; same = refl }
behind (b ∷ s) some depth (x ∷ xs) =
    let f = gap_form b s depth x.bytes in
    record { byte = f.0; rest = blanks f.1 ++ (x.bytes ++ laid_out x.bytes (depth_behind depth x.bytes) (bytes_in xs)); layout = f.2; same = rw f.3 refl }

-- and a tag stops there
stops : (s : List ℕ) → 0 < length s → (depth : ℕ) (kind : SymbolKind) → goes_on kind ≡ true → (long : Bool) (xs : List Spelled) → EachSpells long xs → Parted (kind ∷ kinds_of xs)
    → StopsIn (laid_out s depth (bytes_in xs))
stops [] some depth kind on long xs each parted = absurd (omega (arith, some))
stops (b ∷ s) some depth kind on long [] each parted = stops_layout 10 [] refl stops_nil
stops (b ∷ s) some depth kind on long (x ∷ xs) each parted =
    let f = gap_form b s depth x.bytes in
    let whole : (goes_on kind && goes_on x.kind) ≡ false = parted.0 in
    let out : goes_on x.kind ≡ false = rw on at whole in
    let u : List ℕ = x.bytes ++ laid_out x.bytes (depth_behind depth x.bytes) (bytes_in xs) in
    let there : StopsIn (f.0 ∷ (blanks f.1 ++ u)) =
    stops_layout f.0 (blanks f.1 ++ u) f.2 (stops_blanks f.1 u (stops_symbol each.0 out (laid_out x.bytes (depth_behind depth x.bytes) (bytes_in xs)))) in
    rw f.3 there

parted_on : (kind : SymbolKind) (xs : List Spelled) → Parted (kind ∷ kinds_of xs) → Parted (kinds_of xs)
parted_on kind [] parted = tt
parted_on kind (x ∷ xs) parted = parted.1

-- one symbol, and layout behind it
cut_one : (long : Bool) (x : Spelled) (u : List ℕ) (at count : ℕ) (more : List Piece) → Spells long x.kind x.bytes → (b : Behind u) → (goes_on x.kind ≡ true → StopsIn u) → count < most_symbols
    → IsCut (is_long x.kind x.bytes) (at + length x.bytes) (count + 1) u more
    → IsCut long at count (x.bytes ++ u) (record { kind = x.kind; span = record { from = at; to = at + length x.bytes } } ∷ more)
cut_one long x u at count more spells b on room later =
    let f : Front long (x.bytes ++ b.byte ∷ b.rest) (Symbol x.kind) (length x.bytes) =
    cut_alone spells b.byte b.rest b.layout (λ e. stops_behind x.bytes b.rest b.byte b.layout (subst (λ (l : List ℕ). StopsIn l) b.same (on e))) in
    let g : Front long (x.bytes ++ u) (Symbol x.kind) (length x.bytes) = subst (λ (l : List ℕ). Front long (x.bytes ++ l) (Symbol x.kind) (length x.bytes)) (sym b.same) f in
    cut_taken g room (subst (λ (l : List ℕ). IsCut (is_long x.kind (take (length x.bytes) (x.bytes ++ u))) (at + length x.bytes) (count + 1) l more) (sym (drop-append_seam x.bytes u))
    (subst (λ (l : List ℕ). IsCut (is_long x.kind l) (at + length x.bytes) (count + 1) u more) (sym (take-append_seam x.bytes u)) later))

pub cut_laid : (long : Bool) (xs : List Spelled) (before : List ℕ) (depth at count : ℕ) → EachSpells long xs → Parted (kinds_of xs) → count + length xs ≤ most_symbols
    → IsCut long at count (laid_out before depth (bytes_in xs)) (pieces_from at before depth xs)
cut_laid long [] before depth at count each parted room = cut_layout (10 ∷ []) [] at count [] (refl, tt) cut_ended
cut_laid long (x ∷ xs) before depth at count each parted room =
    let g : List ℕ = gap before depth x.bytes in
    let next : ℕ = depth_behind depth x.bytes in
    let some : 0 < length x.bytes = spells_some each.0 in
    let later = cut_laid (is_long x.kind x.bytes) xs x.bytes next (at + length g + length x.bytes) (count + 1) each.1 (parted_on x.kind xs parted) (omega (arith, room)) in
    cut_layout g (x.bytes ++ laid_out x.bytes next (bytes_in xs)) at count (pieces_from at before depth (x ∷ xs)) (gap_passes before depth x.bytes)
    (cut_one long x (laid_out x.bytes next (bytes_in xs)) (at + length g) count (pieces_from (at + length g + length x.bytes) x.bytes next xs) each.0
    (behind x.bytes some next xs) (λ on. stops x.bytes some next x.kind on (is_long x.kind x.bytes) xs each.1 parted) (omega (arith, room)) later)
