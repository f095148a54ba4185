-- A list of spellings that is laid out is cut into these symbols again.
use Rattle.std.proofs.Common.{◌≡◌, ℕ, zero, suc, ◌+◌, ◌-◌, ◌<◌, ◌≤◌, Bool, true, false, List, [], ◌∷◌, ◌++◌, length, slice_index, take, refl, sym, subst, inl, inr, arith}
use Rattle.std.proofs.lemmas.Bool.Decides.{nat_tests}
use Rattle.std.proofs.lemmas.List.{get_or-append_right, get_or-append-add}
use Rattle.std.proofs.Math.Seq.{take-length}
use Rattle.a68_denote.specs.Strings.{IsQuoted}
use Rattle.a68_lister.proofs.Alone as alone
use Rattle.a68_lister.proofs.Spelling.{Passes}
use Rattle.a68_lister.proofs.Standing.{Spells, spells_word, spells_tag, spells_number, spells_bits, spells_quoted, spells_mark}
use Rattle.a68_lister.specs.Layout.{blanks, gap, begins_line, depth_at, indent}
use Rattle.a68_lister.specs.Parting.{goes_on}
use Rattle.a68_symbols.specs.declared.form.StretchForm.{StretchForm}
use Rattle.a68_symbols.specs.declared.form.StretchForm.TheVariants as forms
use Rattle.a68_symbols.specs.declared.form.Given.TheVariants.{Nothing}
use Rattle.a68_symbols.specs.declared.symbol.SymbolKind.{SymbolKind}
use Rattle.a68_symbols.specs.Bytes.{is_layout, is_capital, in_tag, ends_tag}
use Rattle.a68_symbols.specs.Forms.{Is}
use Rattle.a68_symbols.specs.Marks.{is_mark}
use Rattle.a68_symbols.specs.Symbols.{Piece, Front, front_is, IsCut, cut_passed}
use Rattle.a68_symbols.proofs.Again.{true≢false}
use Rattle.a68_symbols.proofs.Starts.{start_of, longest_of, begins, Begins, at_mark}

-- ---- layout

front_layout : {long : Bool} (c : ℕ) (t : List ℕ) → is_layout c ≡ true → Front long (c ∷ t) Nothing 1
front_layout c t lay = front_is (longest_of forms.Layout (c ∷ t) 1 (refl, lay) (omega arith) own) refl
  where
    own : (g : StretchForm) → start_of g ≡ start_of forms.Layout → (m : ℕ) → m ≤ length (c ∷ t) → Is g (c ∷ t) m → m ≤ 1
    own forms.Layout e m le i = omega (arith, i.0)
    own _ e m le i = cc

pub cut_layout : {long : Bool} (g t : List ℕ) (at count : ℕ) (more : List Piece) → Passes is_layout g → IsCut long (at + length g) count t more → IsCut long at count (g ++ t) more
cut_layout {long} [] t at count more all cut = let e : at + 0 ≡ at = omega arith in subst (λ (k : ℕ). IsCut long k count t more) e cut
cut_layout {long} (b ∷ g) t at count more all cut =
    let e : at + suc (length g) ≡ at + 1 + length g = omega arith in
    cut_passed (front_layout b (g ++ t) all.0) (cut_layout g t (at + 1) count more all.1 (subst (λ (k : ℕ). IsCut long k count t more) e cut))

blanks_pass : (n : ℕ) → Passes is_layout (blanks n)
blanks_pass zero = tt
blanks_pass (suc n) = (refl, blanks_pass n)

-- a gap behind a symbol
pub gap_form : (b : ℕ) (before : List ℕ) (depth : ℕ) (s : List ℕ) → (c : ℕ) × (n : ℕ) × (is_layout c ≡ true) × (gap (b ∷ before) depth s ≡ c ∷ blanks n)
gap_form b before depth s = by (begins_line (b ∷ before) s) refl
  where
    by : (v : Bool) → begins_line (b ∷ before) s ≡ v → (c : ℕ) × (n : ℕ) × (is_layout c ≡ true) × (gap (b ∷ before) depth s ≡ c ∷ blanks n)
    by true v = (10, indent (depth_at depth s), refl, rw v refl)
    by false v = (32, 0, refl, rw v refl)

pub gap_passes : (before : List ℕ) (depth : ℕ) (s : List ℕ) → Passes is_layout (gap before depth s)
gap_passes [] depth s = tt
gap_passes (b ∷ before) depth s = let f = gap_form b before depth s in rw f.3 (f.2, blanks_pass f.1)

-- ---- where a tag ends

abbrev pub StopsIn : List ℕ → Type 0
StopsIn u = (k : ℕ) → ends_tag (slice_index u k) ≡ true → (j : ℕ) × (j < k) × (in_tag (slice_index u j) ≡ false)

ends_layout : (b : ℕ) → is_layout b ≡ true → ends_tag b ≡ false
ends_layout b e = grind (arith, nat_tests)

ends_in : (b : ℕ) → ends_tag b ≡ true → in_tag b ≡ true
ends_in b e = grind (arith, nat_tests)

pub stops_nil : StopsIn []
stops_nil k e = absurd (true≢false (ends_tag 0) e refl)

pub stops_layout : (b : ℕ) (u : List ℕ) → is_layout b ≡ true → StopsIn u → StopsIn (b ∷ u)
stops_layout b u lay later zero e = absurd (true≢false (ends_tag b) e (ends_layout b lay))
stops_layout b u lay later (suc k) e = let f = later k e in (suc f.0, omega (arith, f.1), f.2)

stops_here : (b : ℕ) (u : List ℕ) → in_tag b ≡ false → StopsIn (b ∷ u)
stops_here b u out zero e = absurd (true≢false (in_tag b) (ends_in b e) out)
stops_here b u out (suc k) e = (0, omega arith, out)

pub stops_blanks : (n : ℕ) (u : List ℕ) → StopsIn u → StopsIn (blanks n ++ u)
stops_blanks zero u later = later
stops_blanks (suc n) u later = stops_layout 32 (blanks n ++ u) refl (stops_blanks n u later)

pub stops_behind : (s t : List ℕ) (c : ℕ) (lay : is_layout c ≡ true) → StopsIn (c ∷ t) → alone.Stops s t c lay
stops_behind s t c lay later k low e =
    let f = later (k - length s) (subst (λ (x : ℕ). ends_tag x ≡ true) (get_or-append_right s (c ∷ t) (length s) k 0 refl low) e) in
    (length s + f.0, omega arith, omega (arith, f.1, low), subst (λ (x : ℕ). in_tag x ≡ false) (sym (get_or-append-add s (c ∷ t) f.0 0)) f.2)

capital_out : (b : ℕ) → is_capital b ≡ true → in_tag b ≡ false
capital_out b e = grind (arith, nat_tests)

mark_out : (b : ℕ) → Begins at_mark b → in_tag b ≡ false
mark_out b (inl e) = rw e refl
mark_out b (inr (inl e)) = let low = e.0 in let high = e.1 in grind (arith, nat_tests)
mark_out b (inr (inr (inl e))) = let low = e.0 in let high = e.1 in grind (arith, nat_tests)
mark_out b (inr (inr (inr (inl e)))) = let low = e.0 in let high = e.1 in grind (arith, nat_tests)
mark_out b (inr (inr (inr (inr e)))) = rw e refl

-- what begins with a byte that no tag goes on with
head_out : (s u : List ℕ) → 0 < length s → in_tag (slice_index s 0) ≡ false → StopsIn (s ++ u)
head_out [] u some out = absurd (omega (arith, some))
head_out (b ∷ s) u some out = stops_here b (s ++ u) out

mark_some : (s : List ℕ) → is_mark s ≡ true → 0 < length s
mark_some [] e = cc
mark_some (b ∷ s) e = omega arith

quoted_some : (s : List ℕ) → IsQuoted s → (0 < length s) × (in_tag (slice_index s 0) ≡ false)
quoted_some s q = rw q.1.spelled (omega arith, refl)

pub stops_symbol : {long : Bool} {kind : SymbolKind} {s : List ℕ} → Spells long kind s → goes_on kind ≡ false → (u : List ℕ) → StopsIn (s ++ u)
stops_symbol {s = s} (spells_word r w e) out u = head_out s u r.some (capital_out (slice_index s 0) r.begins)
stops_symbol (spells_tag r w) out u = cc
stops_symbol (spells_number r w e) out u = cc
stops_symbol (spells_bits r w e) out u = cc
stops_symbol {s = s} (spells_quoted q) out u = let f = quoted_some s q in head_out s u f.0 f.1
stops_symbol {s = s} (spells_mark e w) out u =
    let whole : is_mark (take (length s) s) ≡ true = subst (λ (x : List ℕ). is_mark x ≡ true) (sym (take-length s)) e in
    head_out s u (mark_some s e) (mark_out (slice_index s 0) (begins forms.Mark s (length s) whole))

pub spells_some : {long : Bool} {kind : SymbolKind} {s : List ℕ} → Spells long kind s → 0 < length s
spells_some (spells_word r w e) = r.some
spells_some (spells_tag r w) = r.some
spells_some (spells_number r w e) = r.some
spells_some (spells_bits r w e) = r.some
spells_some {s = s} (spells_quoted q) = (quoted_some s q).0
spells_some {s = s} (spells_mark e w) = mark_some s e
