-- How many symbols a text may have, and where they stand.
use Rattle.std.proofs.Common.{◌≡◌, ℕ, zero, suc, ◌+◌, ◌≤◌, Bool, List, length, map, drop, slice_get, Some, ap, ◌∙◌, arith, length-drop}
use Rattle.std.specs.Option.{option_map}
use Rattle.std.proofs.lemmas.List.{length-map}
use Rattle.std.proofs.lemmas.Option.{slice_get-map}
use Rattle.a68_symbols.specs.declared.symbol.Symbol.{Symbol}
use Rattle.a68_symbols.specs.Limits.{most_symbols}
use Rattle.a68_symbols.specs.Names.{Named}
use Rattle.a68_symbols.specs.declared.form.Given.{Given}
use Rattle.a68_symbols.specs.Symbols.{Piece, piece_of, Front, front_none, front_is, IsCut, cut_ended, cut_passed, cut_taken, SymbolsAre, StopsAt, stop_broken, stop_full, stop_passed, stop_taken, IsRefused, too_long, stopped}
use Rattle.a68_base.specs.declared.refusal.Rule.{Rule}

-- ---- as few symbols as a text may have

cut_few : {long : Bool} {at before : ℕ} {text : List ℕ} {pieces : List Piece} → IsCut long at before text pieces → before ≤ most_symbols → before + length pieces ≤ most_symbols
cut_few cut_ended h = omega (arith, h)
cut_few (cut_passed f c) h = cut_few c h
cut_few (cut_taken f few c) h = let more = cut_few c (omega (arith, few)) in omega (arith, more)

pub symbols_few : (text : List ℕ) (found : Named) → SymbolsAre text (map piece_of found.symbols) → length found.symbols ≤ most_symbols
symbols_few text found s =
    let a = cut_few s.has.1 (omega arith) in
    let c = length-map found.symbols piece_of in omega (arith, a, c)

-- ---- within the text

front_within : {long : Bool} {text : List ℕ} {g : Given} {n : ℕ} → Front long text g n → n ≤ length text
front_within (front_none some none) = omega (arith, some)
front_within (front_is l e) = l.within

rest_within : (at n : ℕ) (text : List ℕ) (from : ℕ) → n ≤ length text → from ≤ at + n + length (drop n text) → from ≤ at + length text
rest_within at n text from h f = let d = length-drop n text in omega (arith, h, f, d)

first_from : (x p : Piece) → Some x ≡ Some p → x.span.from ≡ p.span.from
first_from x p e = let same : x ≡ p = cc in ap (λ (q : Piece). q.span.from) same

cut_within : {long : Bool} {at before : ℕ} {text : List ℕ} {pieces : List Piece} → IsCut long at before text pieces → (i : ℕ) (p : Piece) → slice_get pieces i ≡ Some p → p.span.from ≤ at + length text
cut_within cut_ended i p e = cc
cut_within {at = at} (cut_passed {n = n} {text = text} f c) i p e = rest_within at n text p.span.from (front_within f) (cut_within c i p e)
cut_within {at = at} (cut_taken {n = n} {text = text} f few c) zero p e =
    let from : at ≡ p.span.from = first_from _ p e in omega (arith, from)
cut_within {at = at} (cut_taken {n = n} {text = text} f few c) (suc i) p e = rest_within at n text p.span.from (front_within f) (cut_within c i p e)

pub symbols_within : (text : List ℕ) (found : Named) → SymbolsAre text (map piece_of found.symbols) → (i : ℕ) (s : Symbol) → slice_get found.symbols i ≡ Some s → s.span.from ≤ length text
symbols_within text found are i s e =
    let piece : slice_get (map piece_of found.symbols) i ≡ Some (piece_of s) = slice_get-map piece_of found.symbols i ∙ ap (option_map piece_of) e in
    let w = cut_within are.has.1 i (piece_of s) piece in omega (arith, w)

-- ---- a place where a text has no symbols is within it

stops_within : {long : Bool} {at before place : ℕ} {text : List ℕ} {rule : Rule} → StopsAt long at before text rule place → place ≤ at + length text
stops_within (stop_broken f) = omega arith
stops_within (stop_full f full) = omega arith
stops_within {at = at} {place = place} (stop_passed {n = n} {text = text} f more) = rest_within at n text place (front_within f) (stops_within more)
stops_within {at = at} {place = place} (stop_taken {n = n} {text = text} f few more) = rest_within at n text place (front_within f) (stops_within more)

pub refusal_within : (text : List ℕ) (rule : Rule) (place : ℕ) → IsRefused text rule place → place ≤ length text
refusal_within text _ _ (too_long long) = omega (arith, long)
refusal_within text rule place (stopped few stops) = let w = stops_within stops in omega (arith, w)
