-- A text has one list of symbols at most, one stop at most, and not both; and what a loop keeps.
use Rattle.std.proofs.Common.{◌≡◌, ℕ, ◌+◌, ◌<◌, ◌≤◌, Bool, false, List, [], ◌∷◌, ◌++◌, length, take, drop, map, refl, ap, subst, ◌∙◌, arith}
use Rattle.std.proofs.lemmas.List.{append-nil, length-append, length-drop, drop-drop}
use Rattle.a68_base.specs.declared.refusal.Rule.{Rule}
use Rattle.a68_base.specs.declared.refusal.Rule.TheVariants.{L1}
use Rattle.a68_symbols.specs.declared.form.Given.TheVariants as given
use Rattle.a68_symbols.specs.declared.symbol.SymbolKind.{SymbolKind}
use Rattle.a68_symbols.specs.declared.symbol.Symbol.{Symbol}
use Rattle.a68_symbols.specs.Limits.{most_bytes, most_symbols}
use Rattle.a68_symbols.specs.Symbols.{Piece, piece_of, Front, IsCut, cut_ended, cut_passed, cut_taken, StopsAt, stop_broken, stop_full, stop_passed, stop_taken, IsRefused, too_long, stopped, SymbolsAre, RefusalIs}
use Rattle.a68_symbols.specs.Words.{is_long}
use Rattle.a68_symbols.proofs.Fronts.{one_front, no_front}

-- a cut of what stands behind a stretch, where the stretch is given as another
cut_at : (long : Bool) (at before n m : ℕ) (text : List ℕ) {more : List Piece} → m ≡ n → IsCut long (at + m) before (drop m text) more → IsCut long (at + n) before (drop n text) more
cut_at long at before n m text {more} e c = subst (λ (k : ℕ). IsCut long (at + k) before (drop k text) more) e c

cut_behind : (at before n m : ℕ) (text : List ℕ) (kind other : SymbolKind) {more : List Piece} → m ≡ n → other ≡ kind
    → IsCut (is_long other (take m text)) (at + m) before (drop m text) more → IsCut (is_long kind (take n text)) (at + n) before (drop n text) more
cut_behind at before n m text kind other {more} e same c =
    subst (λ (k : ℕ). IsCut (is_long kind (take k text)) (at + k) before (drop k text) more) e
    (subst (λ (x : SymbolKind). IsCut (is_long x (take m text)) (at + m) before (drop m text) more) same c)

stop_at : (long : Bool) (at before n m : ℕ) (text : List ℕ) {place : ℕ} {rule : Rule} → m ≡ n → StopsAt long (at + m) before (drop m text) rule place → StopsAt long (at + n) before (drop n text) rule place
stop_at long at before n m text {place} {rule} e s = subst (λ (k : ℕ). StopsAt long (at + k) before (drop k text) rule place) e s

stop_behind : (at before n m : ℕ) (text : List ℕ) (kind other : SymbolKind) {place : ℕ} {rule : Rule} → m ≡ n → other ≡ kind
    → StopsAt (is_long other (take m text)) (at + m) before (drop m text) rule place → StopsAt (is_long kind (take n text)) (at + n) before (drop n text) rule place
stop_behind at before n m text kind other {place} {rule} e same s =
    subst (λ (k : ℕ). StopsAt (is_long kind (take k text)) (at + k) before (drop k text) rule place) e
    (subst (λ (x : SymbolKind). StopsAt (is_long x (take m text)) (at + m) before (drop m text) rule place) same s)

same_kind : {kind other : SymbolKind} → given.Symbol other ≡ given.Symbol kind → other ≡ kind
same_kind e = cc

pub one_list : {long : Bool} {at before : ℕ} {text : List ℕ} {xs ys : List Piece} → IsCut long at before text xs → IsCut long at before text ys → ys ≡ xs
one_list cut_ended cut_ended = refl
one_list cut_ended (cut_passed f c) = absurd (no_front f)
one_list cut_ended (cut_taken f room c) = absurd (no_front f)
one_list (cut_passed f c) cut_ended = absurd (no_front f)
one_list {long} {at} {before} {text} (cut_passed {n = n} f c) (cut_passed {n = m} f' c') = one_list c (cut_at long at before n m text (one_front f f').1 c')
one_list (cut_passed f c) (cut_taken f' room' c') = let e = (one_front f f').0 in cc
one_list (cut_taken f room c) cut_ended = absurd (no_front f)
one_list (cut_taken f room c) (cut_passed f' c') = let e = (one_front f f').0 in cc
one_list {long} {at} {before} {text} (cut_taken {n = n} {kind = k} {more = xs} f room c) (cut_taken {n = m} {kind = k'} {more = ys} f' room' c') =
    let e = one_front f f' in
    let kind : k' ≡ k = same_kind e.0 in
    let rest : ys ≡ xs = one_list c (cut_behind at (before + 1) n m text k k' e.1 kind c') in
    rw (kind, e.1, rest) refl

pub not_both : {long : Bool} {at before place : ℕ} {text : List ℕ} {rule : Rule} {xs : List Piece} → StopsAt long at before text rule place → IsCut long at before text xs → ⊥
not_both (stop_broken f) cut_ended = no_front f
not_both (stop_full f full) cut_ended = no_front f
not_both (stop_passed f s) cut_ended = no_front f
not_both (stop_taken f room s) cut_ended = no_front f
not_both (stop_broken f) (cut_passed f' c) = let e = (one_front f f').0 in cc
not_both (stop_full f full) (cut_passed f' c) = let e = (one_front f f').0 in cc
not_both {long} {at} {before} {text = text} (stop_passed {n = n} f s) (cut_passed {n = m} f' c) = not_both s (cut_at long at before n m text (one_front f f').1 c)
not_both (stop_taken f room s) (cut_passed f' c) = let e = (one_front f f').0 in cc
not_both (stop_broken f) (cut_taken f' room' c) = let e = (one_front f f').0 in cc
not_both (stop_full f full) (cut_taken f' room' c) = omega (arith, full, room')
not_both (stop_passed f s) (cut_taken f' room' c) = let e = (one_front f f').0 in cc
not_both {long} {at} {before} {text = text} (stop_taken {n = n} {kind = k} f room s) (cut_taken {n = m} {kind = k'} f' room' c) =
    let e = one_front f f' in
    not_both s (cut_behind at (before + 1) n m text k k' e.1 (same_kind e.0) c)

pub one_stop : {long : Bool} {at before p q : ℕ} {text : List ℕ} {r s : Rule} → StopsAt long at before text r p → StopsAt long at before text s q → (s ≡ r) × (q ≡ p)
one_stop (stop_broken f) (stop_broken f') = let e = (one_front f f').0 in ((cc), refl)
one_stop (stop_broken f) (stop_full f' full') = let e = (one_front f f').0 in cc
one_stop (stop_broken f) (stop_passed f' s') = let e = (one_front f f').0 in cc
one_stop (stop_broken f) (stop_taken f' room' s') = let e = (one_front f f').0 in cc
one_stop (stop_full f full) (stop_broken f') = let e = (one_front f f').0 in cc
one_stop (stop_full f full) (stop_full f' full') = (refl, refl)
one_stop (stop_full f full) (stop_passed f' s') = let e = (one_front f f').0 in cc
one_stop (stop_full f full) (stop_taken f' room' s') = absurd (omega (arith, full, room'))
one_stop (stop_passed f s) (stop_broken f') = let e = (one_front f f').0 in cc
one_stop (stop_passed f s) (stop_full f' full') = let e = (one_front f f').0 in cc
one_stop {long} {at} {before} {text = text} (stop_passed {n = n} f s) (stop_passed {n = m} f' s') = one_stop s (stop_at long at before n m text (one_front f f').1 s')
one_stop (stop_passed f s) (stop_taken f' room' s') = let e = (one_front f f').0 in cc
one_stop (stop_taken f room s) (stop_broken f') = let e = (one_front f f').0 in cc
one_stop (stop_taken f room s) (stop_full f' full') = absurd (omega (arith, full', room))
one_stop (stop_taken f room s) (stop_passed f' s') = let e = (one_front f f').0 in cc
one_stop {long} {at} {before} {text = text} (stop_taken {n = n} {kind = k} f room s) (stop_taken {n = m} {kind = k'} f' room' s') =
    let e = one_front f f' in
    one_stop s (stop_behind at (before + 1) n m text k k' e.1 (same_kind e.0) s')

map_behind : (xs : List Symbol) (s : Symbol) (more : List Piece) → map piece_of (xs ++ s ∷ []) ++ more ≡ map piece_of xs ++ piece_of s ∷ more
map_behind [] s more = refl
map_behind (x ∷ xs) s more = ap (λ (l : List Piece). piece_of x ∷ l) (map_behind xs s more)

-- what a loop has cut
pub record SoFar (bytes : List ℕ) (long : Bool) (at : ℕ) (rest : List ℕ) (found : List Symbol) : Type 0 where
  pub short : length bytes ≤ most_bytes
  pub room : at + length rest ≡ length bytes
  pub place : rest ≡ drop at bytes
  pub cut : (more : List Piece) → IsCut long at (length found) rest more → IsCut false 0 0 bytes (map piece_of found ++ more)
  pub stops : (rule : Rule) (place : ℕ) → StopsAt long at (length found) rest rule place → StopsAt false 0 0 bytes rule place

pub at_first : (bytes : List ℕ) (found : List Symbol) → length bytes ≤ most_bytes → found ≡ [] → SoFar bytes false 0 bytes found
at_first bytes found short none = record {
  short = short;
  room = omega arith;
  place = refl;
  cut = λ more c. rw none (rw none at c);
  stops = λ rule place s. rw none at s;
}

pub goes_past : (bytes : List ℕ) (long : Bool) (at : ℕ) (rest rest' : List ℕ) (found : List Symbol) (n : ℕ) → SoFar bytes long at rest found → n ≤ length rest → Front long rest given.Nothing n → rest' ≡ drop n rest → SoFar bytes long (at + n) rest' found
goes_past bytes long at rest rest' found n so_far le f e = record {
  short = so_far.short;
  room = omega (arith, so_far.room, le, ap length e, length-drop n rest);
  place = e ∙ ap (λ (l : List ℕ). drop n l) so_far.place ∙ drop-drop n at bytes;
  cut = λ more c. so_far.cut more (cut_passed f (rw e at c));
  stops = λ rule place s. so_far.stops rule place (stop_passed f (rw e at s));
}

pub takes : (bytes : List ℕ) (long : Bool) (at : ℕ) (rest rest' : List ℕ) (found found' : List Symbol) (n name : ℕ) (kind : SymbolKind) → SoFar bytes long at rest found → n ≤ length rest → Front long rest (given.Symbol kind) n → rest' ≡ drop n rest
    → length found < most_symbols → found' ≡ found ++ record { kind = kind; span = record { from = at; to = at + n }; name = name } ∷ [] → SoFar bytes (is_long kind (take n rest)) (at + n) rest' found'
takes bytes long at rest rest' found found' n name kind so_far le f e room grown =
    let symbol : Symbol = record { kind = kind; span = record { from = at; to = at + n }; name = name } in
    let one_more : length found' ≡ length found + 1 = ap length grown ∙ length-append found (symbol ∷ []) in
    record {
      short = so_far.short;
      room = omega (arith, so_far.room, le, ap length e, length-drop n rest);
      place = e ∙ ap (λ (l : List ℕ). drop n l) so_far.place ∙ drop-drop n at bytes;
      cut = λ more c. rw (grown, map_behind found symbol more) (so_far.cut _ (cut_taken f room (rw (one_more, e) at c)));
      stops = λ rule place s. so_far.stops rule place (stop_taken f room (rw (one_more, e) at s));
    }

pub all_cut : (bytes : List ℕ) (long : Bool) (at : ℕ) (rest : List ℕ) (found : List Symbol) → SoFar bytes long at rest found → rest ≡ [] → SymbolsAre bytes (map piece_of found)
all_cut bytes long at rest found so_far e =
    let c : IsCut false 0 0 bytes (map piece_of found) = rw (append-nil (map piece_of found)) at (so_far.cut [] (rw e cut_ended)) in
    record { has = (so_far.short, c); only = λ others o. one_list c o.1; fine = λ rule place r. not_refused rule place r c }
  where
    not_refused : (rule : Rule) (place : ℕ) → IsRefused bytes rule place → IsCut false 0 0 bytes (map piece_of found) → ⊥
    not_refused rule place (too_long more) c = omega (arith, more, so_far.short)
    not_refused rule place (stopped short s) c = not_both s c

pub refused_long : (bytes : List ℕ) → most_bytes < length bytes → RefusalIs bytes L1 most_bytes
refused_long bytes long = record { refused = too_long long; only = only; none = λ pieces h. omega (arith, long, h.0) }
  where
    only : (other : Rule) (at : ℕ) → IsRefused bytes other at → (other ≡ L1) × (at ≡ most_bytes)
    only other at (too_long long') = (refl, refl)
    only other at (stopped short s) = absurd (omega (arith, long, short))

pub refused_at : (bytes : List ℕ) (rule : Rule) (place : ℕ) → length bytes ≤ most_bytes → StopsAt false 0 0 bytes rule place → RefusalIs bytes rule place
refused_at bytes rule place short s = record { refused = stopped short s; only = only; none = λ pieces h. not_both s h.1 }
  where
    only : (other : Rule) (at : ℕ) → IsRefused bytes other at → (other ≡ rule) × (at ≡ place)
    only other at (too_long long) = absurd (omega (arith, long, short))
    only other at (stopped short' s') = one_stop s s'

pub refusal_is : (text : List ℕ) (rule : Rule) (place : ℕ) → IsRefused text rule place → RefusalIs text rule place
refusal_is text rule place (too_long long) = refused_long text long
refusal_is text rule place (stopped short s) = refused_at text rule place short s
