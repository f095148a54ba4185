-- The symbols of a program with the definitions in front of it.
use Rattle.std.proofs.Common.{◌≡◌, ℕ, suc, ◌+◌, ◌-◌, ◌<◌, ◌≤◌, Bool, false, List, [], ◌∷◌, ◌++◌, length, get_or, take, drop, map, codes, refl, sym, ap, subst, ◌∙◌, arith, append_assoc}
use Rattle.std.specs.Fmt.{decimal}
use Rattle.std.proofs.lemmas.Bool.{false≢true}
use Rattle.std.proofs.lemmas.List.{length-append, length-drop, drop-append-le, take-append-le, get_or-append-add}
use Rattle.a68_input.proofs.Ahead.{EndsClause, Adjoins, closes, ends, adjoins_on}
use Rattle.a68_input.proofs.Last.{long_after, not_long}
use Rattle.a68_input.proofs.Onward.{front_on, front_within}
use Rattle.a68_input.specs.Joining.{head_piece, line_pieces, prelude, joined}
use Rattle.a68_input.specs.Symbols.{moved, closing, SymbolsJoin}
use Rattle.a68_lister.proofs.Recut.{cut_layout}
use Rattle.a68_symbols.specs.declared.form.StretchForm.{StretchForm}
use Rattle.a68_symbols.specs.declared.form.StretchForm.TheVariants as forms
use Rattle.a68_symbols.specs.declared.form.Given.TheVariants.{Symbol}
use Rattle.a68_symbols.specs.declared.symbol.SymbolKind.TheVariants.{Mark}
use Rattle.a68_symbols.specs.Forms.{Is}
use Rattle.a68_symbols.specs.Limits.{most_symbols}
use Rattle.a68_symbols.specs.Symbols.{Piece, Front, front_is, IsCut, cut_ended, cut_passed, cut_taken}
use Rattle.a68_symbols.specs.Words.{is_long}
use Rattle.a68_symbols.proofs.Starts.{start_of, longest_of}

-- a text is cut before what it adjoins as by itself, further on and behind more symbols
pub cut_on : (offset count : ℕ) {long : Bool} {at before : ℕ} {t v : List ℕ} {pieces more : List Piece} → (c : IsCut long at before t pieces) → Adjoins t v → count + before + length pieces ≤ most_symbols
    → IsCut (long_after c) (offset + at + length t) (count + before + length pieces) v more → IsCut long (offset + at) (count + before) (t ++ v) (map (moved offset) pieces ++ more)
cut_on offset count {long} {at} {before} {v = v} {more = more} cut_ended adjoins room later =
    let place : offset + at + 0 ≡ offset + at = omega arith in
    let number : count + before + 0 ≡ count + before = omega arith in
    subst (λ (k : ℕ). IsCut long k (count + before) v more) place (subst (λ (k : ℕ). IsCut long (offset + at + 0) k v more) number later)
cut_on offset count {long} {at} {before} {t} {v} {pieces} {more} (cut_passed {n = n} f c) adjoins room later =
    let within : n ≤ length t = front_within tt f in
    let place : offset + at + length t ≡ offset + (at + n) + length (drop n t) = omega (arith, length-drop n t, within) in
    let next : offset + (at + n) ≡ offset + at + n = omega arith in
    let here = cut_on offset count c (adjoins_on t v n within adjoins) room (subst (λ (k : ℕ). IsCut (long_after c) k (count + before + length pieces) v more) place later) in
    cut_passed (front_on adjoins tt f)
    (subst (λ (l : List ℕ). IsCut long (offset + at + n) (count + before) l (map (moved offset) pieces ++ more)) (sym (drop-append-le n t v within))
    (subst (λ (k : ℕ). IsCut long k (count + before) (drop n t ++ v) (map (moved offset) pieces ++ more)) next here))
cut_on offset count {long} {at} {before} {t} {v} {more = more} (cut_taken {n = n} {kind = kind} {more = pieces} f low c) adjoins room later =
    let within : n ≤ length t = front_within tt f in
    let place : offset + at + length t ≡ offset + (at + n) + length (drop n t) = omega (arith, length-drop n t, within) in
    let number : count + before + suc (length pieces) ≡ count + (before + 1) + length pieces = omega arith in
    let next : offset + (at + n) ≡ offset + at + n = omega arith in
    let one : count + (before + 1) ≡ count + before + 1 = omega arith in
    let rest : IsCut (long_after c) (offset + (at + n) + length (drop n t)) (count + (before + 1) + length pieces) v more =
    subst (λ (k : ℕ). IsCut (long_after c) k (count + (before + 1) + length pieces) v more) place (subst (λ (k : ℕ). IsCut (long_after c) (offset + at + length t) k v more) number later) in
    let here = cut_on offset count c (adjoins_on t v n within adjoins) (omega (arith, room)) rest in
    let taken : IsCut (is_long kind (take n (t ++ v))) (offset + at + n) (count + before + 1) (drop n (t ++ v)) (map (moved offset) pieces ++ more) =
    subst (λ (l : List ℕ). IsCut (is_long kind l) (offset + at + n) (count + before + 1) (drop n (t ++ v)) (map (moved offset) pieces ++ more)) (sym (take-append-le n t v within))
    (subst (λ (l : List ℕ). IsCut (is_long kind (take n t)) (offset + at + n) (count + before + 1) l (map (moved offset) pieces ++ more)) (sym (drop-append-le n t v within))
    (subst (λ (k : ℕ). IsCut (is_long kind (take n t)) k (count + before + 1) (drop n t ++ v) (map (moved offset) pieces ++ more)) next
    (subst (λ (k : ℕ). IsCut (is_long kind (take n t)) (offset + (at + n)) k (drop n t ++ v) (map (moved offset) pieces ++ more)) one here))) in
    subst (λ (k : ℕ). IsCut long (offset + at) (count + before) (t ++ v) (record { kind = kind; span = record { from = offset + at; to = k } } ∷ map (moved offset) pieces ++ more)) (sym next)
    (cut_taken (front_on adjoins tt f) (omega (arith, room)) taken)

not_moved : (pieces : List Piece) → map (moved 0) pieces ≡ pieces
not_moved [] = refl
not_moved (p ∷ pieces) =
    let from : 0 + p.span.from ≡ p.span.from = omega arith in
    let to : 0 + p.span.to ≡ p.span.to = omega arith in
    rw (from, to, not_moved pieces) refl

-- the bracket behind the program
front_bracket : {long : Bool} → Front long (41 ∷ []) (Symbol Mark) 1
front_bracket = front_is (longest_of forms.Mark (41 ∷ []) 1 refl (omega arith) own) refl
  where
    own : (g : StretchForm) → start_of g ≡ start_of forms.Mark → (m : ℕ) → m ≤ length {A = ℕ} (41 ∷ []) → Is g (41 ∷ []) m → m ≤ 1
    own g e m le i = le

cut_bracket : {long : Bool} (end count : ℕ) → count < most_symbols → IsCut long end count (32 ∷ 41 ∷ []) (closing end ∷ [])
cut_bracket {long} end count room =
    let next : end + 1 + 1 ≡ end + 2 = omega arith in
    cut_layout (32 ∷ []) (41 ∷ []) end count (closing end ∷ []) (refl, tt)
    (subst (λ (k : ℕ). IsCut long (end + 1) count (41 ∷ []) (record { kind = Mark; span = record { from = end + 1; to = k } } ∷ [])) next (cut_taken front_bracket room cut_ended))

-- what stands in front of the program ends with a semicolon and a blank
ends_so : (s : List ℕ) → EndsClause (s ++ 59 ∷ 32 ∷ [])
ends_so s =
    let long = length-append s (59 ∷ 32 ∷ []) in (
      λ some.
          let at : length (s ++ 59 ∷ 32 ∷ []) - 1 ≡ length s + 1 = omega (arith, long) in
          ap (λ (k : ℕ). get_or (s ++ 59 ∷ 32 ∷ []) k 0) at ∙ get_or-append-add s (59 ∷ 32 ∷ []) 1 0,
      λ some.
          let at : length (s ++ 59 ∷ 32 ∷ []) - 2 ≡ length s + 0 = omega (arith, long) in
          ap (λ (k : ℕ). get_or (s ++ 59 ∷ 32 ∷ []) k 0) at ∙ get_or-append-add s (59 ∷ 32 ∷ []) 0 0,
    )

prelude_ends : (lines : List (List ℕ)) → EndsClause (prelude lines)
prelude_ends lines =
    let head : List ℕ = head_piece (length lines) in
    let body : List ℕ = line_pieces 1 lines in
    let procedures : List ℕ =
    codes "PROC readline = STRING: (DOWN inone; inpos +:= 1; INT p = inpos; UP inone; inlines[p]); PROC readint = INT: (DOWN inone; inpos +:= 1; INT p = inpos; UP inone; innumbers[p]); PROC inputleft = INT: " in
    let count : List ℕ = decimal (length lines) in
    let left : List ℕ = codes " - inpos" in
    let whole : (head ++ (body ++ (procedures ++ (count ++ left)))) ++ 59 ∷ 32 ∷ [] ≡ prelude lines =
    append_assoc head (body ++ (procedures ++ (count ++ left))) (59 ∷ 32 ∷ [])
    ∙ ap (λ (l : List ℕ). head ++ l) (append_assoc body (procedures ++ (count ++ left)) (59 ∷ 32 ∷ []))
    ∙ ap (λ (l : List ℕ). head ++ (body ++ l)) (append_assoc procedures (count ++ left) (59 ∷ 32 ∷ []))
    ∙ ap (λ (l : List ℕ). head ++ (body ++ (procedures ++ l))) (append_assoc count left (59 ∷ 32 ∷ [])) in
    subst EndsClause whole (ends_so (head ++ (body ++ (procedures ++ (count ++ left)))))

joins : (text : List ℕ) (lines : List (List ℕ)) (pieces front : List Piece) → IsCut false 0 0 text pieces → IsCut false 0 0 (prelude lines) front → length front + length pieces + 1 ≤ most_symbols
    → IsCut false 0 0 (joined text lines) (front ++ (map (moved (length (prelude lines))) pieces ++ closing (length (prelude lines) + length text) ∷ []))
joins text lines pieces front own before room =
    let offset : ℕ = length (prelude lines) in
    let last : List Piece = closing (offset + length text) ∷ [] in
    let same : offset + length text ≡ offset + 0 + length text = omega arith in
    let number : length front + length pieces ≡ length front + 0 + length pieces = omega arith in
    let end : IsCut (long_after own) (offset + length text) (length front + length pieces) (32 ∷ 41 ∷ []) last = cut_bracket (offset + length text) (length front + length pieces) (omega (arith, room)) in
    let there : IsCut (long_after own) (offset + 0 + length text) (length front + 0 + length pieces) (32 ∷ 41 ∷ []) last =
    subst (λ (k : ℕ). IsCut (long_after own) k (length front + 0 + length pieces) (32 ∷ 41 ∷ []) last) same (subst (λ (k : ℕ). IsCut (long_after own) (offset + length text) k (32 ∷ 41 ∷ []) last) number end) in
    let middle : IsCut false (offset + 0) (length front + 0) (text ++ 32 ∷ 41 ∷ []) (map (moved offset) pieces ++ last) =
    cut_on offset (length front) own (closes [] refl) (omega (arith, room)) there in
    let place : offset + 0 ≡ 0 + 0 + offset = omega arith in
    let count : length front + 0 ≡ 0 + 0 + length front = omega arith in
    let rest : IsCut false (0 + 0 + offset) (0 + 0 + length front) (text ++ 32 ∷ 41 ∷ []) (map (moved offset) pieces ++ last) =
    subst (λ (k : ℕ). IsCut false k (0 + 0 + length front) (text ++ 32 ∷ 41 ∷ []) (map (moved offset) pieces ++ last)) place
    (subst (λ (k : ℕ). IsCut false (offset + 0) k (text ++ 32 ∷ 41 ∷ []) (map (moved offset) pieces ++ last)) count middle) in
    subst (λ (l : List Piece). IsCut false 0 0 (joined text lines) (l ++ (map (moved offset) pieces ++ last))) (not_moved front)
    (cut_on 0 0 before (ends (prelude_ends lines)) (omega (arith, room))
    (subst (λ (b : Bool). IsCut b (0 + 0 + offset) (0 + 0 + length front) (text ++ 32 ∷ 41 ∷ []) (map (moved offset) pieces ++ last)) (sym (not_long before (prelude_ends lines) (λ e. absurd (false≢true e)))) rest))

pub symbols_join : SymbolsJoin
symbols_join text lines pieces front own feeds short before room = record { front = front; of_front = before; of_all = (short, joins text lines pieces front own.1 before.1 room) }
