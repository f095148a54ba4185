-- Texts and their items.
use Rattle.std.proofs.Common.{◌≡◌, ℕ, zero, suc, ◌+◌, ◌*◌, ◌<◌, ◌≤◌, ℤ, pos, negsuc, min, Ok, Err, true, List, [], ◌∷◌, ◌++◌, map, length, drop, Some, refl, sym, ap, ◌∙◌, append_assoc, append-nil, add-one, arith, length-append}
use Rattle.std.proofs.lemmas.List.{length-map, length-drop, map-append}
use Rattle.std.specs.Cmp.{nat_cmp_is}
use Rattle.std.specs.Ordering.{nat_cmp}
use Rattle.std.specs.declared.cmp.Ordering.TheVariants.{Less, Equal, Greater}
use Rattle.a68_values.specs.Content.{Content, row, contents_of}
use Rattle.a68_ops.specs.Texts.{code_of, are_chars, codes_in, text_of, order_of, times, repeated}
use Rattle.a68_ops.specs.Yields.{char_values, most_parts, text, text_row}
use Rattle.a68_values.specs.declared.act.FaultKind.TheVariants as fault

-- where one of two texts is at its end, the longer one is above
at_end : (one other : List ℕ) (m n k : ℕ) → m ≡ length one + k → n ≡ length other + k → min (length one) (length other) ≡ 0 → nat_cmp m n ≡ order_of one other
at_end [] [] m n k em en h = sym (nat_cmp_is m n Equal (omega arith))
at_end [] (b ∷ other) m n k em en h = sym (nat_cmp_is m n Less (omega arith))
at_end (a ∷ one) [] m n k em en h = sym (nat_cmp_is m n Greater (omega arith))
at_end (a ∷ one) (b ∷ other) m n k em en h = absurd (omega arith)

pub order_at_end : (xs ys : List Content) (i : ℕ) → i ≡ min (length xs) (length ys)
    → nat_cmp (length xs) (length ys) ≡ order_of (map code_of (drop i xs)) (map code_of (drop i ys))
order_at_end xs ys i e =
    at_end (map code_of (drop i xs)) (map code_of (drop i ys)) (length xs) (length ys) i
    (simp (length-map, length-drop) (omega arith)) (simp (length-map, length-drop) (omega arith)) (simp (length-map, length-drop) (omega arith))

codes_are : (items : List Content) → codes_in (contents_of items) ≡ map code_of items
codes_are [] = refl
codes_are (item ∷ items) = ap (λ codes. code_of item ∷ codes) (codes_are items)

text_of_row : (bounds : List (ℤ × ℤ)) (items : List Content) → length bounds ≡ 1 → are_chars (contents_of items) ≡ true
    → text_of (row bounds (contents_of items)) ≡ Some (map code_of items)
text_of_row [] items h e = absurd (omega arith)
text_of_row (b ∷ []) items h e = rw (e, codes_are items) refl
text_of_row (b ∷ c ∷ more) items h e = absurd (omega arith)

pub text_in_row : (v : Content) (bounds : List (ℤ × ℤ)) (parts first items : List Content) → row bounds (contents_of parts) ≡ v → length bounds ≡ 1
    → first ≡ parts → items ≡ parts → are_chars (contents_of first) ≡ true → text_of v ≡ Some (map code_of items)
text_in_row v bounds parts first items e one f g all =
    rw (← e, g) (text_of_row bounds parts one (rw f at all))

pub times_more : (n : ℕ) (items : List ℕ) → times (n + 1) items ≡ times n items ++ items
times_more zero items = append-nil items
times_more (suc n) items =
    let e : times (n + 1) items ≡ times n items ++ items = times_more n items in
    rw add-one (rw append_assoc (ap (λ l. items ++ l) (rw add-one at e)))

pub length_of_times : (n : ℕ) (items : List ℕ) → length (times n items) ≡ n * length items
length_of_times zero items = omega arith
length_of_times (suc n) items = simp length-append (omega (arith, length_of_times n items))

pub length_of_values : (n : ℕ) (chars : List Content) → length (char_values (times n (map code_of chars))) ≡ n * length chars
length_of_values n chars = simp length-map (length_of_times n (map code_of chars) ∙ ap (λ k. n * k) (length-map chars code_of))

pub added_more : (old before behind : List Content) (n : ℕ) (codes : List ℕ) → before ≡ old ++ char_values (times n codes)
    → behind ≡ before ++ char_values codes → behind ≡ old ++ char_values (times (n + 1) codes)
added_more old before behind n codes e f = rw (times_more n codes, map-append, ← append_assoc, ← e) f

times_nothing : (n : ℕ) → times n [] ≡ []
times_nothing zero = refl
times_nothing (suc n) = times_nothing n

pub nothing_repeated : (items : List ℕ) (n : ℤ) → length items ≡ 0 → repeated items n ≡ text []
nothing_repeated [] (pos n) h = ap text (times_nothing n)
nothing_repeated [] (negsuc n) h = refl
nothing_repeated (item ∷ items) n h = absurd (omega arith)

pub too_long : (n : ℕ) (items : List ℕ) → most_parts < n * length items → text (times n items) ≡ Err fault.Cells
too_long n items h = let e : length (times n items) ≡ n * length items = length_of_times n items in grind arith

pub not_too_long : (n : ℕ) (items : List ℕ) → n * length items ≤ most_parts → text (times n items) ≡ Ok (text_row (times n items))
not_too_long n items h = let e : length (times n items) ≡ n * length items = length_of_times n items in grind arith
