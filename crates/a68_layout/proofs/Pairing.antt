-- Bounds by twos.
use Rattle.std.proofs.Common.{◌≡◌, ℕ, ◌+◌, ◌*◌, ◌<◌, ◌≤◌, ℤ, List, [], ◌∷◌, ◌++◌, length, get_or, drop, refl, ap, sym, ◌∙◌, arith}
use Rattle.std.proofs.lemmas.List.{append_assoc, append-nil, drop_more, length-drop}
use Rattle.a68_layout.specs.Rooms.{pairs_of}

pub pairs-more : (bs : List ℤ) (i : ℕ) (d : ℤ) (pairs new : List (ℤ × ℤ)) (l u : ℤ) → 2 * i + 1 < length bs → l ≡ get_or bs (2 * i) d → u ≡ get_or bs (2 * i + 1) d → new ≡ pairs ++ (l, u) ∷ []
    → pairs ++ pairs_of (drop (2 * i) bs) ≡ pairs_of bs → new ++ pairs_of (drop (2 * (i + 1)) bs) ≡ pairs_of bs
pairs-more bs i d pairs new l u lt e f g h =
    let next : 2 * i + 1 + 1 ≡ 2 * (i + 1) = omega arith in
    let one = drop_more bs (2 * i) d (omega arith) in
    let two = drop_more bs (2 * i + 1) d lt in
    let whole : pairs_of (drop (2 * i) bs) ≡ (l, u) ∷ pairs_of (drop (2 * (i + 1)) bs) = rw (one, two, next, e, f) refl in
    rw g (append_assoc pairs ((l, u) ∷ []) (pairs_of (drop (2 * (i + 1)) bs)) ∙ ap (λ xs. pairs ++ xs) (sym whole) ∙ h)

short : (bs : List ℤ) → length bs ≤ 1 → pairs_of bs ≡ []
short [] few = refl
short (b ∷ []) few = refl
short (b ∷ (c ∷ bs)) few = absurd (omega arith)

pub pairs-end : (bs : List ℤ) (n : ℕ) (pairs : List (ℤ × ℤ)) → length bs ≤ n + 1 → pairs ++ pairs_of (drop n bs) ≡ pairs_of bs → pairs ≡ pairs_of bs
pairs-end bs n pairs past e =
    let none = short (drop n bs) (omega (arith, length-drop n bs)) in
    sym (append-nil pairs) ∙ (rw none at e)
