-- The cells of the elements of a row.
use Rattle.std.proofs.Common.{◌≡◌, ℕ, zero, suc, ◌+◌, ◌*◌, ◌-◌, ◌<◌, ◌≤◌, min, List, [], ◌∷◌, ◌++◌, length, map, get_or, take, drop, refl, ap, sym, ◌∙◌, add-zero, arith}
use Rattle.std.proofs.Math.Nat.{zero-add}
use Rattle.std.proofs.lemmas.List.{append_assoc, append-nil, nil_from_length, map-append, drop_more, take_at, length-append, length-take, get_or-take, get_or_append_left}
use Rattle.std.proofs.lemmas.List.Elements.{All-nil, All-cons, All-append, All-weaker}
use Rattle.std.proofs.lemmas.Nat.{mul-le}
use Rattle.std.specs.List.{All}
use Rattle.a68_layout.specs.Stretches.{capped}
use Rattle.a68_layout.specs.Views.{bounds_of, for_each, element_cells, last_offset}
use Rattle.a68_layout.specs.Widths.{most_cells, between, elements_of}
use Rattle.a68_layout.proofs.Products.{capped_product}
use Rattle.a68_values.specs.declared.held.Dim.{Dim}

-- ---- a list for each number

pub for_each-same : (n from : ℕ) (f g : ℕ → List ℕ) → ((k : ℕ) → f k ≡ g k) → for_each from n f ≡ for_each from n g
for_each-same zero from f g e = refl
for_each-same (suc n) from f g e = let one : f from ≡ g from = e from in let rest = for_each-same n (suc from) f g e in cc

pub for_each-push : (n from : ℕ) (f : ℕ → List ℕ) → for_each from (suc n) f ≡ for_each from n f ++ f (from + n)
for_each-push zero from f = append-nil (f from) ∙ ap f (sym (add-zero from))
for_each-push (suc n) from f =
    ap (λ xs. f from ++ xs) (for_each-push n (suc from) f)
    ∙ sym (append_assoc (f from) (for_each (suc from) n f) (f (suc from + n)))
    ∙ ap (λ k. f from ++ for_each (suc from) n f ++ f k) (let same : suc from + n ≡ from + suc n = omega arith in same)

pub map-for_each : (g : ℕ → ℕ) (n from : ℕ) (f : ℕ → List ℕ) → map g (for_each from n f) ≡ for_each from n (λ k. map g (f k))
map-for_each g zero from f = refl
map-for_each g (suc n) from f = map-append g (f from) (for_each (suc from) n f) ∙ ap (λ xs. map g (f from) ++ xs) (map-for_each g n (suc from) f)

All-for_each : (P : ℕ → Type 0) (n from : ℕ) (f : ℕ → List ℕ) → ((k : ℕ) → k < from + n → All P (f k)) → All P (for_each from n f)
All-for_each P zero from f each = All-nil P
All-for_each P (suc n) from f each =
    All-append P (f from) (for_each (suc from) n f) (each from (omega arith)) (All-for_each P n (suc from) f (λ k lt. each k (omega arith)))

-- ---- cells

pub element_cells-moved : (dims : List Dim) (base by : ℕ) → element_cells dims (base + by) ≡ map (λ c. c + by) (element_cells dims base)
element_cells-moved [] base by = refl
element_cells-moved (dim ∷ dims) base by =
    for_each-same (between dim.lower dim.upper) 0 (λ k. element_cells dims (base + by + k * dim.stride)) (λ k. map (λ c. c + by) (element_cells dims (base + k * dim.stride)))
    (λ k. ap (element_cells dims) (let same : base + by + k * dim.stride ≡ base + k * dim.stride + by = omega arith in same) ∙ element_cells-moved dims (base + k * dim.stride) by)
    ∙ sym (map-for_each (λ c. c + by) (between dim.lower dim.upper) 0 (λ k. element_cells dims (base + k * dim.stride)))

-- a dimension more, in front
pub element_cells-more : (dim : Dim) (dims : List Dim) (base : ℕ)
    → element_cells (dim ∷ dims) base ≡ for_each 0 (between dim.lower dim.upper) (λ k. map (λ c. c + k * dim.stride) (element_cells dims base))
element_cells-more dim dims base =
    for_each-same (between dim.lower dim.upper) 0 (λ k. element_cells dims (base + k * dim.stride)) (λ k. map (λ c. c + k * dim.stride) (element_cells dims base))
    (λ k. element_cells-moved dims base (k * dim.stride))

pub element_cells-few : (dims : List Dim) (base : ℕ) → All (λ c. c ≤ base + last_offset dims) (element_cells dims base)
element_cells-few [] base = All-cons (λ c. c ≤ base + 0) base [] (omega arith) (All-nil (λ c. c ≤ base + 0))
element_cells-few (dim ∷ dims) base =
    let last = base + last_offset (dim ∷ dims) in
    All-for_each (λ c. c ≤ base + last_offset (dim ∷ dims)) (between dim.lower dim.upper) 0 (λ k. element_cells dims (base + k * dim.stride))
    (λ k lt.
    let near = mul-le k dim.stride (between dim.lower dim.upper - 1) dim.stride (omega arith) (omega arith) in
    All-weaker (λ c. c ≤ base + k * dim.stride + last_offset dims) (λ c. c ≤ base + last_offset (dim ∷ dims))
    (λ c le. omega arith)
    (element_cells dims (base + k * dim.stride)) (element_cells-few dims (base + k * dim.stride)))

-- ---- the last cell

pub next_last : (n last p e b x s r : ℕ) → e ≡ min (most_cells + 2) b → p ≡ e - 1 → x ≡ b - 1 → n ≡ min (most_cells + 1) (last + p * s)
    → capped (n + r) ≡ capped (last + (x * s + r))
next_last n last p e b x s r f g h i =
    let same : p ≡ min (most_cells + 1) x = omega arith in
    let product : min (most_cells + 1) (p * s) ≡ min (most_cells + 1) (x * s) = rw same (capped_product (most_cells + 1) x s) in
    omega (arith, product)

pub offset_more : (dims : List Dim) (i : ℕ) (d : Dim) → i < length dims
    → last_offset (drop i dims) ≡ (between (get_or dims i d).lower (get_or dims i d).upper - 1) * (get_or dims i d).stride + last_offset (drop (i + 1) dims)
offset_more dims i d lt = ap last_offset (drop_more dims i d lt)

-- ---- a dimension of a row that has elements

offset_left : (i : ℕ) (dims : List Dim) → last_offset (drop i dims) ≤ last_offset dims
offset_left zero dims = omega arith
offset_left (suc i) [] = omega arith
offset_left (suc i) (dim ∷ dims) = omega (arith, offset_left i dims)

both_some : (m n : ℕ) → 0 < m * n → (0 < m) × (0 < n) × (m ≤ m * n) × (n ≤ m * n)
both_some zero n h = absurd (omega arith)
both_some (suc m) zero h = absurd (omega arith)
both_some (suc m) (suc n) h =
    let one = mul-le (suc m) 1 (suc m) (suc n) (omega arith) (omega arith) in
    let other = mul-le 1 (suc n) (suc m) (suc n) (omega arith) (omega arith) in
    (omega arith, omega arith, omega arith, omega arith)

factors : (i : ℕ) (dims : List Dim) → 0 < elements_of (bounds_of dims)
    → (0 < elements_of (bounds_of (drop i dims))) × (elements_of (bounds_of (drop i dims)) ≤ elements_of (bounds_of dims))
factors zero dims h = (h, omega arith)
factors (suc i) [] h = (h, omega arith)
factors (suc i) (dim ∷ dims) h =
    let here = both_some (between dim.lower dim.upper) (elements_of (bounds_of dims)) h in
    let rest = factors i dims here.1 in
    (rest.0, omega arith)

pub record Fits (base : ℕ) (dim : Dim) (rest : List Dim) : Type 0 where
  pub some : 0 < between dim.lower dim.upper
  pub counted : between dim.lower dim.upper ≤ most_cells
  pub far : (between dim.lower dim.upper - 1) * dim.stride ≤ most_cells
  pub few : base + last_offset rest + (between dim.lower dim.upper - 1) * dim.stride ≤ most_cells

fits-by : (base : ℕ) (dim : Dim) (dims rest whole : List Dim) → whole ≡ dim ∷ rest → 0 < elements_of (bounds_of whole) → elements_of (bounds_of whole) ≤ most_cells
    → base + last_offset whole ≤ most_cells → Fits base dim rest
fits-by base dim dims rest whole e some counted few =
    let some' : 0 < between dim.lower dim.upper * elements_of (bounds_of rest) = rw e at some in
    let counted' : between dim.lower dim.upper * elements_of (bounds_of rest) ≤ most_cells = rw e at counted in
    let few' : base + ((between dim.lower dim.upper - 1) * dim.stride + last_offset rest) ≤ most_cells = rw e at few in
    let both = both_some (between dim.lower dim.upper) (elements_of (bounds_of rest)) some' in
    record { some = both.0; counted = omega arith; far = omega arith; few = omega arith }

pub fits : (base : ℕ) (dims : List Dim) (i : ℕ) (d : Dim) → i < length dims → 0 < elements_of (bounds_of dims) → elements_of (bounds_of dims) ≤ most_cells
    → base + last_offset dims ≤ most_cells → Fits base (get_or dims i d) (drop (i + 1) dims)
fits base dims i d lt some counted few =
    let both = factors i dims some in
    fits-by base (get_or dims i d) dims (drop (i + 1) dims) (drop i dims) (drop_more dims i d lt) both.0 (omega arith) (omega (arith, offset_left i dims))

pub few_there : (base : ℕ) (dim : Dim) (rest : List Dim) (cells : List ℕ) → Fits base dim rest → cells ≡ element_cells rest base
    → All (λ cell. cell + (between dim.lower dim.upper - 1) * dim.stride ≤ most_cells) cells
few_there base dim rest cells f e =
    rw e (All-weaker (λ c. c ≤ base + last_offset rest) (λ cell. cell + (between dim.lower dim.upper - 1) * dim.stride ≤ most_cells) (λ c le. omega arith)
    (element_cells rest base) (element_cells-few rest base))

-- ---- the first cells once more

read_front : (xs ys zs : List ℕ) (i n x : ℕ) → zs ≡ xs ++ ys → i < n → n ≤ length xs → x ≡ get_or zs i x → x ≡ get_or (take n xs) i x
read_front xs ys zs i n x e lt le read =
    read ∙ ap (λ ws. get_or ws i x) e ∙ get_or_append_left xs ys x i (omega arith) ∙ sym (get_or-take n xs i x lt)

pub few_at : (xs ys zs : List ℕ) (i n x by : ℕ) → zs ≡ xs ++ ys → i < n → n ≤ length xs → x ≡ get_or zs i x → All (λ c. c + by ≤ most_cells) (take n xs) → x + by ≤ most_cells
few_at xs ys zs i n x by e lt le read all =
    let front = read_front xs ys zs i n x e lt le read in
    let within : i < length (take n xs) = rw length-take (omega arith) in
    omega (arith, all i x within)

same_moved : (s : ℕ) (xs : List ℕ) → map (λ c. c + 0 * s) xs ≡ xs
same_moved s [] = refl
same_moved s (x ∷ xs) = let one : x + 0 * s ≡ x = omega arith in let rest = same_moved s xs in cc

copies_begin : (s k : ℕ) (xs : List ℕ) → 1 ≤ k → for_each 0 k (λ j. map (λ c. c + j * s) xs) ≡ xs ++ for_each 1 (k - 1) (λ j. map (λ c. c + j * s) xs)
copies_begin s zero xs h = absurd (omega arith)
copies_begin s (suc k) xs h =
    let one : suc k - 1 ≡ k = omega arith in
    rw one (ap (λ ys. ys ++ for_each 1 k (λ j. map (λ c. c + j * s) xs)) (same_moved s xs))

pub copies_front : (s k : ℕ) (xs zs : List ℕ) → 1 ≤ k → zs ≡ for_each 0 k (λ j. map (λ c. c + j * s) xs) → take (length xs) zs ≡ xs
copies_front s k xs zs h e = ap (take (length xs)) (e ∙ copies_begin s k xs h) ∙ take_at xs _ (length xs) refl

pub copies_long : (s k : ℕ) (xs zs : List ℕ) → 1 ≤ k → zs ≡ for_each 0 k (λ j. map (λ c. c + j * s) xs) → length xs ≤ length zs
copies_long s k xs zs h e =
    let whole = e ∙ copies_begin s k xs h in
    rw (whole, length-append) (omega arith)

pub copies_none : (s : ℕ) (xs : List ℕ) → xs ≡ for_each 0 1 (λ j. map (λ c. c + j * s) xs)
copies_none s xs = sym (same_moved s xs) ∙ sym (append-nil (map (λ c. c + 0 * s) xs))

pub copies_more : (s k : ℕ) (xs zs ws : List ℕ) → 1 ≤ k → zs ≡ for_each 0 k (λ j. map (λ c. c + j * s) xs) → ws ≡ zs ++ map (λ c. c + k * s) (take (length xs) zs)
    → ws ≡ for_each 0 (suc k) (λ j. map (λ c. c + j * s) xs)
copies_more s k xs zs ws h e f =
    let front = copies_front s k xs zs h e in
    f ∙ ap (λ ys. zs ++ map (λ c. c + k * s) ys) front ∙ ap (λ ys. ys ++ map (λ c. c + k * s) xs) e
    ∙ sym (for_each-push k 0 (λ j. map (λ c. c + j * s) xs) ∙ ap (λ n. for_each 0 k (λ j. map (λ c. c + j * s) xs) ++ map (λ c. c + n * s) xs) (zero-add k))

pub few_moved : (b s k n : ℕ) (xs zs : List ℕ) → k < b → take n zs ≡ xs → All (λ cell. cell + (b - 1) * s ≤ most_cells) xs → All (λ cell. cell + k * s ≤ most_cells) (take n zs)
few_moved b s k n xs zs lt e all =
    let near = mul-le k s (b - 1) s (omega arith) (omega arith) in
    rw e (All-weaker (λ cell. cell + (b - 1) * s ≤ most_cells) (λ cell. cell + k * s ≤ most_cells) (λ c le. omega arith) xs all)

-- the next dimension towards the front
pub more_cells : (base : ℕ) (dims : List Dim) (i : ℕ) (d : Dim) (old new : List ℕ) → i < length dims → old ≡ element_cells (drop (i + 1) dims) base
    → new ≡ for_each 0 (between (get_or dims i d).lower (get_or dims i d).upper) (λ k. map (λ c. c + k * (get_or dims i d).stride) old)
    → new ≡ element_cells (drop i dims) base
more_cells base dims i d old new lt e f =
    f ∙ ap (λ xs. for_each 0 (between (get_or dims i d).lower (get_or dims i d).upper) (λ k. map (λ c. c + k * (get_or dims i d).stride) xs)) e
    ∙ sym (element_cells-more (get_or dims i d) (drop (i + 1) dims) base) ∙ ap (λ ds. element_cells ds base) (sym (drop_more dims i d lt))

-- ---- how many they are

length-for_each : (n from m : ℕ) (f : ℕ → List ℕ) → ((k : ℕ) → length (f k) ≡ m) → length (for_each from n f) ≡ n * m
length-for_each zero from m f e = omega arith
length-for_each (suc n) from m f e = omega (arith, length-append (f from) (for_each (suc from) n f), e from, length-for_each n (suc from) m f e)

pub length-element_cells : (dims : List Dim) (base : ℕ) → length (element_cells dims base) ≡ elements_of (bounds_of dims)
length-element_cells [] base = refl
length-element_cells (dim ∷ dims) base =
    length-for_each (between dim.lower dim.upper) 0 (elements_of (bounds_of dims)) (λ k. element_cells dims (base + k * dim.stride))
    (λ k. length-element_cells dims (base + k * dim.stride))

pub none_there : (dims : List Dim) (base : ℕ) → elements_of (bounds_of dims) ≡ 0 → [] ≡ element_cells dims base
none_there dims base e = sym (nil_from_length (element_cells dims base) (length-element_cells dims base ∙ e))
