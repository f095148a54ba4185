-- Cells that are made, a list of rooms after the other.
use Rattle.std.proofs.Common.{◌≡◌, ℕ, zero, suc, ◌+◌, ◌*◌, ◌-◌, ◌<◌, ◌≤◌, Bool, true, false, nat_eq, nat_lt, if◌then◌else◌, ℤ, List, [], ◌∷◌, ◌++◌, length, Result, Ok, Err, refl, ap, sym, ◌∙◌, arith}
use Rattle.std.proofs.lemmas.Bool.{ltb-true, ltb-false, eqb-true}
use Rattle.std.proofs.lemmas.List.{append-nil, append_assoc, length-append, nil_from_length}
use Rattle.std.proofs.lemmas.Nat.{mul-le}
use Rattle.a68_layout.proofs.Inwards.{copies-none, length-copies}
use Rattle.a68_layout.specs.Making.{Makes}
use Rattle.a68_layout.specs.Rooms.{Room, Rooms, cell, row, several, copies, inwards, all_inwards, own_cells, reach}
use Rattle.a68_layout.specs.Views.{new_row}
use Rattle.a68_layout.specs.Widths.{most_cells, elements_of, dims_of, strides}
use Rattle.a68_layout.specs.declared.types.LayoutStop.{LayoutStop}
use Rattle.a68_layout.specs.declared.types.LayoutStop.TheVariants.{Fault, NoMemory}
use Rattle.a68_values.specs.declared.act.FaultKind.{FaultKind}
use Rattle.a68_values.specs.declared.act.FaultKind.TheVariants as fault
use Rattle.a68_values.specs.declared.held.Descriptor.{Descriptor}
use Rattle.a68_values.specs.declared.held.Held.{Held}
use Rattle.a68_values.specs.declared.held.Held.TheVariants as held

-- ---- the cell of a row

row-made-by : (t : Bool) (base n : ℕ) (d made : Descriptor) → nat_lt most_cells n ≡ t → ◌≡◌ {A = Result Descriptor FaultKind} (Ok made) (if t then Err fault.Cells else Ok d) → (n ≤ most_cells) × (made ≡ d)
row-made-by true base n d made test e = absurd (cc)
row-made-by false base n d made test e = (ltb-false most_cells n test, cc)

pub row-made : (base width : ℕ) (bounds : List (ℤ × ℤ)) (made : Descriptor) → Ok made ≡ new_row base width bounds
    → (base + width * elements_of bounds ≤ most_cells) × (made ≡ record { base = base; dims = dims_of width bounds })
unfolding new_row
row-made base width bounds made e =
    row-made-by (nat_lt most_cells (base + width * elements_of bounds)) base (base + width * elements_of bounds) (record { base = base; dims = dims_of width bounds }) made refl e

row-far-by : (t : Bool) (n : ℕ) (d : Descriptor) (k : FaultKind) → nat_lt most_cells n ≡ t → ◌≡◌ {A = Result Descriptor FaultKind} (Err k) (if t then Err fault.Cells else Ok d) → (k ≡ fault.Cells) × (most_cells < n)
row-far-by true n d k test e = (cc, ltb-true most_cells n test)
row-far-by false n d k test e = absurd (cc)

pub row-far : (base width : ℕ) (bounds : List (ℤ × ℤ)) (k : FaultKind) → Err k ≡ new_row base width bounds → (k ≡ fault.Cells) × (most_cells < base + width * elements_of bounds)
unfolding new_row
row-far base width bounds k e =
    row-far-by (nat_lt most_cells (base + width * elements_of bounds)) (base + width * elements_of bounds) (record { base = base; dims = dims_of width bounds }) k refl e

-- elements that are not there may have any width
any-width-by : (t : Bool) (w e : ℕ) → nat_eq e 0 ≡ t → (if t then 0 else w) * e ≡ w * e
any-width-by true w e test = let none : e ≡ 0 = eqb-true e 0 test in rw none (omega arith)
any-width-by false w e test = refl

pub any-width : (w e : ℕ) → (if nat_eq e 0 then 0 else w) * e ≡ w * e
any-width w e = any-width-by (nat_eq e 0) w e refl

any-dims-by : (t : Bool) (w : ℕ) (bounds : List (ℤ × ℤ)) → strides (if t then 0 else (if t then 0 else w)) bounds ≡ strides (if t then 0 else w) bounds
any-dims-by true w bounds = refl
any-dims-by false w bounds = refl

pub any-dims : (w : ℕ) (bounds : List (ℤ × ℤ)) → dims_of (if nat_eq (elements_of bounds) 0 then 0 else w) bounds ≡ dims_of w bounds
any-dims w bounds = any-dims-by (nat_eq (elements_of bounds) 0) w bounds

-- ---- one list of rooms after another

pub own_cells-append : (next : ℕ) (xs ys : List Room) → own_cells next (xs ++ ys) ≡ own_cells next xs ++ own_cells (reach next xs) ys
own_cells-append next [] ys = refl
own_cells-append next (row b w es ∷ xs) ys = ap (λ cs. held.Rows (record { base = next; dims = dims_of w b }) ∷ cs) (own_cells-append (next + w * elements_of b) xs ys)
own_cells-append next (cell ∷ xs) ys = ap (λ cs. own_cells next (cell ∷ []) ++ cs) (own_cells-append next xs ys)
own_cells-append next (several parts ∷ xs) ys = ap (λ cs. own_cells next (several parts ∷ []) ++ cs) (own_cells-append next xs ys)

pub reach-append : (next : ℕ) (xs ys : List Room) → reach next (xs ++ ys) ≡ reach (reach next xs) ys
reach-append next [] ys = refl
reach-append next (row b w es ∷ xs) ys = reach-append (next + w * elements_of b) xs ys
reach-append next (cell ∷ xs) ys = reach-append next xs ys
reach-append next (several parts ∷ xs) ys = reach-append next xs ys

pub reach-more : (next : ℕ) (xs : List Room) → next ≤ reach next xs
reach-more next [] = omega arith
reach-more next (row b w es ∷ xs) = omega (arith, reach-more (next + w * elements_of b) xs)
reach-more next (cell ∷ xs) = reach-more next xs
reach-more next (several parts ∷ xs) = reach-more next xs

pub length-own_cells : (next : ℕ) (xs : List Room) → length (own_cells next xs) ≡ length xs
length-own_cells next [] = refl
length-own_cells next (row b w es ∷ xs) = ap suc (length-own_cells (next + w * elements_of b) xs)
length-own_cells next (cell ∷ xs) = ap suc (length-own_cells next xs)
length-own_cells next (several parts ∷ xs) = ap suc (length-own_cells next xs)

-- What is left to do from here is what was left at the beginning.
pub record IsRest (cells : List Held) (next : ℕ) (rest : List Room) (cells0 : List Held) (next0 : ℕ) (all : List Room) : Type 0 where
  pub there : cells ++ own_cells next rest ≡ cells0 ++ own_cells next0 all
  pub reached : reach next rest ≡ reach next0 all
  pub fits : next0 ≤ most_cells → next ≤ most_cells

pub rest-begin : (cells : List Held) (next : ℕ) (all : List Room) → IsRest cells next all cells next all
rest-begin cells next all = record { there = refl; reached = refl; fits = λ few. few }

pub rest-on : (cells cells' : List Held) (next next' : ℕ) (xs ys : List Room) (cells0 : List Held) (next0 : ℕ) (all : List Room) → Makes (Ok tt) cells next cells' next' xs
    → IsRest cells next (xs ++ ys) cells0 next0 all → IsRest cells' next' ys cells0 next0 all
rest-on cells cells' next next' xs ys cells0 next0 all m r =
    record {
      there = rw (m.0, m.1) (append_assoc cells (own_cells next xs) (own_cells (reach next xs) ys) ∙ ap (λ cs. cells ++ cs) (sym (own_cells-append next xs ys)) ∙ r.there);
      reached = rw m.1 (sym (reach-append next xs ys) ∙ r.reached);
      fits = λ few. m.2 (r.fits few);
    }

pub rest-end : (cells : List Held) (next : ℕ) (cells0 : List Held) (next0 : ℕ) (all : List Room) → IsRest cells next [] cells0 next0 all → Makes (Ok tt) cells0 next0 cells next all
rest-end cells next cells0 next0 all r = (sym (append-nil cells) ∙ r.there, r.reached, r.fits)

far-on : (cells : List Held) (next : ℕ) (xs ys : List Room) (cells0 : List Held) (next0 : ℕ) (all : List Room) → most_cells < reach next xs
    → IsRest cells next (xs ++ ys) cells0 next0 all → most_cells < reach next0 all
far-on cells next xs ys cells0 next0 all far r = omega (arith, reach-append next xs ys, reach-more (reach next xs) ys, r.reached)

-- where a step stops, all stops
pub stop-on : (stop : LayoutStop) (cells cells' : List Held) (next next' : ℕ) (xs ys : List Room) (cells0 cells'' : List Held) (next0 next'' : ℕ) (all : List Room)
    → Makes (Err stop) cells next cells' next' xs → IsRest cells next (xs ++ ys) cells0 next0 all → Makes (Err stop) cells0 next0 cells'' next'' all
stop-on (Fault k) cells cells' next next' xs ys cells0 cells'' next0 next'' all m r = (m.0, far-on cells next xs ys cells0 next0 all m.1 r)
stop-on NoMemory cells cells' next next' xs ys cells0 cells'' next0 next'' all m r = tt

pub stop-here : (stop : LayoutStop) (cells cells' cells'' : List Held) (next next' next'' : ℕ) (xs : List Room) → Makes (Err stop) cells next cells' next' xs → Makes (Err stop) cells next cells'' next'' xs
stop-here (Fault k) cells cells' cells'' next next' next'' xs m = m
stop-here NoMemory cells cells' cells'' next next' next'' xs m = tt

-- ---- elements that are alike

copies-one : (n k : ℕ) (r : Room) → 0 < k → all_inwards n (copies k r) ≡ inwards n r ++ all_inwards n (copies (k - 1) r)
copies-one n zero r some = absurd (omega arith)
copies-one n (suc k) r some = ap (λ j. inwards n r ++ all_inwards n (copies j r)) (let one : k ≡ suc k - 1 = omega arith in one)

pub one-few : (n k : ℕ) (r : Room) (left : ℕ) → 0 < left → left ≤ k → length (all_inwards n (copies k r)) ≤ most_cells → length (inwards n r) ≤ most_cells
one-few n k r left some le few =
    let least = mul-le 1 (length (inwards n r)) k (length (inwards n r)) (omega arith) (omega arith) in
    omega (arith, least, length-copies n k r)

pub copies-on : (n left : ℕ) (r : Room) (cells cells' : List Held) (next next' : ℕ) (cells0 : List Held) (next0 : ℕ) (all : List Room) → 0 < left
    → Makes (Ok tt) cells next cells' next' (inwards n r)
    → IsRest cells next (all_inwards n (copies left r)) cells0 next0 all → IsRest cells' next' (all_inwards n (copies (left - 1) r)) cells0 next0 all
copies-on n left r cells cells' next next' cells0 next0 all some m rest =
    rest-on cells cells' next next' (inwards n r) (all_inwards n (copies (left - 1) r)) cells0 next0 all m (rw (copies-one n left r some) at rest)

pub copies-stop : (stop : LayoutStop) (n left : ℕ) (r : Room) (cells cells' : List Held) (next next' : ℕ) (cells0 cells'' : List Held) (next0 next'' : ℕ) (all : List Room) → 0 < left
    → Makes (Err stop) cells next cells' next' (inwards n r)
    → IsRest cells next (all_inwards n (copies left r)) cells0 next0 all → Makes (Err stop) cells0 next0 cells'' next'' all
copies-stop stop n left r cells cells' next next' cells0 cells'' next0 next'' all some m rest =
    stop-on stop cells cells' next next' (inwards n r) (all_inwards n (copies (left - 1) r)) cells0 cells'' next0 next'' all m (rw (copies-one n left r some) at rest)

-- one has nothing there, so none has
pub copies-end : (n left : ℕ) (r : Room) (cells cells' : List Held) (next next' : ℕ) (cells0 : List Held) (next0 : ℕ) (all : List Room) → length cells' ≡ length cells
    → Makes (Ok tt) cells next cells' next' (inwards n r)
    → IsRest cells next (all_inwards n (copies left r)) cells0 next0 all → Makes (Ok tt) cells0 next0 cells' next' all
copies-end n left r cells cells' next next' cells0 next0 all same m rest =
    let long : length cells' ≡ length cells + length (inwards n r) =
    ap length m.0 ∙ length-append cells (own_cells next (inwards n r)) ∙ ap (λ k. length cells + k) (length-own_cells next (inwards n r)) in
    let none : inwards n r ≡ [] = nil_from_length (inwards n r) (omega arith) in
    let over : IsRest cells next [] cells0 next0 all = rw (copies-none n left r none) at rest in
    let end = rest-end cells next cells0 next0 all over in
    let made = rw none at m in
    (made.0 ∙ append-nil cells ∙ end.0, made.1 ∙ end.1, λ few. m.2 (over.fits few))

pub row-stop : (stop : LayoutStop) (cells : List Held) (next w width : ℕ) (bounds : List (ℤ × ℤ)) (elements : Rooms) → width ≡ (if nat_eq (elements_of bounds) 0 then 0 else w)
    → ((k : FaultKind) → ◌≡◌ {A = Result Descriptor LayoutStop} (Err stop) (Err (Fault k)) → Err k ≡ new_row next width bounds)
    → Makes (Err stop) cells next cells next (row bounds w elements ∷ [])
row-stop (Fault k) cells next w width bounds elements e f =
    let far = row-far next width bounds k (f k refl) in
    let product : width * elements_of bounds ≡ w * elements_of bounds = rw e (any-width w (elements_of bounds)) in
    (far.0, omega (arith, far.1, product))
row-stop NoMemory cells next w width bounds elements e f = tt

pub row-there : (cells : List Held) (next w width : ℕ) (bounds : List (ℤ × ℤ)) (elements : Rooms) (made : Descriptor) → width ≡ (if nat_eq (elements_of bounds) 0 then 0 else w)
    → made ≡ record { base = next; dims = dims_of width bounds } → cells ++ held.Rows made ∷ [] ≡ cells ++ own_cells next (row bounds w elements ∷ [])
row-there cells next w width bounds elements made e f =
    ap (λ (d : Descriptor). cells ++ held.Rows d ∷ []) f
    ∙ ap (λ k. cells ++ held.Rows (record { base = next; dims = dims_of k bounds }) ∷ []) e
    ∙ ap (λ ds. cells ++ held.Rows (record { base = next; dims = ds }) ∷ []) (any-dims w bounds)
