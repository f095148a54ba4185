-- Rooms of modes, and how many cells stand so many rows inwards in them.
use Rattle.std.proofs.Common.{◌≡◌, ℕ, zero, suc, ◌+◌, ◌*◌, ◌-◌, ◌<◌, ◌≤◌, min, Bool, ℤ, List, [], ◌∷◌, length, get_or, take, drop, refl, ap, sym, ◌∙◌, ⊎_elim, arith}
use Rattle.std.proofs.lemmas.Bool.{cases_lt}
use Rattle.std.proofs.lemmas.Nat.{mul-le}
use Rattle.std.proofs.lemmas.List.{nil_from_length, length-append, length-drop, drop_all, drop_more, drop-drop, drop_min, take_min, take_rest}
use Rattle.a68_layout.specs.Rooms.{Room, Rooms, cell, several, row, no_rooms, ◌and_room◌, copies, inwards, all_inwards, room_by, room_within, row_room, rooms_of, needs_within, room_for_by, room_for_within, row_for, structure_for, elements_for, parts_for}
use Rattle.a68_layout.specs.Stretches.{capped}
use Rattle.a68_layout.specs.Widths.{most_cells, cells_of, elements_of}
use Rattle.a68_layout.proofs.Leaves.{IsLeaf}
use Rattle.a68_layout.proofs.Products.{capped_product, capped_second}
use Rattle.a68_values.specs.Content.{Content, no_parts, contents_of}
use Rattle.a68_modes.specs.Nodes.{shape_at}
use Rattle.a68_modes.specs.declared.shape.Shape.{Shape}
use Rattle.a68_modes.specs.declared.shape.Shape.TheVariants.{Rows as RowsOf, Struct, Same}

-- ---- the room of a mode

room_by-leaf : (make : ℕ → List (ℤ × ℤ) → Room) (needs width : ℕ → ℕ) (s : Shape) (bs : List (ℤ × ℤ)) → IsLeaf s → room_by make needs width s bs ≡ cell
room_by-leaf make needs width (RowsOf dims flex m) bs is = absurd is
room_by-leaf make needs width (Struct fields) bs is = absurd is
room_by-leaf make needs width (Same m) bs is = absurd is
room_by-leaf make needs width _ bs is = refl

pub room-leaf : (n : ℕ) (modes : List Shape) (m : ℕ) (bs : List (ℤ × ℤ)) → IsLeaf (shape_at modes m) → room_within n modes m bs ≡ cell
room-leaf zero modes m bs is = refl
room-leaf (suc n) modes m bs is = room_by-leaf (room_within n modes) (needs_within n modes) (cells_of modes) (shape_at modes m) bs is

pub room-row : (n : ℕ) (modes : List Shape) (m dims : ℕ) (flex : Bool) (k : ℕ) (bs : List (ℤ × ℤ)) → (n ≡ 0 → ⊥) → RowsOf dims flex k ≡ shape_at modes m
    → room_within n modes m bs ≡ row_room (room_within (n - 1) modes k) (cells_of modes k) (take dims bs) (drop dims bs)
room-row zero modes m dims flex k bs some e = absurd (some refl)
room-row (suc n) modes m dims flex k bs some e =
    let one : suc n - 1 ≡ n = omega arith in
    rw (one, ← e) refl

pub room-structure : (n : ℕ) (modes : List Shape) (m : ℕ) (fields : List (ℕ × ℕ)) (bs : List (ℤ × ℤ)) → (n ≡ 0 → ⊥) → Struct fields ≡ shape_at modes m
    → room_within n modes m bs ≡ several (rooms_of (room_within (n - 1) modes) (needs_within (n - 1) modes) fields bs)
room-structure zero modes m fields bs some e = absurd (some refl)
room-structure (suc n) modes m fields bs some e =
    let one : suc n - 1 ≡ n = omega arith in
    rw (one, ← e) refl

pub room-same : (n : ℕ) (modes : List Shape) (m k : ℕ) (bs : List (ℤ × ℤ)) → (n ≡ 0 → ⊥) → Same k ≡ shape_at modes m → room_within n modes m bs ≡ room_within (n - 1) modes k bs
room-same zero modes m k bs some e = absurd (some refl)
room-same (suc n) modes m k bs some e =
    let one : suc n - 1 ≡ n = omega arith in
    rw (one, ← e) refl

-- the first field, and those behind it
pub rooms-more : (make : ℕ → List (ℤ × ℤ) → Room) (needs : ℕ → ℕ) (fields : List (ℕ × ℕ)) (i : ℕ) (d : ℕ × ℕ) (bs : List (ℤ × ℤ)) (at k : ℕ) → i < length fields
    → k ≡ min (length bs - at) (needs (get_or fields i d).1)
    → rooms_of make needs (drop i fields) (drop at bs) ≡ make (get_or fields i d).1 (drop at bs) and_room rooms_of make needs (drop (i + 1) fields) (drop (at + k) bs)
rooms-more make needs fields i d bs at k lt e =
    let field = get_or fields i d in
    let past : drop (needs field.1) (drop at bs) ≡ drop (at + k) bs =
    sym (drop_min (needs field.1) (drop at bs)) ∙ ap (λ n. drop n (drop at bs)) (let same : min (needs field.1) (length (drop at bs)) ≡ k = rw (length-drop at bs, e) (omega arith) in same) ∙ drop-drop k at bs in
    ap (λ fs. rooms_of make needs fs (drop at bs)) (drop_more fields i d lt) ∙ ap (λ rest. make field.1 (drop at bs) and_room rooms_of make needs (drop (i + 1) fields) rest) past

-- ---- how many cells

pub inwards-row : (n : ℕ) (bounds : List (ℤ × ℤ)) (width : ℕ) (elements : Rooms) → (n ≡ 0 → ⊥) → inwards n (row bounds width elements) ≡ all_inwards (n - 1) elements
inwards-row zero bounds width elements some = absurd (some refl)
inwards-row (suc n) bounds width elements some = ap (λ k. all_inwards k elements) (let one : n ≡ suc n - 1 = omega arith in one)

pub length-copies : (n k : ℕ) (r : Room) → length (all_inwards n (copies k r)) ≡ k * length (inwards n r)
length-copies n zero r = omega arith
length-copies n (suc k) r = omega (arith, length-append (inwards n r) (all_inwards n (copies k r)), length-copies n k r)

capped_both : (m a b : ℕ) → min m (min m a * min m b) ≡ min m (a * b)
capped_both m a b = capped_product m a (min m b) ∙ capped_second m a b

pub row-counted : (n counted d dims count each all : ℕ) (bs : List (ℤ × ℤ)) (make : List (ℤ × ℤ) → Room) (width : ℕ) → (n ≡ 0 → ⊥) → d ≡ min dims (length bs)
    → count ≡ min (most_cells + 1) (elements_of (take d bs)) → each ≡ capped (0 + length (inwards (n - 1) (make (take (length bs - d) (drop d bs)))))
    → all ≡ min (most_cells + 1) (counted + count * each) → all ≡ capped (counted + length (inwards n (row_room make width (take dims bs) (drop dims bs))))
row-counted n counted d dims count each all bs make width some e f g h =
    let front : take d bs ≡ take dims bs = ap (λ k. take k bs) e ∙ take_min dims bs in
    let back : take (length bs - d) (drop d bs) ≡ drop dims bs = take_rest bs d ∙ ap (λ k. drop k bs) e ∙ drop_min dims bs in
    let long : length (inwards n (row_room make width (take dims bs) (drop dims bs))) ≡ elements_of (take dims bs) * length (inwards (n - 1) (make (drop dims bs))) =
    ap length (inwards-row n (take dims bs) width (copies (elements_of (take dims bs)) (make (drop dims bs))) some) ∙ length-copies (n - 1) (elements_of (take dims bs)) (make (drop dims bs)) in
    let one : count ≡ min (most_cells + 1) (elements_of (take dims bs)) = rw front at f in
    let other : each ≡ min (most_cells + 1) (length (inwards (n - 1) (make (drop dims bs)))) = (let here = rw back at g in omega (arith, here)) in
    let product : min (most_cells + 1) (count * each) ≡ min (most_cells + 1) (elements_of (take dims bs) * length (inwards (n - 1) (make (drop dims bs)))) =
    rw (one, other) (capped_both (most_cells + 1) (elements_of (take dims bs)) (length (inwards (n - 1) (make (drop dims bs))))) in
    rw (h, long) (omega (arith, product))

-- the first of several, and then the others
pub one-counted : (n counted new : ℕ) (r : Room) (rs rest : Rooms) → rs ≡ r and_room rest → new ≡ capped (counted + length (inwards n r))
    → capped (new + length (all_inwards n rest)) ≡ capped (counted + length (all_inwards n rs))
one-counted n counted new r rs rest e f = rw (e, length-append (inwards n r) (all_inwards n rest)) (omega arith)

-- ---- the room for a value

room_for_by-leaf : (make : ℕ → Content → Room) (width : ℕ → ℕ) (s : Shape) (v : Content) → IsLeaf s → room_for_by make width s v ≡ cell
room_for_by-leaf make width (RowsOf dims flex m) v is = absurd is
room_for_by-leaf make width (Struct fields) v is = absurd is
room_for_by-leaf make width (Same m) v is = absurd is
room_for_by-leaf make width _ v is = refl

pub room_for-leaf : (n : ℕ) (modes : List Shape) (m : ℕ) (v : Content) → IsLeaf (shape_at modes m) → room_for_within n modes m v ≡ cell
room_for-leaf zero modes m v is = refl
room_for-leaf (suc n) modes m v is = room_for_by-leaf (room_for_within n modes) (cells_of modes) (shape_at modes m) v is

pub room_for-row : (n : ℕ) (modes : List Shape) (m dims : ℕ) (flex : Bool) (k : ℕ) (v : Content) → (n ≡ 0 → ⊥) → RowsOf dims flex k ≡ shape_at modes m
    → room_for_within n modes m v ≡ row_for (room_for_within (n - 1) modes k) (cells_of modes k) v
room_for-row zero modes m dims flex k v some e = absurd (some refl)
room_for-row (suc n) modes m dims flex k v some e =
    let one : suc n - 1 ≡ n = omega arith in
    rw (one, ← e) refl

pub room_for-structure : (n : ℕ) (modes : List Shape) (m : ℕ) (fields : List (ℕ × ℕ)) (v : Content) → (n ≡ 0 → ⊥) → Struct fields ≡ shape_at modes m
    → room_for_within n modes m v ≡ structure_for (room_for_within (n - 1) modes) fields v
room_for-structure zero modes m fields v some e = absurd (some refl)
room_for-structure (suc n) modes m fields v some e =
    let one : suc n - 1 ≡ n = omega arith in
    rw (one, ← e) refl

none-for : (make : ℕ → Content → Room) (fields : List (ℕ × ℕ)) → parts_for make fields no_parts ≡ no_rooms
none-for make [] = refl
none-for make (field ∷ fields) = refl

-- no part is left
pub no-parts : (make : ℕ → Content → Room) (fields : List (ℕ × ℕ)) (values : List Content) (i : ℕ) → length values ≤ i
    → parts_for make (drop i fields) (contents_of (drop i values)) ≡ no_rooms
no-parts make fields values i past = rw (drop_all i values past) (none-for make (drop i fields))

-- ---- the elements of a row

pub copies-none : (n k : ℕ) (r : Room) → inwards n r ≡ [] → all_inwards n (copies k r) ≡ []
copies-none n zero r e = refl
copies-none n (suc k) r e = rw (e, copies-none n k r e) refl

capped-copies : (n e : ℕ) (r : Room) → e * length (inwards n r) ≤ most_cells → all_inwards n (copies e r) ≡ all_inwards n (copies (min (most_cells + 1) e) r)
capped-copies n e r few =
    ⊎_elim (λ (big : most_cells < e).
    ⊎_elim (λ (gone : length (inwards n r) < 1).
    let none : inwards n r ≡ [] = nil_from_length (inwards n r) (omega arith) in
    copies-none n e r none ∙ sym (copies-none n (min (most_cells + 1) e) r none))
    (λ (some : 1 ≤ length (inwards n r)). absurd (let long = mul-le e 1 e (length (inwards n r)) (omega arith) some in omega arith))
    (cases_lt (length (inwards n r)) 1))
    (λ (small : e ≤ most_cells). ap (λ k. all_inwards n (copies k r)) (let same : e ≡ min (most_cells + 1) e = omega arith in same))
    (cases_lt most_cells e)

pub row-shape : (n d dims count : ℕ) (bs : List (ℤ × ℤ)) (make : List (ℤ × ℤ) → Room) (width : ℕ) → (n ≡ 0 → ⊥) → d ≡ min dims (length bs)
    → count ≡ min (most_cells + 1) (elements_of (take d bs)) → length (inwards n (row_room make width (take dims bs) (drop dims bs))) ≤ most_cells
    → inwards n (row_room make width (take dims bs) (drop dims bs)) ≡ all_inwards (n - 1) (copies count (make (take (length bs - d) (drop d bs))))
row-shape n d dims count bs make width some e f few =
    let front : take d bs ≡ take dims bs = ap (λ k. take k bs) e ∙ take_min dims bs in
    let back : take (length bs - d) (drop d bs) ≡ drop dims bs = take_rest bs d ∙ ap (λ k. drop k bs) e ∙ drop_min dims bs in
    let shape = inwards-row n (take dims bs) width (copies (elements_of (take dims bs)) (make (drop dims bs))) some in
    let long = ap length shape ∙ length-copies (n - 1) (elements_of (take dims bs)) (make (drop dims bs)) in
    let one : count ≡ min (most_cells + 1) (elements_of (take dims bs)) = rw front at f in
    rw (one, back) (shape ∙ capped-copies (n - 1) (elements_of (take dims bs)) (make (drop dims bs)) (omega (arith, long)))

-- the first element, and those behind it
pub elements-more : (make : Content → Room) (values : List Content) (i : ℕ) (v : Content) → i < length values → v ≡ get_or values i v
    → elements_for make (contents_of (drop i values)) ≡ make v and_room elements_for make (contents_of (drop (i + 1) values))
elements-more make values i v lt e = rw (drop_more values i v lt) (ap (λ x. make x and_room elements_for make (contents_of (drop (i + 1) values))) (sym e))

pub parts-more : (make : ℕ → Content → Room) (fields : List (ℕ × ℕ)) (values : List Content) (i : ℕ) (d : ℕ × ℕ) (v : Content) → i < length fields → i < length values → v ≡ get_or values i v
    → parts_for make (drop i fields) (contents_of (drop i values)) ≡ make (get_or fields i d).1 v and_room parts_for make (drop (i + 1) fields) (contents_of (drop (i + 1) values))
parts-more make fields values i d v lt there e =
    rw (drop_more fields i d lt, drop_more values i v there) (ap (λ x. make (get_or fields i d).1 x and_room parts_for make (drop (i + 1) fields) (contents_of (drop (i + 1) values))) (sym e))
