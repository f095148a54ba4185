-- The rows among the cells of rooms, and those among their elements.
use Rattle.std.proofs.Common.{◌≡◌, ℕ, zero, suc, ◌+◌, ◌*◌, ◌-◌, ◌<◌, ◌≤◌, min, ℤ, List, [], ◌∷◌, ◌++◌, length, get_or, take, drop, refl, ap, sym, ◌∙◌, subst, ⊎_elim, arith}
use Rattle.std.proofs.lemmas.Bool.{cases_lt}
use Rattle.std.proofs.lemmas.List.{append-nil, append_assoc, drop_more, drop_min, nil_from_length, take_min, take_rest}
use Rattle.std.proofs.lemmas.Nat.{mul-le}
use Rattle.a68_layout.proofs.Inwards.{copies-none, length-copies}
use Rattle.a68_layout.proofs.Levels.{none-inwards}
use Rattle.a68_layout.specs.Widths.{most_cells, elements_of}
use Rattle.a68_layout.specs.Rooms.{Room, Rooms, cell, several, no_rooms, ◌and_room◌, copies, inwards, all_inwards, room_within, room_for_within, row_room}
use Rattle.a68_layout.specs.Wanting.{row_of, rows_of, AreAmong, AreFound, AreBehind, AreBelow, AreAt}
use Rattle.a68_layout.specs.declared.finding.Row.{Row}
use Rattle.a68_modes.specs.Nodes.{shape_at}
use Rattle.a68_modes.specs.declared.shape.Shape.{Shape}
use Rattle.a68_modes.specs.declared.shape.Shape.TheVariants.{Same}
use Rattle.a68_values.specs.Content.{Content}

-- ---- the room of a mode at its shape

pub room_for-same : (n : ℕ) (modes : List Shape) (m k : ℕ) (v : Content) → (n ≡ 0 → ⊥) → Same k ≡ shape_at modes m → room_for_within n modes m v ≡ room_for_within (n - 1) modes k v
room_for-same zero modes m k v some e = absurd (some refl)
room_for-same (suc n) modes m k v some e =
    let one : suc n - 1 ≡ n = omega arith in
    rw (one, ← e) refl

-- ---- lists of rows

pub inwards-rows : (modes : List Shape) (k : ℕ) (xs ys : List Row) → all_inwards k (rows_of modes (xs ++ ys)) ≡ all_inwards k (rows_of modes xs) ++ all_inwards k (rows_of modes ys)
inwards-rows modes k [] ys = refl
inwards-rows modes k (x ∷ xs) ys =
    ap (λ rest. inwards k (row_of modes x) ++ rest) (inwards-rows modes k xs ys)
    ∙ sym (append_assoc (inwards k (row_of modes x)) (all_inwards k (rows_of modes xs)) (all_inwards k (rows_of modes ys)))

-- ---- one room

pub among-same : (modes : List Shape) (old new : List Row) (r s : Room) → r ≡ s → AreAmong modes old new s → AreAmong modes old new r
among-same modes old new r s e f = subst (AreAmong modes old new) (sym e) f

pub among-cell : (modes : List Shape) (rows : List Row) (r : Room) → r ≡ cell → AreAmong modes rows rows r
among-cell modes rows r e = among-same modes rows rows r cell e (record { each = λ k. sym (append-nil (all_inwards (suc k) (rows_of modes rows))) })

pub among-row : (modes : List Shape) (rows new : List Row) (x : Row) (r : Room) → new ≡ rows ++ x ∷ [] → r ≡ row_of modes x → AreAmong modes rows new r
among-row modes rows new x r e f =
    among-same modes rows new r (row_of modes x) f
    (record {
      each = λ k.
          ap (λ xs. all_inwards (suc k) (rows_of modes xs)) e ∙ inwards-rows modes (suc k) rows (x ∷ [])
          ∙ ap (λ xs. all_inwards (suc k) (rows_of modes rows) ++ xs) (append-nil (inwards (suc k) (row_of modes x)));
    })

pub among-several : (modes : List Shape) (old new : List Row) (r : Room) (rs : Rooms) → r ≡ several rs → AreFound modes old new rs → AreAmong modes old new r
among-several modes old new r rs e f = among-same modes old new r (several rs) e (record { each = f.each })

pub among-one : (modes : List Shape) (old new view : List Row) (r : Room) → old ≡ [] → view ≡ new → AreAmong modes old new r → AreAmong modes [] view r
among-one modes old new view r e f g = subst (λ xs. AreAmong modes [] xs r) (sym f) (subst (λ xs. AreAmong modes xs new r) e g)

pub found-one : (modes : List Shape) (old new : List Row) (r : Room) → AreAmong modes old new r → AreFound modes old new (r and_room no_rooms)
found-one modes old new r f = record { each = λ k. f.each k ∙ ap (λ xs. all_inwards (suc k) (rows_of modes old) ++ xs) (sym (append-nil (inwards (suc k) r))) }

-- ---- several rooms

-- what is left to find from here is what was left at the beginning
pub record IsLeft (modes : List Shape) (rows : List Row) (rest : Rooms) (start : List Row) (all : Rooms) : Type 0 where
  pub each : (k : ℕ) → all_inwards (suc k) (rows_of modes rows) ++ all_inwards (suc k) rest ≡ all_inwards (suc k) (rows_of modes start) ++ all_inwards (suc k) all

pub left-begin : (modes : List Shape) (rows : List Row) (all : Rooms) → IsLeft modes rows all rows all
left-begin modes rows all = record { each = λ k. refl }

pub left-on : (modes : List Shape) (rows new : List Row) (rest : Rooms) (r : Room) (rs : Rooms) (start : List Row) (all : Rooms) → rest ≡ r and_room rs → AreAmong modes rows new r
    → IsLeft modes rows rest start all → IsLeft modes new rs start all
left-on modes rows new rest r rs start all e f g =
    record {
      each = λ k.
          ap (λ xs. xs ++ all_inwards (suc k) rs) (f.each k) ∙ append_assoc (all_inwards (suc k) (rows_of modes rows)) (inwards (suc k) r) (all_inwards (suc k) rs)
          ∙ ap (λ xs. all_inwards (suc k) (rows_of modes rows) ++ all_inwards (suc k) xs) (sym e) ∙ g.each k;
    }

pub left-end : (modes : List Shape) (rows : List Row) (rest : Rooms) (start : List Row) (all : Rooms) → rest ≡ no_rooms → IsLeft modes rows rest start all → AreFound modes start rows all
left-end modes rows rest start all e g =
    record {
      each = λ k.
          sym (append-nil (all_inwards (suc k) (rows_of modes rows)))
          ∙ ap (λ xs. all_inwards (suc k) (rows_of modes rows) ++ all_inwards (suc k) xs) (sym e) ∙ g.each k;
    }

pub found-none : (modes : List Shape) (rows : List Row) (rs : Rooms) → rs ≡ no_rooms → AreFound modes rows rows rs
found-none modes rows rs e = left-end modes rows rs rows rs e (left-begin modes rows rs)

-- ---- elements that are alike

pub copies-more : (k : ℕ) (r : Room) → 0 < k → copies k r ≡ r and_room copies (k - 1) r
copies-more zero r some = absurd (omega arith)
copies-more (suc k) r some = ap (λ j. r and_room copies j r) (let one : k ≡ suc k - 1 = omega arith in one)

-- the rows among one, put behind others
pub among-append : (modes : List Shape) (one rows new : List Row) (r : Room) → new ≡ rows ++ one → AreAmong modes [] one r → AreAmong modes rows new r
among-append modes one rows new r e f =
    record {
      each = λ k.
          ap (λ xs. all_inwards (suc k) (rows_of modes xs)) e ∙ inwards-rows modes (suc k) rows one
          ∙ ap (λ xs. all_inwards (suc k) (rows_of modes rows) ++ xs) (f.each k);
    }

none-of : (k n : ℕ) (r : Room) → [] ≡ inwards (suc k) r → all_inwards (suc k) (copies n r) ≡ []
none-of k zero r e = refl
none-of k (suc n) r e = rw (← e, none-of k n r e) refl

-- one has none, so no other has
pub found-copies_none : (modes : List Shape) (one rows : List Row) (n : ℕ) (r : Room) → one ≡ [] → AreAmong modes [] one r → AreFound modes rows rows (copies n r)
found-copies_none modes one rows n r e f =
    record {
      each = λ k.
          let here : [] ≡ inwards (suc k) r = ap (λ xs. all_inwards (suc k) (rows_of modes xs)) (sym e) ∙ f.each k in
          sym (append-nil (all_inwards (suc k) (rows_of modes rows))) ∙ ap (λ xs. all_inwards (suc k) (rows_of modes rows) ++ xs) (sym (none-of k n r here));
    }

-- ---- the elements of rows

-- what is left to find among the elements of rows
pub record IsBelow (modes : List Shape) (next rest rows : List Row) : Type 0 where
  pub each : (k : ℕ) → all_inwards (suc k) (rows_of modes next) ++ all_inwards (suc (suc k)) (rows_of modes rest) ≡ all_inwards (suc (suc k)) (rows_of modes rows)

pub below-begin : (modes : List Shape) (next rows : List Row) → next ≡ [] → IsBelow modes next rows rows
below-begin modes next rows e = record { each = λ k. ap (λ xs. all_inwards (suc k) (rows_of modes xs) ++ all_inwards (suc (suc k)) (rows_of modes rows)) e }

pub below-on : (modes : List Shape) (next new rest rows : List Row) (x : Row) (xs : List Row) → rest ≡ x ∷ xs → AreBehind modes next new (row_of modes x)
    → IsBelow modes next rest rows → IsBelow modes new xs rows
below-on modes next new rest rows x xs e f g =
    record {
      each = λ k.
          ap (λ ys. ys ++ all_inwards (suc (suc k)) (rows_of modes xs)) (f.each k)
          ∙ append_assoc (all_inwards (suc k) (rows_of modes next)) (inwards (suc (suc k)) (row_of modes x)) (all_inwards (suc (suc k)) (rows_of modes xs))
          ∙ ap (λ ys. all_inwards (suc k) (rows_of modes next) ++ all_inwards (suc (suc k)) (rows_of modes ys)) (sym e) ∙ g.each k;
    }

pub below-end : (modes : List Shape) (next rest rows : List Row) → rest ≡ [] → IsBelow modes next rest rows → AreBelow modes rows next
below-end modes next rest rows e g =
    record {
      each = λ k.
          sym (append-nil (all_inwards (suc k) (rows_of modes next)))
          ∙ ap (λ ys. all_inwards (suc k) (rows_of modes next) ++ all_inwards (suc (suc k)) (rows_of modes ys)) (sym e) ∙ g.each k;
    }

-- seen otherwise
pub below-as : (modes : List Shape) (level view next : List Row) → view ≡ level → AreBelow modes view next → AreBelow modes level next
below-as modes level view next e f = subst (λ xs. AreBelow modes xs next) e f

-- ---- levels

pub room-zero : (n : ℕ) (modes : List Shape) (m : ℕ) (bs : List (ℤ × ℤ)) → n ≡ 0 → room_within n modes m bs ≡ cell
room-zero zero modes m bs e = refl
room-zero (suc n) modes m bs e = absurd (omega (arith, e))

pub room_for-zero : (n : ℕ) (modes : List Shape) (m : ℕ) (v : Content) → n ≡ 0 → room_for_within n modes m v ≡ cell
room_for-zero zero modes m v e = refl
room_for-zero (suc n) modes m v e = absurd (omega (arith, e))

pub at-first : (modes : List Shape) (rs : Rooms) (old level : List Row) → old ≡ [] → AreFound modes old level rs → AreAt modes 1 rs level
at-first modes rs old level e f =
    let bare : AreFound modes [] level rs = subst (λ xs. AreFound modes xs level rs) e f in
    record { each = λ k. bare.each k ∙ ap (λ n. all_inwards n rs) (let one : suc k ≡ 1 + k = omega arith in one) }

pub at-next : (modes : List Shape) (n : ℕ) (rs : Rooms) (level next : List Row) → AreBelow modes level next → AreAt modes n rs level → AreAt modes (n + 1) rs next
at-next modes n rs level next f g = record { each = λ k. f.each k ∙ g.each (suc k) ∙ ap (λ j. all_inwards j rs) (let same : n + suc k ≡ n + 1 + k = omega arith in same) }

-- the cells of the level
pub at-here : (modes : List Shape) (n : ℕ) (rs : Rooms) (level : List Row) → AreAt modes n rs level → all_inwards 1 (rows_of modes level) ≡ all_inwards n rs
at-here modes n rs level g = g.each 0 ∙ ap (λ j. all_inwards j rs) (let same : n + 0 ≡ n = omega arith in same)

-- where nothing stands among the cells of a room, nothing stands further inwards
none-further : (k : ℕ) (r : Room) → inwards 0 r ≡ [] → inwards k r ≡ []
none-further zero r e = e
none-further (suc k) r e = none-inwards k r (none-further k r e)

capped-level : (k e : ℕ) (r : Room) → e * length (inwards 0 r) ≤ most_cells → all_inwards k (copies (min (most_cells + 1) e) r) ≡ all_inwards k (copies e r)
capped-level k e r few =
    ⊎_elim (λ (big : most_cells < e).
    ⊎_elim (λ (gone : length (inwards 0 r) < 1).
    let none : inwards k r ≡ [] = none-further k r (nil_from_length (inwards 0 r) (omega arith)) in
    copies-none k (min (most_cells + 1) e) r none ∙ sym (copies-none k e r none))
    (λ (some : 1 ≤ length (inwards 0 r)). absurd (let long = mul-le e 1 e (length (inwards 0 r)) (omega arith) some in omega arith))
    (cases_lt (length (inwards 0 r)) 1))
    (λ (small : e ≤ most_cells). ap (λ n. all_inwards k (copies n r)) (let same : min (most_cells + 1) e ≡ e = omega arith in same))
    (cases_lt most_cells e)

pub behind-bounded : (modes : List Shape) (old new : List Row) (d dims count : ℕ) (bs : List (ℤ × ℤ)) (make : List (ℤ × ℤ) → Room) (width : ℕ) → d ≡ min dims (length bs)
    → count ≡ min (most_cells + 1) (elements_of (take d bs)) → length (inwards 1 (row_room make width (take dims bs) (drop dims bs))) ≤ most_cells
    → AreFound modes old new (copies count (make (take (length bs - d) (drop d bs)))) → AreBehind modes old new (row_room make width (take dims bs) (drop dims bs))
behind-bounded modes old new d dims count bs make width e f few g =
    let front : take d bs ≡ take dims bs = ap (λ k. take k bs) e ∙ take_min dims bs in
    let back : take (length bs - d) (drop d bs) ≡ drop dims bs = take_rest bs d ∙ ap (λ k. drop k bs) e ∙ drop_min dims bs in
    let all = elements_of (take dims bs) in
    let r = make (drop dims bs) in
    let one : count ≡ min (most_cells + 1) all = rw front at f in
    let fits : all * length (inwards 0 r) ≤ most_cells = omega (arith, few, length-copies 0 all r) in
    record {
      each = λ k.
          g.each k ∙ ap (λ xs. all_inwards (suc k) (rows_of modes old) ++ xs)
          (ap (λ x. all_inwards (suc k) (copies count (make x))) back ∙ ap (λ n. all_inwards (suc k) (copies n r)) one ∙ capped-level (suc k) all r fits);
    }

-- ---- the first of some rows, and those behind it

pub row-first : (rows : List Row) (i : ℕ) (x : Row) → i < length rows → x ≡ get_or rows i x → drop i rows ≡ x ∷ drop (i + 1) rows
row-first rows i x lt e = rw (drop_more rows i x lt) (ap (λ y. y ∷ drop (i + 1) rows) (sym e))

pub rows-more : (modes : List Shape) (rows : List Row) (i : ℕ) (x : Row) → i < length rows → x ≡ get_or rows i x
    → rows_of modes (drop i rows) ≡ row_of modes x and_room rows_of modes (drop (i + 1) rows)
rows-more modes rows i x lt e = ap (rows_of modes) (row-first rows i x lt e)
