-- The rows on the way back along a path of rowings.
use Rattle.std.proofs.Common.{◌≡◌, ◌⊎◌, inl, inr, ◌+◌, ◌-◌, ◌<◌, ◌≤◌, ℕ, zero, suc, Bool, true, false, List, [], ◌∷◌, length, drop, get_or, refl, sym, ◌∙◌, ap, subst, arith, None, Some}
use Rattle.std.proofs.lemmas.Bool.{cases_eq, cases_lt, false≢true, ne_eqb}
use Rattle.std.proofs.lemmas.Bool.Decides.{nat_tests}
use Rattle.std.proofs.lemmas.List.{drop_all, drop_more, length-drop}
use Rattle.std.proofs.lemmas.Option.{same_Some}
use Rattle.std.specs.Option.{option_and_then}
use Rattle.std.specs.Prelude.{if◌then◌else◌, nat_eq, IfSome}
use Rattle.std.specs.declared.option.Option.{Option}
use Rattle.a68_elab.specs.Made.{found_from, is_row_of, rowed_to, unrowed, unrowed_by}
use Rattle.a68_modes.specs.Nodes.{shape_at}
use Rattle.a68_modes.specs.declared.coercion.Coercion.{Coercion}
use Rattle.a68_modes.specs.declared.coercion.Coercion.TheVariants.{Deproc, Deref, Drop, RowUp, RowUpName, Unite, Widen}
use Rattle.a68_modes.specs.declared.shape.Shape.{Shape}
use Rattle.a68_modes.specs.declared.shape.Shape.TheVariants.{Rows}
use Rattle.a68_parts.specs.Rowing.{AreInOrder, AreRowings, IsRows, before, row_behind, stands}

-- ---- the first of some modes

-- a mode is found, so many behind the place where the search begins
pub record Finds (is : Shape → Bool) (modes : List Shape) (at : ℕ) (o : Option ℕ) : Type 0 where
  pub place : ℕ
  pub inside : place < length modes
  pub found : o ≡ Some (at + place)
  pub holds : is (shape_at modes place) ≡ true

module _ (is : Shape → Bool) where
  here : (s : Shape) (modes : List Shape) (at : ℕ) → is s ≡ true → Finds is (s ∷ modes) at (found_from at is (s ∷ modes))
  here s modes at e =
      let none : at ≡ at + 0 = omega arith in
      record {
        place = 0;
        inside = omega arith;
        found = ap (λ (b : Bool). if b then Some at else found_from (suc at) is modes) e ∙ ap (λ (n : ℕ). Some n) none;
        holds = e;
      }

  further_on : (s : Shape) (modes : List Shape) (at : ℕ) → is s ≡ false → Finds is modes (suc at) (found_from (suc at) is modes) → Finds is (s ∷ modes) at (found_from at is (s ∷ modes))
  further_on s modes at e f =
      let more : suc at + f.place ≡ at + suc f.place = omega arith in
      record {
        place = suc f.place;
        inside = omega (arith, f.inside);
        found = ap (λ (b : Bool). if b then Some at else found_from (suc at) is modes) e ∙ f.found ∙ ap (λ (n : ℕ). Some n) more;
        holds = f.holds;
      }

  -- where one is there, one is found
  pub there_found : (modes : List Shape) (at k : ℕ) → k < length modes → is (shape_at modes k) ≡ true → Finds is modes at (found_from at is modes)
  there_found [] at k less e = absurd (omega arith)
  there_found (s ∷ modes) at k less e = go (λ j inside f. there_found modes (suc at) j inside f) (is s) refl k less e
    where
      go : ((j : ℕ) → j < length modes → is (shape_at modes j) ≡ true → Finds is modes (suc at) (found_from (suc at) is modes)) → (b : Bool) → is s ≡ b → (k : ℕ) → k < length (s ∷ modes)
          → is (shape_at (s ∷ modes) k) ≡ true → Finds is (s ∷ modes) at (found_from at is (s ∷ modes))
      go rest true f k less e = here s modes at f
      go rest false f zero less e = absurd (false≢true (sym f ∙ e))
      go rest false f (suc k) less e = further_on s modes at f (rest k (omega (arith, less)) e)

  -- one that is found is there
  pub found_there : (modes : List Shape) (at m : ℕ) → found_from at is modes ≡ Some m → Finds is modes at (Some m)
  found_there [] at m e = absurd (grind (arith, e))
  found_there (s ∷ modes) at m e = go (λ f. found_there modes (suc at) m f) (is s) refl
    where
      go : (found_from (suc at) is modes ≡ Some m → Finds is modes (suc at) (Some m)) → (b : Bool) → is s ≡ b → Finds is (s ∷ modes) at (Some m)
      go rest true f = subst (λ (o : Option ℕ). Finds is (s ∷ modes) at o) e (here s modes at f)
      go rest false f =
          let on : found_from (suc at) is modes ≡ Some m = sym (ap (λ (b : Bool). if b then Some at else found_from (suc at) is modes) f) ∙ e in
          subst (λ (o : Option ℕ). Finds is (s ∷ modes) at o) e (further_on s modes at f (subst (λ (o : Option ℕ). Finds is modes (suc at) o) (sym on) (rest on)))

-- ---- rows

row_is : (dims of : ℕ) (s : Shape) → is_row_of dims of s ≡ true → IsRows dims of s
row_is dims of (Rows n false m) e = (grind (arith, nat_tests, e), grind (arith, nat_tests, e))
row_is dims of _ e = absurd (false≢true e)

-- a row of two dimensions or more is that with one fewer, rowed
unrowed_row : (modes : List Shape) (dims of : ℕ) (s : Shape) → 2 ≤ dims → IsRows dims of s → unrowed_by modes s ≡ found_from 0 (is_row_of (dims - 1) of) modes
unrowed_row modes dims of (Rows zero flex m) two p = absurd (omega (arith, two, p.0))
unrowed_row modes dims of (Rows (suc zero) flex m) two p = absurd (omega (arith, two, p.0))
unrowed_row modes dims of (Rows (suc (suc n)) flex m) two p =
    let fewer : suc n ≡ dims - 1 = omega (arith, p.0) in
    ap (λ (k : ℕ). found_from 0 (is_row_of k m) modes) fewer ∙ ap (λ (k : ℕ). found_from 0 (is_row_of (dims - 1) k) modes) p.1
unrowed_row modes dims of _ two p = absurd p

-- there is a mode, which is a row
pub record RowAt (modes : List Shape) (o : Option ℕ) (dims of : ℕ) : Type 0 where
  pub mode : ℕ
  pub is : o ≡ Some mode
  pub row : IsRows dims of (shape_at modes mode)

-- the goal, or behind some rowings the first row of so many dimensions without FLEX
abbrev pub first_row : List Shape → (goal of count dims : ℕ) → Option ℕ
first_row modes goal of count dims = if nat_eq count 0 then Some goal else found_from 0 (is_row_of dims of) modes

-- so many rowings lead from a mode: at first the goal, then the first row with as many dimensions fewer
pub record Reaches (modes : List Shape) (goal : ℕ) (path : List Coercion) (dims of count left : ℕ) : Type 0 where
  pub sum : left + count ≡ dims
  pub at : RowAt modes (rowed_to modes goal (drop (length path - count) path)) left of
  pub first : first_row modes goal of count left ≡ rowed_to modes goal (drop (length path - count) path)

pub none_yet : (modes : List Shape) (goal : ℕ) (path : List Coercion) (dims of : ℕ) → IsRows dims of (shape_at modes goal) → Reaches modes goal path dims of 0 dims
none_yet modes goal path dims of row =
    let nothing : drop (length path - 0) path ≡ [] = drop_all (length path - 0) path (omega arith) in
    record {
      sum = omega arith;
      at = record { mode = goal; is = ap (λ (p : List Coercion). rowed_to modes goal p) nothing; row = row };
      first = sym (ap (λ (p : List Coercion). rowed_to modes goal p) nothing);
    }

pub one_more : (modes : List Shape) (goal : ℕ) (path : List Coercion) (dims of count left k : ℕ) (d : Coercion) → count < length path → get_or path (length path - 1 - count) d ≡ RowUp
    → 2 ≤ left → k < length modes → is_row_of (left - 1) of (shape_at modes k) ≡ true → Reaches modes goal path dims of count left
    → Reaches modes goal path dims of (count + 1) (left - 1)
one_more modes goal path dims of count left k d less up two inside holds r =
    let i = length path - 1 - count in
    let here : length path - (count + 1) ≡ i = omega arith in
    let next : i + 1 ≡ length path - count = omega (arith, less) in
    let split : drop (length path - (count + 1)) path ≡ RowUp ∷ drop (length path - count) path =
    ap (λ (n : ℕ). drop n path) here ∙ drop_more path i d (omega (arith, less)) ∙ ap (λ (c : Coercion). c ∷ drop (i + 1) path) up
    ∙ ap (λ (n : ℕ). RowUp ∷ drop n path) next in
    let back : rowed_to modes goal (drop (length path - (count + 1)) path) ≡ found_from 0 (is_row_of (left - 1) of) modes =
    ap (λ (p : List Coercion). rowed_to modes goal p) split ∙ ap (λ (o : Option ℕ). option_and_then (unrowed modes) o) r.at.is
    ∙ unrowed_row modes left of (shape_at modes r.at.mode) two r.at.row in
    let f = there_found (is_row_of (left - 1) of) modes 0 k inside holds in
    let none : 0 + f.place ≡ f.place = omega arith in
    record {
      sum = omega (arith, r.sum, two);
      at = record { mode = f.place; is = back ∙ f.found ∙ ap (λ (n : ℕ). Some n) none; row = row_is (left - 1) of (shape_at modes f.place) f.holds };
      first = some_first count ∙ sym back;
    }
  where
    some_first : (count : ℕ) → first_row modes goal of (count + 1) (left - 1) ≡ found_from 0 (is_row_of (left - 1) of) modes
    some_first count = ap (λ (b : Bool). if b then Some goal else found_from 0 (is_row_of (left - 1) of) modes) (ne_eqb (count + 1) 0 (λ e. absurd (omega (arith, e))))

-- what `near` finds among all modes
near_found : (modes : List Shape) (dims of m : ℕ) → found_from 0 (is_row_of dims of) modes ≡ Some m → (m < length modes) × (is_row_of dims of (shape_at modes m) ≡ true)
near_found modes dims of m e =
    let f = found_there (is_row_of dims of) modes 0 m e in
    let none : 0 + f.place ≡ f.place = omega arith in
    let same : m ≡ f.place = same_Some m (0 + f.place) f.found ∙ none in
    (omega (arith, f.inside, same), ap (λ (k : ℕ). is_row_of dims of (shape_at modes k)) same ∙ f.holds)

pub near_is : (modes : List Shape) (dims of : ℕ) (o : Option ℕ) → o ≡ found_from 0 (is_row_of dims of) modes
    → IfSome o (λ m. (m < length modes) × (is_row_of dims of (shape_at modes m) ≡ true))
near_is modes dims of None e = tt
near_is modes dims of (Some m) e = near_found modes dims of m (sym e)

-- ---- all last rowings that are known

-- so many rowings lead from modes that are there, and so do fewer
abbrev pub AllReach : List Shape → (goal : ℕ) → List Coercion → (dims of count : ℕ) → Type 0
AllReach modes goal path dims of count = (k : ℕ) → k ≤ count → Reaches modes goal path dims of k (dims - k)

pub all_none_yet : (modes : List Shape) (goal : ℕ) (path : List Coercion) (dims of : ℕ) → IsRows dims of (shape_at modes goal) → AllReach modes goal path dims of 0
all_none_yet modes goal path dims of row = λ k less.
    let none : k ≡ 0 = omega (arith, less) in
    let same : dims - k ≡ dims = omega (arith, none) in
    rw (same, none) (none_yet modes goal path dims of row)

pub all_more : (modes : List Shape) (goal : ℕ) (path : List Coercion) (dims of count : ℕ) → AllReach modes goal path dims of count → Reaches modes goal path dims of (count + 1) (dims - (count + 1))
    → AllReach modes goal path dims of (count + 1)
all_more modes goal path dims of count all one = λ k less. go k less (cases_eq k (count + 1))
  where
    go : (k : ℕ) → k ≤ count + 1 → (k ≡ count + 1) ⊎ (k ≡ count + 1 → ⊥) → Reaches modes goal path dims of k (dims - k)
    go k less (inl e) = subst (λ (n : ℕ). Reaches modes goal path dims of n (dims - n)) (sym e) one
    go k less (inr ne) = all k (omega (arith, less, ne))

-- the place before so many coercions as are left behind a place is that place, as far as there are any
same_place : (at : ℕ) (path : List Coercion) → drop (length path - length (drop at path)) path ≡ drop at path
same_place at path = go (cases_lt at (length path))
  where
    go : (at < length path) ⊎ (length path ≤ at) → drop (length path - length (drop at path)) path ≡ drop at path
    go (inl less) = let long = length-drop at path in let back : length path - length (drop at path) ≡ at = omega (arith, long, less) in ap (λ (n : ℕ). drop n path) back
    go (inr past) = let long = length-drop at path in drop_all (length path - length (drop at path)) path (omega (arith, long, past)) ∙ sym (drop_all at path past)

-- ---- rows that stand in order

-- where a row stands
stood : (dims of fewer mode n : ℕ) (s : Shape) → stands dims of fewer mode s ≡ true → n < dims → is_row_of n of s ≡ true → (mode ≤ fewer) × (fewer - mode ≡ dims - 1 - n)
stood dims of fewer mode n (Rows k false m) e less is =
    let row = row_is n of (Rows k false m) is in
    (grind (arith, nat_tests, e, less, row.0, row.1), grind (arith, nat_tests, e, less, row.0, row.1))
stood dims of fewer mode n _ e less is = absurd (false≢true is)

module _ (modes : List Shape) (goal : ℕ) (path : List Coercion) (dims of : ℕ) where
  -- the first row is the one in its place
  in_place : (f n m : ℕ) → AreInOrder modes dims of f → 0 < n → n ≤ dims → found_from 0 (is_row_of (dims - n) of) modes ≡ Some m → Some m ≡ Some (f - (n - 1))
  in_place f n m order some within e =
      let there = near_found modes (dims - n) of m e in
      let place = stood dims of f m (dims - n) (shape_at modes m) (order m there.0) (omega (arith, some, within)) there.1 in
      let same : m ≡ f - (n - 1) = omega (arith, place.0, place.1, some, within) in
      ap (λ (k : ℕ). Some k) same

  -- what is told of so many rowings
  told : (count n : ℕ) (fewer : Option ℕ) → IfSome fewer (AreInOrder modes dims of) → Reaches modes goal path dims of n (dims - n)
      → rowed_to modes goal (drop (length path - n) path) ≡ row_behind modes goal (record { count = count; dims = dims; of = of; fewer = fewer }) n
  told count n None order r = sym r.first
  told count n (Some f) order r = go (cases_eq n 0)
    where
      go : (n ≡ 0) ⊎ (n ≡ 0 → ⊥) → rowed_to modes goal (drop (length path - n) path) ≡ (if nat_eq n 0 then Some goal else Some (f - (n - 1)))
      go (inl e) =
          let zero_is : nat_eq n 0 ≡ true = grind (arith, nat_tests, e) in
          sym r.first ∙ ap (λ (b : Bool). if b then Some goal else found_from 0 (is_row_of (dims - n) of) modes) zero_is ∙ sym (ap (λ (b : Bool). if b then Some goal else Some (f - (n - 1))) zero_is)
      go (inr ne) =
          let some_is : nat_eq n 0 ≡ false = ne_eqb n 0 ne in
          let first : found_from 0 (is_row_of (dims - n) of) modes ≡ rowed_to modes goal (drop (length path - n) path) =
          sym (ap (λ (b : Bool). if b then Some goal else found_from 0 (is_row_of (dims - n) of) modes) some_is) ∙ r.first in
          r.at.is ∙ in_place f n r.at.mode order (omega (arith, ne)) (omega (arith, r.sum)) (first ∙ r.at.is)
          ∙ sym (ap (λ (b : Bool). if b then Some goal else Some (f - (n - 1))) some_is)

-- what they tell at each place of the path
pub all_tell : (modes : List Shape) (goal : ℕ) (path : List Coercion) (dims of count : ℕ) → count ≤ length path → AllReach modes goal path dims of count
    → (fewer : Option ℕ) → IfSome fewer (AreInOrder modes dims of) → AreRowings modes goal path (record { count = count; dims = dims; of = of; fewer = fewer })
all_tell modes goal path dims of count within all fewer order = λ at less.
    let n = length (drop at path) in
    let same : drop (length path - n) path ≡ drop at path = same_place at path in
    ap (λ (p : List Coercion). rowed_to modes goal p) (sym same) ∙ told modes goal path dims of count n fewer order (all n less)

-- ---- one coercion before others

before_is : (modes : List Shape) (goal : ℕ) (path : List Coercion) (c : Coercion) → before modes (rowed_to modes goal path) c ≡ rowed_to modes goal (c ∷ path)
before_is modes goal path Deref = refl
before_is modes goal path Deproc = refl
before_is modes goal path (Unite m) = refl
before_is modes goal path Widen = refl
before_is modes goal path RowUp = refl
before_is modes goal path RowUpName = refl
before_is modes goal path Drop = refl

-- one more is looked at, from the end of a path
pub back_one : (modes : List Shape) (goal : ℕ) (path : List Coercion) (behind : ℕ) (d : Coercion) → behind < length path
    → before modes (rowed_to modes goal (drop (length path - behind) path)) (get_or path (length path - 1 - behind) d) ≡ rowed_to modes goal (drop (length path - (behind + 1)) path)
back_one modes goal path behind d less =
    let i = length path - 1 - behind in
    let here : length path - (behind + 1) ≡ i = omega arith in
    let next : i + 1 ≡ length path - behind = omega (arith, less) in
    let split : drop (length path - (behind + 1)) path ≡ get_or path i d ∷ drop (length path - behind) path =
    ap (λ (n : ℕ). drop n path) here ∙ drop_more path i d (omega (arith, less)) ∙ ap (λ (n : ℕ). get_or path i d ∷ drop n path) next in
    before_is modes goal (drop (length path - behind) path) (get_or path i d) ∙ sym (ap (λ (p : List Coercion). rowed_to modes goal p) split)
