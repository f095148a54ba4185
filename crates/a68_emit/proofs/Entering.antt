-- Instructions with the entrances of units in the place of their numbers.
use Rattle.std.proofs.Common.{◌≡◌, ◌<◌, ℕ, zero, suc, Bool, true, false, List, [], ◌∷◌, ◌++◌, length, refl, sym, ◌∙◌, ap, arith, Some, IsTrue, slice_get, nat_lt}
use Rattle.std.proofs.lemmas.Bool.{false≢true, ltb-true}
use Rattle.std.proofs.lemmas.Option.{same_Some}
use Rattle.std.specs.List.{list_all}
use Rattle.std.specs.Prelude.{map, slice_index_or, ◌&&◌}
use Rattle.std.specs.declared.option.Option.{Option}
use Rattle.a68_acts.specs.Operations.{Operation, constant, skip, nil, routine, tag, make, heap, bind, deref, store, apply, same, slice, display, vacuum, compose, select, unite, row_up, row_up_name, widen, drop, print, whole}
use Rattle.a68_builder.specs.Linking.{entrances_numbered, linked_does}
use Rattle.a68_emit.specs.Stretches.{AreEntrances, does_of}

-- no operation is a Fork
pub unlinked : (units : List ℕ) (op : Operation) (n : ℕ) → linked_does units (does_of op n) ≡ does_of op n
unlinked units (constant v) n = refl
unlinked units (skip mode) n = refl
unlinked units nil n = refl
unlinked units (routine text distance) n = refl
unlinked units (tag hops slot) n = refl
unlinked units (make mode bounds) n = refl
unlinked units (heap mode bounds) n = refl
unlinked units (bind slot) n = refl
unlinked units (deref mode) n = refl
unlinked units (store mode) n = refl
unlinked units (apply row) n = refl
unlinked units (same negated) n = refl
unlinked units (slice forms) n = refl
unlinked units (display count mode) n = refl
unlinked units (vacuum mode) n = refl
unlinked units (compose count) n = refl
unlinked units (select mode field) n = refl
unlinked units (unite mode) n = refl
unlinked units (row_up mode) n = refl
unlinked units (row_up_name mode) n = refl
unlinked units widen n = refl
unlinked units drop n = refl
unlinked units print n = refl
unlinked units whole n = refl

pub get-map : {X Y : Type 0} (f : X → Y) (xs : List X) (k : ℕ) (x : X) → slice_get xs k ≡ Some x → slice_get (map f xs) k ≡ Some (f x)
get-map f [] k x e = absurd (cc)
get-map f (y ∷ xs) zero x e = ap (λ z. Some (f z)) (same_Some y x e)
get-map f (y ∷ xs) (suc k) x e = get-map f xs k x e

pub map-behind : {X Y : Type 0} (f : X → Y) (xs ys : List X) → map f (xs ++ ys) ≡ map f xs ++ map f ys
map-behind f [] ys = refl
map-behind f (x ∷ xs) ys = ap (λ l. f x ∷ l) (map-behind f xs ys)

pub map-long : {X Y : Type 0} (f : X → Y) (xs : List X) → length (map f xs) ≡ length xs
map-long f [] = refl
map-long f (x ∷ xs) = ap (λ (n : ℕ). suc n) (map-long f xs)

-- ---- entrances by numbers

pub get-index : (units : List ℕ) (n : ℕ) → n < length units → slice_get units n ≡ Some (slice_index_or units n 0)
get-index [] n less = absurd (omega arith)
get-index (u ∷ units) zero less = refl
get-index (u ∷ units) (suc n) less = get-index units n (omega arith)

pub index-is : (units : List ℕ) (n e : ℕ) → slice_get units n ≡ Some e → slice_index_or units n 0 ≡ e
index-is [] n e p = absurd (cc)
index-is (u ∷ units) zero e p = same_Some u e p
index-is (u ∷ units) (suc n) e p = index-is units n e p

front : (x y : Bool) → IsTrue (x && y) → IsTrue x
front true y e = refl
front false y e = absurd (false≢true e)

rest : (x y : Bool) → IsTrue (x && y) → IsTrue y
rest true y e = e
rest false y e = absurd (false≢true e)

-- where there are units of these numbers, these are their entrances
pub are_entrances : (units numbers : List ℕ) → IsTrue (list_all (λ n. nat_lt n (length units)) numbers) → AreEntrances units numbers (entrances_numbered units numbers)
are_entrances units [] all = refl
are_entrances units (n ∷ numbers) all =
    let less = ltb-true n (length units) (front (nat_lt n (length units)) (list_all (λ n. nat_lt n (length units)) numbers) all) in
    let others = are_entrances units numbers (rest (nat_lt n (length units)) (list_all (λ n. nat_lt n (length units)) numbers) all) in
    ap (λ (o : Option ℕ). o ∷ map (λ n. slice_get units n) numbers) (get-index units n less)
    ∙ ap (λ (l : List (Option ℕ)). Some (slice_index_or units n 0) ∷ l) others

head-is : {x y : Option ℕ} {xs ys : List (Option ℕ)} → ◌≡◌ {A = List (Option ℕ)} (x ∷ xs) (y ∷ ys) → x ≡ y
head-is e = cc

tail-is : {x y : Option ℕ} {xs ys : List (Option ℕ)} → ◌≡◌ {A = List (Option ℕ)} (x ∷ xs) (y ∷ ys) → xs ≡ ys
tail-is e = cc

-- and no others are
pub entrances_are : (units numbers entrances : List ℕ) → AreEntrances units numbers entrances → entrances ≡ entrances_numbered units numbers
entrances_are units [] [] e = refl
entrances_are units [] (x ∷ xs) e = absurd (cc)
entrances_are units (n ∷ numbers) [] e = absurd (cc)
entrances_are units (n ∷ numbers) (x ∷ xs) e =
    ap (λ (z : ℕ). z ∷ xs) (sym (index-is units n x (head-is e)))
    ∙ ap (λ (l : List ℕ). slice_index_or units n 0 ∷ l) (entrances_are units numbers xs (tail-is e))

-- as many entrances as numbers
pub entrances_many : (units numbers entrances : List ℕ) → AreEntrances units numbers entrances → length entrances ≡ length numbers
entrances_many units [] [] e = refl
entrances_many units [] (x ∷ xs) e = absurd (cc)
entrances_many units (n ∷ numbers) [] e = absurd (cc)
entrances_many units (n ∷ numbers) (x ∷ xs) e = ap (λ (k : ℕ). suc k) (entrances_many units numbers xs (tail-is e))

-- the entrance of a unit
abbrev pub IsUnit : (units : List ℕ) (to : ℕ) → Type 0
IsUnit units to = (n : ℕ) × (slice_get units n ≡ Some to)

-- each of them is one
pub each_is_unit : (units numbers entrances : List ℕ) → AreEntrances units numbers entrances → (k to : ℕ) → slice_get entrances k ≡ Some to → IsUnit units to
each_is_unit units [] [] e k to is = absurd (cc)
each_is_unit units [] (x ∷ xs) e k to is = absurd (cc)
each_is_unit units (n ∷ numbers) [] e k to is = absurd (cc)
each_is_unit units (n ∷ numbers) (x ∷ xs) e zero to is = (n, head-is e ∙ is)
each_is_unit units (n ∷ numbers) (x ∷ xs) e (suc k) to is = each_is_unit units numbers xs (tail-is e) k to is
