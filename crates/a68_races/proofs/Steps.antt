-- Steps of the loops over clocks.
use Rattle.std.proofs.Common.{◌≡◌, ◌<◌, ◌≤◌, ◌++◌, ◌⊎◌, inl, inr, ℕ, zero, suc, max, Bool, true, false, List, [], ◌∷◌, length, get_or, set, nat_lt, nat_eq, if◌then◌else◌, refl, ap, sym, ◌∙◌, subst, arith}
use Rattle.std.proofs.lemmas.List.{get_or-set_same, get_or-set_other, get_or_past}
use Rattle.std.proofs.lemmas.Bool.Decides.{nat_tests}
use Rattle.std.specs.Prelude.{slice_index}
use Rattle.a68_races.specs.Clocks.{clock_at, IsLater, AreTold}

-- a default more at the end changes no element
pub pushed_default : {X : Type 0} (d : X) (xs : List X) (k : ℕ) → get_or (xs ++ d ∷ []) k d ≡ get_or xs k d
pushed_default d [] zero = refl
pushed_default d [] (suc k) = refl
pushed_default d (x ∷ xs) zero = refl
pushed_default d (x ∷ xs) (suc k) = pushed_default d xs k

pub pushed_zero : (xs : List ℕ) (k : ℕ) → slice_index (xs ++ 0 ∷ []) k ≡ slice_index xs k
pushed_zero xs k = pushed_default 0 xs k

pub pushed_clock : (xs : List (List ℕ)) (key : ℕ) → clock_at (xs ++ [] ∷ []) key ≡ clock_at xs key
pushed_clock xs key = pushed_default [] xs key

-- the first times are those of the later clock, the others as they were; there is room for all
pub record IsLaterUpTo (old other now : List ℕ) (n : ℕ) : Type 0 where
  pub long : length other ≤ length now
  pub done : (k : ℕ) → k < n → slice_index now k ≡ max (slice_index old k) (slice_index other k)
  pub left : (k : ℕ) → n ≤ k → slice_index now k ≡ slice_index old k

same_or_not : (a b : ℕ) → (a ≡ b) ⊎ (a ≡ b → ⊥)
same_or_not a b = elim (cases a b) [ inl e ↦ inl e | inr (inl l) ↦ inr (λ e. absurd (omega (arith, l, e))) | inr (inr m) ↦ inr (λ e. absurd (omega (arith, m, e))) ]
  where
    cases : (a b : ℕ) → (a ≡ b) ⊎ ((a < b) ⊎ (b < a))
    cases a b = grind arith

pub later_more : (old other now new : List ℕ) (n : ℕ) → n < length now → IsLaterUpTo old other now n
    → new ≡ set now n (max (slice_index now n) (slice_index other n)) → length new ≡ length now → IsLaterUpTo old other new (suc n)
later_more old other now new n low before is long = record {
  long = omega (arith, before.long, long);
  done = λ k h. elim (same_or_not k n) [
    | inl e ↦ subst (λ (j : ℕ). slice_index new j ≡ max (slice_index old j) (slice_index other j)) (sym e)
        (ap (λ (xs : List ℕ). slice_index xs n) is ∙ get_or-set_same now n (max (slice_index now n) (slice_index other n)) 0 low ∙ ap (λ (x : ℕ). max x (slice_index other n)) (before.left n (omega arith)))
    | inr ne ↦ ap (λ (xs : List ℕ). slice_index xs k) is ∙ get_or-set_other now n k (max (slice_index now n) (slice_index other n)) 0 ne ∙ before.done k (less k n h ne)
  ];
  left = λ k h. ap (λ (xs : List ℕ). slice_index xs k) is ∙ get_or-set_other now n k (max (slice_index now n) (slice_index other n)) 0 (λ e. absurd (omega (arith, h, e))) ∙ before.left k (omega (arith, h));
}
  where
    less : (k n : ℕ) → k < suc n → (k ≡ n → ⊥) → k < n
    less k n h ne = grind (arith, h, ne)

max_zero : (x : ℕ) → x ≡ max x 0
max_zero x = omega arith

pub later_all : (old other now : List ℕ) (n : ℕ) → length other ≤ n → IsLaterUpTo old other now n → IsLater old other now
later_all old other now n all before = λ k. elim (at k) [
  | inl h ↦ before.done k h
  | inr h ↦ before.left k h ∙ max_zero (slice_index old k) ∙ ap (λ (x : ℕ). max (slice_index old k) x) (sym (get_or_past other k 0 (omega (arith, all, h))))
]
  where
    at : (k : ℕ) → (k < n) ⊎ (n ≤ k)
    at k = grind arith

-- the clocks under the first keys are told, where they are marked, and no others
pub record AreToldUpTo (marked : List ℕ) (old : List (List ℕ)) (now : List ℕ) (new : List (List ℕ)) (n : ℕ) : Type 0 where
  pub done : (key k : ℕ) → key < n → slice_index (clock_at new key) k
      ≡ (if nat_lt 0 (slice_index marked key) then max (slice_index (clock_at old key) k) (slice_index now k) else slice_index (clock_at old key) k)
  pub left : (key k : ℕ) → n ≤ key → slice_index (clock_at new key) k ≡ slice_index (clock_at old key) k

less : (k n : ℕ) → k < suc n → (k ≡ n → ⊥) → k < n
less k n h ne = grind (arith, h, ne)

other_key : (a b : ℕ) → (a ≡ b → ⊥) → nat_eq a b ≡ false
other_key a b ne = grind (arith, nat_tests, ne)

same_key : (a : ℕ) → nat_eq a a ≡ true
same_key a = grind (arith, nat_tests)

is_marked : (m : ℕ) → 0 < m → nat_lt 0 m ≡ true
is_marked m h = grind (arith, nat_tests, h)

is_unmarked : (m : ℕ) → m ≡ 0 → nat_lt 0 m ≡ false
is_unmarked m h = grind (arith, nat_tests, h)

abbrev put : (marked : List ℕ) (old : List (List ℕ)) (now : List ℕ) (key k : ℕ) (b : Bool) → ℕ
put marked old now key k b = if b then max (slice_index (clock_at old key) k) (slice_index now k) else slice_index (clock_at old key) k

-- the clocks under further keys are told, where these are marked
pub told_next : (marked : List ℕ) (old : List (List ℕ)) (now : List ℕ) (s new : List (List ℕ)) (n : ℕ) → AreToldUpTo marked old now s n → 0 < slice_index marked n
    → AreTold (λ k. nat_eq k n) s now new → AreToldUpTo marked old now new (suc n)
told_next marked old now s new n h mark a =
    let stay : (key k : ℕ) → (key ≡ n → ⊥) → slice_index (clock_at new key) k ≡ slice_index (clock_at s key) k =
    λ key k ne. a key k ∙ ap (λ (b : Bool). put marked s now key k b) (other_key key n ne) in
    let here : (k : ℕ) → slice_index (clock_at new n) k ≡ put marked old now n k (nat_lt 0 (slice_index marked n)) =
    λ k. a n k ∙ ap (λ (b : Bool). put marked s now n k b) (same_key n) ∙ ap (λ (x : ℕ). max x (slice_index now k)) (h.left n k (omega arith))
    ∙ sym (ap (λ (b : Bool). put marked old now n k b) (is_marked (slice_index marked n) mark)) in
    record {
      done = λ key k low. elim (same_or_not key n) [
        | inl e ↦ subst (λ (x : ℕ). slice_index (clock_at new x) k ≡ put marked old now x k (nat_lt 0 (slice_index marked x))) (sym e) (here k)
        | inr ne ↦ stay key k ne ∙ h.done key k (less key n low ne)
      ];
      left = λ key k low. stay key k (λ e. absurd (omega (arith, low, e))) ∙ h.left key k (omega (arith, low));
    }

pub passed_next : (marked : List ℕ) (old : List (List ℕ)) (now : List ℕ) (s : List (List ℕ)) (n : ℕ) → AreToldUpTo marked old now s n → slice_index marked n ≡ 0 → AreToldUpTo marked old now s (suc n)
passed_next marked old now s n h none =
    let here : (k : ℕ) → slice_index (clock_at s n) k ≡ put marked old now n k (nat_lt 0 (slice_index marked n)) =
    λ k. h.left n k (omega arith) ∙ sym (ap (λ (b : Bool). put marked old now n k b) (is_unmarked (slice_index marked n) none)) in
    record {
      done = λ key k low. elim (same_or_not key n) [
        | inl e ↦ subst (λ (x : ℕ). slice_index (clock_at s x) k ≡ put marked old now x k (nat_lt 0 (slice_index marked x))) (sym e) (here k)
        | inr ne ↦ h.done key k (less key n low ne)
      ];
      left = λ key k low. h.left key k (omega (arith, low));
    }

pub told_all : (marked : List ℕ) (old : List (List ℕ)) (now : List ℕ) (s : List (List ℕ)) (n : ℕ) → length marked ≤ n → AreToldUpTo marked old now s n → AreTold (λ k. nat_lt 0 (slice_index marked k)) old now s
told_all marked old now s n all h = λ key k. elim (low_or_not key n) [
  | inl low ↦ h.done key k low
  | inr past ↦ h.left key k past ∙ sym (ap (λ (b : Bool). put marked old now key k b) (is_unmarked (slice_index marked key) (get_or_past marked key 0 (omega (arith, all, past)))))
]
  where
    low_or_not : (k n : ℕ) → (k < n) ⊎ (n ≤ k)
    low_or_not k n = grind arith
