-- Numbers that are held at cells, in order.
use Rattle.std.proofs.Common.{◌≡◌, ◌∙◌, ◌<◌, ◌≤◌, ◌+◌, ℕ, Bool, true, false, List, [], ◌∷◌, refl, ap, sym, subst, arith, true≢false}
use Rattle.std.proofs.lemmas.Bool.Decides.{nat_tests}
use Rattle.a68_marks.specs.Marked.{MarksLess, is_marked}
use Rattle.std.specs.Prelude.{◌==◌, if◌then◌else◌, Ok, Err, IfSome, OnOk, OnErr, cond, slice_get}
use Rattle.std.specs.List.{list_any}
use Rattle.std.specs.declared.result.Result.{Result}
use Rattle.std.specs.BTreeMap.{is_at}
use Rattle.std.specs.BTreeSet.{BTreeSet, IsKeyInRange, IsKeyRangeOf, IsUnchanged, Updates, UpdatesBy}
use Rattle.std.specs.declared.ops.Bound.TheVariants.{Included, Excluded}
use Rattle.std.specs.declared.cmp.Ordering.TheVariants.{Less}
use Rattle.std.specs.Ordering.{is_gt}
use Rattle.a68_rests.specs.Waiting.{has, waiter_cmp}
use Rattle.a68_rests.specs.declared.waiters.Waiter.{Waiter}

abbrev key : (cell n : ℕ) → Waiter
key cell n = record { cell = cell; number = n }

le-in : (c j k : ℕ) → j ≤ k → is_gt (waiter_cmp (key c j) (key c k)) ≡ false
le-in c j k h = grind (arith, nat_tests, h)

lt-in : (c j k : ℕ) → j < k → waiter_cmp (key c j) (key c k) ≡ Less
lt-in c j k h = grind (arith, nat_tests, h)

lt-next : (c j : ℕ) → waiter_cmp (key c j) (key (c + 1) 0) ≡ Less
lt-next c j = grind (arith, nat_tests)

cell-low : (a b : Waiter) → is_gt (waiter_cmp a b) ≡ false → a.cell ≤ b.cell
cell-low a b h = grind (arith, nat_tests, h)

cell-high : (a b : Waiter) → waiter_cmp a b ≡ Less → a.cell ≤ b.cell
cell-high a b h = grind (arith, nat_tests, h)

number-low : (a b : Waiter) → is_gt (waiter_cmp a b) ≡ false → a.cell ≡ b.cell → a.number ≤ b.number
number-low a b h e = grind (arith, nat_tests, h, e)

number-high : (a b : Waiter) → waiter_cmp a b ≡ Less → a.cell ≡ b.cell → a.number < b.number
number-high a b h e = grind (arith, nat_tests, h, e)

-- below the first number of a cell stand those of the cells before it
next-high : (a b : Waiter) → waiter_cmp a b ≡ Less → b.number ≡ 0 → a.cell < b.cell
next-high a b h e = grind (arith, nat_tests, h, e)

not-at : (c n d k : ℕ) → (k ≡ n → ⊥) → is_at (waiter_cmp (key c n)) (key d k) ≡ false
not-at c n d k ne = grind (arith, nat_tests, ne)

module _ (set : BTreeSet Waiter) (c from to : ℕ) (r : List Waiter) (t : IsKeyRangeOf waiter_cmp (Included (key c from)) (Excluded (key c to)) set r) where
  -- none is in a part of the set that has no key
  pub none_in : r ≡ [] → (k : ℕ) → from ≤ k → k < to → has set c k ≡ false
  none_in e k low high = t.5 e (key c k) (le-in c from k low, lt-in c k to high)

  -- and below the first key of such a part none is
  pub first_in : (h : Waiter) (rest : List Waiter) → r ≡ h ∷ rest → (from ≤ h.number) × (h.number < to) × ((k : ℕ) → from ≤ k → k < h.number → has set c k ≡ false)
  first_in h rest e = (number-low (key c from) h within.0.0 (sym cell), number-high h (key c to) within.0.1 cell, λ k low high. by k low high (has set c k) refl)
    where
      within : IsKeyInRange waiter_cmp (Included (key c from)) (Excluded (key c to)) set h
      within = subst (λ (l : List Waiter). IfSome (slice_get l 0) (IsKeyInRange waiter_cmp (Included (key c from)) (Excluded (key c to)) set)) e t.1

      cell : h.cell ≡ c
      cell = let low = cell-low (key c from) h within.0.0 in let high = cell-high h (key c to) within.0.1 in omega (arith, low, high)

      by : (k : ℕ) → from ≤ k → k < h.number → (b : Bool) → has set c k ≡ b → b ≡ false
      by k low high false is = refl
      by k low high true is =
          let below = number-high h (key c to) within.0.1 cell in
          let least : is_gt (waiter_cmp h (key c k)) ≡ false =
          subst (λ (l : List Waiter). IfSome (slice_get l 0) (λ (x : Waiter). is_gt (waiter_cmp x (key c k)) ≡ false)) e (t.2 (key c k) (le-in c from k low, lt-in c k to (omega (arith, high, below))) is) in
          let most = number-low h (key c k) least cell in
          absurd (omega (arith, most, high))

-- none is held at a cell at which none is in the part of the set between it and the next cell
pub none_held : (set : BTreeSet Waiter) (c : ℕ) (r : List Waiter) → IsKeyRangeOf waiter_cmp (Included (key c 0)) (Excluded (key (c + 1) 0)) set r → r ≡ [] → (k : ℕ) → has set c k ≡ false
none_held set c r t e k = t.5 e (key c k) (le-in c 0 k (omega arith), lt-next c k)

-- the first one of such a part is held at the cell
pub one_held : (set : BTreeSet Waiter) (c : ℕ) (r rest : List Waiter) (h : Waiter) → IsKeyRangeOf waiter_cmp (Included (key c 0)) (Excluded (key (c + 1) 0)) set r → r ≡ h ∷ rest → has set c h.number ≡ true
one_held set c r rest h t e =
    let within : IsKeyInRange waiter_cmp (Included (key c 0)) (Excluded (key (c + 1) 0)) set h =
    subst (λ (l : List Waiter). IfSome (slice_get l 0) (IsKeyInRange waiter_cmp (Included (key c 0)) (Excluded (key (c + 1) 0)) set)) e t.1 in
    let low = cell-low (key c 0) h within.0.0 in
    let high = next-high h (key (c + 1) 0) within.0.1 refl in
    let same : h.cell ≡ c = omega (arith, low, high) in
    subst (λ k. has set k h.number ≡ true) same within.1

-- one more is held
pub kept_put : {E : Type 0} (old new : BTreeSet Waiter) (w : Waiter) (done : Result Bool E) → OnOk done (Updates waiter_cmp old new w true) → OnErr done (IsUnchanged old new) → (c k : ℕ) → has old c k ≡ true → has new c k ≡ true
kept_put old new w (Ok added) updates same c k h = updates.0 (key c k) ∙ ap (λ b. cond (is_at (waiter_cmp w) (key c k)) true b) h ∙ either (is_at (waiter_cmp w) (key c k))
  where
    either : (b : Bool) → cond b true true ≡ true
    either true = refl
    either false = refl
kept_put old new w (Err error) updates same c k h = ap (λ (l : List Waiter). list_any (is_at (waiter_cmp (key c k))) l) same ∙ h

-- one is held no more
pub kept_out : (old new : BTreeSet Waiter) (c n : ℕ) → UpdatesBy waiter_cmp (waiter_cmp (key c n)) old new false → (d k : ℕ) → has old d k ≡ true → (k ≡ n → ⊥) → has new d k ≡ true
kept_out old new c n updates d k h ne = updates.2 (key d k) (not-at c n d k ne) ∙ h

pub freed_more : (cell : ℕ) (marks left more : List ℕ) (old set new : BTreeSet Waiter) (n : ℕ)
    → ((k : ℕ) → is_marked left k ≡ true → is_marked marks k ≡ true) × ((k c : ℕ) → is_marked left k ≡ true → has old c k ≡ true → has set c k ≡ true)
    → MarksLess left n more → ((c k : ℕ) → has set c k ≡ true → (k ≡ n → ⊥) → has new c k ≡ true)
    → ((k : ℕ) → is_marked more k ≡ true → is_marked marks k ≡ true) × ((k c : ℕ) → is_marked more k ≡ true → has old c k ≡ true → has new c k ≡ true)
freed_more cell marks left more old set new n was less kept = (λ k m. was.0 k (before k m).0, λ k c m h. kept c k (was.1 k c (before k m).0 h) (before k m).1)
  where
    by : (k : ℕ) (b : Bool) → (k == n) ≡ b → is_marked more k ≡ true → (is_marked left k ≡ true) × (k ≡ n → ⊥)
    by k true e m = absurd (true≢false (sym m ∙ less k ∙ ap (λ t. if t then false else is_marked left k) e))
    by k false e m = (sym (less k ∙ ap (λ t. if t then false else is_marked left k) e) ∙ m, λ same. absurd (grind (arith, nat_tests, e, same)))

    before : (k : ℕ) → is_marked more k ≡ true → (is_marked left k ≡ true) × (k ≡ n → ⊥)
    before k m = by k (k == n) refl m
