-- Levels of cells.
use Rattle.std.proofs.Common.{◌≡◌, ℕ, zero, suc, ◌+◌, ◌-◌, ◌<◌, ◌≤◌, Bool, true, false, ◌||◌, nat_lt, List, [], ◌∷◌, ◌++◌, length, Ok, Err, refl, ap, sym, ◌∙◌, inl, inr, add-one, arith}
use Rattle.std.proofs.lemmas.Bool.{le-ltb, lt-ltb, or_from, or_left}
use Rattle.std.proofs.lemmas.List.{append-nil, append_assoc, length-append, nil_from_length}
use Rattle.a68_layout.specs.Making.{Makes}
use Rattle.a68_layout.specs.Rooms.{Room, Rooms, cell, row, several, no_rooms, ◌and_room◌, inwards, all_inwards, own_cells, reach, levels, is_far, cells_in}
use Rattle.a68_layout.specs.Wanting.{IsMade, IsTooMany}
use Rattle.a68_layout.specs.Widths.{most_cells}
use Rattle.a68_layout.specs.declared.types.LayoutStop.{LayoutStop}
use Rattle.a68_layout.specs.declared.types.LayoutStop.TheVariants.{Fault}
use Rattle.a68_layout.proofs.Made.{length-own_cells}
use Rattle.a68_modes.specs.declared.shape.Shape.{Shape}
use Rattle.a68_values.specs.declared.act.FaultKind.{FaultKind}
use Rattle.a68_values.specs.declared.act.FaultKind.TheVariants as fault
use Rattle.a68_values.specs.declared.held.Held.{Held}

-- how many cells so many levels have
abbrev pub sum_levels : (count rows : ℕ) → Rooms → ℕ
sum_levels zero n rs = 0
sum_levels (suc count) n rs = length (all_inwards n rs) + sum_levels count (suc n) rs

pub length-levels : (count n at : ℕ) (rs : Rooms) → length (levels count n at rs) ≡ sum_levels count n rs
length-levels zero n at rs = refl
length-levels (suc count) n at rs =
    let next = at + length (all_inwards n rs) in
    omega (
      arith,
      length-append (own_cells (at + length (all_inwards n rs)) (all_inwards n rs)) (levels count (suc n) (at + length (all_inwards n rs)) rs),
      length-own_cells (at + length (all_inwards n rs)) (all_inwards n rs),
      length-levels count (suc n) (at + length (all_inwards n rs)) rs,
    )

both-none : (xs ys : List Room) → xs ++ ys ≡ [] → (xs ≡ []) × (ys ≡ [])
both-none [] ys e = (refl, e)
both-none (x ∷ xs) ys e = absurd (cc)

none-both : (xs ys : List Room) → xs ≡ [] → ys ≡ [] → xs ++ ys ≡ []
none-both xs ys e f = rw (e, f) refl

-- where nothing stands so many rows inwards, nothing stands further inwards
mutual
  pub none-inwards : (n : ℕ) (r : Room) → inwards n r ≡ [] → inwards (suc n) r ≡ []
  none-inwards n (several parts) e = none-all n parts e
  none-inwards zero cell e = refl
  none-inwards zero (row b w es) e = absurd (cc)
  none-inwards (suc n) cell e = refl
  none-inwards (suc n) (row b w es) e = none-all n es e

  none-all : (n : ℕ) (rs : Rooms) → all_inwards n rs ≡ [] → all_inwards (suc n) rs ≡ []
  none-all n no_rooms e = refl
  none-all n (r and_room rs) e =
      let both = both-none (inwards n r) (all_inwards n rs) e in
      none-both (inwards (suc n) r) (all_inwards (suc n) rs) (none-inwards n r both.0) (none-all n rs both.1)

pub sum-none : (count n : ℕ) (rs : Rooms) → all_inwards n rs ≡ [] → sum_levels count n rs ≡ 0
sum-none zero n rs e = refl
sum-none (suc count) n rs e = omega (arith, ap length e, sum-none count (suc n) rs (none-all n rs e))

pub far-none : (count n at : ℕ) (rs : Rooms) → all_inwards n rs ≡ [] → at ≤ most_cells → is_far count n at rs ≡ false
far-none zero n at rs e few = refl
far-none (suc count) n at rs e few =
    let same : at + length (all_inwards n rs) ≡ at = omega (arith, ap length e) in
    rw (same, e) (or_from _ _ (le-ltb most_cells at few) (far-none count (suc n) at rs (none-all n rs e) few))

-- ---- from one level to the next

sum-level : (k n : ℕ) (rs : Rooms) → n < k → sum_levels (k - n) n rs ≡ length (all_inwards n rs) + sum_levels (k - (n + 1)) (n + 1) rs
sum-level k n rs lt =
    let more : k - n ≡ suc (k - (n + 1)) = omega arith in
    rw (more, add-one) refl

next-level : (k n at : ℕ) (rs : Rooms) → n < k
    → levels (k - n) n at rs ≡ own_cells (at + length (all_inwards n rs)) (all_inwards n rs) ++ levels (k - (n + 1)) (n + 1) (at + length (all_inwards n rs)) rs
next-level k n at rs lt =
    let more : k - n ≡ suc (k - (n + 1)) = omega arith in
    rw (more, add-one) refl

far-level : (k n at : ℕ) (rs : Rooms) → n < k
    → is_far (k - n) n at rs ≡ (nat_lt most_cells (reach (at + length (all_inwards n rs)) (all_inwards n rs)) || is_far (k - (n + 1)) (n + 1) (at + length (all_inwards n rs)) rs)
far-level k n at rs lt =
    let more : k - n ≡ suc (k - (n + 1)) = omega arith in
    rw (more, add-one) refl

-- ---- making

pub make-begin : (k : ℕ) (rs : Rooms) (cells : List Held) → cells ≡ [] → cells ++ levels (k - 0) 0 (length cells) rs ≡ levels k 0 0 rs
make-begin k rs cells e = let same : k - 0 ≡ k = omega arith in rw (e, same) refl

pub far-begin : (k : ℕ) (rs : Rooms) (cells : List Held) → cells ≡ [] → is_far (k - 0) 0 (length cells) rs ≡ is_far k 0 0 rs
far-begin k rs cells e = let same : k - 0 ≡ k = omega arith in rw (e, same) refl

pub far-now : (k n at next : ℕ) (rs : Rooms) → n < k → next ≡ at + length (all_inwards n rs) → most_cells < reach next (all_inwards n rs) → is_far (k - n) n at rs ≡ true
far-now k n at next rs lt e far =
    far-level k n at rs lt ∙ or_left _ _ (lt-ltb most_cells (reach (at + length (all_inwards n rs)) (all_inwards n rs)) (rw e at far))

pub make-more : (k n next : ℕ) (rs : Rooms) (cells cells' all : List Held) → n < k → next ≡ length cells + length (all_inwards n rs) → cells' ≡ cells ++ own_cells next (all_inwards n rs)
    → cells ++ levels (k - n) n (length cells) rs ≡ all → cells' ++ levels (k - (n + 1)) (n + 1) (length cells') rs ≡ all
make-more k n next rs cells cells' all lt e f g =
    let long : length cells' ≡ next =
    omega (arith, ap length f, length-append cells (own_cells next (all_inwards n rs)), length-own_cells next (all_inwards n rs)) in
    rw (long, f) (append_assoc cells (own_cells next (all_inwards n rs)) (levels (k - (n + 1)) (n + 1) next rs)
    ∙ ap (λ xs. cells ++ xs) (rw e (sym (next-level k n (length cells) rs lt))) ∙ g)

near-on : (t : Bool) (rest : Bool) → t ≡ false → rest ≡ (t || rest)
near-on t rest e = rw e refl

pub far-more : (k n next next' : ℕ) (rs : Rooms) (cells cells' : List Held) (far : Bool) → n < k → next ≡ length cells + length (all_inwards n rs)
    → Makes (Ok tt) cells next cells' next' (all_inwards n rs) → next ≤ most_cells → is_far (k - n) n (length cells) rs ≡ far
    → is_far (k - (n + 1)) (n + 1) (length cells') rs ≡ far
far-more k n next next' rs cells cells' far lt e m few f =
    let long : length cells' ≡ length cells + length (all_inwards n rs) =
    omega (arith, e, ap length m.0, length-append cells (own_cells next (all_inwards n rs)), length-own_cells next (all_inwards n rs)) in
    let near : reach (length cells + length (all_inwards n rs)) (all_inwards n rs) ≤ most_cells = rw (← e, ← m.1) (m.2 few) in
    rw long
    (near-on (nat_lt most_cells (reach (length cells + length (all_inwards n rs)) (all_inwards n rs))) _ (le-ltb most_cells _ near) ∙ sym (far-level k n (length cells) rs lt) ∙ f)

pub fault-met : (stop : LayoutStop) (k : FaultKind) (cells cells' : List Held) (next next' : ℕ) (xs : List Room) → stop ≡ Fault k → Makes (Err stop) cells next cells' next' xs
    → (k ≡ fault.Cells) × (most_cells < reach next xs)
fault-met stop k cells cells' next next' xs e m = rw e at m

-- ---- a level more

-- the levels that are made, with one more
pub made-more : (modes : List Shape) (n next next' : ℕ) (rs : Rooms) (cells cells' : List Held) → n < suc (length modes) → next ≡ length cells + length (all_inwards n rs) → next ≤ most_cells
    → Makes (Ok tt) cells next cells' next' (all_inwards n rs) → IsMade modes n rs cells → IsMade modes (n + 1) rs cells'
made-more modes n next next' rs cells cells' lt e few m is =
    record {
      there = make-more (suc (length modes)) n next rs cells cells' _ lt e m.0 is.there;
      far = far-more (suc (length modes)) n next next' rs cells cells' _ lt e m few is.far;
      few = omega (arith, few, e, ap length m.0, length-append cells (own_cells next (all_inwards n rs)), length-own_cells next (all_inwards n rs));
    }

pub made-begin : (modes : List Shape) (rs : Rooms) (cells : List Held) → cells ≡ [] → IsMade modes 0 rs cells
made-begin modes rs cells e =
    record {
      there = make-begin (suc (length modes)) rs cells e;
      far = far-begin (suc (length modes)) rs cells e;
      few = omega (arith, ap length e);
    }

levels-none : (k n at : ℕ) (rs : Rooms) → all_inwards n rs ≡ [] → levels k n at rs ≡ []
levels-none k n at rs e = nil_from_length (levels k n at rs) (omega (arith, length-levels k n at rs, sum-none k n rs e))

-- nothing stands further inwards
pub made-none : (modes : List Shape) (n : ℕ) (rs : Rooms) (cells : List Held) → length (all_inwards n rs) ≡ 0 → IsMade modes n rs cells
    → (cells ≡ cells_in modes rs) × (is_far (suc (length modes)) 0 0 rs ≡ false)
made-none modes n rs cells none is =
    let no : all_inwards n rs ≡ [] = nil_from_length (all_inwards n rs) none in (
      sym (append-nil cells) ∙ ap (λ xs. cells ++ xs) (sym (levels-none (suc (length modes) - n) n (length cells) rs no)) ∙ is.there,
      sym is.far ∙ far-none (suc (length modes) - n) n (length cells) rs no is.few,
    )

-- all levels are made
pub made-all : (modes : List Shape) (n : ℕ) (rs : Rooms) (cells : List Held) → suc (length modes) ≤ n → IsMade modes n rs cells → (cells ≡ cells_in modes rs) × (is_far (suc (length modes)) 0 0 rs ≡ false)
made-all modes n rs cells past is =
    let none : suc (length modes) - n ≡ 0 = omega arith in (
      sym (append-nil cells) ∙ ap (λ k. cells ++ levels k n (length cells) rs) (sym none) ∙ is.there,
      sym is.far ∙ ap (λ k. is_far k n (length cells) rs) none,
    )

-- a level has too many cells
pub made-many : (modes : List Shape) (n : ℕ) (rs : Rooms) (cells : List Held) → n < suc (length modes) → most_cells < length cells + length (all_inwards n rs) → IsMade modes n rs cells
    → IsTooMany modes rs fault.Cells
made-many modes n rs cells lt many is =
    let k = suc (length modes) in
    let long : most_cells < length (cells_in modes rs) =
    omega (arith, many, ap length is.there, length-append cells (levels (k - n) n (length cells) rs), length-levels (k - n) n (length cells) rs, sum-level k n rs lt) in
    (refl, inr long)

-- elements of rows of a level would lie too far
pub made-far : (modes : List Shape) (n next : ℕ) (rs : Rooms) (cells cells' : List Held) (next' : ℕ) (stop : LayoutStop) (kind : FaultKind) → n < suc (length modes)
    → next ≡ length cells + length (all_inwards n rs) → stop ≡ Fault kind → Makes (Err stop) cells next cells' next' (all_inwards n rs) → IsMade modes n rs cells → IsTooMany modes rs kind
made-far modes n next rs cells cells' next' stop kind lt e same m is =
    let met = fault-met stop kind cells cells' next next' (all_inwards n rs) same m in
    (met.0, inl (sym is.far ∙ far-now (suc (length modes)) n (length cells) next rs lt e met.1))
