-- Inner: the headline does not rest on this file.
-- Numbers that are held at cells.
use Rattle.std.specs.Prelude.{◌≡◌, ℕ, Bool, true, false, List}
use Rattle.std.specs.BTreeSet.{BTreeSet, contains}
use Rattle.std.specs.Ordering.{nat_cmp, on, then_cmp}
use Rattle.std.specs.declared.cmp.Ordering.{Ordering}
use Rattle.a68_marks.specs.Marked.{is_marked}
use Rattle.a68_rests.specs.declared.waiters.Waiter.{Waiter}

-- by cells, and then by numbers
abbrev pub waiter_cmp : Waiter → Waiter → Ordering
waiter_cmp = then_cmp (on (λ (w : Waiter). w.cell) nat_cmp) (on (λ (w : Waiter). w.number) nat_cmp)

-- whether the number is held at the cell
abbrev pub has : BTreeSet Waiter → (cell n : ℕ) → Bool
has set cell n = contains waiter_cmp set (record { cell = cell; number = n })

-- none is held at this cell; no more are marked than were, and those that are stay held where they were
pub record IsFreed (cell : ℕ) (marks : List ℕ) (old : BTreeSet Waiter) (left : List ℕ) (new : BTreeSet Waiter) : Type 0 where
  pub none : (k : ℕ) → has new cell k ≡ false
  pub fewer : (k : ℕ) → is_marked left k ≡ true → is_marked marks k ≡ true
  pub held : (k c : ℕ) → is_marked left k ≡ true → has old c k ≡ true → has new c k ≡ true
