-- Cells that are open, and searches for a number that does not rest.
use Rattle.std.proofs.Common.{◌≡◌, ◌∙◌, ◌⊎◌, inl, inr, ◌<◌, ◌≤◌, ◌+◌, ℕ, zero, suc, true, false, List, [], ◌∷◌, length, refl, ap, sym, arith, true≢false}
use Rattle.std.specs.Prelude.{slice_index_or}
use Rattle.std.specs.BTreeSet.{BTreeSet}
use Rattle.a68_marks.specs.Marked.{is_marked}
use Rattle.a68_rests.specs.Resting.{Rests}
use Rattle.a68_rests.specs.Waiting.{has}
use Rattle.a68_rests.specs.declared.waiters.Waiter.{Waiter}

-- an item of a list stands there whatever stands for none
within-same : (xs : List ℕ) (j c d : ℕ) → j < length xs → slice_index_or xs j c ≡ slice_index_or xs j d
within-same [] j c d h = absurd (omega (arith, h))
within-same (x ∷ xs) zero c d h = refl
within-same (x ∷ xs) (suc j) c d h = within-same xs j c d (omega (arith, h))

same-or-below : (j i : ℕ) → j < i + 1 → (j ≡ i) ⊎ (j < i)
same-or-below zero zero h = inl refl
same-or-below zero (suc i) h = inr (omega arith)
same-or-below (suc j) zero h = absurd (omega (arith, h))
same-or-below (suc j) (suc i) h = elim (same-or-below j i (omega (arith, h))) [
  | inl e ↦ inl (ap suc e)
  | inr l ↦ inr (omega (arith, l))
]

-- one more cell is looked at
pub shut_more : (held : BTreeSet Waiter) (cells : List ℕ) (i from n m cell : ℕ) → i < length cells → cell ≡ slice_index_or cells i cell → m ≤ n
    → ((j k : ℕ) → j < i → from ≤ k → k < n → has held (slice_index_or cells j 0) k ≡ false) → ((k : ℕ) → from ≤ k → k < m → has held cell k ≡ false)
    → (j k : ℕ) → j < i + 1 → from ≤ k → k < m → has held (slice_index_or cells j 0) k ≡ false
shut_more held cells i from n m cell in_ is less before here j k below low high = elim (same-or-below j i below) [
  | inl e ↦ ap (λ x. has held x k) (ap (λ x. slice_index_or cells x 0) e ∙ within-same cells i 0 cell in_ ∙ sym is) ∙ here k low high
  | inr l ↦ before j k l low (omega (arith, high, less))
]

-- numbers that are marked, and held at no cell of the list, rest
pub passed : (marks : List ℕ) (held : BTreeSet Waiter) (cells : List ℕ) (from n : ℕ) → ((k : ℕ) → from ≤ k → k < n → is_marked marks k ≡ true)
    → ((j k : ℕ) → j < length cells → from ≤ k → k < n → has held (slice_index_or cells j 0) k ≡ false) → (k : ℕ) → from ≤ k → k < n → Rests (marks, (held, cells)) k
passed marks held cells from n listed shut k low high = record {
  listed = listed k low high;
  shut = λ cell c h. true≢false (sym h ∙ ap (λ x. has held x k) (sym c.2 ∙ within-same cells c.0 cell 0 c.1) ∙ shut c.0 k c.1 low high);
}
