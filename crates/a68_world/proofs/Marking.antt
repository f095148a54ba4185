-- Searches among marks.
use Rattle.std.proofs.Common.{◌≡◌, ◌∙◌, ◌⊎◌, inl, inr, ℕ, ◌+◌, ◌<◌, ◌≤◌, Bool, true, false, List, refl, ap, sym, arith, true≢false, MatchBool}
use Rattle.std.proofs.lemmas.Bool.{cases_eq, cases_lt}
use Rattle.std.proofs.lemmas.Bool.Decides.{nat_tests}
use Rattle.std.specs.Prelude.{◌==◌, ◌||◌}
use Rattle.a68_marks.specs.Marked.{FirstOther, MarksAsWere, MarksToo, is_marked}
use Rattle.a68_world.specs.Passed.{Passes, StandsAlone}
use Rattle.a68_world.specs.Seats.{closed_at}
use Rattle.a68_world.specs.declared.seat.Seat.{Seat}

-- what holds of no number so far holds of none up to the next that is not marked
pub first_on : (turns : ℕ → Bool) (marks : List ℕ) (from n next to : ℕ) → ((k : ℕ) → from ≤ k → k < n → turns k ≡ false) → turns n ≡ false → FirstOther marks (n + 1) to next
    → ((k : ℕ) → is_marked marks k ≡ true → turns k ≡ false) → (k : ℕ) → from ≤ k → k < next → turns k ≡ false
first_on turns marks from n next to was here_ first passed k low high = elim (cases_eq k n) [
  | inl e ↦ ap turns e ∙ here_
  | inr ne ↦ elim (cases_lt k n) [ inl p ↦ was k low p | inr q ↦ passed k (first.marked k (omega (arith, ne, q)) high) ]
]

too-by : (b : Bool) (k n : ℕ) (old : Bool) → (k == n) ≡ b → (b || old) ≡ true → (old ≡ true) ⊎ (k ≡ n)
too-by true k n old e t = let same : k ≡ n = grind (arith, nat_tests, e) in inr same
too-by false k n old e t = inl t

pub passes_by : (old new : List ℕ) (seats : List Seat) (n : ℕ) (b : Bool) → MatchBool b (MarksToo old n new) (MarksAsWere old new) → closed_at seats n ≡ true → Passes old seats n new
passes_by old new seats n true too closed k e =
    elim (too-by (k == n) k n (is_marked old k) refl (sym (too k) ∙ e)) [ inl was ↦ inl was | inr same ↦ inr (same, closed) ]
passes_by old new seats n false same closed k e = inl (sym (same k) ∙ e)

pub alone_by : (marks : List ℕ) (count n : ℕ) (b : Bool) → b ≡ (n == count) → (count ≡ 0 → ⊥) → FirstOther marks 1 count n → MatchBool b (StandsAlone marks count) (count ≡ 1 → ⊥)
alone_by marks count n true e some first =
    let same : n ≡ count = grind (arith, nat_tests, sym e) in
    record { some = omega (arith, some); passed = λ k low high. first.marked k (omega (arith, low)) (omega (arith, high, same)) }
alone_by marks count n false e some first =
    λ one.
    let other : n ≡ count → ⊥ = λ same. true≢false (grind (arith, nat_tests, sym e, same)) in
    other (omega (arith, first.from_on, first.within, one))
