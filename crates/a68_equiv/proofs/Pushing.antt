-- Lists that grow by one.
use Rattle.std.proofs.Common.{◌≡◌, ◌<◌, ◌+◌, ◌++◌, ℕ, List, [], ◌∷◌, length, get_or, sym, subst, arith, below_more, length-append}
use Rattle.std.proofs.Math.ListN.{get_or-append}
use Rattle.std.proofs.Math.Seq.{get_or-append_seam}

-- what holds of the first i places and of the next one
pub each_more : (P : ℕ → ℕ → Type 0) (xs : List ℕ) (i x : ℕ) → length xs ≡ i → ((k : ℕ) → k < i → P k (get_or xs k 0)) → P i x → (k : ℕ) → k < i + 1 → P k (get_or (xs ++ x ∷ []) k 0)
each_more P xs i x long each here = below_more (λ k. P k (get_or (xs ++ x ∷ []) k 0)) i (λ k h. subst (P k) (sym (earlier k h)) (each k h)) (subst (P i) (sym last) here)
  where
    earlier : (k : ℕ) → k < i → get_or (xs ++ x ∷ []) k 0 ≡ get_or xs k 0
    earlier k h = get_or-append xs (x ∷ []) 0 k (omega arith)

    last : get_or (xs ++ x ∷ []) i 0 ≡ x
    last = subst (λ (k : ℕ). get_or (xs ++ x ∷ []) k 0 ≡ x) long (get_or-append_seam xs x [] 0)

pub long_more : (xs : List ℕ) (i x : ℕ) → length xs ≡ i → length (xs ++ x ∷ []) ≡ i + 1
long_more xs i x long = omega (arith, length-append xs (x ∷ []))
