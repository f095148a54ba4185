-- Places added one after another, each with its height.
use Rattle.std.proofs.Common.{◌≡◌, ◌<◌, ◌+◌, ◌++◌, ◌∷◌, ◌∙◌, ℕ, List, [], length, take, get_or, ap, sym}
use Rattle.std.specs.Prelude.{map}
use Rattle.std.proofs.lemmas.List.{append_assoc, map_more}

-- one place more
pub maps_on : (height_of : ℕ → ℕ) (first : List (ℕ × ℕ)) (places : List ℕ) (k : ℕ) (old new : List (ℕ × ℕ)) → k < length places
    → old ≡ first ++ map (λ (to : ℕ). (to, height_of to)) (take k places) → new ≡ old ++ (get_or places k 0, height_of (get_or places k 0)) ∷ []
    → new ≡ first ++ map (λ (to : ℕ). (to, height_of to)) (take (k + 1) places)
maps_on height_of first places k old new lt is on =
    on ∙ ap (λ (l : List (ℕ × ℕ)). l ++ (get_or places k 0, height_of (get_or places k 0)) ∷ []) is
    ∙ append_assoc first (map (λ (to : ℕ). (to, height_of to)) (take k places)) ((get_or places k 0, height_of (get_or places k 0)) ∷ [])
    ∙ ap (λ (l : List (ℕ × ℕ)). first ++ l) (sym (map_more {Y = ℕ × ℕ} (λ (to : ℕ). (to, height_of to)) places k 0 lt))
