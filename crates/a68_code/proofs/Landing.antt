-- Where the machine may go on.
use Rattle.std.proofs.Common.{◌≡◌, ◌<◌, ◌+◌, ℕ, Bool, List, [], ◌∷◌, ◌++◌, length, take, get_or, refl, ap, ◌∙◌}
use Rattle.std.proofs.lemmas.List.{take_more}
use Rattle.a68_code.specs.Flow.{leaves, last_place}
use Rattle.a68_code.specs.Walk.{ways}
use Rattle.a68_modes.specs.declared.shape.Shape.{Shape}
use Rattle.a68_code.specs.declared.does.Does.{Does}
use Rattle.a68_code.specs.declared.does.Does.TheVariants.{Jump, Goto, Unless, Case, Member, Step, Advance, Return, Close, End}

-- behind an instruction with no landing place of its own stands the next one
pub ways_next : (modes : List Shape) (at : ℕ) (does : Does) (below : ℕ)
    → ((to : ℕ) → does ≡ Jump to → ⊥) → ((to frames height : ℕ) (gives : Bool) → does ≡ Goto to frames height gives → ⊥) → ((to : ℕ) → does ≡ Unless to → ⊥) → ((places : List ℕ) → does ≡ Case places → ⊥) → ((mode : ℕ) (places whole : List ℕ) → does ≡ Member mode places whole → ⊥) → ((to : ℕ) → does ≡ Step to → ⊥) → ((to : ℕ) → does ≡ Advance to → ⊥) → (does ≡ Return → ⊥) → (does ≡ Close → ⊥) → (does ≡ End → ⊥)
    → ways modes at does below ≡ (at + 1, below + leaves modes does) ∷ []
ways_next modes at (Jump to) below j g u c m s a r l e = absurd (j to refl)
ways_next modes at (Goto to frames height gives) below j g u c m s a r l e = absurd (g to frames height gives refl)
ways_next modes at (Unless to) below j g u c m s a r l e = absurd (u to refl)
ways_next modes at (Case places) below j g u c m s a r l e = absurd (c places refl)
ways_next modes at (Member mode places whole) below j g u c m s a r l e = absurd (m mode places whole refl)
ways_next modes at (Step to) below j g u c m s a r l e = absurd (s to refl)
ways_next modes at (Advance to) below j g u c m s a r l e = absurd (a to refl)
ways_next modes at Return below j g u c m s a r l e = absurd (r refl)
ways_next modes at Close below j g u c m s a r l e = absurd (l refl)
ways_next modes at End below j g u c m s a r l e = absurd (e refl)
ways_next modes at _ below j g u c m s a r l e = refl

-- the last of places with one more behind them
pub last_pushed : (places : List ℕ) (p : ℕ) → last_place (places ++ p ∷ []) ≡ p
last_pushed [] p = refl
last_pushed (x ∷ []) p = refl
last_pushed (x ∷ (y ∷ places)) p = last_pushed (y ∷ places) p

-- the last of the first ones, one more of which is looked at
pub last_more : (places : List ℕ) (k : ℕ) → k < length places → last_place (take (k + 1) places) ≡ get_or places k 0
last_more places k lt = ap last_place (take_more places k 0 lt) ∙ last_pushed (take k places) (get_or places k 0)
