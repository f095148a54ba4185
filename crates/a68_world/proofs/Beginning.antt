-- New strands begin one by one.
use Rattle.std.proofs.Common.{◌≡◌, ◌∙◌, inl, inr, ℕ, zero, suc, ◌+◌, ◌<◌, List, [], ◌∷◌, ◌++◌, length, length-append, take, get_or, refl, ap, sym, subst, arith}
use Rattle.std.specs.Prelude.{Some, slice_get}
use Rattle.std.proofs.lemmas.List.{take_more}
use Rattle.a68_code.specs.declared.code.Code.{Code}
use Rattle.a68_instructions.specs.Machine.{State, beginning, settle}
use Rattle.a68_strand.specs.Strands.{standing}
use Rattle.a68_values.specs.declared.chain.Environ.{Environ}
use Rattle.a68_world.specs.Stepping.{AreUnits, IsNewSeat, units_at}
use Rattle.a68_world.specs.declared.seat.Seat.{Seat}
use Rattle.a68_world.specs.declared.seat.Seat.TheVariants as seat
use Rattle.a68_world.proofs.Places.{get_front, get_behind, parted}

units-joined : (code : Code) (chain : List Environ) (xs ys : List ℕ) → units_at code chain (xs ++ ys) ≡ units_at code chain xs ++ units_at code chain ys
units-joined code chain [] ys = refl
units-joined code chain (x ∷ xs) ys = ap (λ l. settle code (beginning x chain) ∷ l) (units-joined code chain xs ys)

one-more : (code : Code) (states : List State) (first : ℕ) (units : List Seat) (new : List State) (x : Seat) → length new ≡ 1 → AreUnits code states first units
    → IsNewSeat code new (first + length units) 0 x → AreUnits code (states ++ new) first (units ++ x ∷ [])
one-more code states first units new x one are is = record {
  long = omega (arith, length-append units (x ∷ []), length-append states new, are.long, one);
  each = λ i y e. elim (parted units (x ∷ []) i y e) [
    | inl front ↦ old i y (are.each i y front)
    | inr last ↦ at_last last.0 i y last.1 last.2
  ];
}
  where
    old : (i : ℕ) (y : Seat) → IsNewSeat code states first i y → IsNewSeat code (states ++ new) first i y
    old i (seat.Home strand) u = (u.0, get_front states new i (standing strand) u.1, u.2, u.3)
    old i (seat.Away spent closed) u = u

    new_one : (i : ℕ) (y : Seat) → i ≡ length units → IsNewSeat code new (first + length units) 0 y → IsNewSeat code (states ++ new) first i y
    new_one i (seat.Home strand) e u =
        let at : i ≡ length states + 0 = omega (arith, e, are.long) in
        (omega (arith, u.0, e), ap (slice_get (states ++ new)) at ∙ get_behind states new 0 ∙ u.1, u.2, u.3)
    new_one i (seat.Away spent closed) e u = u

    at_last : (j i : ℕ) (y : Seat) → i ≡ length units + j → slice_get (x ∷ []) j ≡ Some y → IsNewSeat code (states ++ new) first i y
    at_last zero i y e f = let same : x ≡ y = cc in new_one i y (omega (arith, e)) (subst (λ z. IsNewSeat code new (first + length units) 0 z) same is)
    at_last (suc j) i y e f = absurd (cc)

-- the unit at the next entrance
pub units_more : (code : Code) (chain : List Environ) (entrances : List ℕ) (first i : ℕ) (units grown : List Seat) (x : Seat) → i < length entrances
    → AreUnits code (units_at code chain (take i entrances)) first units → IsNewSeat code (units_at code chain (get_or entrances i 0 ∷ [])) (first + i) 0 x
    → length (take i entrances) ≡ i → grown ≡ units ++ x ∷ [] → AreUnits code (units_at code chain (take (i + 1) entrances)) first grown
units_more code chain entrances first i units grown x h are is long e =
    rw e (subst (λ l. AreUnits code l first (units ++ x ∷ [])) (sym (ap (units_at code chain) (take_more entrances i 0 h) ∙ units-joined code chain (take i entrances) (get_or entrances i 0 ∷ [])))
    (one-more code (units_at code chain (take i entrances)) first units (units_at code chain (get_or entrances i 0 ∷ [])) x refl are
    (subst (λ j. IsNewSeat code (units_at code chain (get_or entrances i 0 ∷ [])) (first + j) 0 x) (sym (are.long ∙ length-units (take i entrances) ∙ long)) is)))
  where
    length-units : (l : List ℕ) → length (units_at code chain l) ≡ length l
    length-units [] = refl
    length-units (y ∷ l) = let more = length-units l in omega (arith, more)
