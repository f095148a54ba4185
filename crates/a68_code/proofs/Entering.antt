-- Entrances, one after another.
use Rattle.std.proofs.Common.{◌≡◌, ◌<◌, ◌+◌, ◌++◌, ◌∙◌, ℕ, Bool, List, [], ◌∷◌, length, take, get_or, refl, sym, ap}
use Rattle.std.proofs.lemmas.List.{append-nil, append_assoc, take_more}
use Rattle.a68_code.specs.Flow.{entrance_if, entrances_in, forked_by, entrances_of_units}
use Rattle.a68_code.specs.declared.code.Instr.{Instr}
use Rattle.a68_code.specs.declared.code.RoutineEntrance.{RoutineEntrance}

pub entrances_joined : (yields : Bool) (es others : List RoutineEntrance) → entrances_in yields (es ++ others) ≡ entrances_in yields es ++ entrances_in yields others
entrances_joined yields [] others = refl
entrances_joined yields (e ∷ es) others =
    ap (λ l. entrance_if yields e ++ l) (entrances_joined yields es others) ∙ sym (append_assoc (entrance_if yields e) (entrances_in yields es) (entrances_in yields others))

-- one more
pub entrances_more : (yields : Bool) (es : List RoutineEntrance) (k : ℕ) (e : RoutineEntrance) → k < length es
    → entrances_in yields (take (k + 1) es) ≡ entrances_in yields (take k es) ++ entrance_if yields (get_or es k e)
entrances_more yields es k e lt =
    ap (entrances_in yields) (take_more es k e lt) ∙ entrances_joined yields (take k es) (get_or es k e ∷ [])
    ∙ ap (λ l. entrances_in yields (take k es) ++ l) (append-nil (entrance_if yields (get_or es k e)))

-- a list of them with the next one
pub entrances_on : (yields : Bool) (es : List RoutineEntrance) (k : ℕ) (e : RoutineEntrance) (old new : List ℕ) → k < length es → old ≡ entrances_in yields (take k es)
    → new ≡ old ++ entrance_if yields (get_or es k e) → new ≡ entrances_in yields (take (k + 1) es)
entrances_on yields es k e old new lt is on = on ∙ ap (λ l. l ++ entrance_if yields (get_or es k e)) is ∙ sym (entrances_more yields es k e lt)

-- ---- units of parallel clauses

-- places with the next one of a list
pub joined_on : (first more : List ℕ) (k : ℕ) (old new : List ℕ) → k < length more → old ≡ first ++ take k more → new ≡ old ++ get_or more k 0 ∷ [] → new ≡ first ++ take (k + 1) more
joined_on first more k old new lt is on =
    on ∙ ap (λ (l : List ℕ). l ++ get_or more k 0 ∷ []) is ∙ append_assoc first (take k more) (get_or more k 0 ∷ [])
    ∙ ap (λ (l : List ℕ). first ++ l) (sym (take_more more k 0 lt))

units_joined : (list others : List Instr) → entrances_of_units (list ++ others) ≡ entrances_of_units list ++ entrances_of_units others
units_joined [] others = refl
units_joined (i ∷ list) others =
    ap (λ l. forked_by i.does ++ l) (units_joined list others) ∙ sym (append_assoc (forked_by i.does) (entrances_of_units list) (entrances_of_units others))

units_more : (list : List Instr) (k : ℕ) (i : Instr) → k < length list
    → entrances_of_units (take (k + 1) list) ≡ entrances_of_units (take k list) ++ forked_by (get_or list k i).does
units_more list k i lt =
    ap entrances_of_units (take_more list k i lt) ∙ units_joined (take k list) (get_or list k i ∷ [])
    ∙ ap (λ l. entrances_of_units (take k list) ++ l) (append-nil (forked_by (get_or list k i).does))

-- the entrances of the units that instructions fork, with those of the next one
pub units_on : (list : List Instr) (k : ℕ) (i : Instr) (old new : List ℕ) → k < length list → i ≡ get_or list k i → old ≡ entrances_of_units (take k list)
    → new ≡ old ++ forked_by i.does → new ≡ entrances_of_units (take (k + 1) list)
units_on list k i old new lt read is on =
    on ∙ ap (λ l. l ++ forked_by i.does) is ∙ ap (λ (j : Instr). entrances_of_units (take k list) ++ forked_by j.does) read ∙ sym (units_more list k i lt)
