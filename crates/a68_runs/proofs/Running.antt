-- Which nodes run.
use Rattle.std.proofs.Common.{◌≡◌, ◌<◌, ◌≤◌, ◌⊎◌, ⊎_elim, inl, inr, ℕ, zero, suc, ◌+◌, ◌-◌, Bool, true, false, List, [], ◌∷◌, length, drop, get_or, refl, sym, ◌∙◌, ap, subst, arith, add-one, drop-cons, None, Some}
use Rattle.std.proofs.lemmas.Bool.{cases_lt}
use Rattle.std.proofs.lemmas.Option.{same_Some}
use Rattle.std.specs.Prelude.{not, ◌&&◌, ◌||◌, if◌then◌else◌}
use Rattle.std.specs.Option.{option_and_then}
use Rattle.std.specs.declared.option.Option.{Option}
use Rattle.a68_annot.specs.declared.annotated.Annotated.{Annotated}
use Rattle.a68_elab.specs.Made.{behind_proc, behind_ref, is_exit, is_label, kind_at, rowed_to}
use Rattle.a68_elab.specs.Runs.{are_phrases, are_steps, is_outcome, is_there, last_outcome, outcome, path_leaves}
use Rattle.a68_runs.specs.Running.{AreThere, IsThere, behind, one_more, passes, value_of, width}
use Rattle.a68_runs.specs.declared.paths.Between.{Between}
use Rattle.a68_modes.specs.Nodes.{shape_at, is_void}
use Rattle.a68_modes.specs.declared.coercion.Coercion.{Coercion}
use Rattle.a68_modes.specs.declared.coercion.Coercion.TheVariants as coercion
use Rattle.a68_modes.specs.declared.shape.Shape.{Shape}

-- ---- paths

abbrev value-at : (mode : ℕ) → Between
value-at m = record { mode = m; left = true }

module _ (modes : List Shape) (goal : ℕ) (path : List Coercion) where
  next-is : (x next : Between) → Some x ≡ Some next → path_leaves modes goal x.mode x.left path ≡ path_leaves modes goal next.mode next.left path
  next-is x next e = ap (λ (b : Between). path_leaves modes goal b.mode b.left path) (same_Some x next e)

  there-on : (m : ℕ) (b : Bool) (next : Between) → (if b then Some (record { mode = m; left = true }) else None) ≡ Some next
      → (if b then path_leaves modes goal m true path else None) ≡ path_leaves modes goal next.mode next.left path
  there-on m true next e = next-is (record { mode = m; left = true }) next e
  there-on m false next e = absurd (cc)

  row-on : (o : Option ℕ) (next : Between) → option_and_then (value_of modes) o ≡ Some next
      → option_and_then (λ m. if is_there modes m then path_leaves modes goal m true path else None) o ≡ path_leaves modes goal next.mode next.left path
  row-on (Some m) next e = there-on m (is_there modes m) next e
  row-on None next e = absurd (cc)

  value-on : (mode : ℕ) (next : Between) (c : Coercion) → behind modes goal mode c path ≡ Some next
      → path_leaves modes goal mode true (c ∷ path) ≡ path_leaves modes goal next.mode next.left path
  value-on mode next coercion.Deref e = there-on (behind_ref (shape_at modes mode)) (is_there modes (behind_ref (shape_at modes mode))) next e
  value-on mode next coercion.Deproc e = next-is (record { mode = behind_proc (shape_at modes mode); left = not (is_void (shape_at modes (behind_proc (shape_at modes mode)))) }) next e
  value-on mode next (coercion.Unite from) e = next-is (record { mode = from; left = true }) next e
  value-on mode next coercion.Widen e = next-is (record { mode = 11; left = true }) next e
  value-on mode next coercion.RowUp e = row-on (rowed_to modes goal path) next e
  value-on mode next coercion.RowUpName e = row-on (rowed_to modes goal path) next e
  value-on mode next coercion.Drop e = next-is (record { mode = 0; left = false }) next e

  there-stops : (m : ℕ) (b : Bool) → (if b then Some (value-at m) else None) ≡ None → (if b then path_leaves modes goal m true path else None) ≡ None
  there-stops m true e = absurd (cc)
  there-stops m false e = refl

  row-stops : (o : Option ℕ) → option_and_then (value_of modes) o ≡ None → option_and_then (λ m. if is_there modes m then path_leaves modes goal m true path else None) o ≡ None
  row-stops (Some m) e = there-stops m (is_there modes m) e
  row-stops None e = refl

  value-stops : (mode : ℕ) (c : Coercion) → behind modes goal mode c path ≡ None → path_leaves modes goal mode true (c ∷ path) ≡ None
  value-stops mode coercion.Deref e = there-stops (behind_ref (shape_at modes mode)) (is_there modes (behind_ref (shape_at modes mode))) e
  value-stops mode coercion.Deproc e = absurd (cc)
  value-stops mode (coercion.Unite from) e = absurd (cc)
  value-stops mode coercion.Widen e = absurd (cc)
  value-stops mode coercion.RowUp e = row-stops (rowed_to modes goal path) e
  value-stops mode coercion.RowUpName e = row-stops (rowed_to modes goal path) e
  value-stops mode coercion.Drop e = absurd (cc)

  -- one coercion more, and what is left
  go-on : (mode : ℕ) (left : Bool) (next : Between) (c : Coercion) → one_more modes goal (record { mode = mode; left = left }) c path ≡ Some next
      → path_leaves modes goal mode left (c ∷ path) ≡ path_leaves modes goal next.mode next.left path
  go-on mode true next c e = value-on mode next c e
  go-on mode false next c e = absurd (cc)

  stop-at : (mode : ℕ) (left : Bool) (c : Coercion) → one_more modes goal (record { mode = mode; left = left }) c path ≡ None → path_leaves modes goal mode left (c ∷ path) ≡ None
  stop-at mode true c e = value-stops mode c e
  stop-at mode false c e = refl

pub path-goes-on : (modes : List Shape) (goal : ℕ) (path : List Coercion) (i : ℕ) (d : Coercion) (at next : Between) → i < length path
    → one_more modes goal at (get_or path i d) (drop (i + 1) path) ≡ Some next
    → path_leaves modes goal at.mode at.left (drop i path) ≡ path_leaves modes goal next.mode next.left (drop (i + 1) path)
path-goes-on modes goal path i d at next less e =
    let f : one_more modes goal at (get_or path i d) (drop (suc i) path) ≡ Some next = rw add-one at e in
    rw (add-one, drop-cons path i d) (go-on modes goal (drop (suc i) path) at.mode at.left next (get_or path i d) f)

pub path-stops : (modes : List Shape) (goal : ℕ) (path : List Coercion) (i : ℕ) (d : Coercion) (at : Between) → i < length path
    → one_more modes goal at (get_or path i d) (drop (i + 1) path) ≡ None → path_leaves modes goal at.mode at.left (drop i path) ≡ None
path-stops modes goal path i d at less e =
    let f : one_more modes goal at (get_or path i d) (drop (suc i) path) ≡ None = rw add-one at e in
    let all : drop i path ≡ get_or path i d ∷ drop (suc i) path = drop-cons path i d less in
    ap (λ (l : List Coercion). path_leaves modes goal at.mode at.left l) all ∙ stop-at modes goal (drop (suc i) path) at.mode at.left (get_or path i d) f

-- ---- parts

pub last-outcome-is : (a : Annotated) (ids : List ℕ) → 0 < length ids → last_outcome a ids ≡ outcome a (get_or ids (length ids - 1) 0)
last-outcome-is a [] some = absurd (omega arith)
last-outcome-is a (x ∷ []) some = refl
last-outcome-is a (x ∷ (y ∷ ids)) some =
    let e : length (x ∷ (y ∷ ids)) - 1 ≡ suc (length (y ∷ ids) - 1) = omega arith in
    last-outcome-is a (y ∷ ids) (omega arith) ∙ sym (ap (λ n. outcome a (get_or (x ∷ (y ∷ ids)) n 0)) e)

-- a phrase before the last one
phrase-here : (a : Annotated) (wanted : Bool) (ids : List ℕ) (i : ℕ) → suc i < length ids
    → are_phrases a wanted (drop i ids) ≡ (is_outcome false (outcome a (get_or ids i 0)) && are_phrases a wanted (drop (suc i) ids))
phrase-here a wanted [] i less = absurd (omega arith)
phrase-here a wanted (x ∷ []) i less = absurd (omega arith)
phrase-here a wanted (x ∷ (y ∷ ids)) zero less = refl
phrase-here a wanted (x ∷ (y ∷ ids)) (suc i) less = phrase-here a wanted (y ∷ ids) i (omega arith)

pub phrase-passes : (a : Annotated) (wanted : Bool) (ids : List ℕ) (i : ℕ) → i + 1 < length ids → is_outcome false (outcome a (get_or ids i 0)) ≡ true
    → are_phrases a wanted (drop i ids) ≡ are_phrases a wanted (drop (i + 1) ids)
phrase-passes a wanted ids i less e = rw add-one (phrase-here a wanted ids i (omega arith) ∙ ap (λ b. b && are_phrases a wanted (drop (suc i) ids)) e)

pub phrase-fails : (a : Annotated) (wanted : Bool) (ids : List ℕ) (i : ℕ) → i + 1 < length ids → is_outcome false (outcome a (get_or ids i 0)) ≡ false
    → are_phrases a wanted (drop i ids) ≡ false
phrase-fails a wanted ids i less e = phrase-here a wanted ids i (omega arith) ∙ ap (λ b. b && are_phrases a wanted (drop (suc i) ids)) e

pub last-phrase : (a : Annotated) (wanted : Bool) (ids : List ℕ) (i : ℕ) → i + 1 ≡ length ids → are_phrases a wanted (drop i ids) ≡ is_outcome wanted (outcome a (get_or ids i 0))
last-phrase a wanted [] i e = absurd (omega arith)
last-phrase a wanted (x ∷ []) zero e = refl
last-phrase a wanted (x ∷ []) (suc i) e = absurd (omega arith)
last-phrase a wanted (x ∷ (y ∷ ids)) zero e = absurd (omega arith)
last-phrase a wanted (x ∷ (y ∷ ids)) (suc i) e = last-phrase a wanted (y ∷ ids) i (omega arith)

-- a label, or a step before the last one
step-here : (a : Annotated) (wanted : Bool) (ids : List ℕ) (i : ℕ) → suc i < length ids
    → are_steps a wanted (drop i ids)
    ≡ (passes a wanted (get_or ids i 0) (get_or ids (suc i) 0) && are_steps a wanted (drop (width a (get_or ids i 0) (get_or ids (suc i) 0) + i) ids))
step-here a wanted [] i less = absurd (omega arith)
step-here a wanted (x ∷ []) i less = absurd (omega arith)
step-here a wanted (x ∷ (y ∷ ids)) zero less = go (is_label (kind_at a x)) (is_exit (kind_at a y))
  where
    go : (l e : Bool)
        → (if l then are_steps a wanted (y ∷ ids)
        else (if e then is_outcome wanted (outcome a x) && are_steps a wanted ids else is_outcome false (outcome a x) && are_steps a wanted (y ∷ ids)))
        ≡ ((l || is_outcome (if e then wanted else false) (outcome a x)) && are_steps a wanted (drop ((if l then 1 else (if e then 2 else 1)) + 0) (x ∷ (y ∷ ids))))
    go true e = refl
    go false true = refl
    go false false = refl
step-here a wanted (x ∷ (y ∷ ids)) (suc i) less =
    let w = width a (get_or (y ∷ ids) i 0) (get_or (y ∷ ids) (suc i) 0) in
    let e : w + suc i ≡ suc (w + i) = omega arith in
    rw e (step-here a wanted (y ∷ ids) i (omega arith))

pub step-passes : (a : Annotated) (wanted : Bool) (ids : List ℕ) (i w : ℕ) → i + 1 < length ids → passes a wanted (get_or ids i 0) (get_or ids (i + 1) 0) ≡ true
    → w ≡ width a (get_or ids i 0) (get_or ids (i + 1) 0) → are_steps a wanted (drop i ids) ≡ are_steps a wanted (drop (i + w) ids)
step-passes a wanted ids i w less e is =
    let one : i + 1 ≡ suc i = add-one i in
    let p : passes a wanted (get_or ids i 0) (get_or ids (suc i) 0) ≡ true = rw one at e in
    let v = width a (get_or ids i 0) (get_or ids (suc i) 0) in
    let wide : w ≡ v = rw one at is in
    let far : v + i ≡ i + w = omega (arith, wide) in
    step-here a wanted ids i (omega arith) ∙ ap (λ b. b && are_steps a wanted (drop (v + i) ids)) p ∙ ap (λ n. are_steps a wanted (drop n ids)) far

pub step-fails : (a : Annotated) (wanted : Bool) (ids : List ℕ) (i : ℕ) → i + 1 < length ids → passes a wanted (get_or ids i 0) (get_or ids (i + 1) 0) ≡ false
    → are_steps a wanted (drop i ids) ≡ false
step-fails a wanted ids i less e =
    let one : i + 1 ≡ suc i = add-one i in
    let p : passes a wanted (get_or ids i 0) (get_or ids (suc i) 0) ≡ false = rw one at e in
    step-here a wanted ids i (omega arith)
    ∙ ap (λ b. b && are_steps a wanted (drop (width a (get_or ids i 0) (get_or ids (suc i) 0) + i) ids)) p

pub last-step : (a : Annotated) (wanted : Bool) (ids : List ℕ) (i : ℕ) → i + 1 ≡ length ids → are_steps a wanted (drop i ids) ≡ is_outcome wanted (outcome a (get_or ids i 0))
last-step a wanted [] i e = absurd (omega arith)
last-step a wanted (x ∷ []) zero e = refl
last-step a wanted (x ∷ []) (suc i) e = absurd (omega arith)
last-step a wanted (x ∷ (y ∷ ids)) zero e = absurd (omega arith)
last-step a wanted (x ∷ (y ∷ ids)) (suc i) e = last-step a wanted (y ∷ ids) i (omega arith)

pub no-step : (a : Annotated) (wanted : Bool) (ids : List ℕ) (i : ℕ) → length ids ≤ i → are_steps a wanted (drop i ids) ≡ false
no-step a wanted [] zero e = refl
no-step a wanted [] (suc i) e = refl
no-step a wanted (x ∷ ids) zero e = absurd (omega arith)
no-step a wanted (x ∷ ids) (suc i) e = no-step a wanted ids i (omega arith)

-- ---- which nodes run

-- a node before one more is before that one, or it
split : (i id : ℕ) → i < id + 1 → (i < id) ⊎ (i ≡ id)
split i id less = ⊎_elim (λ l. inl l) (λ ge. inr (omega arith)) (cases_lt i id)

pub there-more : (a : Annotated) (id : ℕ) → AreThere a id → IsThere a id → AreThere a (id + 1)
there-more a id before here = λ i less. ⊎_elim (λ l. before i l) (λ e. subst (λ k. IsThere a k) (sym e) here) (split i id less)
