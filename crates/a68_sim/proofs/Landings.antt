-- The clauses with labels about the place of a strand, and how the strand's stack and frames lie within them.
use Rattle.std.proofs.Common.{◌≡◌, ◌+◌, ℕ, zero, suc, Bool, true, false, List, [], ◌∷◌, None, Some, refl, sym, ap, ◌∙◌, subst, arith}
use Rattle.std.specs.Prelude.{map, if◌then◌else◌}
use Rattle.std.specs.declared.option.Option.{Option}
use Rattle.a68_acts.specs.declared.operation.Counter.{Counter}
use Rattle.a68_elab.specs.Trees.{Steps, has_label}
use Rattle.a68_emit.specs.Stretches.{Around, Lie, above, further_in, deeper_by, in_clause, outermost, about}
use Rattle.a68_instructions.specs.Machine.{back}
use Rattle.a68_stack.proofs.Cutting.{cut_value, cut_counter, cut_all}
use Rattle.a68_stack.specs.Callers.{Caller}
use Rattle.a68_stack.specs.Values.{height, cut}
use Rattle.a68_stack.specs.declared.stack.Item.{Item}
use Rattle.a68_stack.specs.declared.stack.Item.TheVariants as item
use Rattle.a68_values.specs.Content.{Content}
use Rattle.a68_values.specs.declared.chain.Environ.{Environ}

-- where a jump to a label of a clause lands: the steps of the clause, where they stand, and the stack and the frames with which
-- it began
pub record Landing : Type 0 where
  pub steps : Steps
  pub places : List ℕ
  pub base : List Item
  pub chain : List Environ

abbrev pub landing : (steps : Steps) (places : List ℕ) (base : List Item) (ch : List Environ) → Landing
landing steps places base ch = record { steps = steps; places = places; base = base; chain = ch }

-- the innermost one that has a label
abbrev pub landing_of : (label : ℕ) → List Landing → Option Landing
landing_of label [] = None
landing_of label (l ∷ ls) = if has_label label l.steps then Some l else landing_of label ls

-- What a stretch knows of the clauses about it is so where the strand has this stack and these frames.
abbrev pub AllAgree : List Around → List Landing → List Item → List Environ → Type 0
AllAgree [] [] base ch = Unit {0}
AllAgree (c ∷ cs) (l ∷ ls) base ch =
    (c.steps ≡ l.steps) × (c.places ≡ l.places) × (back c.frames ch ≡ Some l.chain) × (cut c.height base ≡ Some l.base) × AllAgree cs ls base ch
AllAgree _ _ base ch = ⊥

pub record Agrees (lie : Lie) (ls : List Landing) (base : List Item) (ch : List Environ) : Type 0 where
  pub high : height base ≡ lie.height
  pub each : AllAgree lie.around ls base ch

-- ---- it stays so

-- under a value more
value_more : (cs : List Around) (ls : List Landing) (v : Content) (base : List Item) (ch : List Environ) → AllAgree cs ls base ch → AllAgree cs ls (item.Value v ∷ base) ch
value_more [] [] v base ch a = tt
value_more [] (l ∷ ls) v base ch a = absurd a
value_more (c ∷ cs) [] v base ch a = absurd a
value_more (c ∷ cs) (l ∷ ls) v base ch a = (a.0, a.1, a.2, cut_value c.height v base l.base a.3, value_more cs ls v base ch a.4)

pub agrees_value : (lie : Lie) (ls : List Landing) (v : Content) (base : List Item) (ch : List Environ) → Agrees lie ls base ch → Agrees (above true lie) ls (item.Value v ∷ base) ch
agrees_value lie ls v base ch a = record { high = ap suc a.high; each = value_more lie.around ls v base ch a.each }

-- under a counter more
counter_more : (cs : List Around) (ls : List Landing) (n : Counter) (base : List Item) (ch : List Environ) → AllAgree cs ls base ch → AllAgree cs ls (item.Counter n ∷ base) ch
counter_more [] [] n base ch a = tt
counter_more [] (l ∷ ls) n base ch a = absurd a
counter_more (c ∷ cs) [] n base ch a = absurd a
counter_more (c ∷ cs) (l ∷ ls) n base ch a = (a.0, a.1, a.2, cut_counter c.height n base l.base a.3, counter_more cs ls n base ch a.4)

pub agrees_counter : (lie : Lie) (ls : List Landing) (n : Counter) (base : List Item) (ch : List Environ) → Agrees lie ls base ch → Agrees (above true lie) ls (item.Counter n ∷ base) ch
agrees_counter lie ls n base ch a = record { high = ap suc a.high; each = counter_more lie.around ls n base ch a.each }

-- within so many frames more
back_on : (n m : ℕ) (inner ch : List Environ) → back n inner ≡ Some ch → back (n + m) inner ≡ back m ch
back_on zero m inner ch e =
    let same : inner ≡ ch = cc in
    let none : 0 + m ≡ m = omega arith in
    ap (λ (k : ℕ). back k inner) none ∙ ap (λ (c : List Environ). back m c) same
back_on (suc n) m [] ch e = absurd (cc)
back_on (suc n) m (x ∷ inner) ch e =
    let more : suc n + m ≡ suc (n + m) = omega arith in
    ap (λ (k : ℕ). back k (x ∷ inner)) more ∙ back_on n m inner ch e

frames_more : (cs : List Around) (ls : List Landing) (n : ℕ) (base : List Item) (ch inner : List Environ) → back n inner ≡ Some ch → AllAgree cs ls base ch
    → AllAgree (map (further_in n) cs) ls base inner
frames_more [] [] n base ch inner e a = tt
frames_more [] (l ∷ ls) n base ch inner e a = absurd a
frames_more (c ∷ cs) [] n base ch inner e a = absurd a
frames_more (c ∷ cs) (l ∷ ls) n base ch inner e a = (a.0, a.1, back_on n c.frames inner ch e ∙ a.2, a.3, frames_more cs ls n base ch inner e a.4)

pub agrees_deeper : (n : ℕ) (lie : Lie) (ls : List Landing) (base : List Item) (ch inner : List Environ) → back n inner ≡ Some ch → Agrees lie ls base ch
    → Agrees (deeper_by n lie) ls base inner
agrees_deeper n lie ls base ch inner e a = record { high = a.high; each = frames_more lie.around ls n base ch inner e a.each }

-- within a clause more
pub agrees_clause : (steps : Steps) (places : List ℕ) (lie : Lie) (ls : List Landing) (base : List Item) (ch : List Environ) → Agrees lie ls base ch
    → Agrees (in_clause steps places lie) (landing steps places base ch ∷ ls) base ch
agrees_clause steps places lie ls base ch a =
    record { high = a.high; each = (refl, refl, refl, subst (λ (h : ℕ). cut h base ≡ Some base) a.high (cut_all base), a.each) }

-- where an activation begins
pub agrees_outermost : (c : Caller) (base : List Item) (ch : List Environ) → Agrees outermost [] (item.Caller c ∷ base) ch
agrees_outermost c base ch = record { high = refl; each = tt }

pub agrees_alone : (ch : List Environ) → Agrees outermost [] [] ch
agrees_alone ch = record { high = refl; each = tt }

-- ---- jumps

-- a jump leaves the stack and the frames with which its clause began
pub record LandsAt (c : Around) (label : ℕ) (ls : List Landing) (base : List Item) (ch : List Environ) : Type 0 where
  pub l : Landing
  pub found : landing_of label ls ≡ Some l
  pub same_steps : c.steps ≡ l.steps
  pub same_places : c.places ≡ l.places
  pub goes_back : back c.frames ch ≡ Some l.chain
  pub cuts : cut c.height base ≡ Some l.base

pub lands_at : (cs : List Around) (ls : List Landing) (label : ℕ) (c : Around) (base : List Item) (ch : List Environ) → AllAgree cs ls base ch → about label cs ≡ Some c → LandsAt c label ls base ch
lands_at [] ls label c base ch a e = absurd (cc)
lands_at (d ∷ cs) [] label c base ch a e = absurd a
lands_at (d ∷ cs) (l ∷ ls) label c base ch a e = by_test (λ f. lands_at cs ls label c base ch a.4 f) (has_label label d.steps) refl e
  where
    look : (x : Bool) → has_label label d.steps ≡ x → landing_of label (l ∷ ls) ≡ (if x then Some l else landing_of label ls)
    look x is =
        ap (λ (y : Steps). if has_label label y then Some l else landing_of label ls) (sym a.0) ∙ ap (λ (y : Bool). if y then Some l else landing_of label ls) is

    by_test : (about label cs ≡ Some c → LandsAt c label ls base ch) → (x : Bool) → has_label label d.steps ≡ x → (if x then Some d else about label cs) ≡ Some c
        → LandsAt c label (l ∷ ls) base ch
    by_test more true is f =
        let same : d ≡ c = cc in
        subst (λ (y : Around). LandsAt y label (l ∷ ls) base ch) same
        (record { l = l; found = look true is; same_steps = a.0; same_places = a.1; goes_back = a.2; cuts = a.3 })
    by_test more false is f =
        let x = more f in
        record { l = x.l; found = look false is ∙ x.found; same_steps = x.same_steps; same_places = x.same_places; goes_back = x.goes_back; cuts = x.cuts }
