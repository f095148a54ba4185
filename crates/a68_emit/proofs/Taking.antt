-- Which specification takes a member, found one after another.
use Rattle.std.proofs.Common.{◌≡◌, ◌<◌, ◌≤◌, ⊎_elim, ℕ, zero, suc, ◌+◌, Bool, true, false, ◌||◌, nat_eq, List, [], ◌∷◌, ◌++◌, length, drop, get_or, refl, sym, ◌∙◌, ap, arith, append_assoc}
use Rattle.std.proofs.lemmas.Bool.{cases_lt}
use Rattle.std.proofs.lemmas.List.{at_drop_more, drop_all}
use Rattle.std.specs.Prelude.{if◌then◌else◌}
use Rattle.a68_acts.specs.Members.{members_of}
use Rattle.a68_acts.specs.Operations.{is_union}
use Rattle.a68_annot.specs.declared.annotated.Annotated.{Annotated}
use Rattle.a68_code.specs.Flow.{one_if}
use Rattle.a68_elab.specs.Made.{has_tag, parts_at, spec_mode, spec_of, specs_of}
use Rattle.a68_elab.specs.Rows.{is_among}
use Rattle.a68_elab.specs.Trees.{Tree, Specs, no_specs, spec}
use Rattle.a68_emit.specs.Conforming.{takes_of}
use Rattle.a68_emit.specs.Stretches.{member_places, place_for, whole_for, wholes_of}
use Rattle.a68_modes.specs.Nodes.{shape_at}
use Rattle.a68_modes.specs.declared.shape.Shape.{Shape}
use Rattle.a68_modes.specs.declared.shape.Shape.TheVariants as shape

-- ---- one specification

-- what a specification takes
pub spec_is : (s : Shape) (m : ℕ) (tagged : Bool) (t : Tree) (behind : Specs) → spec_of s m tagged t behind ≡ spec (takes_of s m) tagged (is_union s) t behind
spec_is (shape.Union members) m tagged t behind = refl
spec_is s m tagged t behind = refl

-- those from one on, where there is one
pub specs_more : (a : Annotated) (f : ℕ → Tree) (ids : List ℕ) (at : ℕ) → at + 1 < length ids →
    let s = get_or ids at 0 in
    let m = spec_mode a (parts_at a s) in
    specs_of a f (drop at ids) ≡ spec (takes_of (shape_at a.modes m) m) (has_tag (parts_at a s)) (is_union (shape_at a.modes m)) (f (get_or ids (at + 1) 0)) (specs_of a f (drop (at + 2) ids))
specs_more a f [] at less = absurd (omega arith)
specs_more a f (s ∷ []) at less = absurd (omega arith)
specs_more a f (s ∷ (part ∷ ids)) zero less =
    let m = spec_mode a (parts_at a s) in spec_is (shape_at a.modes m) m (has_tag (parts_at a s)) (f part) (specs_of a f ids)
specs_more a f (x ∷ (y ∷ ids)) (suc at) less =
    let one : suc at + 1 ≡ suc (at + 1) = omega arith in
    let two : suc at + 2 ≡ suc (at + 2) = omega arith in
    rw (one, two) (specs_more a f (y ∷ ids) at (omega arith))

-- and where there is none
pub specs_end : (a : Annotated) (f : ℕ → Tree) (ids : List ℕ) (at : ℕ) → (at + 1 < length ids → ⊥) → specs_of a f (drop at ids) ≡ no_specs
specs_end a f [] zero none = refl
specs_end a f [] (suc at) none = refl
specs_end a f (s ∷ []) zero none = refl
specs_end a f (s ∷ (part ∷ ids)) zero none = absurd (none (omega arith))
specs_end a f (x ∷ ids) (suc at) none = specs_end a f ids at (λ less. none (omega arith))

-- ---- a mode among others

pub among_here : (m : ℕ) (ms : List ℕ) (i : ℕ) → i < length ms → nat_eq m (get_or ms i 0) ≡ true → is_among m (drop i ms) ≡ true
among_here m ms i less is = at_drop_more (λ l. is_among m l) ms i 0 less ∙ ap (λ (b : Bool). b || is_among m (drop (i + 1) ms)) is

pub among_later : (m : ℕ) (ms : List ℕ) (i : ℕ) → i < length ms → nat_eq m (get_or ms i 0) ≡ false → is_among m (drop i ms) ≡ is_among m (drop (i + 1) ms)
among_later m ms i less is = at_drop_more (λ l. is_among m l) ms i 0 less ∙ ap (λ (b : Bool). b || is_among m (drop (i + 1) ms)) is

-- ---- the first specification that takes a member

-- whether the one at a place takes it
abbrev pub takes_at : Annotated → List ℕ → (at member : ℕ) → Bool
takes_at a ids at member = is_among member (takes_of (shape_at a.modes (spec_mode a (parts_at a (get_or ids at 0)))) (spec_mode a (parts_at a (get_or ids at 0))))

-- what is found of it
pub taken_so : (a : Annotated) (ids : List ℕ) (at member mode : ℕ) (modes : List Shape) (found b : Bool) → modes ≡ a.modes → mode ≡ spec_mode a (parts_at a (get_or ids at 0))
    → found ≡ is_among member (takes_of (shape_at modes mode) mode) → found ≡ b → takes_at a ids at member ≡ b
taken_so a ids at member mode modes found b em es is e =
    sym (ap (λ (ms : List Shape). is_among member (takes_of (shape_at ms mode) mode)) em
    ∙ ap (λ (m : ℕ). is_among member (takes_of (shape_at a.modes m) m)) es) ∙ sym is ∙ e

module _ (a : Annotated) (f : ℕ → Tree) (ids : List ℕ) (at : ℕ) where
  pub place_step : (member : ℕ) (ps : List ℕ) (k none : ℕ) (b : Bool) → at + 1 < length ids → k < length ps → takes_at a ids at member ≡ b
      → place_for member (specs_of a f (drop at ids)) (drop k ps) none ≡ (if b then get_or ps k 0 else place_for member (specs_of a f (drop (at + 2) ids)) (drop (k + 1) ps) none)
  place_step member ps k none b less within is =
      at_drop_more (λ l. place_for member (specs_of a f (drop at ids)) l none) ps k 0 within
      ∙ ap (λ (s : Specs). place_for member s (get_or ps k 0 ∷ drop (k + 1) ps) none) (specs_more a f ids at less)
      ∙ ap (λ (x : Bool). if x then get_or ps k 0 else place_for member (specs_of a f (drop (at + 2) ids)) (drop (k + 1) ps) none) is

  -- where there is no further specification, or no further place
  pub place_end : (member : ℕ) (ps : List ℕ) (k none : ℕ) → (at + 1 < length ids → k < length ps → ⊥) → place_for member (specs_of a f (drop at ids)) (drop k ps) none ≡ none
  place_end member ps k none past = ⊎_elim no_place no_spec (cases_lt k (length ps))
    where
      no_place : k < length ps → place_for member (specs_of a f (drop at ids)) (drop k ps) none ≡ none
      no_place within = ap (λ (s : Specs). place_for member s (drop k ps) none) (specs_end a f ids at (λ less. past less within))

      on_none : (s : Specs) → place_for member s [] none ≡ none
      on_none no_specs = refl
      on_none (spec takes tagged united t behind) = refl

      no_spec : length ps ≤ k → place_for member (specs_of a f (drop at ids)) (drop k ps) none ≡ none
      no_spec over = ap (λ (l : List ℕ). place_for member (specs_of a f (drop at ids)) l none) (drop_all k ps over) ∙ on_none (specs_of a f (drop at ids))

  pub whole_step : (member : ℕ) (b : Bool) → at + 1 < length ids → takes_at a ids at member ≡ b
      → whole_for member (specs_of a f (drop at ids))
      ≡ (if b then one_if (is_union (shape_at a.modes (spec_mode a (parts_at a (get_or ids at 0))))) else whole_for member (specs_of a f (drop (at + 2) ids)))
  whole_step member b less is =
      ap (λ (s : Specs). whole_for member s) (specs_more a f ids at less)
      ∙ ap (λ (x : Bool). if x then one_if (is_union (shape_at a.modes (spec_mode a (parts_at a (get_or ids at 0))))) else whole_for member (specs_of a f (drop (at + 2) ids))) is

  pub whole_end : (member : ℕ) → (at + 1 < length ids → ⊥) → whole_for member (specs_of a f (drop at ids)) ≡ 0
  whole_end member past = ap (λ (s : Specs). whole_for member s) (specs_end a f ids at past)

-- ---- the places of all members

pub places_more : (members : List ℕ) (specs : Specs) (ps : List ℕ) (none i : ℕ) (done more whole : List ℕ) (x : ℕ) → i < length members → x ≡ place_for (get_or members i 0) specs ps none
    → more ≡ done ++ x ∷ [] → done ++ member_places (drop i members) specs ps none ≡ whole → more ++ member_places (drop (i + 1) members) specs ps none ≡ whole
places_more members specs ps none i done more whole x less is e w =
    ap (λ (l : List ℕ). l ++ member_places (drop (i + 1) members) specs ps none) e ∙ append_assoc done (x ∷ []) (member_places (drop (i + 1) members) specs ps none)
    ∙ ap (λ (y : ℕ). done ++ (y ∷ member_places (drop (i + 1) members) specs ps none)) is
    ∙ sym (ap (λ (l : List ℕ). done ++ l) (at_drop_more (λ l. member_places l specs ps none) members i 0 less)) ∙ w

pub wholes_more : (members : List ℕ) (specs : Specs) (i : ℕ) (done more whole : List ℕ) (x : ℕ) → i < length members → x ≡ whole_for (get_or members i 0) specs
    → more ≡ done ++ x ∷ [] → done ++ wholes_of (drop i members) specs ≡ whole → more ++ wholes_of (drop (i + 1) members) specs ≡ whole
wholes_more members specs i done more whole x less is e w =
    ap (λ (l : List ℕ). l ++ wholes_of (drop (i + 1) members) specs) e ∙ append_assoc done (x ∷ []) (wholes_of (drop (i + 1) members) specs)
    ∙ ap (λ (y : ℕ). done ++ (y ∷ wholes_of (drop (i + 1) members) specs)) is
    ∙ sym (ap (λ (l : List ℕ). done ++ l) (at_drop_more (λ l. wholes_of l specs) members i 0 less)) ∙ w

-- ---- a mode that is a union takes its members, another one itself

pub takes_union : (s : Shape) (mode : ℕ) → is_union s ≡ true → takes_of s mode ≡ members_of s
takes_union (shape.Union members) mode e = refl
takes_union s mode e = absurd (cc)

pub takes_other : (s : Shape) (mode member : ℕ) → is_union s ≡ false → is_among member (takes_of s mode) ≡ nat_eq member mode
takes_other (shape.Union members) mode member e = absurd (cc)
takes_other s mode member e = or_none (nat_eq member mode)
  where
    or_none : (b : Bool) → (b || false) ≡ b
    or_none true = refl
    or_none false = refl
