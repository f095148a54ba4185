-- Modes that lead firmly to no union.
use Rattle.std.proofs.Common.{◌≡◌, ◌≢◌, ◌<◌, ◌∙◌, ◌++◌, ⊎_elim, length-append, ℕ, zero, suc, List, [], ◌∷◌, arith, refl, sym, ap, subst, length, get_or, Option, Some, None, slice_get, Bool, true, false, eq-eqb}
use Rattle.std.specs.Prelude.{◌↔◌, ◌||◌, IsTrue, cond, map, nat_eq, not}
use Rattle.std.specs.List.{All, Contains, list_any}
use Rattle.std.proofs.lemmas.Bool.{false≢true}
use Rattle.std.proofs.lemmas.List.{get_or_default}
use Rattle.std.proofs.lemmas.List.Elements.{All-contains}
use Rattle.a68_coerce.specs.Balanced.{LeafLeads}
use Rattle.a68_coerce.specs.Paths.{FirmTo, UnitesTo, a_member, a_union, meekly, uniting}
use Rattle.a68_coerce.specs.declared.goal.CoercionGoal.TheVariants as goal
use Rattle.a68_coerce.specs.declared.leaf.Leaf.{Leaf}
use Rattle.a68_coerce.specs.declared.leaf.Leaf.TheVariants as leaf
use Rattle.a68_equiv.proofs.Rowing.{no_steps}
use Rattle.a68_equiv.proofs.Stepping.{row_of_map}
use Rattle.a68_equiv.specs.Classes.{AreExact, class_of}
use Rattle.a68_equiv.specs.declared.mode.Mode.{Mode}
use Rattle.a68_equiv.specs.declared.steps.Inward.TheVariants.{WithinUnions}
use Rattle.a68_equiv.specs.Related.{Meek, LeadsMeekly, as_it_stands, without_flex, meek_step}
use Rattle.a68_equiv.specs.Related.Meek.{here, deref, deproc}
use Rattle.a68_equiv.specs.Unfolding.{Equivalent, is_union, unfolded, IsMember, leads_within}
use Rattle.a68_equiv.specs.Ways.{steps_of, row, Way}
use Rattle.a68_equiv.specs.Ways.Way.{last_step, more_steps}
use Rattle.std.proofs.lemmas.Option.{slice_get_within}
use Rattle.a68_ranges.proofs.Layering.{get_pushed}
use Rattle.a68_identify.specs.Apart.{AreBare, AreMet, IsKnown, IsMet, KnowsAll, NeverFirm}
use Rattle.a68_identify.specs.declared.apart.Met.{Met}
use Rattle.a68_identify.specs.Identified.{OperandFits, firmly, any_row}
use Rattle.a68_modes.specs.Nodes.{shape_at, ShapeIsWithin, HoldsNodes}
use Rattle.a68_modes.specs.declared.coercion.Coercion.{Coercion}
use Rattle.a68_modes.specs.declared.coercion.Sort.TheVariants as by
use Rattle.a68_modes.specs.declared.shape.Shape.{Shape}
use Rattle.a68_modes.specs.declared.shape.Shape.TheVariants.{Union}
use Rattle.a68_ranges.proofs.Taking.{some_one}

-- a mode is neither a union nor equivalent to one of these
abbrev pub IsMissed : List Shape → List ℕ → Mode → Type 0
IsMissed nodes members k = (is_union (unfolded nodes k.id) ≡ false) × ((x : ℕ) → Contains members x → Equivalent nodes k (as_it_stands x) → ⊥)

-- so is each mode to which a mode leads meekly
abbrev pub MissesAll : List Shape → List ℕ → Mode → Type 0
MissesAll nodes members m = (path : List Coercion) (k : Mode) → Meek nodes m path k → IsMissed nodes members k

module _ (nodes : List Shape) (P : Mode → Type 0) (at : Mode) where
  onward : (next : Mode) → meek_step (unfolded nodes at.id) ≡ Some next → P at → ((path : List Coercion) (k : Mode) → Meek nodes next path k → P k) → (path : List Coercion) (k : Mode) → Meek nodes at path k → P k
  onward next e own rest path k here = own
  onward next e own rest path k (deref {a = a} {path = p} f w) =
      let g = ap meek_step f in
      let same : without_flex a ≡ next = cc in
      rest p k (subst (λ (m : Mode). Meek nodes m p k) same w)
  onward next e own rest path k (deproc {a = a} {path = p} f w) =
      let g = ap meek_step f in
      let same : as_it_stands a ≡ next = cc in
      rest p k (subst (λ (m : Mode). Meek nodes m p k) same w)

  -- what holds of a mode holds of all to which it leads if it holds of all to which the next one leads
  pub all_on : (next : Mode) → meek_step (unfolded nodes at.id) ≡ Some next → P at → ((path : List Coercion) (k : Mode) → Meek nodes next path k → P k) → (path : List Coercion) (k : Mode) → Meek nodes at path k → P k
  all_on next e own rest path k w = onward next e own rest path k w

  -- and if there is no next one
  pub all_end : meek_step (unfolded nodes at.id) ≡ None → P at → (path : List Coercion) (k : Mode) → Meek nodes at path k → P k
  all_end e own path k here = own
  all_end e own path k (deref f w) = let g = ap meek_step f in absurd (cc)
  all_end e own path k (deproc f w) = let g = ap meek_step f in absurd (cc)

-- ---- what an operand meets

-- a set has more, and no union is met where none was before
pub record Grows (old new : List ℕ) (was is : Bool) : Type 0 where
  pub more : (x : ℕ) → list_any (nat_eq x) old ≡ true → list_any (nat_eq x) new ≡ true
  pub plain : is ≡ false → was ≡ false

pub grows_none : (set : List ℕ) (union : Bool) → Grows set set union union
grows_none set union = record { more = λ x e. e; plain = λ e. e }

module _ (nodes : List Shape) (classes set now : List ℕ) (was union : Bool) (at : Mode) (there : at.id < length nodes) (added : (x : ℕ) → list_any (nat_eq x) now ≡ cond (nat_eq (class_of classes at) x) true (list_any (nat_eq x) set))
    (met : union ≡ (was || is_union (unfolded nodes at.id))) where
  pub grows_one : Grows set now was union
  grows_one = record {
    more = λ x e. added x ∙ either (nat_eq (class_of classes at) x) (list_any (nat_eq x) set) e;
    plain = λ e. first was (is_union (unfolded nodes at.id)) (sym met ∙ e);
  }
    where
      either : (a b : Bool) → b ≡ true → cond a true b ≡ true
      either true b e = refl
      either false b e = e

      first : (a b : Bool) → (a || b) ≡ false → a ≡ false
      first true b e = absurd (false≢true (sym e))
      first false b e = refl

  -- the mode itself is known, in every set that has more
  pub own_known : (final : List ℕ) (flag : Bool) → Grows now final union flag → IsKnown nodes classes final flag at
  own_known final flag grows = record {
    there = there;
    class = grows.more (class_of classes at) (added (class_of classes at) ∙ ap (λ b. cond b true (list_any (nat_eq (class_of classes at)) set)) (eq-eqb (class_of classes at) (class_of classes at) refl));
    plain = λ e. second was (is_union (unfolded nodes at.id)) (sym met ∙ grows.plain e);
  }
    where
      second : (a b : Bool) → (a || b) ≡ false → b ≡ false
      second true b e = absurd (false≢true (sym e))
      second false b e = e

pub grows_on : (old mid new : List ℕ) (a b c : Bool) → Grows old mid a b → Grows mid new b c → Grows old new a c
grows_on old mid new a b c one more = record { more = λ x e. more.more x (one.more x e); plain = λ e. one.plain (more.plain e) }

-- a mode whose class is not met is not led to
pub not_led : (nodes : List Shape) (classes : List ℕ) → AreExact nodes classes → (set : List ℕ) (union : Bool) (from : Mode) (to : ℕ) → to < length nodes → KnowsAll nodes classes set union from
    → list_any (nat_eq (class_of classes (as_it_stands to))) set ≡ false → LeadsMeekly nodes from (as_it_stands to) → ⊥
not_led nodes classes exact set union from to below known none w =
    let k = known w.1 w.0 w.2 in
    let same = (exact.exact w.0 (as_it_stands to) k.there below).1 w.3 in
    false≢true (sym none ∙ ap (λ c. list_any (nat_eq c) set) (sym same) ∙ k.class)

pub missed : (nodes : List Shape) (classes : List ℕ) → AreExact nodes classes → (set : List ℕ) (from : Mode) (members : List ℕ) → ((x : ℕ) → Contains members x → x < length nodes) → KnowsAll nodes classes set false from
    → ((x : ℕ) → Contains members x → list_any (nat_eq (class_of classes (as_it_stands x))) set ≡ false) → MissesAll nodes members from
missed nodes classes exact set from members below known none path k w =
    let known_k = known path k w in (
      known_k.plain refl,
      λ x i e. false≢true (sym (none x i) ∙ ap (λ c. list_any (nat_eq c) set) (sym ((exact.exact k (as_it_stands x) known_k.there (below x i)).1 e)) ∙ known_k.class),
    )

module _ (nodes : List Shape) (from parameter : ℕ) (members : List ℕ) (there : parameter < length nodes) (is : shape_at nodes parameter ≡ Union members) (bare : AreBare nodes members) where
  -- a union of modes that lead on no farther has no members but these
  among : (x : ℕ) → Way (map (steps_of WithinUnions) nodes) parameter x → ((y : ℕ) → Contains members y → y < length nodes) → Contains members x
  among x (last_step i) below = rw (row_of_map (steps_of WithinUnions) nodes parameter there, is) at i
  among x (more_steps {b = b} i w) below =
      let c : Contains members b = rw (row_of_map (steps_of WithinUnions) nodes parameter there, is) at i in
      absurd (none b (bare b c) (below b c) x w)
    where
      none : (b : ℕ) → leads_within (shape_at nodes b) ≡ false → b < length nodes → (x : ℕ) → Way (map (steps_of WithinUnions) nodes) b x → ⊥
      none b leaf h x (last_step j) = let k : Contains [] x = rw (row_of_map (steps_of WithinUnions) nodes b h, no_steps (shape_at nodes b) leaf) at j in let l = k.1 in omega arith
      none b leaf h x (more_steps {b = d} j v) = let k : Contains [] d = rw (row_of_map (steps_of WithinUnions) nodes b h, no_steps (shape_at nodes b) leaf) at j in let l = k.1 in omega arith

  pub never_firm : ((y : ℕ) → Contains members y → y < length nodes) → MissesAll nodes members (as_it_stands from) → (LeadsMeekly nodes (as_it_stands from) (as_it_stands parameter) → ⊥) → NeverFirm nodes from parameter
  never_firm below missed not_led path (meekly w) = not_led (w.0, path, w.1, w.2)
  never_firm below missed not_led path (uniting never u) = go u.mode (missed u.meekly u.mode u.way) u.unites
    where
      go : (k : Mode) → IsMissed nodes members k → UnitesTo nodes (as_it_stands parameter) k → ⊥
      go k h (a_member e at) = h.1 at.0 (among at.0 at.1.way below) at.2
      go k h (a_union e f all) = false≢true (sym h.0 ∙ ap is_union f)

-- a unit alone whose mode does not lead firmly to a parameter does not fit it
module _ (nodes : List Shape) (mode parameter : ℕ) (never : NeverFirm nodes mode parameter) where
  alone : (i : ℕ) (l : Leaf) → slice_get (leaf.Mode mode ∷ []) i ≡ Some l → LeafLeads nodes by.Firm (as_it_stands parameter) l → ⊥
  alone zero l e leads =
      let same : leaf.Mode mode ≡ l = some_one e in
      let way = subst (LeafLeads nodes by.Firm (as_it_stands parameter)) (sym same) leads in
      never way.0 way.1
  alone (suc i) l e leads = absurd (cc)

  pub fits_never : (leaves : List Leaf) → leaves ≡ leaf.Mode mode ∷ [] → parameter ≢ 0 → OperandFits nodes leaves parameter → ⊥
  fits_never leaves lone some (firmly i other at) = alone i at.leaf (subst (λ (ls : List Leaf). slice_get ls i ≡ Some at.leaf) lone at.there) at.leads
  fits_never leaves lone some (any_row b is at) = some is

-- what holds at each place holds of each
pub bare_all : (nodes : List Shape) (members : List ℕ) → ((k : ℕ) → k < length members → leads_within (shape_at nodes (get_or members k 0)) ≡ false) → AreBare nodes members
bare_all nodes members each y i = subst (λ (k : ℕ). leads_within (shape_at nodes k) ≡ false) (get_or_default members i.0 0 y i.1 ∙ i.2) (each i.0 i.1)

-- the members of a union are modes that are there
pub members_below : (nodes : List Shape) (m : ℕ) (members : List ℕ) → HoldsNodes nodes → m < length nodes → shape_at nodes m ≡ Union members → All (λ k. k < length nodes) members
members_below nodes m members holds lt is = subst (ShapeIsWithin (length nodes)) is (holds.within m lt)

pub untold : (b : Bool) → IsTrue (not b) → b ≡ false
untold true t = absurd (false≢true t)
untold false t = refl

-- ---- what all operands meet

pub mets_none : (nodes : List Shape) (classes : List ℕ) → AreMet nodes classes [] []
mets_none nodes classes = record { long = refl; each = λ i leaves met e m. absurd (cc) }

pub mets_more : (nodes : List Shape) (classes : List ℕ) (operands : List (List Leaf)) (mets : List Met) (leaves : List Leaf) (met : Met) → AreMet nodes classes operands mets → IsMet nodes classes leaves met.of met.classes.keys met.union
    → AreMet nodes classes (operands ++ leaves ∷ []) (mets ++ met ∷ [])
mets_more nodes classes operands mets leaves met are one = record {
  long = let d = are.long in omega (arith, d, length-append operands (leaves ∷ []), length-append mets (met ∷ []));
  each = λ i ls m e f. ⊎_elim
      (λ h. ⊎_elim
      (λ g. are.each i ls m h g)
      (λ g. let low = slice_get_within operands i ls h in let at = g.0 in let d = are.long in absurd (omega (arith, low, at, d)))
      (get_pushed mets met m i f))
      (λ h. ⊎_elim
      (λ g. let low = slice_get_within mets i m g in let at = h.0 in let d = are.long in absurd (omega (arith, low, at, d)))
      (λ g. subst (λ (x : Met). IsMet nodes classes ls x.of x.classes.keys x.union) g.1 (subst (λ (xs : List Leaf). IsMet nodes classes xs met.of met.classes.keys met.union) h.1 one))
      (get_pushed mets met m i f))
      (get_pushed operands leaves ls i e);
}
