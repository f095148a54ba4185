-- What mode words and unions lead to.
use Rattle.std.proofs.Common.{◌≡◌, ◌<◌, ◌≤◌, ◌+◌, ◌++◌, ℕ, zero, suc, ap, List, [], ◌∷◌, Bool, true, false, cond, ◌||◌, nat_eq, length, get_or, refl, sym, ◌∙◌, arith, subst, inl, inr, ⊎_elim, below_more, length-append}
use Rattle.std.specs.Prelude.{◌↔◌, map}
use Rattle.std.specs.List.{All, Contains, IsDistinct, list_any}
use Rattle.std.proofs.Math.ListN.{get_or-append}
use Rattle.std.proofs.lemmas.List.{get_or_default}
use Rattle.std.proofs.lemmas.List.Elements.{Contains-push_cases, Contains-push, Contains-append_left, All-contains, All-from_get_or, Contains-get_or}
use Rattle.std.proofs.lemmas.Bool.{false≢true}
use Rattle.std.proofs.lemmas.Map.Steps.{length-le_from_distinct_below}
use Rattle.std.proofs.lemmas.Cmp.{nat_eq_equiv}
use Rattle.std.proofs.lemmas.List.Folds.{list_any-append}
use Rattle.std.proofs.lemmas.Map.Keys.{IsDistinct-push}
use Rattle.std.proofs.lemmas.Map.Views.{Contains-from_any, exact_unsigned_eq}
use Rattle.a68_modes.specs.declared.shape.Shape.{Shape}
use Rattle.a68_modes.specs.declared.shape.Shape.TheVariants.{Same, Union}
use Rattle.a68_modes.specs.Nodes.{shape_at, ShapeIsWithin, HoldsNodes}
use Rattle.a68_equiv.specs.declared.steps.Inward.TheVariants.{WithinUnions}
use Rattle.a68_equiv.specs.Graph.{ArePlain}
use Rattle.a68_equiv.specs.Spread.{AreLast, IsLed, IsSpread, AreSameModes, NotesModes}
use Rattle.a68_equiv.specs.Unfolding.{leads_within, is_union, IsMember, behind, word_or}
use Rattle.a68_equiv.specs.Ways.{steps_of, row, Way, StepsStayInside}
use Rattle.a68_equiv.specs.Ways.Way.{last_step, more_steps}
use Rattle.a68_equiv.proofs.Reach.{step_on}
use Rattle.a68_equiv.proofs.Rowing.{no_steps, none_from}
use Rattle.a68_equiv.proofs.Stepping.{row_of_map}

pub none_known : AreSameModes [] []
unfolding IsDistinct
none_known = record { distinct = tt; same = λ x. refl }

pub none_noted : (old : List ℕ) → NotesModes [] old old
none_noted old = record {
  longer = omega arith;
  kept = λ k h. refl;
  all = λ x i. let h = i.1 in absurd (omega arith);
  only = λ x i. inl i;
}

-- one that is there is noted again
pub noted_again : (modes old new : List ℕ) (m : ℕ) → NotesModes modes old new → list_any (nat_eq m) new ≡ true → NotesModes (modes ++ m ∷ []) old new
noted_again modes old new m so e = record {
  longer = so.longer;
  kept = so.kept;
  all = λ x i. ⊎_elim (λ j. so.all x j) (λ f. subst (Contains new) f (Contains-from_any exact_unsigned_eq m new e)) (Contains-push_cases modes m x i);
  only = λ x i. ⊎_elim inl (λ j. inr (Contains-append_left modes (m ∷ []) x j)) (so.only x i);
}

-- one more is noted
pub noted_new : (modes old new : List ℕ) (m : ℕ) → NotesModes modes old new → NotesModes (modes ++ m ∷ []) old (new ++ m ∷ [])
noted_new modes old new m so = record {
  longer = let l = so.longer in omega (arith, length-append new (m ∷ []));
  kept = λ k h. let l = so.longer in get_or-append new (m ∷ []) 0 k (omega arith) ∙ so.kept k h;
  all = λ x i. ⊎_elim (λ j. Contains-append_left new (m ∷ []) x (so.all x j)) (λ f. subst (Contains (new ++ m ∷ [])) f (Contains-push new m)) (Contains-push_cases modes m x i);
  only = λ x i. ⊎_elim (λ j. ⊎_elim inl (λ k. inr (Contains-append_left modes (m ∷ []) x k)) (so.only x j)) (λ f. inr (subst (Contains (modes ++ m ∷ [])) f (Contains-push modes m))) (Contains-push_cases new m x i);
}

-- and known
pub known_new : (list set now : List ℕ) (m : ℕ) → AreSameModes list set → list_any (nat_eq m) set ≡ false → ((x : ℕ) → list_any (nat_eq x) now ≡ cond (nat_eq m x) true (list_any (nat_eq x) set)) → AreSameModes (list ++ m ∷ []) now
known_new list set now m known none updates = record {
  distinct = IsDistinct-push nat_eq_equiv list m known.distinct (sym (known.same m) ∙ none);
  same = λ x. updates x ∙ go x (nat_eq m x) (nat_eq_equiv.symm x m) ∙ sym (list_any-append (nat_eq x) list (m ∷ []));
}
  where
    or_true : (b : Bool) → true ≡ (b || true)
    or_true true = refl
    or_true false = refl

    or_false : (b : Bool) → b ≡ (b || false)
    or_false true = refl
    or_false false = refl

    go : (x : ℕ) (b : Bool) → nat_eq x m ≡ b → cond b true (list_any (nat_eq x) set) ≡ (list_any (nat_eq x) list || list_any (nat_eq x) (m ∷ []))
    go x true e = rw e (or_true (list_any (nat_eq x) list))
    go x false e = rw (e, known.same x) (or_false (list_any (nat_eq x) list))

-- a walk that has taken the steps from the first i of what it found
pub record Walked (nodes : List Shape) (start found : List ℕ) (i : ℕ) : Type 0 where
  pub distinct : IsDistinct nat_eq found
  pub below : (x : ℕ) → Contains found x → x < length nodes
  pub begun : (x : ℕ) → Contains start x → Contains found x
  pub sound : (x : ℕ) → Contains found x → IsLed nodes start x
  pub closed : (k : ℕ) → k < i → (p : ℕ) → Contains (row (map (steps_of WithinUnions) nodes) (get_or found k 0)) p → Contains found p

none_in : (x : ℕ) → Contains [] x → ⊥
none_in x i = let h = i.1 in omega arith

pub walk_begun : (nodes : List Shape) (start found : List ℕ) → All (λ m. m < length nodes) start → IsDistinct nat_eq found → NotesModes start [] found → Walked nodes start found 0
walk_begun nodes start found below distinct so = record {
  distinct = distinct;
  below = λ x i. ⊎_elim (λ j. absurd (none_in x j)) (λ j. All-contains (λ m. m < length nodes) start x below j) (so.only x i);
  begun = so.all;
  sound = λ x i. ⊎_elim (λ j. absurd (none_in x j)) (λ j. record { from = x; begun = j; way = inl refl }) (so.only x i);
  closed = λ k h. absurd (omega arith);
}

led_on : (nodes : List Shape) (start : List ℕ) (a p : ℕ) → IsLed nodes start a → Contains (row (map (steps_of WithinUnions) nodes) a) p → IsLed nodes start p
led_on nodes start a p led i = ⊎_elim
    (λ e. record { from = led.from; begun = led.begun; way = inr (last_step (subst (λ (k : ℕ). Contains (row (map (steps_of WithinUnions) nodes) k) p) (sym e) i)) })
    (λ w. record { from = led.from; begun = led.begun; way = inr (step_on (map (steps_of WithinUnions) nodes) led.from a p w i) })
    led.way

pub walk_on : (nodes : List Shape) (start found new steps : List ℕ) (i : ℕ) → StepsStayInside (map (steps_of WithinUnions) nodes) → length (map (steps_of WithinUnions) nodes) ≡ length nodes → i < length found
    → steps ≡ row (map (steps_of WithinUnions) nodes) (get_or found i 0) → Walked nodes start found i → IsDistinct nat_eq new → NotesModes steps found new → Walked nodes start new (i + 1)
walk_on nodes start found new steps i parts long lt e w distinct so = record {
  distinct = distinct;
  below = λ x j. ⊎_elim (λ k. w.below x k) (λ k. rw long at (All-contains (λ m. m < length (map (steps_of WithinUnions) nodes)) (row (map (steps_of WithinUnions) nodes) at) x (parts at (rw long (w.below at here))) (subst (λ (s : List ℕ). Contains s x) e k))) (so.only x j);
  begun = λ x j. there x (w.begun x j);
  sound = λ x j. ⊎_elim (λ k. w.sound x k) (λ k. led_on nodes start at x (w.sound at here) (subst (λ (s : List ℕ). Contains s x) e k)) (so.only x j);
  closed = below_more _ _
      (λ k h p j. there p (w.closed k h p (subst (λ (a : ℕ). Contains (row (map (steps_of WithinUnions) nodes) a) p) (so.kept k (omega arith)) j)))
      (λ p j. so.all p (subst (λ (s : List ℕ). Contains s p) (sym e) (subst (λ (a : ℕ). Contains (row (map (steps_of WithinUnions) nodes) a) p) (so.kept i lt) j)));
}
  where
    at : ℕ
    at = get_or found i 0

    here : Contains found at
    here = Contains-get_or found i 0 lt

    there : (x : ℕ) → Contains found x → Contains new x
    there x j = (j.0, (let l = so.longer in let h = j.1 in omega arith), get_or_default new j.0 x 0 (let l = so.longer in let h = j.1 in omega arith) ∙ so.kept j.0 j.1 ∙ get_or_default found j.0 0 x j.1 ∙ j.2)

pub few : (nodes : List Shape) (start found : List ℕ) (i : ℕ) → Walked nodes start found i → length found ≤ length nodes
few nodes start found i w = length-le_from_distinct_below found (length nodes) w.distinct (λ q t. w.below q (Contains-from_any exact_unsigned_eq q found t))

pub walk_whole : (nodes : List Shape) (start found : List ℕ) (i : ℕ) → length found ≤ i → Walked nodes start found i → (x : ℕ) → Contains found x ↔ IsLed nodes start x
walk_whole nodes start found i le w x = (w.sound x, λ led. ⊎_elim (λ e. subst (Contains found) e (w.begun led.from led.begun)) (λ v. on led.from x (w.begun led.from led.begun) v) led.way)
  where
    step : (a p : ℕ) → Contains found a → Contains (row (map (steps_of WithinUnions) nodes) a) p → Contains found p
    step a p j k = w.closed j.0 (let h = j.1 in omega arith) p (subst (λ (b : ℕ). Contains (row (map (steps_of WithinUnions) nodes) b) p) (sym (get_or_default found j.0 0 a j.1 ∙ j.2)) k)

    on : (a b : ℕ) → Contains found a → Way (map (steps_of WithinUnions) nodes) a b → Contains found b
    on a b j (last_step k) = step a b j k
    on a b j (more_steps {b = c} k v) = on c b (step a c j k) v

-- none of them leads on
pub plain_spread : (nodes : List Shape) (start : List ℕ) → All (λ m. m < length nodes) start → ArePlain nodes start → (x : ℕ) → Contains start x ↔ IsSpread nodes start x
plain_spread nodes start below plain x = (λ i. record { led = record { from = x; begun = i; way = inl refl }; last = leaf x i }, λ s. ⊎_elim (λ e. subst (Contains start) e s.led.begun) (λ w. absurd (none_on s.led.from x s.led.begun w)) s.led.way)
  where
    leaf : (y : ℕ) → Contains start y → leads_within (shape_at nodes y) ≡ false
    leaf y i = subst (λ (k : ℕ). leads_within (shape_at nodes k) ≡ false) (get_or_default start i.0 0 y i.1 ∙ i.2) (plain i.0 i.1)

    none_on : (a b : ℕ) → Contains start a → Way (map (steps_of WithinUnions) nodes) a b → ⊥
    none_on a b i w =
        let lt = All-contains (λ k. k < length nodes) start a below i in
        none_from (map (steps_of WithinUnions) nodes) a b (row_of_map (steps_of WithinUnions) nodes a lt ∙ no_steps (shape_at nodes a) (leaf a i)) w

pub no_spread : (nodes : List Shape) → AreLast nodes [] []
no_spread nodes x = (λ i. absurd (none_in x i), λ i. absurd (none_in x i.0))

pub spread_on : (nodes : List Shape) (found items : List ℕ) (m : ℕ) → AreLast nodes found items → leads_within (shape_at nodes m) ≡ true → AreLast nodes (found ++ m ∷ []) items
spread_on nodes found items m so e x = (
  λ i. let w = (so x).0 i in (Contains-append_left found (m ∷ []) x w.0, w.1),
  λ w. ⊎_elim (λ i. (so x).1 (i, w.1)) (λ f. let g : leads_within (shape_at nodes m) ≡ false = subst (λ (k : ℕ). leads_within (shape_at nodes k) ≡ false) (sym f) w.1 in absurd (cc)) (Contains-push_cases found m x w.0),
)

pub spread_more : (nodes : List Shape) (found items : List ℕ) (m : ℕ) → AreLast nodes found items → leads_within (shape_at nodes m) ≡ false → AreLast nodes (found ++ m ∷ []) (items ++ m ∷ [])
spread_more nodes found items m so e x = (
  λ i. ⊎_elim (λ j. let w = (so x).0 j in (Contains-append_left found (m ∷ []) x w.0, w.1)) (λ f. (subst (Contains (found ++ m ∷ [])) f (Contains-push found m), subst (λ (k : ℕ). leads_within (shape_at nodes k) ≡ false) f e)) (Contains-push_cases items m x i),
  λ w. ⊎_elim (λ i. Contains-append_left items (m ∷ []) x ((so x).1 (i, w.1))) (λ f. subst (Contains (items ++ m ∷ [])) f (Contains-push items m)) (Contains-push_cases found m x w.0),
)

pub spread_whole : (nodes : List Shape) (start found items : List ℕ) → ((x : ℕ) → Contains found x ↔ IsLed nodes start x) → AreLast nodes found items → (x : ℕ) → Contains items x ↔ IsSpread nodes start x
spread_whole nodes start found items led so x = (
  λ i. let w = (so x).0 i in record { led = (led x).0 w.0; last = w.1 },
  λ s. (so x).1 ((led x).1 s.led, s.last),
)

pub spread_below : (nodes : List Shape) (found items : List ℕ) → AreLast nodes found items → All (λ m. m < length nodes) found → All (λ m. m < length nodes) items
spread_below nodes found items so below = All-from_get_or (λ m. m < length nodes) items 0 (λ k h. All-contains (λ m. m < length nodes) found (get_or items k 0) below ((so (get_or items k 0)).0 (Contains-get_or items k 0 h)).0)

-- the members of a union are what its steps spread to
pub members_spread : (nodes : List Shape) (m x : ℕ) → m < length nodes → IsMember nodes m x ↔ IsSpread nodes (steps_of WithinUnions (shape_at nodes m)) x
members_spread nodes m x h = (λ is. go is.way is.last, λ s. record { way = back s.led; last = s.last })
  where
    graph : List (List ℕ)
    graph = map (steps_of WithinUnions) nodes

    here : row graph m ≡ steps_of WithinUnions (shape_at nodes m)
    here = row_of_map (steps_of WithinUnions) nodes m h

    go : Way (map (steps_of WithinUnions) nodes) m x → leads_within (shape_at nodes x) ≡ false → IsSpread nodes (steps_of WithinUnions (shape_at nodes m)) x
    go (last_step i) e = record { led = record { from = x; begun = rw here at i; way = inl refl }; last = e }
    go (more_steps {b = c} i w) e = record { led = record { from = c; begun = rw here at i; way = inr w }; last = e }

    back : IsLed nodes (steps_of WithinUnions (shape_at nodes m)) x → Way (map (steps_of WithinUnions) nodes) m x
    back led =
        let i : Contains (row (map (steps_of WithinUnions) nodes) m) led.from = rw here led.begun in
        ⊎_elim (λ e. last_step (subst (Contains (row (map (steps_of WithinUnions) nodes) m)) e i)) (λ w. more_steps i w) led.way

-- ---- behind mode words

one_of : (t b : ℕ) → Contains (t ∷ []) b → t ≡ b
one_of t b (zero, less, e) = e
one_of t b (suc k, less, e) = absurd (omega (arith, less))

-- a mode word that leads on has the members of what it stands for
word_members : (nodes : List Shape) (m t x : ℕ) → m < length nodes → shape_at nodes m ≡ Same t → leads_within (shape_at nodes t) ≡ true → IsMember nodes m x ↔ IsMember nodes t x
word_members nodes m t x h e leads = (λ is. record { way = on is.way is.last; last = is.last }, λ is. record { way = more_steps (rw here first) is.way; last = is.last })
  where
    here : row (map (steps_of WithinUnions) nodes) m ≡ t ∷ []
    here = row_of_map (steps_of WithinUnions) nodes m h ∙ ap (steps_of WithinUnions) e

    first : Contains (t ∷ []) t
    first = (0, omega arith, refl)

    on : Way (map (steps_of WithinUnions) nodes) m x → leads_within (shape_at nodes x) ≡ false → Way (map (steps_of WithinUnions) nodes) t x
    on (last_step i) l =
        let same : t ≡ x = one_of t x (rw here at i) in
        absurd (false≢true (sym l ∙ ap (λ k. leads_within (shape_at nodes k)) (sym same) ∙ leads))
    on (more_steps {b = b} i w) l =
        let same : t ≡ b = one_of t b (rw here at i) in
        subst (λ k. Way (map (steps_of WithinUnions) nodes) k x) (sym same) w

union_leads : (s : Shape) → is_union s ≡ true → leads_within s ≡ true
union_leads (Union members) e = refl
union_leads _ e = absurd (false≢true e)

led_by : (nodes : List Shape) (k t : ℕ) → is_union (shape_at nodes (behind nodes k t)) ≡ true → leads_within (shape_at nodes t) ≡ true
led_by nodes zero t u = union_leads (shape_at nodes t) u
led_by nodes (suc k) t u = go (shape_at nodes t) refl u
  where
    go : (s : Shape) → shape_at nodes t ≡ s → is_union (shape_at nodes (word_or (behind nodes k) t s)) ≡ true → leads_within s ≡ true
    go (Same v) e u = refl
    go (Union members) e u = refl
    go s e u = union_leads s (ap is_union (sym e) ∙ u)

-- mode words before a union have its members
pub members_behind : (nodes : List Shape) → HoldsNodes nodes → (k m x : ℕ) → m < length nodes → is_union (shape_at nodes (behind nodes k m)) ≡ true
    → IsMember nodes m x ↔ IsMember nodes (behind nodes k m) x
members_behind nodes holds zero m x h u = (λ i. i, λ i. i)
members_behind nodes holds (suc k) m x h u = go (shape_at nodes m) refl (holds.within m h) u (λ t less v. members_behind nodes holds k t x less v)
  where
    go : (s : Shape) → shape_at nodes m ≡ s → ShapeIsWithin (length nodes) s → is_union (shape_at nodes (word_or (behind nodes k) m s)) ≡ true
        → ((t : ℕ) → t < length nodes → is_union (shape_at nodes (behind nodes k t)) ≡ true → IsMember nodes t x ↔ IsMember nodes (behind nodes k t) x)
        → IsMember nodes m x ↔ IsMember nodes (word_or (behind nodes k) m s) x
    go (Same t) e p v more =
        let word = word_members nodes m t x h e (led_by nodes k t v) in
        let rest = more t (p 0 0 (omega arith)) v in
        (λ i. rest.0 (word.0 i), λ i. word.1 (rest.1 i))
    go _ e p v more = (λ i. i, λ i. i)
