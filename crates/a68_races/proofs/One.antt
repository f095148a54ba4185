-- A journal has its races in one way.
use Rattle.std.proofs.Common.{◌≡◌, ◌<◌, ◌++◌, ℕ, List, [], ◌∷◌, length, take, Some, refl, sym, ap, subst, ◌∙◌, arith}
use Rattle.std.proofs.lemmas.Option.{slice_get_within}
use Rattle.a68_races.specs.Races.{Accesses, FirstBeyond, NoneBeyond, Race, LastRace, Raced, none, calm, raced, RacesAre}
use Rattle.a68_races.specs.Shown.{Shown}
use Rattle.a68_races.specs.declared.race.Pair.{Pair}
use Rattle.a68_races.specs.declared.race.TheConstants.{MOST_SHOWN}
use Rattle.a68_values.specs.declared.act.Act.{Act}
use Rattle.a68_values.specs.declared.act.Act.TheVariants as act
use Rattle.a68_values.specs.declared.act.Entry.{Entry}

one_cell : (a : Act) (c d : ℕ) → Accesses a c → Accesses a d → c ≡ d
one_cell (act.Fetch k) c d p q = sym p ∙ q
one_cell (act.Assign k) c d p q = sym p ∙ q
one_cell a c d p q = absurd p

one_place : (entries : List Entry) (c d i k j : ℕ) → LastRace entries c i j → LastRace entries d k j → i ≡ k
one_place entries c d i k j l m =
    let up = m.last c i l.race in
    let down = l.last d k m.race in
    omega (arith, up, down)

same_cell : (entries : List Entry) (c d i k j : ℕ) → LastRace entries c i j → LastRace entries d k j → c ≡ d
same_cell entries c d i k j l m =
    let both : Some l.race.other ≡ Some m.race.other = sym l.race.other_is ∙ m.race.other_is in
    let one : l.race.other ≡ m.race.other = cc both in
    one_cell m.race.other.act c d (subst (λ (e : Entry). Accesses e.act c) one l.race.meets) m.race.meets

pair : ℕ → ℕ → ℕ → Pair
pair c i j = record { cell = c; first = i; second = j }

same_pair : (c d i k j m : ℕ) → c ≡ d → i ≡ k → j ≡ m → (let x : Pair = record { cell = c; first = i; second = j } in x) ≡ (let y : Pair = record { cell = d; first = k; second = m } in y)
unfolding pair
same_pair c d i k j m e f g = ap (λ (x : ℕ). pair x i j) e ∙ ap (λ (x : ℕ). pair d x j) f ∙ ap (λ (x : ℕ). pair d k x) g

one_list : (entries : List Entry) (n : ℕ) (a : List Pair) → Raced entries n a → (m : ℕ) (b : List Pair) → Raced entries m b → n ≡ m → a ≡ b
one_list entries n a none m b none e = refl
one_list entries n a none m b (calm {j = j} s no_one) e = absurd (omega (arith, e))
one_list entries n a none m b (raced {j = j} s l) e = absurd (omega (arith, e))
one_list entries n a (calm {j = j} r no_one) m b none e = absurd (omega (arith, e))
one_list entries n a (calm {j = j} {found = f} r no_one) m b (calm {j = k} {found = g} s nobody) e = one_list entries j f r k g s (omega (arith, e))
one_list entries n a (calm {j = j} r no_one) m b (raced {j = k} {cell = c} {i = i} s l) e =
    let same : k ≡ j = omega (arith, e) in absurd (no_one c i (subst (λ (x : ℕ). Race entries c i x) same l.race))
one_list entries n a (raced {j = j} r l) m b none e = absurd (omega (arith, e))
one_list entries n a (raced {j = j} {cell = c} {i = i} r l) m b (calm {j = k} s nobody) e =
    let same : j ≡ k = omega (arith, e) in absurd (nobody c i (subst (λ (x : ℕ). Race entries c i x) same l.race))
one_list entries n a (raced {j = j} {cell = c} {i = i} {found = f} r l) m b (raced {j = k} {cell = d} {i = h} {found = g} s t) e =
    let same : j ≡ k = omega (arith, e) in
    let here : LastRace entries c i k = subst (λ (x : ℕ). LastRace entries c i x) same l in
    let more : f ≡ g = one_list entries j f r k g s same in
    let last = same_pair c d i h j k (same_cell entries c d i h k here t) (one_place entries c d i h k here t) same in
    ap (λ (x : List Pair). x ++ (let y : Pair = record { cell = c; first = i; second = j } in y) ∷ []) more ∙ ap (λ (p : Pair). g ++ p ∷ []) last

shown_of : List Pair → Shown
shown_of found = record { count = length found; pairs = take MOST_SHOWN found }

shown_is : (s : Shown) (found : List Pair) → s.count ≡ length found → s.pairs ≡ take MOST_SHOWN found → s ≡ shown_of found
unfolding shown_of
shown_is s found e f =
    ap (λ (k : ℕ). let x : Shown = record { count = k; pairs = s.pairs } in x) e ∙ ap (λ (ps : List Pair). let x : Shown = record { count = length found; pairs = ps } in x) f

pub one_answer : (entries : List Entry) (a b : Shown) → RacesAre entries a → RacesAre entries b → a ≡ b
one_answer entries a b r s =
    let same : r.found ≡ s.found = one_list entries (length entries) r.found r.raced (length entries) s.found s.raced refl in
    shown_is a r.found r.count r.pairs ∙ ap shown_of same ∙ sym (shown_is b s.found s.count s.pairs)

-- two first entries of strands that are not told apart are one
pub one_beyond : (entries : List Entry) (i j : ℕ) → FirstBeyond entries i → FirstBeyond entries j → i ≡ j
one_beyond entries i j p q = one i j (λ low. q.first i p.entry low p.is p.beyond) (λ low. p.first j q.entry low q.is q.beyond)
  where
    one : (a b : ℕ) → (a < b → ⊥) → (b < a → ⊥) → a ≡ b
    one a b f g = grind (arith, f, g)

pub none_or_one : (entries : List Entry) (i : ℕ) → FirstBeyond entries i → NoneBeyond entries → ⊥
none_or_one entries i p none_is = none_is i p.entry p.is p.beyond

pub one_within : (entries : List Entry) (i : ℕ) → FirstBeyond entries i → i < length entries
one_within entries i p = slice_get_within entries i p.entry p.is
