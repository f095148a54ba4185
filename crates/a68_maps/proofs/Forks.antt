-- Maps whose forks stay.
use Rattle.std.proofs.Common.{◌≡◌, ◌⊎◌, inl, inr, ⊎_elim, true≢false, ◌<◌, ◌+◌, ◌%◌, ◌/◌, ◌^◌, ◌++◌, ℕ, zero, suc, Bool, true, false, nat_eq, List, [], ◌∷◌, length, refl, sym, ap, ◌∙◌, arith, subst, Some, None, slice_get, Option, length-append}
use Rattle.std.specs.Prelude.{if◌then◌else◌}
use Rattle.std.proofs.lemmas.Bool.Decides.{nat_tests}
use Rattle.std.proofs.lemmas.Nat.{shr_below}
use Rattle.a68_maps.specs.Found.{no_fork, fork_or_none, fork_of, branch, with_branch, look, is_even, IsThere, IsMap, Puts, found, IsMade, Stay, IsWith}
use Rattle.a68_maps.specs.declared.maps.Fork.{Fork}

-- ---- forks in a list

get_kept : (forks more : List Fork) (number : ℕ) → number < length forks → slice_get (forks ++ more) number ≡ slice_get forks number
get_kept [] more number h = absurd (omega arith)
get_kept (f ∷ forks) more zero h = refl
get_kept (f ∷ forks) more (suc number) h = get_kept forks more number (omega arith)

get_added : (forks : List Fork) (fork : Fork) → slice_get (forks ++ fork ∷ []) (length forks) ≡ Some fork
get_added [] fork = refl
get_added (f ∷ forks) fork = get_added forks fork

fork_kept : (forks more : List Fork) (map : Option ℕ) → IsThere (length forks) map → fork_of (forks ++ more) map ≡ fork_of forks map
fork_kept forks more None h = refl
fork_kept forks more (Some number) h = ap fork_or_none (get_kept forks more number h)

there_kept : (forks more : List Fork) (map : Option ℕ) → IsThere (length forks) map → IsThere (length (forks ++ more)) map
there_kept forks more None h = tt
there_kept forks more (Some number) h = omega (arith, h, length-append forks more)

-- ---- a map stays where forks are added

branch_is : (P : Option ℕ → Type 0) (fork : Fork) (even : Bool) → P fork.even → P fork.odd → P (branch fork even)
branch_is P fork true even odd = even
branch_is P fork false even odd = odd

pub kept : (forks more : List Fork) (bits : ℕ) (map : Option ℕ) → IsMap forks bits map → IsMap (forks ++ more) bits map
unfolding IsMap
kept forks more zero map is = tt
kept forks more (suc bits) map is =
    let same = sym (fork_kept forks more map is.0) in (
      there_kept forks more map is.0,
      subst (λ (f : Fork). IsMap (forks ++ more) bits f.even) same (kept forks more bits (fork_of forks map).even is.1),
      subst (λ (f : Fork). IsMap (forks ++ more) bits f.odd) same (kept forks more bits (fork_of forks map).odd is.2),
    )

-- the parts of a map
pub part_is : (forks : List Fork) (bits : ℕ) (map : Option ℕ) (even : Bool) → IsMap forks (suc bits) map → IsMap forks bits (branch (fork_of forks map) even)
unfolding IsMap
part_is forks bits map even is = branch_is (IsMap forks bits) (fork_of forks map) even is.1 is.2

there : (forks : List Fork) (bits : ℕ) (map : Option ℕ) → IsMap forks (suc bits) map → IsThere (length forks) map
unfolding IsMap
there forks bits map is = is.0

map_of : (forks : List Fork) (bits : ℕ) (map : Option ℕ) → IsThere (length forks) map → ((even : Bool) → IsMap forks bits (branch (fork_of forks map) even)) → IsMap forks (suc bits) map
unfolding IsMap
map_of forks bits map low parts = (low, parts true, parts false)

look_on : (forks : List Fork) (bits : ℕ) (map : Option ℕ) (key : ℕ) → look forks (suc bits) map key ≡ look forks bits (branch (fork_of forks map) (is_even key)) (key / 2)
unfolding look
look_on forks bits map key = refl

pub same_look : (forks more : List Fork) (bits : ℕ) (map : Option ℕ) (key : ℕ) → IsMap forks bits map → look (forks ++ more) bits map key ≡ look forks bits map key
unfolding look
same_look forks more zero map key is = refl
same_look forks more (suc bits) map key is =
    ap (λ f. look (forks ++ more) bits (branch f (is_even key)) (key / 2)) (fork_kept forks more map (there forks bits map is))
    ∙ same_look forks more bits (branch (fork_of forks map) (is_even key)) (key / 2) (part_is forks bits map (is_even key) is)

-- ---- keys by their bits

pub half_below : (bits key : ℕ) → key < 2 ^ suc bits → key / 2 < 2 ^ bits
half_below bits key h = let more : suc bits ≡ bits + 1 = omega arith in shr_below key bits 1 (subst (λ n. key < 2 ^ n) more h)

same_or : (a b : Bool) → (a ≡ b) ⊎ (a ≡ b → ⊥)
same_or true true = inl refl
same_or true false = inr (λ e. true≢false e)
same_or false true = inr (λ e. true≢false (sym e))
same_or false false = inl refl

-- keys that are both even or both odd are one where their halves are
same_bit : (key k : ℕ) → is_even key ≡ is_even k → nat_eq (key / 2) (k / 2) ≡ nat_eq key k
same_bit key k e = go (nat_eq (key / 2) (k / 2)) refl
  where
    bit : key % 2 ≡ k % 2
    bit = grind (arith, nat_tests, e)

    go : (b : Bool) → nat_eq (key / 2) (k / 2) ≡ b → b ≡ nat_eq key k
    go true h = let halves : key / 2 ≡ k / 2 = grind (arith, nat_tests, h) in let same : key ≡ k = omega (arith, bit, halves) in grind (arith, nat_tests, same)
    go false h = apart (nat_eq key k) refl
      where
        apart : (b : Bool) → nat_eq key k ≡ b → false ≡ b
        apart true s = let same : key ≡ k = grind (arith, nat_tests, s) in h' (ap (λ n. n / 2) same)
          where
            h' : key / 2 ≡ k / 2 → false ≡ true
            h' halves = absurd (grind (arith, nat_tests, h, halves))
        apart false s = refl

other_bit : (key k : ℕ) → (is_even key ≡ is_even k → ⊥) → nat_eq key k ≡ false
other_bit key k differ = go (nat_eq key k) refl
  where
    go : (b : Bool) → nat_eq key k ≡ b → b ≡ false
    go true h = let same : key ≡ k = grind (arith, nat_tests, h) in absurd (differ (ap is_even same))
    go false h = refl

-- ---- a fork with another part

branch_same : (fork : Fork) (even : Bool) (map : Option ℕ) → branch (with_branch fork even map) even ≡ map
branch_same fork true map = refl
branch_same fork false map = refl

branch_other : (fork : Fork) (even other : Bool) (map : Option ℕ) → (even ≡ other → ⊥) → branch (with_branch fork even map) other ≡ branch fork other
branch_other fork true true map e = absurd (e refl)
branch_other fork true false map e = refl
branch_other fork false true map e = refl
branch_other fork false false map e = absurd (e refl)

parts_are : (P : Option ℕ → Type 0) (fork : Fork) (even : Bool) (map : Option ℕ) → ((b : Bool) → P (branch fork b)) → P map → (b : Bool) → P (branch (with_branch fork even map) b)
parts_are P fork true map parts is true = is
parts_are P fork true map parts is false = parts false
parts_are P fork false map parts is true = parts true
parts_are P fork false map parts is false = is

-- ---- a map with a value for a key

same_none : (key k : ℕ) → key < 2 ^ 0 → k < 2 ^ 0 → nat_eq key k ≡ true
same_none key k h low = let e : key ≡ k = omega (arith, h, low) in grind (arith, nat_tests, e)

value_or : (value : ℕ) (map : Option ℕ) (b : Bool) → b ≡ true → Some value ≡ (if b then Some value else map)
value_or value map true e = refl
value_or value map false e = absurd (cc)

put_none : (forks : List Fork) (map : Option ℕ) (key value : ℕ) → key < 2 ^ 0 → Puts forks forks 0 map key value (Some value)
unfolding look IsMap
put_none forks map key value h = record {
  stays = λ n other is. (is, λ k. refl);
  is = tt;
  has = λ k low. value_or value map (nat_eq key k) (same_none key k h low);
}

pub put_last : (forks : List Fork) (bits : ℕ) (map : Option ℕ) (key value : ℕ) → bits ≡ 0 → key < 2 ^ bits → Puts forks forks bits map key value (Some value)
put_last forks bits map key value e low = subst (λ n. Puts forks forks n map key value (Some value)) (sym e) (put_none forks map key value (subst (λ n. key < 2 ^ n) e low))

module _ (old mid : List Fork) (bits : ℕ) (map : Option ℕ) (key value : ℕ) (part : Option ℕ) (low : key < 2 ^ suc bits) (is : IsMap old (suc bits) map)
    (puts : Puts old mid bits (branch (fork_of old map) (is_even key)) (key / 2) value part) where
  abbrev fork_is : Fork
  fork_is = with_branch (fork_of old map) (is_even key) part

  abbrev after : List Fork
  after = mid ++ fork_is ∷ []

  at : fork_of after (Some (length mid)) ≡ fork_is
  at = ap fork_or_none (get_added mid fork_is)

  part_stays : (b : Bool) → IsMap mid bits (branch (fork_of old map) b) × ((k : ℕ) → look mid bits (branch (fork_of old map) b) k ≡ look old bits (branch (fork_of old map) b) k)
  part_stays b = puts.stays bits (branch (fork_of old map) b) (part_is old bits map b is)

  parts : (b : Bool) → IsMap after bits (branch fork_is b)
  parts b = kept mid (fork_is ∷ []) bits (branch fork_is b) (parts_are (IsMap mid bits) (fork_of old map) (is_even key) part (λ b. (part_stays b).0) puts.is b)

  by_bit : (k : ℕ) → k < 2 ^ suc bits → look after bits (branch fork_is (is_even k)) (k / 2) ≡ (if nat_eq key k then Some value else look old bits (branch (fork_of old map) (is_even k)) (k / 2))
  by_bit k small = ⊎_elim
      (λ bit.
      ap (λ m. look after bits m (k / 2)) (ap (branch fork_is) (sym bit) ∙ branch_same (fork_of old map) (is_even key) part)
      ∙ same_look mid (fork_is ∷ []) bits part (k / 2) puts.is
      ∙ puts.has (k / 2) (half_below bits k small)
      ∙ ap (λ b. if b then Some value else look old bits (branch (fork_of old map) (is_even key)) (k / 2)) (same_bit key k bit)
      ∙ ap (λ b. if nat_eq key k then Some value else look old bits (branch (fork_of old map) b) (k / 2)) bit)
      (λ differ.
      ap (λ m. look after bits m (k / 2)) (branch_other (fork_of old map) (is_even key) (is_even k) part differ)
      ∙ same_look mid (fork_is ∷ []) bits (branch (fork_of old map) (is_even k)) (k / 2) (part_stays (is_even k)).0
      ∙ (part_stays (is_even k)).1 (k / 2)
      ∙ ap (λ b. if b then Some value else look old bits (branch (fork_of old map) (is_even k)) (k / 2)) (sym (other_bit key k differ)))
      (same_or (is_even key) (is_even k))

  more_puts : Puts old after (suc bits) map key value (Some (length mid))
  more_puts = record {
    stays = λ n other was.
        let p = puts.stays n other was in
        (kept mid (fork_is ∷ []) n other p.0, λ k. same_look mid (fork_is ∷ []) n other k p.0 ∙ p.1 k);
    is = map_of after bits (Some (length mid)) (omega (arith, length-append mid (fork_is ∷ [])))
        (λ b. subst (λ (f : Fork). IsMap after bits (branch f b)) (sym at) (parts b));
    has = λ k small.
        look_on after bits (Some (length mid)) k
        ∙ ap (λ (f : Fork). look after bits (branch f (is_even k)) (k / 2)) at
        ∙ by_bit k small
        ∙ ap (λ m. if nat_eq key k then Some value else m) (sym (look_on old bits map k));
  }

pub put_more : (old mid new : List Fork) (bits n : ℕ) (map : Option ℕ) (key value : ℕ) (part made : Option ℕ) → bits ≡ suc n → key < 2 ^ bits → IsMap old bits map
    → Puts old mid n (branch (fork_of old map) (is_even key)) (key / 2) value part → new ≡ mid ++ with_branch (fork_of old map) (is_even key) part ∷ [] → made ≡ Some (length mid)
    → Puts old new bits map key value made
put_more old mid new bits n map key value part made e low is puts new_is made_is =
    rw (new_is, made_is, e) (more_puts old mid n map key value part (subst (λ b. key < 2 ^ b) e low) (subst (λ b. IsMap old b map) e is) puts)

-- ---- keys of 32 bits

pub made_map : (forks : List Fork) (map : Option ℕ) → IsMade forks map → IsMap forks 32 map
unfolding IsMade
made_map forks map is = is

pub with_is : (old new : List Fork) (map : Option ℕ) (key value : ℕ) (made : Option ℕ) → Puts old new 32 map key value made → IsWith old new map key value made
unfolding found IsMade
with_is old new map key value made puts = record {
  stay = λ other is. puts.stays 32 other is;
  is = puts.is;
  has = puts.has;
}

-- a map that has nothing
nothing : (forks : List Fork) (bits : ℕ) → IsMap forks bits None
unfolding IsMap
nothing forks zero = tt
nothing forks (suc bits) = (tt, nothing forks bits, nothing forks bits)

pub nothing_is_made : (forks : List Fork) → IsMade forks None
unfolding IsMade
nothing_is_made forks = nothing forks 32

none_there : (even : Bool) → branch no_fork even ≡ None
none_there true = refl
none_there false = refl

nothing_there : (forks : List Fork) (bits k : ℕ) → look forks bits None k ≡ None
unfolding look
nothing_there forks zero k = refl
nothing_there forks (suc bits) k = ap (λ m. look forks bits m (k / 2)) (none_there (is_even k)) ∙ nothing_there forks bits (k / 2)

pub nothing_found : (forks : List Fork) (key : ℕ) → found forks None key ≡ None
unfolding found
nothing_found forks key = nothing_there forks 32 key

-- whatever stays stays
pub stay_on : (old mid new : List Fork) → Stay old mid → Stay mid new → Stay old new
stay_on old mid new one more = λ map is.
    let a = one map is in
    let b = more map a.0 in
    (b.0, λ key. b.1 key ∙ a.1 key)

-- ---- a look

pub look_start : (forks : List Fork) (map : Option ℕ) (key : ℕ) → look forks 32 map key ≡ found forks map key
unfolding found
look_start forks map key = refl

pub look_step : (forks : List Fork) (bits n : ℕ) (map at : Option ℕ) (key : ℕ) (answer : Option ℕ) → bits ≡ suc n → at ≡ branch (fork_of forks map) (is_even key) → look forks bits map key ≡ answer → look forks n at (key / 2) ≡ answer
look_step forks bits n map at key answer e at_is before = rw at_is (sym (look_on forks n map key) ∙ ap (λ b. look forks b map key) (sym e) ∙ before)

pub look_end : (forks : List Fork) (bits : ℕ) (map : Option ℕ) (key : ℕ) (answer : Option ℕ) → bits ≡ 0 → look forks bits map key ≡ answer → map ≡ answer
unfolding look
look_end forks bits map key answer e before = ap (λ b. look forks b map key) (sym e) ∙ before
