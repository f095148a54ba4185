-- No way passes heights that are settled.
use Rattle.std.proofs.Common.{◌≡◌, ◌<◌, ◌≤◌, ◌+◌, ◌∷◌, ◌++◌, ℕ, zero, suc, get_or, take, arith, Bool, true, List, [], IsTrue, Contains, slice_index_or, length, subst, sym}
use Rattle.std.proofs.lemmas.Bool.{leb-true}
use Rattle.std.proofs.lemmas.List.{take_more}
use Rattle.std.proofs.lemmas.List.Elements.{All-contains}
use Rattle.std.proofs.lemmas.List.Sums.{AllPass-from_list_all}
use Rattle.std.specs.List.{list_all}
use Rattle.std.specs.Prelude.{Ok, Err, IfOk}
use Rattle.std.specs.declared.result.Result.{Result}
use Rattle.a68_code.proofs.Reading.{does_at_within}
use Rattle.a68_code.proofs.Ways.{way_to, way_of_jump}
use Rattle.a68_code.specs.Flow.{Reaches, leaves_to}
use Rattle.a68_code.specs.Flow.Reaches.{begins, goes_on, lands}
use Rattle.a68_code.specs.Valid.{IsValid}
use Rattle.a68_code.specs.Walk.{ways}
use Rattle.a68_code.specs.declared.code.Code.{Code}
use Rattle.a68_code.specs.declared.does.Does.{Does}
use Rattle.a68_code.specs.declared.does.Does.TheVariants.{Goto}
use Rattle.a68_code.specs.declared.owner.Owner.{Owner}
use Rattle.a68_exec.specs.Rooms.{room_at}
use Rattle.a68_heights.proofs.Bounding.{list_suffices}
use Rattle.a68_heights.specs.Reach.{AreFalling, AreSettled, falls_to, is_low}
use Rattle.a68_heights.specs.Room.{Suffices}

-- what holds of all elements of a list
each : (p : ℕ × ℕ → Bool) (xs : List (ℕ × ℕ)) (x : ℕ × ℕ) → IsTrue (list_all p xs) → Contains xs x → IsTrue (p x)
each p xs x e i = All-contains (λ y. p y ≡ true) xs x (AllPass-from_list_all p xs e) i

pub room_some : (rooms : List ℕ × ℕ) (at : ℕ) → 0 < room_at rooms at
room_some rooms at = omega arith

-- one number for each place
even_suffices_by : (code : Code) → IsValid code → (most : ℕ) → ((whose : Owner) (at height : ℕ) → Reaches code whose at height → height ≤ most) → Suffices code (room_at ([], most))
even_suffices_by code valid most few = record {
  valid = valid;
  some = room_some ([], most);
  above = λ whose at height r. let less = few whose at height r in omega (arith, less);
  leads_on = λ at to does is i. omega arith;
  lands = λ at to frames height gives is. omega arith;
}

module _ (code : Code) (valid : IsValid code) (heights : List ℕ) (settled : AreSettled code heights) where
  reached_low : {whose : Owner} {at height : ℕ} → Reaches code whose at height → height ≤ slice_index_or heights at 0
  reached_low (begins i) = omega arith
  reached_low (goes_on {at = at} {to = to} {does = does} below r is i) =
      let few = reached_low r in
      let way = settled at (does_at_within code.list at does is) does is in
      let finds = way.1 in
      let left = way.0 + leaves_to code.modes does to in
      let there = leb-true left (slice_index_or heights to 0) (each (is_low heights) (ways code.modes at does way.0) (to, left) way.2 (way_to code.modes at does way.0 to i)) in
      omega (arith, few, finds, there)
  reached_low (lands {at = at} {to = to} {frames = frames} {height = height} {gives = gives} below r is) =
      let does : Does = Goto to frames height gives in
      let way = settled at (does_at_within code.list at does is) does is in
      leb-true height (slice_index_or heights to 0) (each (is_low heights) (ways code.modes at does way.0) (to, height) way.2 (way_of_jump code.modes at to frames height gives way.0))

  -- numbers that are more than the heights, and do not grow along the ways
  pub falling_suffice : (most : ℕ → ℕ) → ((at : ℕ) → 0 < most at) → AreFalling code heights most → Suffices code most
  falling_suffice most some falling = record {
    valid = valid;
    some = some;
    above = λ whose at height r. let few = reached_low r in let more = (falling at (valid.within whose at height r)).above in omega (arith, few, more);
    leads_on = λ at to does is i.
        let way = (falling at (does_at_within code.list at does is)).falls does is in
        leb-true (most to) (most at) (each (falls_to most (most at)) (ways code.modes at does way.0) (to, way.0 + leaves_to code.modes does to) way.2 (way_to code.modes at does way.0 to i));
    lands = λ at to frames height gives is.
        let does : Does = Goto to frames height gives in
        let way = (falling at (does_at_within code.list at does is)).falls does is in
        leb-true (most to) (most at) (each (falls_to most (most at)) (ways code.modes at does way.0) (to, height) way.2 (way_of_jump code.modes at to frames height gives way.0));
  }

  -- one number, which is no less than any height
  pub highest_suffices : (most : ℕ) → ((at : ℕ) → slice_index_or heights at 0 ≤ most) → Suffices code (room_at ([], most))
  highest_suffices most high = even_suffices_by code valid most (λ whose at height r. let few = reached_low r in let all = high at in omega (arith, few, all))

-- the number of instructions for each place
pub even_suffices : (code : Code) → IsValid code → (count : ℕ) → length code.list ≤ suc count → Suffices code (room_at ([], count))
even_suffices code valid count whole = even_suffices_by code valid count (λ whose at height r. let few = list_suffices code valid whose at height r in omega (arith, few, whole))

-- ---- the greatest height

pushed : (xs : List ℕ) (x most : ℕ) → ((at : ℕ) → slice_index_or xs at 0 ≤ most) → x ≤ most → (at : ℕ) → slice_index_or (xs ++ x ∷ []) at 0 ≤ most
pushed [] x most all few zero = few
pushed [] x most all few (suc at) = omega arith
pushed (y ∷ ys) x most all few zero = all 0
pushed (y ∷ ys) x most all few (suc at) = pushed ys x most (λ k. all (suc k)) few at

-- with one height more
pub highest_on : (tops : List ℕ) (k most new : ℕ) → k < length tops → ((at : ℕ) → slice_index_or (take k tops) at 0 ≤ most) → most ≤ new → get_or tops k 0 ≤ new
    → (at : ℕ) → slice_index_or (take (k + 1) tops) at 0 ≤ new
highest_on tops k most new lt all more few at =
    subst (λ (l : List ℕ). slice_index_or l at 0 ≤ new) (sym (take_more tops k 0 lt))
    (pushed (take k tops) (get_or tops k 0) new (λ p. let old = all p in omega (arith, old, more)) few at)

-- ---- what is made

pub of_even : {E : Type 0} (code : Code) (r : Result (List ℕ × ℕ) E) (even : List ℕ × ℕ) → Suffices code (room_at even) → IfOk r (λ rooms. rooms ≡ even) → IfOk r (λ rooms. Suffices code (room_at rooms))
of_even code (Ok rooms) even suffices is = subst (λ (x : List ℕ × ℕ). Suffices code (room_at x)) (sym is) suffices
of_even code (Err error) even suffices is = tt
