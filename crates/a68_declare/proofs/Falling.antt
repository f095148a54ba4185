-- Ways in graphs with heights.
use Rattle.std.proofs.Common.{◌≡◌, ◌<◌, ◌≤◌, ℕ, Bool, List, [], ◌∷◌, true, length, refl, arith}
use Rattle.std.proofs.lemmas.Bool.{leb-true, ltb-true}
use Rattle.std.proofs.lemmas.List.Elements.{All-contains}
use Rattle.std.proofs.lemmas.List.Sums.{AllPass-from_list_all}
use Rattle.std.specs.List.{Contains, list_all}
use Rattle.std.specs.Prelude.{nat_le, nat_lt}
use Rattle.a68_declare.specs.Slopes.{NoneRises, all_fall, height}
use Rattle.a68_equiv.specs.Ways.{row, Way, StepsStayInside}
use Rattle.a68_equiv.specs.Ways.Way.{last_step, more_steps}

all_in : (p : ℕ → Bool) (xs : List ℕ) (x : ℕ) → list_all p xs ≡ true → Contains xs x → p x ≡ true
all_in p xs x e i = All-contains (λ x. p x ≡ true) xs x (AllPass-from_list_all p xs e) i

module _ (graph : List (List ℕ)) (heights : List ℕ) (inside : StepsStayInside graph) (none : NoneRises graph heights) where
  -- no way leads upwards
  goes_down : (a b : ℕ) → a < length graph → Way graph a b → height heights b ≤ height heights a
  goes_down a b there (last_step i) = leb-true (height heights b) (height heights a) (all_in (λ x. nat_le (height heights x) (height heights a)) (row graph a) b (none a there) i)
  goes_down a c there (more_steps {b = b} i w) =
      let one = leb-true (height heights b) (height heights a) (all_in (λ x. nat_le (height heights x) (height heights a)) (row graph a) b (none a there) i) in
      let others = goes_down b c (All-contains (λ p. p < length graph) (row graph a) b (inside a there) i) w in
      omega arith

  -- and none back to a node from which all steps fall
  pub no_way : (a : ℕ) → a < length graph → all_fall graph heights a ≡ true → Way graph a a → ⊥
  no_way a there fall (last_step i) = let less = ltb-true (height heights a) (height heights a) (all_in (λ x. nat_lt (height heights x) (height heights a)) (row graph a) a fall i) in omega arith
  no_way a there fall (more_steps {b = b} i w) =
      let less = ltb-true (height heights b) (height heights a) (all_in (λ x. nat_lt (height heights x) (height heights a)) (row graph a) b fall i) in
      let more = goes_down b a (All-contains (λ p. p < length graph) (row graph a) b (inside a there) i) w in
      omega arith

-- without heights none rises
all_level : (a : ℕ) (xs : List ℕ) → list_all (λ b. nat_le (height [] b) (height [] a)) xs ≡ true
all_level a [] = refl
all_level a (x ∷ xs) = all_level a xs

pub none_without : (graph : List (List ℕ)) → NoneRises graph []
none_without graph = λ a there. all_level a (row graph a)
