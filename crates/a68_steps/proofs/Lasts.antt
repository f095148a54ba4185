-- Values in one list, from which each is taken off at its end.
use Rattle.std.proofs.Common.{◌≡◌, ◌+◌, ◌-◌, ◌<◌, ◌≤◌, ◌∷◌, ◌++◌, [], ℕ, zero, suc, List, length, take, drop, get_or, refl, ap, sym, ◌∙◌, arith}
use Rattle.std.proofs.lemmas.List.{drop_all, drop_more, get_or-take, length-append, length-take-le, take-take, take_all}
use Rattle.a68_acts.specs.Fetching.{assign_fields, assign_structure}
use Rattle.a68_acts.specs.declared.step.Step.{Step}
use Rattle.a68_steps.proofs.Parts.{assigned-before, assigned-structure}
use Rattle.a68_steps.specs.Lasts.{IsTakenApart, all_but, last_of, last_ones}
use Rattle.a68_values.specs.Content.{Content, contents_of, plain}
use Rattle.a68_values.specs.declared.plain.Plain.TheVariants.{Unset}

-- what is left of them, once one more is taken off
module _ (vs ws : List Content) (base left i : ℕ) (now : ws ≡ take (base + left) vs) (next : left ≡ i + 1) (inside : base + left ≤ length vs) where
  long : length ws ≡ base + left
  long = ap (λ (l : List Content). length l) now ∙ length-take-le (base + left) vs inside

  pub some_left : 0 < length ws
  some_left = omega (arith, long, next)

  one_less : length ws - 1 ≡ base + i
  one_less = omega (arith, long, next)

  pub rest_left : all_but 1 ws ≡ take (base + i) vs
  rest_left =
      ap (λ k. take k ws) one_less ∙ ap (λ (l : List Content). take (base + i) l) now ∙ take-take (base + i) (base + left) vs (omega (arith, next))

  last_left : last_of ws ≡ get_or vs (base + i) (plain Unset)
  last_left =
      ap (λ k. get_or ws k (plain Unset)) one_less ∙ ap (λ (l : List Content). get_or l (base + i) (plain Unset)) now
      ∙ get_or-take (base + left) vs (base + i) (plain Unset) (omega (arith, next))

  pub gone_is : last_of ws ∷ drop (base + left) vs ≡ drop (base + i) vs
  gone_is =
      let more : base + left ≡ base + i + 1 = omega (arith, next) in
      ap (λ v. v ∷ drop (base + left) vs) last_left ∙ ap (λ k. get_or vs (base + i) (plain Unset) ∷ drop k vs) more
      ∙ sym (drop_more vs (base + i) (plain Unset) (omega (arith, inside, next)))

  -- one more field is put in front
  pub one_assigned : (F : ℕ → ℕ → Content → List Step → List Step) (f : ℕ → ℕ) (fields : List (ℕ × ℕ)) (d : ℕ × ℕ) (cell first : ℕ) (steps new behind : List Step) → i < length fields
      → first + f (get_or fields i d).1 ≡ cell → steps ≡ assign_fields F f (drop left fields) cell (contents_of (drop (base + left) vs)) behind
      → new ≡ F (get_or fields i d).1 first (last_of ws) steps → new ≡ assign_fields F f (drop i fields) first (contents_of (drop (base + i) vs)) behind
  one_assigned F f fields d cell first steps new behind lt e made this =
      assigned-before F f fields i d cell first (last_of ws) (drop (base + left) vs) steps new behind lt e
      (made ∙ ap (λ k. assign_fields F f (drop k fields) cell (contents_of (drop (base + left) vs)) behind) next) this
      ∙ ap (λ (l : List Content). assign_fields F f (drop i fields) first (contents_of l) behind) gone_is

-- the same where they are all that there are
module _ (vs ws : List Content) (left i : ℕ) (now : ws ≡ take left vs) (next : left ≡ i + 1) (inside : left ≤ length vs) where
  none_before : (n : ℕ) → n ≡ 0 + n
  none_before n = omega arith

  pub rest_of : all_but 1 ws ≡ take i vs
  rest_of = rest_left vs ws 0 left i (now ∙ ap (λ k. take k vs) (none_before left)) next (omega (arith, inside)) ∙ ap (λ k. take k vs) (sym (none_before i))

  pub gone_of : last_of ws ∷ drop left vs ≡ drop i vs
  gone_of =
      ap (λ k. last_of ws ∷ drop k vs) (none_before left) ∙ gone_is vs ws 0 left i (now ∙ ap (λ k. take k vs) (none_before left)) next (omega (arith, inside))
      ∙ ap (λ k. drop k vs) (sym (none_before i))

-- at first none is taken off
pub all_left : (vs : List Content) (n : ℕ) → n ≤ length vs → vs ≡ take (length vs - n + n) vs
all_left vs n few =
    let all : length vs ≡ length vs - n + n = omega (arith, few) in
    sym (take_all (length vs) vs (omega arith)) ∙ ap (λ k. take k vs) all

pub none_gone : (vs : List Content) (n : ℕ) → n ≤ length vs → drop (length vs - n + n) vs ≡ []
none_gone vs n few = drop_all (length vs - n + n) vs (omega (arith, few))

-- at the end all are
pub none_left : (vs ws : List Content) (base left : ℕ) → left ≡ 0 → ws ≡ take (base + left) vs → ws ≡ take base vs
none_left vs ws base left e now = let same : base + left ≡ base = omega (arith, e) in now ∙ ap (λ k. take k vs) same

pub all_gone : (F : ℕ → ℕ → Content → List Step → List Step) (f : ℕ → ℕ) (fields : List (ℕ × ℕ)) (cell base left : ℕ) (vs : List Content) (steps behind : List Step) → left ≡ 0
    → steps ≡ assign_fields F f (drop left fields) cell (contents_of (drop (base + left) vs)) behind → steps ≡ assign_fields F f fields cell (contents_of (drop base vs)) behind
all_gone F f fields cell base left vs steps behind e made =
    let same : base + left ≡ base = omega (arith, e) in
    made ∙ ap (λ k. assign_fields F f (drop k fields) cell (contents_of (drop (base + left) vs)) behind) e
    ∙ ap (λ k. assign_fields F f fields cell (contents_of (drop k vs)) behind) same

-- ---- a structure, whose parts stand in its place

module _ (count : ℕ) (old new : List Content) (some : 0 < length old) (t : IsTakenApart count old new) where
  long_before : length (all_but 1 old) ≡ length old - 1
  long_before = length-take-le (length old - 1) old (omega arith)

  many : length new ≡ length old - 1 + count
  many = ap (λ (l : List Content). length l) t.whole ∙ length-append (all_but 1 old) t.parts ∙ omega (arith, long_before, t.many)

  pub enough : count ≤ length new
  enough = omega (arith, many)

  less : length new - count ≡ length old - 1
  less = omega (arith, many)

  pub before_parts : all_but count new ≡ all_but 1 old
  before_parts =
      ap (λ k. take k new) less ∙ ap (λ (l : List Content). take (length old - 1) l) t.whole
      ∙ take_front (length old - 1) (all_but 1 old) t.parts long_before
    where
      take_front : (n : ℕ) (xs ys : List Content) → length xs ≡ n → take n (xs ++ ys) ≡ xs
      take_front zero [] ys e = refl
      take_front zero (x ∷ xs) ys e = absurd (omega arith)
      take_front (suc n) [] ys e = absurd (omega arith)
      take_front (suc n) (x ∷ xs) ys e = ap (λ (l : List Content). x ∷ l) (take_front n xs ys (omega arith))

  parts_last : last_ones count new ≡ t.parts
  parts_last =
      ap (λ k. drop k new) less ∙ ap (λ (l : List Content). drop (length old - 1) l) t.whole ∙ drop_front (length old - 1) (all_but 1 old) t.parts long_before
    where
      drop_front : (n : ℕ) (xs ys : List Content) → length xs ≡ n → drop n (xs ++ ys) ≡ ys
      drop_front zero [] ys e = refl
      drop_front zero (x ∷ xs) ys e = absurd (omega arith)
      drop_front (suc n) [] ys e = absurd (omega arith)
      drop_front (suc n) (x ∷ xs) ys e = drop_front n xs ys (omega arith)

  -- the steps of its fields are those of the structure
  pub apart_assigned : (F : ℕ → ℕ → Content → List Step → List Step) (f : ℕ → ℕ) (fields : List (ℕ × ℕ)) (cell : ℕ) (behind : List Step) → length fields ≡ count
      → assign_fields F f fields cell (contents_of (last_ones count new)) behind ≡ assign_structure F f fields cell (last_of old) behind
  apart_assigned F f fields cell behind same =
      ap (λ (l : List Content). assign_fields F f fields cell (contents_of l) behind) parts_last
      ∙ assigned-structure F f fields cell behind (last_of old) t.parts t.is (t.many ∙ sym same)
