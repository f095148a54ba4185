-- An entry is taken in, by the steps of the code.
use Rattle.std.proofs.Common.{◌≡◌, ◌<◌, ◌≤◌, ◌+◌, ◌⊎◌, ◌∙◌, ◌++◌, inl, inr, ℕ, zero, suc, max, Bool, true, false, List, [], ◌∷◌, nat_eq, nat_lt, if◌then◌else◌, refl, ap, sym, subst, arith}
use Rattle.std.proofs.lemmas.Bool.Decides.{nat_tests}
use Rattle.std.specs.Prelude.{slice_index}
use Rattle.std.specs.declared.option.Option.{Option}
use Rattle.a68_races.proofs.Order.{same_or_not}
use Rattle.a68_races.specs.Before.{Closes, Numbers}
use Rattle.a68_races.specs.Cells.{AreNoted}
use Rattle.a68_races.specs.Clocks.{clock_at, IsLater, IsSet, IsSetIn, AreTold}
use Rattle.a68_races.specs.Telling.{AreWithin, BaseOf, CellsBy, IsMark, IsToldOf, LowersOf, MarksUnits, ParentsOf, RaceOf, RaisedOf, Steps, TellsOf}
use Rattle.a68_races.specs.declared.race.Pair.{Pair}
use Rattle.a68_races.specs.declared.watch.Watch.{Watch}
use Rattle.a68_values.specs.declared.act.Act.{Act}
use Rattle.a68_values.specs.declared.act.Act.TheVariants as act
use Rattle.a68_values.specs.declared.act.Entry.{Entry}

-- a clock under one key is put forward
abbrev put : (old now : ℕ) (b : Bool) → ℕ
put old now b = if b then max old now else old

same_key : (a : ℕ) → nat_eq a a ≡ true
same_key a = grind (arith, nat_tests)

other_key : (a b : ℕ) → (a ≡ b → ⊥) → nat_eq a b ≡ false
other_key a b ne = grind (arith, nat_tests, ne)

is_marked : (m : ℕ) → 0 < m → nat_lt 0 m ≡ true
is_marked m h = grind (arith, nat_tests, h)

-- a clock at its beginning puts nothing forward
pub told_nothing : (test : ℕ → Bool) (old : List (List ℕ)) (now : List ℕ) → now ≡ [] → AreTold test old now old
told_nothing test old now none = λ key k.
    go (test key) (slice_index (clock_at old key) k) ∙ ap (λ (x : List ℕ). put (slice_index (clock_at old key) k) (slice_index x k) (test key)) (sym none)
  where
    go : (b : Bool) (x : ℕ) → x ≡ put x 0 b
    go true x = omega arith
    go false x = refl

module _ (strand : ℕ) (old raised s1 : List (List ℕ)) where
  pub base_of : (a : Act) → LowersOf a strand old raised s1 → BaseOf old raised strand a (clock_at s1 strand)
  base_of (act.Down c) l = λ k. l strand k ∙ ap (put (slice_index (clock_at old strand) k) (slice_index (clock_at raised c) k)) (same_key strand)
  base_of a l = ap (λ (x : List (List ℕ)). clock_at x strand) l

  -- only the clock of the strand is put forward
  lowered_other : (a : Act) → LowersOf a strand old raised s1 → (key k : ℕ) → (key ≡ strand → ⊥) → slice_index (clock_at s1 key) k ≡ slice_index (clock_at old key) k
  lowered_other (act.Down c) l key k other = l key k ∙ ap (put (slice_index (clock_at old key) k) (slice_index (clock_at raised c) k)) (other_key key strand other)
  lowered_other a l key k other = ap (λ (x : List (List ℕ)). slice_index (clock_at x key) k) l

  lowered_up : (a : Act) → LowersOf a strand old raised s1 → (k : ℕ) → slice_index (clock_at old strand) k ≤ slice_index (clock_at s1 strand) k
  lowered_up (act.Down c) l k = let now = l strand k ∙ ap (put (slice_index (clock_at old strand) k) (slice_index (clock_at raised c) k)) (same_key strand) in omega (arith, now)
  lowered_up a l k = let now = ap (λ (x : List (List ℕ)). slice_index (clock_at x strand) k) l in omega (arith, now)

module _ (e : Entry) (n : ℕ) (old raised s1 s2 s3 parents : List (List ℕ)) (below : AreWithin old n) (l : LowersOf e.act e.strand old raised s1) (set_is : IsSetIn s1 e.strand e.strand (n + 1) s2)
    (told : TellsOf parents e s2 s3) where
  -- what the strand knew it knows
  known_up : (k : ℕ) → slice_index (clock_at old e.strand) k ≤ slice_index (clock_at s2 e.strand) k
  known_up k = elim (same_or_not k e.strand) [
    | inl same ↦ subst (λ (j : ℕ). slice_index (clock_at old e.strand) j ≤ slice_index (clock_at s2 e.strand) j) (sym same) (let time = set_is.0.0 in let most = below e.strand e.strand in omega (arith, time, most))
    | inr other ↦ (let stay = set_is.0.1 k other in let up = lowered_up e.strand old raised s1 e.act l k in omega (arith, stay, up))
  ]

  own_marked : nat_lt 0 (slice_index told.0 e.strand) ≡ true
  own_marked = is_marked (slice_index told.0 e.strand) ((told.1 e.strand).0 (inl refl))

  -- those whom the entry tells, from the clocks before it
  pub told_from : AreTold (λ s. nat_lt 0 (slice_index told.0 s)) old (clock_at s2 e.strand) s3
  told_from key k = told.2 key k ∙ (elim (same_or_not key e.strand) [
    | inl same ↦ subst (λ (j : ℕ). put (slice_index (clock_at s2 j) k) (slice_index (clock_at s2 e.strand) k) (nat_lt 0 (slice_index told.0 j)) ≡ put (slice_index (clock_at old j) k) (slice_index (clock_at s2 e.strand) k) (nat_lt 0 (slice_index told.0 j)))
        (sym same) own
    | inr other ↦ ap (λ (x : ℕ). put x (slice_index (clock_at s2 e.strand) k) (nat_lt 0 (slice_index told.0 key))) (set_is.1 key k other ∙ lowered_other e.strand old raised s1 e.act l key k other)
  ])
    where
      higher : (a b : ℕ) → a ≤ b → max b b ≡ max a b
      higher a b up = omega (arith, up)

      own : put (slice_index (clock_at s2 e.strand) k) (slice_index (clock_at s2 e.strand) k) (nat_lt 0 (slice_index told.0 e.strand)) ≡ put (slice_index (clock_at old e.strand) k) (slice_index (clock_at s2 e.strand) k) (nat_lt 0 (slice_index told.0 e.strand))
      own = rw own_marked (higher (slice_index (clock_at old e.strand) k) (slice_index (clock_at s2 e.strand) k) (known_up k))

-- all that an entry does, by the steps of the code
pub taken_in : (e : Entry) (n : ℕ) (race : Option Pair) (old new : Watch) (s1 s2 : List (List ℕ)) → LowersOf e.act e.strand old.strands old.raised s1 → RaceOf old.cells e n (clock_at s1 e.strand) race
    → IsSetIn s1 e.strand e.strand (n + 1) s2 → RaisedOf e.act old.raised (clock_at s2 e.strand) new.raised → TellsOf old.parents e s2 new.strands → ParentsOf e old.parents new.parents
    → CellsBy e.act e.strand (n + 1) old.cells new.cells → AreWithin old.strands n → Steps old e n race new
taken_in e n race old new s1 s2 l r s up t p c below = record {
  base = clock_at s1 e.strand;
  is_base = base_of e.strand old.strands old.raised s1 e.act l;
  is_race = r;
  now = clock_at s2 e.strand;
  is_now = s.0;
  notes = record {
    told = t.0;
    is_told = t.1;
    strands = told_from e n old.strands old.raised s1 s2 new.strands old.parents below l s t;
    parents = p;
    raised = up;
    cells = c;
  };
}

-- ---- entries that tell none but their own strand

-- this strand alone is marked
abbrev own_mark : ℕ → List ℕ
own_mark zero = 1 ∷ []
own_mark (suc k) = 0 ∷ own_mark k

own_time : (strand : ℕ) → slice_index (own_mark strand) strand ≡ 1
own_time zero = refl
own_time (suc k) = own_time k

other_time : (strand k : ℕ) → (k ≡ strand → ⊥) → slice_index (own_mark strand) k ≡ 0
other_time zero zero other = absurd (other refl)
other_time zero (suc k) other = refl
other_time (suc s) zero other = refl
other_time (suc s) (suc k) other = other_time s k (λ e. other (ap suc e))

-- the entry numbers and closes no strand
abbrev pub TellsNone : Act → Type 0
TellsNone (act.Fork first count) = ⊥
TellsNone act.Close = ⊥
TellsNone a = Unit {0}

numbers_none : (a : Act) (s : ℕ) → TellsNone a → Numbers a s → ⊥
numbers_none (act.Fork first count) s none n = none
numbers_none a s none n = n

closes_none : (a : Act) → TellsNone a → Closes a → ⊥
closes_none act.Close none c = none
closes_none a none c = c

pub tells_own : (e : Entry) (parents old : List (List ℕ)) → TellsNone e.act → TellsOf parents e old old
tells_own e parents old none = (own_mark e.strand, marks, put_own)
  where
    marks : IsToldOf parents e (own_mark e.strand)
    marks s = (
      (λ t. elim t [
        | inl mine ↦ (let time = own_time e.strand in let here : slice_index (own_mark e.strand) s ≡ slice_index (own_mark e.strand) e.strand = ap (λ (k : ℕ). slice_index (own_mark e.strand) k) (sym mine) in omega (arith, time, here))
        | inr (inl num) ↦ absurd (numbers_none e.act s none num)
        | inr (inr c) ↦ absurd (closes_none e.act none c.0)
      ]),
      (λ low. elim (same_or_not s e.strand) [
        | inl same ↦ inl (sym same)
        | inr other ↦ (let time = other_time e.strand s other in absurd (omega (arith, time, low)))
      ]),
    )

    twice : (x : ℕ) (b : Bool) → x ≡ put x x b
    twice x true = omega arith
    twice x false = refl

    unmarked : (m : ℕ) → m ≡ 0 → nat_lt 0 m ≡ false
    unmarked m h = grind (arith, nat_tests, h)

    put_own : AreTold (λ s. nat_lt 0 (slice_index (own_mark e.strand) s)) old (clock_at old e.strand) old
    put_own key k = elim (same_or_not key e.strand) [
      | inl same ↦ subst (λ (j : ℕ). slice_index (clock_at old j) k ≡ put (slice_index (clock_at old j) k) (slice_index (clock_at old e.strand) k) (nat_lt 0 (slice_index (own_mark e.strand) j))) (sym same)
          (twice (slice_index (clock_at old e.strand) k) (nat_lt 0 (slice_index (own_mark e.strand) e.strand)))
      | inr other ↦ sym (ap (put (slice_index (clock_at old key) k) (slice_index (clock_at old e.strand) k)) (unmarked (slice_index (own_mark e.strand) key) (other_time e.strand key other)))
    ]

-- an entry that numbers none notes none
pub notes_none : (e : Entry) (old : List (List ℕ)) → ((s : ℕ) → Numbers e.act s → ⊥) → ParentsOf e old old
notes_none e old none = ([], (λ s. ((λ n. absurd (none s n)), (λ low. absurd (omega (arith, low))))), own_mark e.strand, (own_time e.strand, (λ k other. other_time e.strand k other)), (λ key k. refl))

-- ---- what the other acts are

pub numbers_no_fork : (a : Act) → ((first count : ℕ) → a ≡ act.Fork first count → ⊥) → (s : ℕ) → Numbers a s → ⊥
numbers_no_fork (act.Fork first count) none s n = none first count refl
numbers_no_fork a none s n = n

pub tells_none : (a : Act) → ((first count : ℕ) → a ≡ act.Fork first count → ⊥) → (a ≡ act.Close → ⊥) → TellsNone a
tells_none (act.Fork first count) no_fork no_close = no_fork first count refl
tells_none act.Close no_fork no_close = no_close refl
tells_none a no_fork no_close = tt
