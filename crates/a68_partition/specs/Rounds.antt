-- Inner: the headline does not rest on this file.
-- How the classes are refined, round by round.
use Rattle.std.specs.Prelude.{◌≡◌, ◌≢◌, ◌<◌, ◌≤◌, ◌⊎◌, ◌↔◌, ℕ, zero, suc, List, ◌∷◌, length, map, slice_index, Bool, true, false, Option, Some, Vec, unwrap_or}
use Rattle.std.specs.Global.{Global}
use Rattle.std.specs.List.{All, Contains}
use Rattle.std.specs.List.Sorted.{IsStrictlyIncreasing}
use Rattle.std.specs.Map.{lookup}
use Rattle.std.specs.Str.{bytes_eq}
use Rattle.a68_partition.specs.Rows.{row_at, Stands, StandsIn}

-- what the entries of a table have at a key
abbrev pub at_key : List (Vec ℕ Global × ℕ) → List ℕ → Option ℕ
at_key entries key = lookup (λ k. bytes_eq key k.items) entries

-- n is the number of a key, the fresh one where it had none, and is noted
pub record IsNumbered (old new : List (Vec ℕ Global × ℕ)) (key : List ℕ) (fresh n : ℕ) : Type 0 where
  pub number : n ≡ unwrap_or (at_key old key) fresh
  pub here : at_key new key ≡ Some n
  pub others : (q : Vec ℕ Global) → q.items ≢ key → at_key new q.items ≡ at_key old q.items

-- both have one key
abbrev pub Shares : (ℕ → List ℕ → Type 0) → ℕ → ℕ → Type 0
Shares HasKey i j = (key : List ℕ) × HasKey i key × HasKey j key

-- each of n numbers goes with the first one of its key
pub record ByFirst (n : ℕ) (HasKey : ℕ → List ℕ → Type 0) (firsts : List ℕ) : Type 0 where
  pub long : length firsts ≡ n
  pub first : (i : ℕ) → i < n → (slice_index firsts i ≤ i) × Shares HasKey i (slice_index firsts i)
  pub same : (i j : ℕ) → i < n → j < n → Shares HasKey i j → slice_index firsts i ≡ slice_index firsts j

-- what a table of keys has told of the first i numbers: each goes with the first one of its key
pub record SoFar (HasKey : ℕ → List ℕ → Type 0) (table : List (Vec ℕ Global × ℕ)) (firsts : List ℕ) (i : ℕ) : Type 0 where
  pub built : length firsts ≡ i
  pub known : (j : ℕ) → j < i → (key : Vec ℕ Global) × HasKey j key.items × (at_key table key.items ≡ Some (slice_index firsts j))
  pub found : (key : Vec ℕ Global) (f : ℕ) → at_key table key.items ≡ Some f → (f < i) × HasKey f key.items
  pub first : (j : ℕ) → j < i → (slice_index firsts j ≤ j) × Shares HasKey j (slice_index firsts j)

-- the classes of these numbers, each once, in rising order
pub record IsSetOf (classes items set : List ℕ) : Type 0 where
  pub rises : IsStrictlyIncreasing set
  pub has : (w : ℕ) → Contains items w → Contains set (slice_index classes w)
  pub only : (x : ℕ) → Contains set x → (w : ℕ) × Contains items w × (slice_index classes w ≡ x)

-- what tells a row from another as far as the classes go, behind a first number
abbrev pub IsRowKey : List ℕ → ℕ → Bool → List ℕ → List ℕ → Type 0
IsRowKey classes first true items key = (set : List ℕ) × (key ≡ first ∷ set) × IsSetOf classes items set
IsRowKey classes first false items key = key ≡ first ∷ map (λ w. slice_index classes w) items

-- the key of a number in a round: its class so far, and the classes of what stands in its row
abbrev pub HasRowKey : List (Bool × List ℕ) → List ℕ → ℕ → List ℕ → Type 0
HasRowKey rows classes v key = IsRowKey classes (slice_index classes v) (row_at rows v).0 (row_at rows v).1 key

-- at each place of the one stands nothing but what is R-related to something there in the other, and the other way round
abbrev pub LikeRows : List (Bool × List ℕ) → (ℕ → ℕ → Type 0) → ℕ → ℕ → Type 0
LikeRows rows R v w =
    ((place x : ℕ) → StandsIn rows v place x → (y : ℕ) × StandsIn rows w place y × R x y)
    × ((place y : ℕ) → StandsIn rows w place y → (x : ℕ) × StandsIn rows v place x × R x y)

-- the unfoldings of two numbers to a depth are equal
abbrev pub AlikeIn : List ℕ → List (Bool × List ℕ) → ℕ → ℕ → ℕ → Type 0
AlikeIn heads rows zero v w = Unit {0}
AlikeIn heads rows (suc depth) v w = (slice_index heads v ≡ slice_index heads w) × LikeRows rows (AlikeIn heads rows depth) v w

-- a graph in which rows lead to numbers that are there, and one constructor has rows of one kind
pub record IsWired (heads : List ℕ) (rows : List (Bool × List ℕ)) : Type 0 where
  pub long : length heads ≡ length rows
  pub low : (v : ℕ) → v < length rows → slice_index heads v ≤ v
  pub closed : (v : ℕ) → v < length rows → All (λ w. w < length rows) (row_at rows v).1
  pub kinds : (v w : ℕ) → v < length rows → w < length rows → slice_index heads v ≡ slice_index heads w → (row_at rows v).0 ≡ (row_at rows w).0

-- two numbers have one class exactly where their unfoldings are equal at every depth
pub record IsRefined (heads : List ℕ) (rows : List (Bool × List ℕ)) (classes : List ℕ) : Type 0 where
  pub long : length classes ≡ length rows
  -- a class is the number of the first that has it
  pub low : (v : ℕ) → v < length rows → slice_index classes v ≤ v
  pub own : (v : ℕ) → v < length rows → slice_index classes (slice_index classes v) ≡ slice_index classes v
  pub exact : (v w : ℕ) → v < length rows → w < length rows → (slice_index classes v ≡ slice_index classes w) ↔ ((depth : ℕ) → AlikeIn heads rows depth v w)
  -- some depth tells all classes apart
  pub coarse : (depth : ℕ) × ((v w : ℕ) → v < length rows → w < length rows → AlikeIn heads rows depth v w → slice_index classes v ≡ slice_index classes w)

-- some depth tells all classes apart
abbrev pub IsCoarse : List ℕ → List (Bool × List ℕ) → List ℕ → Type 0
IsCoarse heads rows classes = (depth : ℕ) × ((v w : ℕ) → v < length rows → w < length rows → AlikeIn heads rows depth v w → slice_index classes v ≡ slice_index classes w)

-- classes to begin the rounds with
pub record IsStart (heads : List ℕ) (rows : List (Bool × List ℕ)) (classes : List ℕ) : Type 0 where
  pub long : length classes ≡ length rows
  pub low : (v : ℕ) → v < length rows → slice_index classes v ≤ v
  pub made : (v w : ℕ) → v < length rows → w < length rows → slice_index classes v ≡ slice_index classes w → slice_index heads v ≡ slice_index heads w
  pub coarse : IsCoarse heads rows classes

-- whether a row of this kind is looked at: that of a union may be passed over
abbrev pub IsLookedAt : Bool → Bool → Type 0
IsLookedAt false true = ⊥
IsLookedAt unions among = Unit {0}

-- a number of the class stands at a place in the row
abbrev pub Touches : Bool → List ℕ → ℕ → Bool × List ℕ → ℕ → Type 0
Touches unions classes by row place = IsLookedAt unions row.0 × ((x : ℕ) × Stands row.0 row.1 place x × (slice_index classes x ≡ by))

-- the class stands at the same places in both rows
abbrev pub SameTouch : Bool → List ℕ → ℕ → Bool × List ℕ → Bool × List ℕ → Type 0
SameTouch unions classes by one other =
    ((place : ℕ) → Touches unions classes by one place → Touches unions classes by other place)
    × ((place : ℕ) → Touches unions classes by other place → Touches unions classes by one place)

-- what was in one class and is touched by a class at the same places stays in one class
pub record SplitsBy (unions : Bool) (rows : List (Bool × List ℕ)) (classes : List ℕ) (by : ℕ) (next : List ℕ) : Type 0 where
  pub long : length next ≡ length rows
  pub same : (v w : ℕ) → v < length rows → w < length rows → slice_index classes v ≡ slice_index classes w → SameTouch unions classes by (row_at rows v) (row_at rows w) → slice_index next v ≡ slice_index next w

-- what leaves a class goes to the one number that was noted first
pub record GoesTo (old new : List ℕ) (class v target : ℕ) : Type 0 where
  pub long : length new ≡ length old
  pub here : slice_index new class ≡ target
  pub one : (target ≢ 4294967295) × ((target ≡ v) ⊎ (target ≡ slice_index old class))
  pub kept : (c : ℕ) → slice_index old c ≢ 4294967295 → slice_index new c ≡ slice_index old c
  pub others : (c : ℕ) → c ≢ class → slice_index new c ≡ slice_index old c
