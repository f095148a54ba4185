-- Rounds: each keeps equal unfoldings in one class, and one that changes nothing is the last.
use Rattle.std.proofs.Common.{◌≡◌, ◌<◌, ◌≤◌, ◌*◌, ◌-◌, ℕ, zero, suc, List, Bool, true, false, length, get_or, sym, arith, subst}
use Rattle.std.specs.List.{All}
use Rattle.std.proofs.lemmas.List.Elements.{All-contains}
use Rattle.a68_partition.specs.Rows.{row_at, Stands, StandsIn}
use Rattle.a68_partition.specs.Rounds.{Shares, ByFirst, HasRowKey, LikeRows, AlikeIn, IsWired, IsRefined}
use Rattle.a68_partition.proofs.RowKeys.{SameIn, same_first, one_key, from_key, one}
use Rattle.a68_partition.proofs.Measure.{total, sum_less, sum_below}

pub like_weaker : (rows : List (Bool × List ℕ)) (R S : ℕ → ℕ → Type 0) → ((a b : ℕ) → R a b → S a b) → (v w : ℕ) → LikeRows rows R v w → LikeRows rows S v w
like_weaker rows R S f v w h =
    (λ place x st. let k = h.0 place x st in (k.0, k.1, f x k.0 k.2), λ place y st. let k = h.1 place y st in (k.0, k.1, f k.0 y k.2))

pub deeper : (heads : List ℕ) (rows : List (Bool × List ℕ)) (depth a b : ℕ) → AlikeIn heads rows (suc depth) a b → AlikeIn heads rows depth a b
deeper heads rows zero a b h = tt
deeper heads rows (suc depth) a b h = (h.0, like_weaker rows (AlikeIn heads rows (suc depth)) (AlikeIn heads rows depth) (deeper heads rows depth) a b h.1)

pub stands_below : (n : ℕ) (u : Bool) (xs : List ℕ) (place x : ℕ) → All (λ w. w < n) xs → Stands u xs place x → x < n
stands_below n true xs place x h st = All-contains (λ w. w < n) xs x h st.1
stands_below n false xs place x h st = rw (← st.1) (h place 0 st.0)

module _ (heads : List ℕ) (rows : List (Bool × List ℕ)) (wired : IsWired heads rows) where
  below : (v place x : ℕ) → v < length rows → StandsIn rows v place x → x < length rows
  below v place x h st = stands_below (length rows) (row_at rows v).0 (row_at rows v).1 place x (wired.closed v h) st

  -- a weaker relation on the numbers that there are
  pub weaker_below : (R S : ℕ → ℕ → Type 0) → ((a b : ℕ) → a < length rows → b < length rows → R a b → S a b) → (v w : ℕ) → v < length rows → w < length rows → LikeRows rows R v w → LikeRows rows S v w
  weaker_below R S f v w h g l = (
    λ place x st. let k = l.0 place x st in (k.0, k.1, f x k.0 (below v place x h st) (below w place k.0 g k.1) k.2),
    λ place y st. let k = l.1 place y st in (k.0, k.1, f k.0 y (below v place k.0 h k.1) (below w place y g st) k.2),
  )

  module _ (classes next : List ℕ) (by : ByFirst (length rows) (HasRowKey rows classes) next) where
    -- one class after the round: one key
    from_next : (a b : ℕ) → a < length rows → b < length rows → SameIn next a b → Shares (HasRowKey rows classes) a b
    from_next a b h g e =
        let p = (by.first a h).1 in
        let q = (by.first b g).1 in
        let same : q.0 ≡ p.0 = one rows classes (get_or next a 0) q.0 p.0 (subst (λ (m : ℕ). HasRowKey rows classes m q.0) (sym e) q.2) p.2 in
        (p.0, p.1, subst (λ (x : List ℕ). HasRowKey rows classes b x) same q.1)

    first_of : (a b : ℕ) → Shares (HasRowKey rows classes) a b → SameIn classes a b
    first_of a b k = same_first classes (get_or classes a 0) (get_or classes b 0) (row_at rows a).0 (row_at rows b).0 (row_at rows a).1 (row_at rows b).1 k.0 k.1 k.2

    pub made : ((a b : ℕ) → a < length rows → b < length rows → SameIn classes a b → SameIn heads a b) → (a b : ℕ) → a < length rows → b < length rows → SameIn next a b → SameIn heads a b
    made f a b h g e = f a b h g (first_of a b (from_next a b h g e))

    module _ (heads_same : (a b : ℕ) → a < length rows → b < length rows → SameIn classes a b → SameIn heads a b) where
      alike_keys : (a b : ℕ) → a < length rows → b < length rows → Shares (HasRowKey rows classes) a b → LikeRows rows (SameIn classes) a b
      alike_keys a b h g k =
          let heads_are = heads_same a b h g (first_of a b k) in
          let kind = wired.kinds a b h g heads_are in
          let there = from_key classes (get_or classes a 0) (get_or classes b 0) (row_at rows a).0 (row_at rows b).0 (row_at rows a).1 (row_at rows b).1 k.0 kind k.1 k.2 in
          let back = from_key classes (get_or classes b 0) (get_or classes a 0) (row_at rows b).0 (row_at rows a).0 (row_at rows b).1 (row_at rows a).1 k.0 (sym kind) k.2 k.1 in
          (there, λ place y st. let w = back place y st in (w.0, w.1, sym w.2))

      pub stable : next ≡ classes → (depth a b : ℕ) → a < length rows → b < length rows → SameIn classes a b → AlikeIn heads rows depth a b
      stable e zero a b h g same = tt
      stable e (suc depth) a b h g same =
          let k = from_next a b h g (subst (λ (c : List ℕ). SameIn c a b) (sym e) same) in
          (heads_same a b h g same, weaker_below (SameIn classes) (AlikeIn heads rows depth) (stable e depth) a b h g (alike_keys a b h g k))

      pub settled : next ≡ classes → (depth : ℕ) → ((a b : ℕ) → a < length rows → b < length rows → AlikeIn heads rows depth a b → SameIn classes a b) → length classes ≡ length rows → ((k : ℕ) → k < length rows → get_or classes k 0 ≤ k) → IsRefined heads rows classes
      settled e depth f long low = record {
        long = long;
        low = low;
        own = λ v h. let w = by.first v h in let lt = w.0 in subst (λ (c : List ℕ). get_or c (get_or c v 0) 0 ≡ get_or c v 0) e (sym (by.same v (get_or next v 0) h (omega arith) w.1));
        exact = λ a b h g. (λ same d. stable e d a b h g same, λ eq. f a b h g (eq depth));
        coarse = (depth, f);
      }

    pub finer : (depth : ℕ) → ((a b : ℕ) → a < length rows → b < length rows → AlikeIn heads rows depth a b → SameIn classes a b)
        → (a b : ℕ) → a < length rows → b < length rows → AlikeIn heads rows (suc depth) a b → SameIn next a b
    finer depth f a b h g al =
        let w = weaker_below (AlikeIn heads rows depth) (SameIn classes) f a b h g al.1 in
        let kind = wired.kinds a b h g al.0 in
        let p = (by.first a h).1 in
        let q = (by.first b g).1 in
        let same : p.0 ≡ q.0 = one_key classes (get_or classes a 0) (get_or classes b 0) (row_at rows a).0 (row_at rows b).0 (row_at rows a).1 (row_at rows b).1 p.0 q.0 kind
        (f a b h g (deeper heads rows depth a b al)) w.0 (λ place y st. let k = w.1 place y st in (k.0, k.1, sym k.2)) p.1 q.1 in
        by.same a b h g (q.0, subst (λ (x : List ℕ). HasRowKey rows classes a x) same p.1, q.1)

    -- numbers of classes only rise
    pub rise : ((k : ℕ) → k < length rows → get_or classes k 0 ≤ k) → (k : ℕ) → k < length rows → get_or classes k 0 ≤ get_or next k 0
    rise low k h =
        let w = by.first k h in
        let lt = w.0 in
        let e = first_of k (get_or next k 0) w.1 in
        let l = low (get_or next k 0) (omega arith) in
        omega arith

    pub ends : length classes ≡ length rows → ((k : ℕ) → k < length rows → get_or classes k 0 ≤ k) → (next ≡ classes → ⊥) → length rows * length rows - total next < length rows * length rows - total classes
    ends long low ne =
        let l = by.long in
        let less = sum_less classes next (omega arith) (λ k h. rise low k (omega arith)) ne in
        let top = sum_below next (length rows) (λ k h. let w = by.first k (omega arith) in let w0 = w.0 in omega arith) in
        let top' : total next ≤ length rows * length rows = subst (λ (n : ℕ). total next ≤ n * length rows) l top in
        omega arith
