-- How a part of a row is told, a dimension at a time.
use Rattle.std.proofs.Common.{◌≡◌, ℕ, ℤ, ◌+◌, ◌<◌, ◌≤◌, Bool, true, false, if◌then◌else◌, nat_lt, List, ◌++◌, length, map, get_or, drop, None, Result, Ok, Err, refl, ap, sym, ◌∙◌, ⊎_elim, add-zero, arith}
use Rattle.std.proofs.lemmas.Bool.{cond-true, lt-ltb, cases_lt}
use Rattle.std.proofs.lemmas.List.{append_assoc, append-nil, drop_more, drop_all}
use Rattle.std.specs.Option.{option_to_list}
use Rattle.a68_layout.specs.Stretches.{capped, stretch, joined, subscript, found}
use Rattle.a68_layout.specs.Views.{Taken, Seen, taken, seen_on, seen_from, seen_as, first_of, behind, is_outside}
use Rattle.a68_layout.specs.Widths.{most_cells}
use Rattle.a68_layout.specs.declared.types.Trim.{Trim}
use Rattle.a68_layout.specs.declared.types.Trim.TheVariants.{At}
use Rattle.a68_layout.specs.declared.stretches.Stretch.{Stretch}
use Rattle.a68_values.specs.declared.act.FaultKind.{FaultKind}
use Rattle.a68_values.specs.declared.act.FaultKind.TheVariants as fault
use Rattle.a68_values.specs.declared.held.Descriptor.{Descriptor}
use Rattle.a68_values.specs.declared.held.Dim.{Dim}

capped-sum : (a b c : ℕ) → capped (capped (a + b) + c) ≡ capped (a + (b + c))
capped-sum a b c = omega arith

same_pair : (m n : ℕ) (xs ys : List Dim) → m ≡ n → xs ≡ ys → ◌≡◌ {A = Seen} (Ok (m, xs)) (Ok (n, ys))
same_pair m n xs ys p q = cc

-- a dimension more
pub one_seen : (cell : ℕ) (kept : List Dim) (tk : Taken) (t : Stretch) (s : Seen) → Ok t ≡ stretch cell tk → joined t.cell (kept ++ option_to_list t.dim) s ≡ joined cell kept (seen_on tk s)
one_seen cell kept (Ok part) t (Ok seen) e =
    let same : t ≡ record { cell = capped (cell + part.0); dim = part.1 } = cc in
    rw same (same_pair _ _ _ _ (capped-sum cell part.0 seen.0) (append_assoc kept (option_to_list part.1) seen.1))
one_seen cell kept (Ok part) t (Err why) e = refl
one_seen cell kept (Err why) t s e = cc

pub none_seen : (cell : ℕ) (kept : List Dim) (tk : Taken) (s : Seen) (kind : FaultKind) → Err kind ≡ stretch cell tk → Err kind ≡ joined cell kept (seen_on tk s)
none_seen cell kept (Ok part) s k e = cc
none_seen cell kept (Err other) s k e = cc

pub few_seen : (cell : ℕ) (tk : Taken) (t : Stretch) → Ok t ≡ stretch cell tk → t.cell ≤ most_cells + 1
few_seen cell (Ok part) t e =
    let same : t ≡ record { cell = capped (cell + part.0); dim = part.1 } = cc in
    rw same (omega arith)
few_seen cell (Err why) t e = cc

-- the next dimension
pub next_seen : (dims : List Dim) (trims : List Trim) (i : ℕ) (dim : Dim) (trim : Trim) → i < length dims → i < length trims
    → seen_from (drop i dims) (drop i trims) ≡ seen_on (taken (get_or dims i dim) (get_or trims i trim)) (seen_from (drop (i + 1) dims) (drop (i + 1) trims))
next_seen dims trims i dim trim p q = rw (drop_more dims i dim p, drop_more trims i trim q) refl

pub next_found : (dims : List Dim) (at : List ℤ) (i : ℕ) (dim : Dim) (n : ℤ) → i < length dims → i < length at
    → seen_from (drop i dims) (map (λ k. At k) (drop i at)) ≡ seen_on (taken (get_or dims i dim) (At (get_or at i n))) (seen_from (drop (i + 1) dims) (map (λ k. At k) (drop (i + 1) at)))
next_found dims at i dim n p q = rw (drop_more dims i dim p, drop_more at i n q) refl

-- there is another number of trimmers
pub too_few : (dims : List Dim) (trims : List Trim) (i : ℕ) (dim : Dim) → i < length dims → length trims ≤ i → seen_from (drop i dims) (drop i trims) ≡ Err fault.Kind
too_few dims trims i dim p q = rw (drop_more dims i dim p, drop_all i trims q) refl

pub too_many : (dims : List Dim) (trims : List Trim) (i : ℕ) (trim : Trim) → length dims ≤ i → i < length trims → seen_from (drop i dims) (drop i trims) ≡ Err fault.Kind
too_many dims trims i trim p q = rw (drop_all i dims p, drop_more trims i trim q) refl

pub all_seen : (cell : ℕ) (kept : List Dim) (dims : List Dim) (trims : List Trim) (i : ℕ) → cell ≤ most_cells + 1 → length dims ≤ i → length trims ≤ i
    → Ok (cell, kept) ≡ joined cell kept (seen_from (drop i dims) (drop i trims))
all_seen cell kept dims trims i few p q =
    rw (drop_all i dims p, drop_all i trims q) (same_pair _ _ _ _ (omega arith) (sym (append-nil kept)))

-- ---- elements

one_test : (t : Bool) (d : Descriptor) → first_of (if t then Err fault.Cells else Ok d) ≡ (if t then Err fault.Cells else Ok d.base)
one_test true d = refl
one_test false d = refl

pub first_found : (cell : ℕ) (s : Seen) → first_of (seen_as cell s) ≡ found cell s
first_found cell (Ok seen) = one_test (nat_lt most_cells (cell + seen.0)) (record { base = cell + seen.0; dims = seen.1 })
first_found cell (Err why) = refl

one_sum : (m n : ℕ) → capped m ≡ capped n → ◌≡◌ {A = Result ℕ FaultKind} (if nat_lt most_cells m then Err fault.Cells else Ok m) (if nat_lt most_cells n then Err fault.Cells else Ok n)
one_sum m n e = ⊎_elim (λ (big : most_cells < m). cond-true _ _ _ (lt-ltb most_cells m big) ∙ sym (cond-true _ _ _ (lt-ltb most_cells n (omega arith))))
    (λ (few : m ≤ most_cells). ap (λ k. if nat_lt most_cells k then Err fault.Cells else Ok k) (let same : m ≡ n = omega arith in same))
    (cases_lt most_cells m)

pub found-capped : (cell : ℕ) (s : Seen) → found (capped cell) s ≡ found cell s
found-capped cell (Ok seen) = one_sum (capped cell + seen.0) (cell + seen.0) (omega arith)
found-capped cell (Err why) = refl

one_found-by : (cell n b : ℕ) (out : Bool) (s : Seen) → Ok n ≡ (if out then Err fault.Bounds else Ok (capped (cell + b)))
    → found n s ≡ found cell (seen_on (if out then Err fault.Bounds else Ok (b, None)) s)
one_found-by cell n b true s e = cc
one_found-by cell n b false (Ok seen) e =
    let same : n ≡ capped (cell + b) = cc in
    rw same (one_sum (capped (cell + b) + seen.0) (cell + (b + seen.0)) (omega arith))
one_found-by cell n b false (Err why) e = refl

pub one_found : (cell n : ℕ) (dim : Dim) (at : ℤ) (s : Seen) → Ok n ≡ subscript cell dim at → found n s ≡ found cell (seen_on (taken dim (At at)) s)
one_found cell n dim at s e = one_found-by cell n (behind dim at) (is_outside dim at) s e

none_found-by : (cell b : ℕ) (out : Bool) (s : Seen) (k : FaultKind) → Err k ≡ (if out then Err fault.Bounds else Ok (capped (cell + b)))
    → Err k ≡ found cell (seen_on (if out then Err fault.Bounds else Ok (b, None)) s)
none_found-by cell b true s k e = cc
none_found-by cell b false s k e = cc

pub none_found : (cell : ℕ) (dim : Dim) (at : ℤ) (s : Seen) (k : FaultKind) → Err k ≡ subscript cell dim at → Err k ≡ found cell (seen_on (taken dim (At at)) s)
none_found cell dim at s k e = none_found-by cell (behind dim at) (is_outside dim at) s k e

pub all_found : (cell : ℕ) (dims : List Dim) (trims : List ℤ) (i : ℕ) → length dims ≤ i → length trims ≤ i
    → found cell (seen_from (drop i dims) (map (λ k. At k) (drop i trims))) ≡ (if nat_lt most_cells cell then Err fault.Cells else Ok cell)
all_found cell dims trims i p q = rw (drop_all i dims p, drop_all i trims q) (ap (λ k. if nat_lt most_cells k then Err fault.Cells else Ok k) (add-zero cell))

pub found_few : (cell : ℕ) (dims : List Dim) (at : List ℤ) (i : ℕ) (dim : Dim) → i < length dims → length at ≤ i
    → Err fault.Kind ≡ found cell (seen_from (drop i dims) (map (λ k. At k) (drop i at)))
found_few cell dims at i dim p q = rw (drop_more dims i dim p, drop_all i at q) refl

pub found_many : (cell : ℕ) (dims : List Dim) (at : List ℤ) (i : ℕ) (n : ℤ) → length dims ≤ i → i < length at
    → Err fault.Kind ≡ found cell (seen_from (drop i dims) (map (λ k. At k) (drop i at)))
found_many cell dims at i n p q = rw (drop_all i dims p, drop_more at i n q) refl
