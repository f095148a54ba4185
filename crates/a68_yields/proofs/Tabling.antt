-- Tables of yields and findings with one entry more.
use Rattle.std.proofs.Common.{◌≡◌, ◌<◌, ◌≤◌, ◌∷◌, ◌∙◌, ◌⊎◌, inl, inr, [], ℕ, zero, suc, List, None, Some, length, get_or, replicate, refl, sym, ap, arith, subst}
use Rattle.std.proofs.lemmas.List.{length-replicate, length-set}
use Rattle.std.specs.Prelude.{slice_index_or, slice_set}
use Rattle.a68_coerce.specs.Below.{IsLeafBelow}
use Rattle.a68_coerce.specs.declared.leaf.Leaf.{Leaf}
use Rattle.a68_coerce.specs.declared.leaf.Leaf.TheVariants as leaf
use Rattle.a68_identify.specs.declared.identified.Identified.{Identified}
use Rattle.a68_identify.specs.declared.identified.Identified.TheVariants.{Declared, Standard}
use Rattle.a68_yields.specs.Below.{AreTablesBelow, IsFindingBelow, IsOperatorBelow, IsYieldingBelow}
use Rattle.a68_yields.specs.Leaves.{yield_at}
use Rattle.a68_yields.specs.declared.yielding.Finding.{Finding}
use Rattle.a68_yields.specs.declared.yielding.Finding.TheVariants as finding
use Rattle.a68_yields.specs.declared.yielding.Yielding.{Yielding}
use Rattle.a68_yields.specs.declared.yielding.Yielding.TheVariants as yields

-- an entry of a table that was written to is the old one, or what was written there
pub set_entry : {X : Type 0} (xs : List X) (i k : ℕ) (y d : X) → (get_or (slice_set xs i y) k d ≡ get_or xs k d) ⊎ ((k ≡ i) × (get_or (slice_set xs i y) k d ≡ y))
set_entry [] i k y d = inl refl
set_entry (x ∷ xs) zero zero y d = inr (refl, refl)
set_entry (x ∷ xs) zero (suc k) y d = inl refl
set_entry (x ∷ xs) (suc i) zero y d = inl refl
set_entry (x ∷ xs) (suc i) (suc k) y d = later (set_entry xs i k y d)
  where
    later : (get_or (slice_set xs i y) k d ≡ get_or xs k d) ⊎ ((k ≡ i) × (get_or (slice_set xs i y) k d ≡ y))
        → (get_or (slice_set xs i y) k d ≡ get_or xs k d) ⊎ ((suc k ≡ suc i) × (get_or (slice_set xs i y) k d ≡ y))
    later (inl same) = inl same
    later (inr new) = inr (ap suc new.0, new.1)

pub leaf_longer : (n m : ℕ) (l : Leaf) → n ≤ m → IsLeafBelow n l → IsLeafBelow m l
leaf_longer n m (leaf.Mode x) h below = omega arith
leaf_longer n m leaf.StrongOnly h below = tt

operator_longer : (n m : ℕ) (o : Identified) → n ≤ m → IsOperatorBelow n o → IsOperatorBelow m o
operator_longer n m (Standard o) h below = let a = below.0 in let b = below.1 in let c = below.2 in (omega arith, omega arith, omega arith)
operator_longer n m (Declared d) h below = tt

pub finding_longer : (n m : ℕ) (f : Finding) → n ≤ m → IsFindingBelow n f → IsFindingBelow m f
finding_longer n m finding.Nothing h below = tt
finding_longer n m (finding.Mode None) h below = tt
finding_longer n m (finding.Mode (Some x)) h below = omega arith
finding_longer n m (finding.Operator None) h below = tt
finding_longer n m (finding.Operator (Some o)) h below = operator_longer n m o h below

ahead_from : (n count node p : ℕ) (y : Yielding) → IsYieldingBelow n count node y → y ≡ yields.Part p → (node < p) × (p < count)
ahead_from n count node p y below is = let h : IsYieldingBelow n count node (yields.Part p) = subst (IsYieldingBelow n count node) is below in h

unit_from : (n count node : ℕ) (l : Leaf) (y : Yielding) → IsYieldingBelow n count node y → y ≡ yields.Unit l → IsLeafBelow n l
unit_from n count node l y below is = let h : IsYieldingBelow n count node (yields.Unit l) = subst (IsYieldingBelow n count node) is below in h

pub tables_more : (n m count node : ℕ) (ys : List Yielding) (fs : List Finding) (y : Yielding) (f : Finding) → n ≤ m → AreTablesBelow n count ys fs → IsYieldingBelow m count node y
    → IsFindingBelow n f → AreTablesBelow m count (slice_set ys node y) (slice_set fs node f)
tables_more n m count node ys fs y f h tables new found = record {
  long = length-set ys node y ∙ tables.long;
  found_long = length-set fs node f ∙ tables.found_long;
  ahead = λ k p e. ahead_at k p e (set_entry ys node k y yields.Unknown);
  units = λ k l e. unit_at k l e (set_entry ys node k y yields.Unknown);
  found = λ k. finding_at k (set_entry fs node k f finding.Nothing);
}
  where
    ahead_at : (k p : ℕ) → yield_at (slice_set ys node y) k ≡ yields.Part p → (get_or (slice_set ys node y) k yields.Unknown ≡ get_or ys k yields.Unknown) ⊎ ((k ≡ node) × (get_or (slice_set ys node y) k yields.Unknown ≡ y)) → (k < p) × (p < count)
    ahead_at k p e (inl same) = tables.ahead k p (sym same ∙ e)
    ahead_at k p e (inr is) = subst (λ (i : ℕ). (i < p) × (p < count)) (sym is.0) (ahead_from m count node p y new (sym is.1 ∙ e))

    unit_at : (k : ℕ) (l : Leaf) → yield_at (slice_set ys node y) k ≡ yields.Unit l → (get_or (slice_set ys node y) k yields.Unknown ≡ get_or ys k yields.Unknown) ⊎ ((k ≡ node) × (get_or (slice_set ys node y) k yields.Unknown ≡ y)) → IsLeafBelow m l
    unit_at k l e (inl same) = leaf_longer n m l h (tables.units k l (sym same ∙ e))
    unit_at k l e (inr is) = unit_from m count node l y new (sym is.1 ∙ e)

    finding_at : (k : ℕ) → (get_or (slice_set fs node f) k finding.Nothing ≡ get_or fs k finding.Nothing) ⊎ ((k ≡ node) × (get_or (slice_set fs node f) k finding.Nothing ≡ f)) → IsFindingBelow m (slice_index_or (slice_set fs node f) k finding.Nothing)
    finding_at k (inl same) = rw same (finding_longer n m (get_or fs k finding.Nothing) h (tables.found k))
    finding_at k (inr is) = rw is.1 (finding_longer n m f h found)

-- tables in which nothing is known yet
pub tables_begun : (n count : ℕ) (ys : List Yielding) (fs : List Finding) → ys ≡ replicate count yields.Unknown → fs ≡ replicate count finding.Nothing → AreTablesBelow n count ys fs
tables_begun n count ys fs no_yields no_findings = record {
  long = ap length no_yields ∙ length-replicate count yields.Unknown;
  found_long = ap length no_findings ∙ length-replicate count finding.Nothing;
  ahead = λ k p e. absurd_part (sym (unknown_at k) ∙ e);
  units = λ k l e. absurd_unit (sym (unknown_at k) ∙ e);
  found = λ k. rw (nothing_at k) tt;
}
  where
    all_one : {X : Type 0} (count k : ℕ) (d : X) → get_or (replicate count d) k d ≡ d
    all_one zero k d = refl
    all_one (suc c) zero d = refl
    all_one (suc c) (suc k) d = all_one c k d

    unknown_at : (k : ℕ) → yield_at ys k ≡ yields.Unknown
    unknown_at k = rw no_yields (all_one count k yields.Unknown)

    nothing_at : (k : ℕ) → slice_index_or fs k finding.Nothing ≡ finding.Nothing
    nothing_at k = rw no_findings (all_one count k finding.Nothing)

    absurd_part : {P : Type 0} {p : ℕ} → yields.Unknown ≡ yields.Part p → P
    absurd_part e = absurd (cc)

    absurd_unit : {P : Type 0} {l : Leaf} → yields.Unknown ≡ yields.Unit l → P
    absurd_unit e = absurd (cc)
