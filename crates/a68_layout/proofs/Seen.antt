-- The cells of the elements of a row are cells that there may be.
use Rattle.std.proofs.Common.{◌≡◌, ℕ, zero, suc, ◌+◌, ◌<◌, ◌≤◌, Bool, true, false, refl, sym, arith}
use Rattle.std.proofs.lemmas.Bool.{lt-ltb, ltb-false}
use Rattle.std.proofs.lemmas.List.Elements.{All-nil, All-weaker}
use Rattle.std.specs.List.{All}
use Rattle.std.specs.Prelude.{◌||◌, ◌&&◌}
use Rattle.a68_layout.proofs.Spreads.{element_cells-few, none_there}
use Rattle.a68_layout.specs.Views.{bounds_of, element_cells, last_offset, is_beyond}
use Rattle.a68_layout.specs.Widths.{most_cells, elements_of}
use Rattle.a68_values.specs.declared.held.Descriptor.{Descriptor}

last_of : (far some beyond : Bool) → some ≡ true → (far || (some && beyond)) ≡ false → beyond ≡ false
last_of false true beyond e f = f
last_of true true beyond e f = absurd (cc)
last_of far false beyond e f = absurd (cc)

last_few : (d : Descriptor) (width : ℕ) → is_beyond d width ≡ false → 0 < elements_of (bounds_of d.dims) → d.base + last_offset d.dims + width ≤ most_cells
last_few d width e some =
    let behind = last_of _ _ _ (lt-ltb 0 (elements_of (bounds_of d.dims)) some) e in
    let few = ltb-false most_cells (d.base + last_offset d.dims + width) behind in
    omega (arith, few)

within_by : (d : Descriptor) (width n : ℕ) → is_beyond d width ≡ false → n ≡ elements_of (bounds_of d.dims) → All (λ c. c + width ≤ most_cells) (element_cells d.dims d.base)
within_by d width zero e count = rw (← none_there d.dims d.base (sym count)) (All-nil (λ c. c + width ≤ most_cells))
within_by d width (suc n) e count =
    let few = last_few d width e (omega (arith, count)) in
    All-weaker (λ c. c ≤ d.base + last_offset d.dims) (λ c. c + width ≤ most_cells) (λ c le. omega (arith, le, few))
    (element_cells d.dims d.base) (element_cells-few d.dims d.base)

-- each cell that is told has room behind it for an element
pub within : (d : Descriptor) (width : ℕ) → is_beyond d width ≡ false → All (λ c. c + width ≤ most_cells) (element_cells d.dims d.base)
within d width e = within_by d width (elements_of (bounds_of d.dims)) e refl
