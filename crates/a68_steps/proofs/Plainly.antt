-- Elements of a row that are plain values: each takes one cell, and one step.
use Rattle.std.proofs.Common.{◌≡◌, ◌∙◌, ℕ, true, false, List, [], ◌∷◌, length, refl, ap, sym}
use Rattle.std.proofs.lemmas.Bool.{false≢true}
use Rattle.std.specs.Prelude.{if◌then◌else◌}
use Rattle.a68_acts.specs.Fetching.{assign_by, assign_plain, assign_steps, assign_within, fetch_by, fetch_steps, fetch_within}
use Rattle.a68_acts.specs.declared.step.Step.{Step}
use Rattle.a68_acts.specs.declared.step.Step.TheVariants.{Fetch, Stray}
use Rattle.a68_layout.specs.Widths.{width_by, width_of, width_within}
use Rattle.a68_modes.specs.Nodes.{is_plain, shape_at}
use Rattle.a68_modes.specs.declared.shape.Shape.{Shape}
use Rattle.a68_modes.specs.declared.shape.Shape.TheVariants.{Rows, Same, Struct, Union}
use Rattle.a68_values.specs.Content.{Content}

width_by-plain : (f : ℕ → ℕ) (s : Shape) → is_plain s ≡ true → width_by f s ≡ 1
width_by-plain f (Struct fields) e = absurd (false≢true e)
width_by-plain f (Same m) e = absurd (false≢true e)
width_by-plain f _ e = refl

pub plain-width : (modes : List Shape) (m : ℕ) → is_plain (shape_at modes m) ≡ true → width_of modes m ≡ 1
plain-width [] m e = refl
plain-width (s ∷ more) m e = width_by-plain _ (shape_at (s ∷ more) m) e

fetch_by-plain : (F : ℕ → ℕ → List Step → List Step) (f : ℕ → ℕ) (s : Shape) (cell : ℕ) (behind : List Step) → is_plain s ≡ true → Fetch cell ∷ behind ≡ fetch_by F f s cell behind
fetch_by-plain F f (Struct fields) cell behind e = absurd (false≢true e)
fetch_by-plain F f (Same m) cell behind e = absurd (false≢true e)
fetch_by-plain F f (Rows dims flex m) cell behind e = absurd (false≢true e)
fetch_by-plain F f (Union members) cell behind e = absurd (false≢true e)
fetch_by-plain F f _ cell behind e = ap (λ b. (if b then Fetch cell else Stray) ∷ behind) (sym e)

pub plain-fetched : (modes : List Shape) (m cell : ℕ) (behind : List Step) → is_plain (shape_at modes m) ≡ true → Fetch cell ∷ behind ≡ fetch_steps modes m cell behind
unfolding fetch_steps
plain-fetched [] m cell behind e = absurd (false≢true e)
plain-fetched (s ∷ more) m cell behind e = fetch_by-plain (fetch_within (length more) (s ∷ more)) (width_within (length more) (s ∷ more)) (shape_at (s ∷ more) m) cell behind e

assign_by-plain : (F : ℕ → ℕ → Content → List Step → List Step) (f : ℕ → ℕ) (s : Shape) (cell : ℕ) (v : Content) (behind : List Step) → is_plain s ≡ true
    → assign_plain true cell v ∷ behind ≡ assign_by F f s cell v behind
assign_by-plain F f (Struct fields) cell v behind e = absurd (false≢true e)
assign_by-plain F f (Same m) cell v behind e = absurd (false≢true e)
assign_by-plain F f (Rows dims flex m) cell v behind e = absurd (false≢true e)
assign_by-plain F f (Union members) cell v behind e = absurd (false≢true e)
assign_by-plain F f _ cell v behind e = ap (λ b. assign_plain b cell v ∷ behind) (sym e)

pub plain-assigned : (modes : List Shape) (m cell : ℕ) (v : Content) (behind : List Step) → is_plain (shape_at modes m) ≡ true → assign_plain true cell v ∷ behind ≡ assign_steps modes m cell v behind
unfolding assign_steps
plain-assigned [] m cell v behind e = absurd (false≢true e)
plain-assigned (s ∷ more) m cell v behind e = assign_by-plain (assign_within (length more) (s ∷ more)) (width_within (length more) (s ∷ more)) (shape_at (s ∷ more) m) cell v behind e
