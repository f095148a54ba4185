-- Values of SKIP.
use Rattle.std.proofs.Common.{◌≡◌, ◌≤◌, ◌-◌, ℕ, zero, suc, Bool, List, length, map, refl, ap, sym, ◌∙◌, arith}
use Rattle.a68_layout.proofs.Shaping.{no-shape}
use Rattle.a68_modes.specs.Nodes.{shape_at}
use Rattle.a68_modes.specs.declared.shape.Shape.{Shape}
use Rattle.a68_modes.specs.declared.shape.Shape.TheVariants.{Struct, Same, Rows}
use Rattle.a68_values.specs.Content.{Content, contents_of, plain, structure}
use Rattle.a68_values.specs.declared.plain.Plain.TheVariants.{Unset}
use Rattle.a68_acts.specs.Operations.{skip_by, skip_within}

pub skipped-past : (n : ℕ) (modes : List Shape) (m : ℕ) → length modes ≤ m → plain Unset ≡ skip_within n modes m
skipped-past zero modes m past = refl
skipped-past (suc n) modes m past = sym (ap (skip_by (skip_within n modes)) (no-shape modes m past))

skip_by-other : (f : ℕ → Content) (s : Shape) → ((x : List (ℕ × ℕ)) → s ≡ Struct x → ⊥) → ((dims : ℕ) (flex : Bool) (of : ℕ) → s ≡ Rows dims flex of → ⊥) → ((x : ℕ) → s ≡ Same x → ⊥)
    → plain Unset ≡ skip_by f s
skip_by-other f (Struct fields) a r b = absurd (a fields refl)
skip_by-other f (Rows dims flex of) a r b = absurd (r dims flex of refl)
skip_by-other f (Same m) a r b = absurd (b m refl)
skip_by-other f _ a r b = refl

pub skipped-other : (n : ℕ) (modes : List Shape) (m : ℕ) (s : Shape) → s ≡ shape_at modes m → ((x : List (ℕ × ℕ)) → s ≡ Struct x → ⊥)
    → ((dims : ℕ) (flex : Bool) (of : ℕ) → s ≡ Rows dims flex of → ⊥) → ((x : ℕ) → s ≡ Same x → ⊥) → plain Unset ≡ skip_within n modes m
skipped-other zero modes m s e a r b = refl
skipped-other (suc n) modes m s e a r b = skip_by-other (skip_within n modes) s a r b ∙ ap (skip_by (skip_within n modes)) e

-- the value of a structure is that of its fields
pub skipped-structure : (n k : ℕ) (modes : List Shape) (m : ℕ) (fields : List (ℕ × ℕ)) → (n ≡ 0 → ⊥) → k ≡ n - 1 → Struct fields ≡ shape_at modes m
    → structure (contents_of (map (λ field. skip_within k modes field.1) fields)) ≡ skip_within n modes m
skipped-structure zero k modes m fields some less e = absurd (some refl)
skipped-structure (suc n) k modes m fields some less e =
    let same : k ≡ n = omega (arith, less) in
    ap (λ j. structure (contents_of (map (λ field. skip_within j modes field.1) fields))) same ∙ ap (λ s. skip_by (skip_within n modes) s) e
