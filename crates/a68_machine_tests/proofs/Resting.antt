-- Which strands are lent while one is out, and none once it is back.
use Rattle.std.proofs.Common.{◌≡◌, ◌∙◌, ⊎_elim, ℕ, Bool, List, None, Some, refl, sym, ap, slice_get}
use Rattle.std.specs.Prelude.{slice_set}
use Rattle.std.proofs.lemmas.Bool.{cases_eq}
use Rattle.std.specs.declared.option.Option.{Option}
use Rattle.a68_store.proofs.FramesLemmas.{get-set_cases}
use Rattle.a68_strand.specs.declared.strand.Strand.{Strand}
use Rattle.a68_workers.specs.Runs.{IsAtRest}
use Rattle.a68_world.specs.Leases.{BackOf, LendOf}
use Rattle.a68_world.specs.Run.{Run, IsNumber}
use Rattle.a68_world.specs.Turns.{ActsAs}
use Rattle.a68_world.specs.declared.status.StrandState.{StrandState}
use Rattle.a68_world.specs.declared.status.StrandState.TheVariants.{Home, Lent, Spent}
use Rattle.a68_world.proofs.Places.{set_same}

-- this strand alone is lent
abbrev pub OnlyOut : Run → ℕ → Type 0
OnlyOut run n = (k : ℕ) → IsNumber run k Lent → k ≡ n

pub lends_one : (old new : Run) (k : ℕ) (found : Option Strand) (strand : Strand) → found ≡ Some strand → LendOf old k found new → IsAtRest old → OnlyOut new strand.number
lends_one old new k None strand is l rest j lent = absurd (cc)
lends_one old new k (Some s) strand is l rest j lent =
    ⊎_elim
    (λ (same : (k ≡ j) × (Lent ≡ Lent)). sym same.0 ∙ sym l.number ∙ (let e : s ≡ strand = cc in ap (λ (x : Strand). x.number) e))
    (λ (old_lent : slice_get old.status j ≡ Some Lent). absurd (rest j old_lent))
    (get-set_cases old.status k j Lent Lent (ap (λ (r : Run). slice_get r.status j) (sym l.after) ∙ lent))

pub acts_one : (old new : Run) (n : ℕ) → ActsAs old n Lent new → OnlyOut old n → OnlyOut new n
acts_one old new n a out j lent = ⊎_elim (λ same. same) (λ other. by_old other (slice_get old.status j) refl) (cases_eq j n)
  where
    moved : (s : StrandState) → slice_get old.status j ≡ Some s → (s ≡ Lent → ⊥) → (j ≡ n → ⊥) → j ≡ n
    moved s e ne other =
        ⊎_elim
        (λ stays. let both : Some s ≡ Some Lent = sym stays ∙ lent in let is : s ≡ Lent = cc in absurd (ne is))
        (λ lost. let both : Some Spent ≡ Some Lent = sym lost.1 ∙ lent in absurd (cc))
        (a.seated.stays j s e other)

    by_old : (j ≡ n → ⊥) → (o : Option StrandState) → slice_get old.status j ≡ o → j ≡ n
    by_old other None e = let is : Lent ≡ Home = a.seated.fresh j Lent e lent in absurd (cc)
    by_old other (Some Lent) e = out j e
    by_old other (Some Home) e = moved Home e (λ is. absurd (cc)) other
    by_old other (Some Spent) e = moved Spent e (λ is. absurd (cc)) other

pub backs_rest : (old new : Run) (strand : Strand) (none : Bool) → IsNumber old strand.number Lent → BackOf old strand none new → OnlyOut old strand.number → IsAtRest new
backs_rest old new strand none was b out j lent = ⊎_elim here there (cases_eq j strand.number)
  where
    now : slice_get (slice_set old.status strand.number b.there) j ≡ Some Lent
    now = ap (λ (l : List StrandState). slice_get l j) (sym b.after) ∙ lent

    not_lent : b.there ≡ Lent → ⊥
    not_lent is =
        ⊎_elim
        (λ home. let both : Home ≡ Lent = sym home ∙ is in absurd (cc))
        (λ spent. let both : Spent ≡ Lent = sym spent.0 ∙ is in absurd (cc))
        b.away

    here : j ≡ strand.number → ⊥
    here same =
        let put = set_same old.status strand.number Lent b.there was in
        let both : Some b.there ≡ Some Lent = sym put ∙ ap (slice_get (slice_set old.status strand.number b.there)) (sym same) ∙ now in
        let is : b.there ≡ Lent = cc in not_lent is

    there : (j ≡ strand.number → ⊥) → ⊥
    there other =
        ⊎_elim
        (λ (same : (strand.number ≡ j) × (Lent ≡ b.there)). other (sym same.0))
        (λ (old_lent : slice_get old.status j ≡ Some Lent). other (out j old_lent))
        (get-set_cases old.status strand.number j b.there Lent now)
