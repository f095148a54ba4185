-- Items printed one after another.
use Rattle.std.proofs.Common.{◌≡◌, ℕ, List, [], ◌∷◌, ◌++◌, Result, Ok, Err, ap, sym, ◌∙◌}
use Rattle.std.proofs.lemmas.List.{reverse-append, reverse-reverse}
use Rattle.std.specs.Prelude.{reverse}
use Rattle.a68_acts.specs.Operations.{printing, print_next}
use Rattle.a68_acts.specs.declared.operation.Doing.TheVariants.{Asks, Meets}
use Rattle.a68_acts.specs.declared.operation.Next.TheVariants as next
use Rattle.a68_acts.specs.declared.want.Want.TheVariants as want
use Rattle.a68_ops.specs.Printed.{item_text}
use Rattle.a68_values.specs.Content.{Content}
use Rattle.a68_values.specs.declared.act.FaultKind.{FaultKind}

-- the last item is the next one
print-popped : (printed : Result (List ℕ) FaultKind) (left rest : List Content) (item : Content) → left ≡ rest ++ item ∷ [] → printed ≡ item_text item
    → printing printed (reverse rest) ≡ print_next (reverse left)
print-popped printed left rest item e is =
    ap (λ (p : Result (List ℕ) FaultKind). printing p (reverse rest)) is
    ∙ ap print_next (sym (ap (λ (l : List Content). reverse l) e ∙ reverse-append rest (item ∷ [])))

-- it is printed, or meets a fault
pub print-text : (printed : Result (List ℕ) FaultKind) (text : List ℕ) (left rest : List Content) (item : Content) → printed ≡ Ok text → left ≡ rest ++ item ∷ []
    → printed ≡ item_text item → Asks (want.Print text) (next.Printing rest) ≡ print_next (reverse left)
print-text printed text left rest item is e told =
    ap (λ (l : List Content). Asks (want.Print text) (next.Printing l)) (sym (reverse-reverse rest))
    ∙ ap (λ (p : Result (List ℕ) FaultKind). printing p (reverse rest)) (sym is) ∙ print-popped printed left rest item e told

pub print-fault : (printed : Result (List ℕ) FaultKind) (why : FaultKind) (left rest : List Content) (item : Content) → printed ≡ Err why → left ≡ rest ++ item ∷ []
    → printed ≡ item_text item → Meets why ≡ print_next (reverse left)
print-fault printed why left rest item is e told =
    ap (λ (p : Result (List ℕ) FaultKind). printing p (reverse rest)) (sym is) ∙ print-popped printed left rest item e told
