-- Notes as they are added.
use Rattle.std.proofs.Common.{◌≡◌, ℕ, ◌+◌, List, [], ◌∷◌, ◌++◌, refl, sym, subst, ⊎_elim, arith, length-append}
use Rattle.a68_annot.specs.declared.note.Note.{Note}
use Rattle.a68_declare.specs.Outcome.{ByNode}
use Rattle.a68_notes.specs.Notes.{AreNotesBefore, IsNote}
use Rattle.a68_ranges.proofs.Layering.{get_pushed}
use Rattle.a68_refusals.specs.First.{Asked}

pub none_noted : (of : ByNode) (a : Asked) (notes : List Note) → notes ≡ [] → AreNotesBefore of a 0 notes
none_noted of a notes e = subst (AreNotesBefore of a 0) (sym e) (record { long = refl; each = λ n note at. absurd (cc) })

-- one node more
pub note_more : (of : ByNode) (a : Asked) (n : ℕ) (notes : List Note) (note : Note) (new : List Note) → AreNotesBefore of a n notes → IsNote of a n note → new ≡ notes ++ note ∷ []
    → AreNotesBefore of a (n + 1) new
note_more of a n notes note new before is e =
    let long = before.long in
    subst (AreNotesBefore of a (n + 1)) (sym e) (record {
      long = omega (arith, length-append notes (note ∷ []));
      each = λ m other at. ⊎_elim
          (λ there. before.each m other there)
          (λ last. let last_is : m ≡ n = (let place = last.0 in omega arith) in subst (λ k. IsNote of a k other) (sym last_is) (subst (IsNote of a n) last.1 is))
          (get_pushed notes note other m at);
    })
