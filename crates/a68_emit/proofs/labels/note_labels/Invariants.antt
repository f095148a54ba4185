use Rattle.std.proofs.Common.{◌≡◌, ℕ, drop, nat_eq}
use Rattle.std.specs.Prelude.{◌&&◌, ◌||◌}
use Rattle.a68_elab.specs.Trees.{is_label_in}
use Rattle.a68_emit.specs.Seats.{has_pair, labels_among}
use Rattle.a68_emit.proofs.labels.note_labels.Given as goal

-- with the labels among the rest of the nodes, all of the clause are known
abbrev pub invariant-loop-at : goal.invariant-loop-at
invariant-loop-at l =
    (clause label : ℕ) → (has_pair l.known.keys clause label || (nat_eq clause l.id && is_label_in label (labels_among l.program (drop l.at l.parts))))
    ≡ (has_pair l.initial.known.keys clause label || (nat_eq clause l.id && is_label_in label (labels_among l.program l.parts)))
