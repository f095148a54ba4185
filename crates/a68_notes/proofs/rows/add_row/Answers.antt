use Rattle.std.proofs.Common.{false, List, refl, sym, subst}
use Rattle.a68_modes.specs.declared.shape.Shape.{Shape}
use Rattle.a68_modes.specs.declared.shape.Shape.TheVariants.{Rows}
use Rattle.a68_notes.proofs.Rowing.{known_more, noted_row}
use Rattle.a68_notes.specs.KnownRows.{AreRowsKnown}
use Rattle.a68_notes.proofs.rows.add_row.Goals as goal

pub returns-then-branch-clause-known : goal.returns-then-branch-clause-known
returns-then-branch-clause-known c =
    subst (λ (modes : List Shape). AreRowsKnown modes c.insert.new.self.keys) (sym c.in_ok-push_row.ensures)
    (known_more c.args.modes.now c.args.known.now.keys c.insert.new.self.keys (Rows c.args.dims false c.args.of) c.requires.known
    (noted_row c.args.known.now.keys c.insert.new.self.keys c.args.dims c.args.of (Rows c.args.dims false c.args.of) refl c.in_ok-insert.ensures.updates.0))
