use Rattle.std.proofs.Common.{◌≡◌, ◌<◌, ◌∙◌, Bool, true, false, not, length, refl, sym, ap, take, arith}
use Rattle.std.proofs.lemmas.List.{take_more, map-append}
use Rattle.std.specs.Prelude.{map}
use Rattle.a68_declare.specs.Numbering.{number_in}
use Rattle.a68_equiv.proofs.Spreading.{none_noted, noted_again, noted_new, known_new}
use Rattle.std.proofs.Math.Seq.{take-length}
use Rattle.a68_declare.proofs.image.note.Goals as goal
use Rattle.a68_declare.proofs.image.note.Goals.{then-branch+in_ok-push, else-branch}

was_out : (added was : Bool) → added ≡ not was → added ≡ true → was ≡ false
was_out added true e is = let f : true ≡ false = sym is ∙ e in cc
was_out added false e is = refl

was_in : (added was : Bool) → added ≡ not was → added ≡ false → was ≡ true
was_in added true e is = refl
was_in added false e is = let f : false ≡ true = sym is ∙ e in cc

pub loop-mode-init : goal.loop-mode-init
loop-mode-init c = record { notes = none_noted c.args.found.now.items; known = c.requires }

pub loop-mode-preserved : goal.loop-mode-preserved
loop-mode-preserved c =
    let lt : c.loop-mode.mode-index < length c.args.modes.now = omega arith in
    let more = take_more c.args.modes.now c.loop-mode.mode-index 0 lt in
    let f = number_in c.args.to.now in
    let spread = ap (map f) more ∙ map-append f (take c.loop-mode.mode-index c.args.modes.now) _ in
    let known = c.loop-mode.invariant.known in
    elim c.if-branch.branch [
      | then-branch+in_ok-push w ↦ record {
        notes = rw (spread, w.found-is, w.in_ok-push.ensures.items, ← c.number-number.ensures) (noted_new _ _ _ _ c.loop-mode.invariant.notes);
        known = rw (w.found-is, w.in_ok-push.ensures.items) (known_new _ _ _ _ known (was_out _ _ c.in_ok-insert.ensures.added w.if-branch.true) c.in_ok-insert.ensures.updates.0);
      }
      | else-branch w ↦
          let same : c.insert.new.self.keys ≡ c.loop-mode.known.keys = rw w.if-branch.false at c.in_ok-insert.ensures.unchanged in
          record {
            notes = rw (spread, w.found-is, ← c.number-number.ensures) (noted_again _ _ _ _ c.loop-mode.invariant.notes (sym (known.same _) ∙ was_in _ _ c.in_ok-insert.ensures.added w.if-branch.false));
            known = rw (w.found-is, same) known;
          }
    ]

pub returns : goal.returns
returns c =
    let all : c.loop-mode.mode-index ≡ length c.args.modes.now = omega arith in
    rw (all, take-length) at c.loop-mode.invariant
