use Rattle.std.proofs.Common.{◌<◌, ◌∙◌, sym, length, arith, ℕ}
use Rattle.a68_declarers.proofs.Shaping.{a_field, no_field, fields_all}
use Rattle.a68_declarers.specs.Numbers.{number_at}
use Rattle.a68_ranges.proofs.Taking.{read}
use Rattle.a68_declarers.proofs.shapes.fields_of.Goals as goal
use Rattle.a68_declarers.proofs.shapes.fields_of.Goals.{then-is_field+in_ok-push, else-is_field}

pub loop-part-preserved : goal.loop-part-preserved
loop-part-preserved c =
    let tree = c.args.tree.now in
    let parts = c.args.parts.now in
    let i = c.loop-part.part-index in
    let lt : i < length parts = omega arith in
    let at = read parts i 0 lt in
    let mode = λ (e : ℕ). number_at c.args.numbers.now e c.args.fixed in
    elim c.if-is_field.branch [
      | then-is_field+in_ok-push w ↦ rw (w.before-is, w.items-is)
          (a_field tree mode parts c.loop-part.items.items w.push.new.self.items c.loop-part.before i _ _ at (sym c.is_field.ensures ∙ w.if-is_field.true) (rw w.name_of.ensures at w.in_ok-push.ensures.items) c.loop-part.invariant)
      | else-is_field w ↦ rw (w.before-is, w.items-is)
          (no_field tree mode parts c.loop-part.items.items c.loop-part.before w.of-before.result i _ _ at (sym c.is_field.ensures ∙ w.if-is_field.false) w.of-before.ensures c.loop-part.invariant)
    ]

pub returns : goal.returns
returns c = fields_all c.args.tree.now (λ e. number_at c.args.numbers.now e c.args.fixed) c.loop-part.items.items c.loop-part.before c.loop-part.part-index c.args.parts.now _ (omega arith) c.loop-part.invariant
