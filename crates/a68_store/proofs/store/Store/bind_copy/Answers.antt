use Rattle.std.proofs.Common.{◌≡◌, ◌∙◌, ◌+◌, ap, sym, refl, arith}
use Rattle.std.specs.Prelude.{slice_set, ◌-◌}
use Rattle.std.specs.Vec.{with_item}
use Rattle.a68_acts.specs.Does.{did, with_slot}
use Rattle.a68_acts.specs.declared.want.Reply.TheVariants as reply
use Rattle.a68_values.specs.declared.act.Act.TheVariants as act
use Rattle.a68_acts.specs.Store.{Store, counted}
use Rattle.a68_values.specs.Content.{plain}
use Rattle.a68_store.specs.Frames.{frame_of}
use Rattle.a68_store.proofs.Binding.{stands, slot-seen, frame-told, weight-fits, bound-sound, bound-view}
use Rattle.a68_store.proofs.Counts.{weight-pos}
use Rattle.a68_store.proofs.Rows.{bind-did}
use Rattle.a68_store.proofs.store.Store.bind_copy.Goals as goal

pub index-requires : goal.index-requires
index-requires c =
    let at = stands c.self.inside c.args.frame c.args.slot c.in-Some.place _ c.self.invariant c.deref.ensures.value c.in-Some.ensures in
    omega (arith, at.there, c.self.inside.slots.ok)

pub index_mut-requires : goal.index_mut-requires
index_mut-requires c =
    let at = stands c.self.inside c.args.frame c.args.slot c.in-Some.place _ c.self.invariant c.deref.ensures.value c.in-Some.ensures in
    omega (arith, at.there, c.self.inside.slots.ok)

pub overflow_sub-self : goal.overflow_sub-self
overflow_sub-self c =
    let at = stands c.self.inside c.args.frame c.args.slot c.in-Some.place _ c.self.invariant c.deref.ensures.value c.in-Some.ensures in
    let small = weight-fits c.self.inside c.args.frame c.args.slot c.in-Some.place at c.index.result.now c.self.invariant c.index.ensures in
    omega (arith, small, c.weight-replaced.ensures, c.from.ensures)

pub invariant_of-self : goal.invariant_of-self
invariant_of-self c =
    let inside = c.self.inside in
    let at = stands inside c.args.frame c.args.slot c.in-Some.place _ c.self.invariant c.deref.ensures.value c.in-Some.ensures in
    let small = weight-fits inside c.args.frame c.args.slot c.in-Some.place at c.index.result.now c.self.invariant c.index.ensures in
    bound-sound inside _ c.args.frame c.args.slot c.in-Some.place at c.index.result.now (plain c.args.held.now) c.self.invariant c.index.ensures
    (record {
      cells = refl;
      frames = refl;
      slots = ap (λ x. slice_set inside.slots.items c.in-Some.place x) c.bind_to.ensures;
      kept = refl;
      text = refl;
      strands = refl;
    })
    (omega (arith, small, c.self.invariant.few, c.weight-replaced.ensures, c.from.ensures))
    (omega (arith, small, c.self.invariant.few, c.weight-replaced.ensures, c.from.ensures, weight-pos c.index.result.now))

pub returns : goal.returns
returns c =
    let inside = c.self.inside in
    let at = stands inside c.args.frame c.args.slot c.in-Some.place _ c.self.invariant c.deref.ensures.value c.in-Some.ensures in
    let small = weight-fits inside c.args.frame c.args.slot c.in-Some.place at c.index.result.now c.self.invariant c.index.ensures in
    let counts : counted c.args.self.now ≡ inside.counted = ap counted (sym c.self.view_is) ∙ sym c.self.invariant.counted_is in
    let view = bound-view inside (record inside { slots = with_item inside.slots c.in-Some.place c.bind_to.new.slot; counted = c.from.result - c.weight-replaced.result + 1 })
    c.args.frame c.args.slot c.in-Some.place at (plain c.args.held.now) c.self.invariant
    (record {
      cells = refl;
      frames = refl;
      slots = ap (λ x. slice_set inside.slots.items c.in-Some.place x) c.bind_to.ensures;
      kept = refl;
      text = refl;
      strands = refl;
    }) in
    bind-did c.args.self.now c.args.frame c.args.slot (plain c.args.held.now) (frame_of inside.slots.items at.frame) c.index.result.now
    (frame-told inside c.args.self.now c.args.frame c.args.slot c.in-Some.place at c.self.view_is)
    (slot-seen inside c.args.frame c.args.slot c.in-Some.place at c.index.result.now c.index.ensures)
    (omega (arith, counts, small, c.self.invariant.few, weight-pos c.index.result.now))
    ∙ ap (λ (s : Store). did (act.Bind c.args.frame c.args.slot) reply.Go s)
    (ap (λ (s : Store). with_slot s c.args.frame c.args.slot (frame_of inside.slots.items at.frame) (plain c.args.held.now)) (sym c.self.view_is) ∙ sym view)
