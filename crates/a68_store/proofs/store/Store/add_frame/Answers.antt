use Rattle.std.proofs.Common.{◌≡◌, ◌∙◌, ◌+◌, ◌<◌, ◌++◌, ◌∷◌, [], length, ap, sym, refl, arith}
use Rattle.std.specs.Prelude.{None, replicate}
use Rattle.a68_acts.specs.Does.{did}
use Rattle.a68_acts.specs.Store as store
use Rattle.a68_acts.specs.Store.{Store, counted}
use Rattle.a68_acts.specs.declared.want.Reply.TheVariants as reply
use Rattle.a68_values.specs.declared.act.Act.TheVariants as act
use Rattle.a68_store.specs.Frames.{frames_of, AreLinked}
use Rattle.a68_store.proofs.Binding.{slots-few, entered-sound, entered-view, frame-there}
use Rattle.a68_store.proofs.FramesLemmas.{chain-enter, length-frames_of}
use Rattle.a68_store.proofs.Rows.{enter-did}
use Rattle.a68_store.proofs.store.Store.add_frame.Goals as goal

pub overflow_cast-first : goal.overflow_cast-first
overflow_cast-first c = omega (arith, slots-few c.self.inside c.self.invariant, c.self.invariant.few, c.len-first.ensures, c.self.inside.slots.ok)

pub invariant_of-self-2 : goal.invariant_of-self-2
invariant_of-self-2 c =
    let inside = c.self.inside in
    let frames = ap (λ (s : Store). length s.frames) c.self.view_is in
    let counts : counted c.args.self.now ≡ inside.counted = ap counted (sym c.self.view_is) ∙ sym c.self.invariant.counted_is in
    let there : c.args.outer < length inside.frames.items = omega (arith, frames, length-frames_of inside.slots.items inside.frames.items, c.requires.there) in
    let pushed = rw c.make_room.ensures.frames at c.push_frame.ensures in
    entered-sound inside _ _ c.args.slots c.self.invariant
    (record {
      cells = refl;
      frames = pushed;
      slots = c.add_unbound.ensures ∙ ap (λ l. l ++ replicate c.args.slots None) c.make_room.ensures.bound;
      text = refl;
      strands = refl;
      first = omega (arith, c.len-first.ensures, inside.slots.ok);
      count = refl;
    })
    there c.make_room.ensures.none (rw pushed c.in_ok-make_room.ensures.ok) refl (omega (arith, counts, c.requires.few))

pub returns-clause-ok : goal.returns-clause-ok
returns-clause-ok c =
    let inside = c.self.inside in
    let self = c.args.self.now in
    let new : store.Frame = record { outer = c.args.outer; scope = c.args.scope; slots = replicate c.args.slots None } in
    let frames : frames_of inside.slots.items inside.frames.items ≡ self.frames = ap (λ (s : Store). s.frames) c.self.view_is in
    let linked : AreLinked self.frames = rw (← frames) c.self.invariant.linked in
    let there = frame-there self.frames c.args.outer c.requires.there in
    let view = entered-view inside (record inside { frames = c.push_frame.new.frames; slots = c.add_unbound.new.bound; kept = c.make_room.new.kept; counted = inside.counted + c.args.slots }) _ c.args.slots c.self.invariant
    (record {
      cells = refl;
      frames = rw c.make_room.ensures.frames at c.push_frame.ensures;
      slots = c.add_unbound.ensures ∙ ap (λ l. l ++ replicate c.args.slots None) c.make_room.ensures.bound;
      text = refl;
      strands = refl;
      first = omega (arith, c.len-first.ensures, inside.slots.ok);
      count = refl;
    }) in
    enter-did self c.args.outer c.args.scope c.args.slots there.0 there.1 c.requires.few
    ∙ ap (λ l. did (act.Enter (length self.frames)) (reply.Frame l) (record self { frames = self.frames ++ new ∷ [] })) (chain-enter self.frames new linked c.requires.there)
    ∙ ap (λ (s : Store). did (act.Enter (length self.frames)) (reply.Frame (record { frame = length self.frames; scope = c.args.scope } ∷ store.chain_of self.frames c.args.outer)) s)
    (ap (λ (s : Store). record s { frames = s.frames ++ new ∷ [] }) (sym c.self.view_is) ∙ sym view)
