use Rattle.std.proofs.Common.{◌≡◌, ◌+◌, ◌-◌, ◌∙◌, length, refl, sym, arith}
use Rattle.std.specs.Vec.{vec_len}
use Rattle.a68_stack.proofs.Tops.{plain_is_set, plain_set_callers}
use Rattle.a68_stack.proofs.stack.Stack.set_copy.Goals as goal

pub invariant_of-self-2 : goal.invariant_of-self-2
invariant_of-self-2 c =
    let all : length c.self.inside.items.items ≡ vec_len c.self.inside.items - 1 + 1 = omega (arith, c.self.inside.items.ok.0, c.in-Some.ensures.variant.0 refl) in
    let is_set = plain_is_set c.self.inside.items.items (vec_len c.self.inside.items - 1) c.set_copy.result c.args.held.now c.in-Some.kept.now c.set_copy.new.self all c.in-Some.ensures.value c.set_copy.ensures c.self.inside.room in
    (c.self.invariant.0 ∙ sym (plain_set_callers c.set_copy.result c.args.held.now _ _ is_set), c.self.invariant.1)

pub returns : goal.returns
returns c =
    let all : length c.self.inside.items.items ≡ vec_len c.self.inside.items - 1 + 1 = omega (arith, c.self.inside.items.ok.0, c.in-Some.ensures.variant.0 refl) in
    rw (← c.self.view_is)
    (plain_is_set c.self.inside.items.items (vec_len c.self.inside.items - 1) c.set_copy.result c.args.held.now c.in-Some.kept.now c.set_copy.new.self all c.in-Some.ensures.value c.set_copy.ensures c.self.inside.room)
