use Rattle.std.proofs.Common.{◌≡◌, ◌+◌, ◌-◌, ◌∙◌, length, refl, rules, sym, arith}
use Rattle.std.proofs.lemmas.Int.{to_z-of_z}
use Rattle.std.specs.Vec.{vec_len}
use mir.Syntax.{w64}
use mir.Val.{of_z, to_z}
use Rattle.a68_stack.proofs.Tops.{number_is_set, number_set_callers}
use Rattle.a68_stack.proofs.stack.Stack.set_number.Goals as goal

pub invariant_of-self-2 : goal.invariant_of-self-2
invariant_of-self-2 c =
    let all : length c.self.inside.items.items ≡ vec_len c.self.inside.items - 1 + 1 = omega (arith, c.self.inside.items.ok.0, c.in-Some.ensures.variant.0 refl) in
    let same : to_z w64 (of_z w64 c.args.number) ≡ c.args.number = to_z-of_z w64 c.args.number (search rules) in
    let is_set = number_is_set c.self.inside.items.items (vec_len c.self.inside.items - 1) c.set_number.result c.args.number c.in-Some.kept.now c.set_number.new.self all c.in-Some.ensures.value (rw same at c.set_number.ensures) c.self.inside.room in
    (c.self.invariant.0 ∙ sym (number_set_callers c.set_number.result c.args.number _ _ is_set), c.self.invariant.1)

pub returns : goal.returns
returns c =
    let all : length c.self.inside.items.items ≡ vec_len c.self.inside.items - 1 + 1 = omega (arith, c.self.inside.items.ok.0, c.in-Some.ensures.variant.0 refl) in
    let same : to_z w64 (of_z w64 c.args.number) ≡ c.args.number = to_z-of_z w64 c.args.number (search rules) in
    rw (← c.self.view_is)
    (number_is_set c.self.inside.items.items (vec_len c.self.inside.items - 1) c.set_number.result c.args.number c.in-Some.kept.now c.set_number.new.self all c.in-Some.ensures.value (rw same at c.set_number.ensures) c.self.inside.room)
