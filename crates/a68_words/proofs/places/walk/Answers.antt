use Rattle.std.proofs.Common.{◌≡◌, ◌+◌, ◌*◌, ◌≤◌, arith, length, map}
use Rattle.a68_words.specs.declared.class.Class.TheVariants.{ModeWord, OperatorWord}
use Rattle.a68_words.specs.Definitions.{Defines}
use Rattle.a68_words.specs.Levels.{IsTooDeep, depth}
use Rattle.a68_words.specs.Steps.{plain}
use Rattle.a68_words.proofs.Marking.{mark_more, first_more}
use Rattle.a68_words.proofs.Walking.{reached, is_shallow, left_told, left_plain, flag_mode, flag_operator, over}
use Rattle.a68_words.proofs.places.walk.Goals as goal

pub leave-requires-clause-shallow : goal.leave-requires-clause-shallow
leave-requires-clause-shallow c =
    let at = reached c.args.roles.now c.loop-i.i c.role_at-role.result c.loop-i.levels c.reach.new.self c.role_at-role.ensures c.reach.ensures c.loop-i.invariant.told c.loop-i.invariant.levels in
    let small : depth (map plain c.reach.new.self) ≤ 2 * c.loop-i.i + 1 = is_shallow c.args.roles.now c.loop-i.i c.reach.new.self at in
    omega arith

pub loop-i-preserved : goal.loop-i-preserved
loop-i-preserved c =
    let roles = c.args.roles.now in
    let i = c.loop-i.i in
    let role = c.role_at-role.result in
    let previous = c.role_before-previous.result in
    let next = c.role_at-next.result in
    let levels = c.reach.new.self in
    let at = reached roles i role c.loop-i.levels levels c.role_at-role.ensures c.reach.ensures c.loop-i.invariant.told c.loop-i.invariant.levels in
    let level = c.top-level.result in
    let more = c.top-level.ensures.0 in
    record {
      told = left_told roles i previous role levels c.leave.new.self c.role_before-previous.ensures c.role_at-role.ensures c.in_ok-leave.ensures at;
      levels = left_plain roles i previous role levels c.leave.new.self c.role_before-previous.ensures c.role_at-role.ensures c.in_ok-leave.ensures at;
      modes = mark_more (λ k. Defines roles k ModeWord) i c.loop-i.modes.items c.push.new.self.items c.as_mode.result c.loop-i.invariant.modes
          (flag_mode roles i previous role next level more levels c.as_mode.result c.role_before-previous.ensures c.role_at-role.ensures c.role_at-next.ensures c.top-level.ensures.1 at c.as_mode.ensures)
          c.in_ok-push.ensures.items;
      operators = mark_more (λ k. Defines roles k OperatorWord) i c.loop-i.operators.items c.push-in-loop-i.new.self.items c.as_operator.result c.loop-i.invariant.operators
          (flag_operator roles i previous role next level more levels c.as_operator.result c.role_before-previous.ensures c.role_at-role.ensures c.role_at-next.ensures c.top-level.ensures.1 at c.as_operator.ensures)
          c.in_ok-push-2.ensures.items;
      deep = rw c.first-too_deep.ensures (first_more (IsTooDeep roles) i c.loop-i.too_deep c.is_over.result c.loop-i.invariant.deep
          (over roles i role levels c.is_over.result c.role_at-role.ensures at c.is_over.ensures));
    }

pub returns : goal.returns
returns c =
    let all : c.loop-i.i ≡ length c.args.roles.now = omega arith in
    let read = c.loop-i.invariant in
    record { modes = rw all at read.modes; operators = rw all at read.operators; deep = rw all at read.deep }
