use Rattle.std.proofs.Common.{◌≡◌, ◌∙◌, ap}
use Rattle.a68_code.specs.Flow.{leaves}
use Rattle.a68_code.proofs.Landing.{ways_next}
use Rattle.a68_heights.proofs.ways.add_ways.Goals as goal

pub returns-in_default : goal.returns-in_default
returns-in_default c =
    let other = c.in_default in
    rw (ways_next c.args.modes.now c.args.at c.args.does.now c.args.below other.not-Jump other.not-Goto other.not-Unless other.not-Case other.not-Member other.not-Step other.not-Advance other.not-Return other.not-Close other.not-End) (rw (← c.leaves.ensures) c.add_all-in_default.ensures)

pub returns-in-Case : goal.returns-in-Case
returns-in-Case c =
    let height : c.leaves.result ≡ 0 = c.leaves.ensures ∙ ap (leaves c.args.modes.now) c.in-Case.is in
    rw c.in-Case.is (rw (height, c.deref.ensures.value, c.places.view_is) at c.add_places.ensures)

pub returns-in-Member : goal.returns-in-Member
returns-in-Member c = rw c.in-Member.is (rw (c.deref-in-Member.ensures.value, c.places-in-Member.view_is) at c.add_members.ensures)

pub returns-in-Goto : goal.returns-in-Goto
returns-in-Goto c =
    let height = c.leaves.ensures ∙ ap (leaves c.args.modes.now) c.in-Goto.is in
    rw c.in-Goto.is (rw height at c.add_both.ensures)
