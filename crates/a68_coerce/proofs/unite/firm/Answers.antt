use Rattle.a68_coerce.specs.Paths.{UnitedTo}
use Rattle.a68_coerce.specs.Paths.FirmTo.{meekly}
use Rattle.a68_coerce.specs.Routes.{FindsRoute}
use Rattle.a68_coerce.proofs.Orders.{only_meek, else_united, ok_map}
use Rattle.a68_coerce.proofs.unite.firm.Goals as goal

pub returns-in-Some : goal.returns-in-Some
returns-in-Some c = meekly c.in-Some.ensures

pub returns-in_default-goal : goal.returns-in_default-goal
returns-in_default-goal c = only_meek c.args.modes.now c.args.from c.args.goal c.in_default.ensures c.in_default-goal.not-Mode

pub returns : goal.returns
returns c =
    let lacks = rw c.in-Mode.is at c.in_default.ensures in
    rw c.in-Mode.is (ok_map c.united.result (FindsRoute c.args.modes.now c.args.from (UnitedTo c.args.modes.now c.args.from c.in-Mode.to)) _ (λ o w. else_united c.args.modes.now c.args.from c.in-Mode.to o lacks w) c.united.ensures)
