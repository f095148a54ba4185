use Rattle.std.proofs.Common.{◌∙◌, sym}
use Rattle.a68_perform.proofs.Printing.{print-text, print-fault}
use Rattle.a68_perform.proofs.operations.print_next.Goals as goal

pub returns-in-Ok : goal.returns-in-Ok
returns-in-Ok c =
    print-text c.in_ok-text.field-0 c.in-Ok.text c.args.left c.pop.new.self.items c.in-Some.item c.in-Ok.is (sym c.left.view_is ∙ c.in-Some.ensures.items) c.in_ok-text.ensures

pub returns-in-Err : goal.returns-in-Err
returns-in-Err c =
    print-fault c.in_ok-text.field-0 c.in-Err.kind c.args.left c.pop.new.self.items c.in-Some.item c.in-Err.is (sym c.left.view_is ∙ c.in-Some.ensures.items) c.in_ok-text.ensures
