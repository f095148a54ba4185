use Rattle.a68_report.proofs.Counted.{counted, joined}
use Rattle.a68_report.proofs.constant.put_row.Goals as goal

pub returns : goal.returns
returns c = rw (counted c.args.items.now) (joined c.put_items.result c.args.text.now _ _ _ _ c.in_ok-put_number.ensures c.put_items.ensures)
