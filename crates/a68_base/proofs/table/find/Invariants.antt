use Rattle.std.proofs.Common.{◌≡◌, map, drop}
use Rattle.a68_base.specs.Tables as tables
use Rattle.a68_base.proofs.table.find.Given as goal

abbrev pub invariant-loop-listed : goal.invariant-loop-listed
invariant-loop-listed g l =
    tables.find (map (λ row. (row.0.now, row.1)) (drop l.listed-index l.rows)) l.spelling
    ≡ tables.find (map (λ row. (row.0.now, row.1)) l.rows) l.spelling
