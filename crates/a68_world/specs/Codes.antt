-- Inner: the headline does not rest on this file.
-- How the logic tells runs apart.
use Rattle.std.specs.Prelude.{ℕ, Bool, List, refl}
use Rattle.std.specs.Coded.{Coded, code_by, coded×, coded_ℕ, coded_bool, coded_list, coded_option}
use Rattle.std.specs.declared.option.Option.{Option}
use Rattle.a68_code.specs.contracts.code.Code as code
use Rattle.a68_code.specs.declared.code.Code.{Code}
use Rattle.a68_values.specs.contracts.act.Entry as entry
use Rattle.a68_values.specs.contracts.kept.End as end
use Rattle.a68_values.specs.declared.act.Entry.{Entry}
use Rattle.a68_values.specs.declared.kept.End.{End}
use Rattle.a68_world.specs.Run.{Run}
use Rattle.a68_world.specs.contracts.status.StrandState as status
use Rattle.a68_world.specs.declared.status.StrandState.{StrandState}

abbrev pub run_code : Coded Run
run_code =
    code_by (Code × (ℕ × (List Entry × (List StrandState × (Bool × Option End)))))
    (coded× code.the_row.coded (coded× coded_ℕ (coded× (coded_list entry.the_row.coded) (coded× (coded_list status.the_row.coded) (coded× coded_bool (coded_option end.the_row.coded))))))
    (λ r. (r.code, (r.fuel, (r.entries, (r.status, (r.lost, r.end))))))
    (λ p. record { code = p.0; fuel = p.1.0; entries = p.1.1.0; status = p.1.1.1.0; lost = p.1.1.1.1.0; end = p.1.1.1.1.1 })
    (λ _. refl)
