-- Inner: the headline does not rest on this file.
-- How the logic tells stores apart.
use Rattle.std.specs.Prelude.{ℕ, List, refl}
use Rattle.std.specs.Coded.{Coded, code_by, coded×, coded_ℕ, coded_list, coded_option}
use Rattle.std.specs.declared.option.Option.{Option}
use Rattle.a68_acts.specs.Store.{Frame, Store}
use Rattle.a68_values.specs.Codes.{content_code}
use Rattle.a68_values.specs.Content.{Content}
use Rattle.a68_values.specs.contracts.held.Held as row
use Rattle.a68_values.specs.declared.held.Held.{Held}

abbrev pub held_code : Coded Held
held_code = row.the_row.coded

abbrev pub frame_code : Coded Frame
frame_code =
    code_by (ℕ × (ℕ × List (Option Content))) (coded× coded_ℕ (coded× coded_ℕ (coded_list (coded_option content_code))))
    (λ f. (f.outer, (f.scope, f.slots))) (λ p. record { outer = p.0; scope = p.1.0; slots = p.1.1 }) (λ _. refl)

abbrev pub store_code : Coded Store
store_code =
    code_by (List Held × (List Frame × (List ℕ × ℕ))) (coded× (coded_list held_code) (coded× (coded_list frame_code) (coded× (coded_list coded_ℕ) coded_ℕ)))
    (λ s. (s.cells, (s.frames, (s.text, s.strands)))) (λ p. record { cells = p.0; frames = p.1.0; text = p.1.1.0; strands = p.1.1.1 }) (λ _. refl)
