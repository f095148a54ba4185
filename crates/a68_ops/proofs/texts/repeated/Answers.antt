use Rattle.std.proofs.Common.{arith, ◌≡◌, ◌≤◌, ◌<◌, ◌*◌, ◌∙◌, List, ℕ, map, length, ap, sym, Ok, refl, w64}
use Rattle.std.proofs.lemmas.Int.{to_z-of_z}
use Rattle.std.proofs.lemmas.List.{length-map}
use Rattle.a68_ops.specs.Texts.{code_of, times, repeated}
use Rattle.a68_ops.specs.Yields.{most_parts, text}
use Rattle.a68_ops.proofs.Chars.{too_long, not_too_long}
use Rattle.a68_ops.proofs.texts.repeated.Goals as goal

pub returns-then-saturating_mul-gt-MOST_PARTS : goal.returns-then-saturating_mul-gt-MOST_PARTS
returns-then-saturating_mul-gt-MOST_PARTS c =
    let codes : List ℕ = map code_of c.args.chars.now in
    let long : most_parts < c.turns-count.result * length codes = rw (length-map c.args.chars.now code_of) (omega arith) in
    let told : repeated codes c.args.count ≡ text (times c.turns-count.result codes) =
    rw (to_z-of_z w64 c.args.count c.ranges.count) at c.turns-count.ensures codes (length-map c.args.chars.now code_of) in
    told ∙ too_long c.turns-count.result codes long

pub returns-in-Ok : goal.returns-in-Ok
returns-in-Ok c =
    let codes : List ℕ = map code_of c.args.chars.now in
    let short : c.turns-count.result * length codes ≤ most_parts = rw (length-map c.args.chars.now code_of) (omega arith) in
    let told : repeated codes c.args.count ≡ text (times c.turns-count.result codes) =
    rw (to_z-of_z w64 c.args.count c.ranges.count) at c.turns-count.ensures codes (length-map c.args.chars.now code_of) in
    told ∙ not_too_long c.turns-count.result codes short ∙ ap Ok (sym c.in-Ok.ensures)

pub returns-in-Err : goal.returns-in-Err
returns-in-Err c =
    let codes : List ℕ = map code_of c.args.chars.now in
    let short : c.turns-count.result * length codes ≤ most_parts = rw (length-map c.args.chars.now code_of) (omega arith) in
    let told : repeated codes c.args.count ≡ text (times c.turns-count.result codes) =
    rw (to_z-of_z w64 c.args.count c.ranges.count) at c.turns-count.ensures codes (length-map c.args.chars.now code_of) in
    rw (told ∙ not_too_long c.turns-count.result codes short) (tt, refl)
