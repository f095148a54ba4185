use Rattle.std.proofs.Common.{◌≡◌, rules, w64, to_z, of_z}
use Rattle.std.proofs.lemmas.Int.{to_z-of_z}
use Rattle.a68_layout.proofs.stretches.taken.Goals as goal

pub returns-else-says_nothing : goal.returns-else-says_nothing
returns-else-says_nothing c =
    let dim = c.args.dim.now in
    let own_lower : to_z w64 (of_z w64 dim.lower) ≡ dim.lower = to_z-of_z w64 dim.lower (search rules) in
    let own_upper : to_z w64 (of_z w64 dim.upper) ≡ dim.upper = to_z-of_z w64 dim.upper (search rules) in
    let lower : to_z w64 (of_z w64 c.or_own-lower.result) ≡ c.or_own-lower.result = to_z-of_z w64 c.or_own-lower.result (search rules) in
    let upper : to_z w64 (of_z w64 c.or_own-upper.result) ≡ c.or_own-upper.result = to_z-of_z w64 c.or_own-upper.result (search rules) in
    let first : to_z w64 (of_z w64 c.or_own.result) ≡ c.or_own.result = to_z-of_z w64 c.or_own.result (search rules) in
    rw (c.in-Part.is, ← c.if-says_nothing.ensures)
    (rw (lower, upper, first, c.or_own-lower.ensures, c.or_own-upper.ensures, c.or_own.ensures, own_lower, own_upper) at c.trimmed.ensures)
