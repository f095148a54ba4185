use Rattle.std.proofs.Common.{◌≡◌, ◌+◌, ◌*◌, take, map}
use Rattle.a68_acts.specs.Operations.{skip_within}
use Rattle.a68_steps.proofs.skips.+skip.Given as goal

abbrev pub decreases-add_skip : goal.decreases-add_skip
decreases-add_skip l = 2 * l.depth

abbrev pub decreases-skip_fields : goal.decreases-skip_fields
decreases-skip_fields l = 2 * l.depth + 1

abbrev pub invariant-skip_fields-loop-field : goal.invariant-skip_fields-loop-field
invariant-skip_fields-loop-field l = l.items.items ≡ map (λ field. skip_within l.depth l.modes field.1) (take l.field-index l.fields)
