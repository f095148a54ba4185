use Rattle.std.proofs.Common.{◌<◌, ℕ, List, length, subst}
use Rattle.a68_partition.specs.Finite.{LeadsOn}
use Rattle.a68_partition.proofs.Ending.{finite_coarse, none_coarse}
use Rattle.a68_partition.proofs.finite.finite.Goals as goal

pub returns-then-lead_on-clause-coarse : goal.returns-then-lead_on-clause-coarse
returns-then-lead_on-clause-coarse c = finite_coarse c.args.heads.now c.args.rows.now c.requires.wired c.in_ok-classes.ensures.0 c.in_ok-classes.classes.items c.in_ok-classes.ensures.1
    (subst (λ (xs : List ℕ). (v : ℕ) → v < length c.args.rows.now → LeadsOn c.args.rows.now xs v) c.deref.ensures.value (c.lead_on.ensures c.if-lead_on.true))

pub returns-clause-coarse : goal.returns-clause-coarse
returns-clause-coarse c = none_coarse c.args.heads.now c.args.rows.now c.in_ok-none.none.items (c.in_ok-none.ensures.items_if_clones_equal (λ y e. cc))
