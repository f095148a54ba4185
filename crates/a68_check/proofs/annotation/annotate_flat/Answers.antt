use Rattle.a68_check.proofs.Answering.{stopped}
use Rattle.a68_check.proofs.Keeping.{declares_once}
use Rattle.a68_check.specs.Annotates.{Refuses, misused}
use Rattle.a68_meaning.specs.Meaning.{IsMisused}
use Rattle.a68_check.proofs.annotation.annotate_flat.Goals as goal

pub annotate_shaped-requires : goal.annotate_shaped-requires
annotate_shaped-requires c = record { once = declares_once c.args.tree c.in_ok-shaped.shaped c.in_ok-shaped.ensures.ok c.requires.once }

pub returns-clause-refused : goal.returns-clause-refused
returns-clause-refused c =
    stopped (IsMisused c.in_ok-shaped.shaped) (Refuses c.args.tree) c.annotate_shaped.result (λ r b. misused c.in_ok-shaped.shaped c.requires.once c.in_ok-shaped.ensures.ok b)
    c.annotate_shaped.ensures.wrong
