use Rattle.std.proofs.Common.{◌≡◌, drop}
use Rattle.a68_elab.specs.Runs.{are_phrases}
use Rattle.a68_runs.proofs.outcomes.are_phrases.Given as goal

-- the phrases from here on are as the whole of them
abbrev pub invariant-loop-at : goal.invariant-loop-at
invariant-loop-at l = are_phrases l.program l.wanted l.ids ≡ are_phrases l.program l.wanted (drop l.at l.ids)
