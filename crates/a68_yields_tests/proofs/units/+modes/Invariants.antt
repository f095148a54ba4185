use Rattle.a68_yields_tests.proofs.units.+modes.Given as goal

abbrev pub decreases-are_modes : goal.decreases-are_modes
decreases-are_modes g l = l.depth

abbrev pub decreases-is_mode : goal.decreases-is_mode
decreases-is_mode g l = l.depth
