use Rattle.a68_scope_tests.proofs.shapes.+is_told.Given as goal

abbrev pub decreases-is_told : goal.decreases-is_told
decreases-is_told g l = l.depth
