use Rattle.a68_maps.proofs.maps.+put.Given as goal

abbrev pub decreases-put : goal.decreases-put
decreases-put l = l.bits
