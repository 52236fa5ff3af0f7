use Rattle.mod_ring.proofs.folds.+power.Given as goal

abbrev pub decreases-power : goal.decreases-power
decreases-power g l = l.e
