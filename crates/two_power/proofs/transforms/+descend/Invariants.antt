use Rattle.two_power.proofs.transforms.+descend.Given as goal

abbrev pub decreases-descend : goal.decreases-descend
decreases-descend l = l.levels
