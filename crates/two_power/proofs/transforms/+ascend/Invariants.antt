use Rattle.two_power.proofs.transforms.+ascend.Given as goal

abbrev pub decreases-ascend : goal.decreases-ascend
decreases-ascend l = l.levels
