use Rattle.planning.proofs.chains.Numbered.+descend.Given as goal

abbrev pub decreases-descend : goal.decreases-descend
decreases-descend l = l.block
