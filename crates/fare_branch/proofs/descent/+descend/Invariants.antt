-- a dive goes no deeper than it may
use Rattle.fare_branch.proofs.descent.+descend.Given as goal

abbrev pub decreases-descend : goal.decreases-descend
decreases-descend l = l.depth
