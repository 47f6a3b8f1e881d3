-- how many parts may come more
use Rattle.test_families.proofs.tests.first_ten.+collect.Given as goal

abbrev pub decreases-collect : goal.decreases-collect
decreases-collect l = l.more
