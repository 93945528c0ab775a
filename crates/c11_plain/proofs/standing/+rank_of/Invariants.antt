use Rattle.c11_plain.proofs.standing.+rank_of.Given as goal

abbrev pub decreases-rank_of : goal.decreases-rank_of
decreases-rank_of l = l.x
