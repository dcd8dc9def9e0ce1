use Rattle.der_counts.proofs.+walked.Given as goal

abbrev pub decreases-walked : goal.decreases-walked
decreases-walked l = l.depth
