use Rattle.cq_cli.proofs.progress.+put_grouped.Given as goal

-- each call has fewer digits
abbrev pub decreases-put_grouped : goal.decreases-put_grouped
decreases-put_grouped g l = l.number
