use Rattle.c11_latest.proofs.latest.put_last.Goals as goal

pub returns-clause-last : goal.returns-clause-last
returns-clause-last c = λ cell thread. c.in-Ok.ensures.updates.0 (cell, thread)
