use Rattle.std.proofs.Common.{◌≡◌, replicate}
use Rattle.c11_happens.proofs.tables.blank_clocks.Given as goal

abbrev pub invariant-loop : goal.invariant-loop
invariant-loop l = l.clocks.items ≡ replicate l.counter (replicate l.threads 0)
