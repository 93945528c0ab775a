use Rattle.c11_asks.specs.Asking.{IsAsking}
use Rattle.c11_asks.proofs.tell.tells.Given as goal

abbrev pub invariant-loop-row : goal.invariant-loop-row
invariant-loop-row l = IsAsking l.checked.program l.thread
