use Rattle.std.proofs.Common.{◌≡◌, ◌-◌}
use Rattle.c11_events.specs.Steps.{step_count}
use Rattle.c11_run.specs.Going.{IsAt}
use Rattle.c11_run.proofs.turns.run_to_end.Given as goal

abbrev pub invariant-loop-verdict : goal.invariant-loop-verdict
invariant-loop-verdict l = record {
  at : IsAt l.checked l.memory l.team.members.items;
  seed : l.memory.seed ≡ l.initial.memory.seed;
  bound : l.memory.bound ≡ l.initial.memory.bound;
}

abbrev pub decreases-loop-verdict : goal.decreases-loop-verdict
decreases-loop-verdict l = l.memory.bound - step_count l.memory.history
