use Rattle.std.proofs.Common.{List, sym, subst}
use Rattle.c11_events.specs.declared.entry.Entry.{Entry}
use Rattle.c11_events.specs.EventOf.{events_of}
use Rattle.c11_events.specs.Lawful.{Consistent}
use Rattle.c11_events.specs.Offered.{Offered}
use Rattle.c11_machine.specs.Programs.{program_of}
use Rattle.c11_machine.specs.Runs.{OneRun}
use Rattle.c11_memory.specs.Execution.{Execution}
use Rattle.c11_run.proofs.Ending.{at_start}
use Rattle.c11_run.proofs.turns.run.Goals as goal

pub run_to_end-requires-clause-at : goal.run_to_end-requires-clause-at
run_to_end-requires-clause-at c =
    at_start c.args.checked.now c.args.seed c.args.steps c.in_ok-team.team.members.items c.in_ok-memory.memory c.in_ok-memory.ensures c.in_ok-team.ensures.count c.in_ok-team.ensures.waiting

pub returns-clause-run : goal.returns-clause-run
returns-clause-run c =
    let made = c.in_ok-memory.ensures in
    let same = sym c.into_history.ensures.history in
    subst (λ (p : Execution × List Entry). OneRun Offered (program_of c.args.checked.now) p.0.seed p.0.bound p.1 c.in_ok-verdict.verdict) (λ i. (made i, same i)) c.in_ok-verdict.ensures

pub returns-clause-consistent : goal.returns-clause-consistent
returns-clause-consistent c = subst (λ (entries : List Entry). Consistent (events_of entries)) (sym c.into_history.ensures.history) c.into_history.ensures.consistent
