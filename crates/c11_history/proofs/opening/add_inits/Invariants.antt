use Rattle.std.proofs.Common.{◌≡◌, ◌≤◌, [], take, vec_capacity}
use Rattle.c11_events.specs.EventOf.{events_of}
use Rattle.c11_events.specs.Replies.{Setting}
use Rattle.c11_events.specs.Steps.{init_entries}
use Rattle.c11_mayread.specs.Standing as reading
use Rattle.c11_replies.specs.Words as replying
use Rattle.c11_history.proofs.opening.add_inits.Given as goal

abbrev pub invariant-loop-cell : goal.invariant-loop-cell
invariant-loop-cell l = record {
  entries : l.entries.items ≡ init_entries (take l.cell l.cells);
  reads : reading.StandsFor l.reads (events_of (init_entries (take l.cell l.cells)));
  replies : (setting : Setting) → replying.StandsFor l.initial.replies setting [] → replying.StandsFor l.replies setting (events_of (init_entries (take l.cell l.cells)));
  capacity : vec_capacity l.initial.entries ≤ vec_capacity l.entries;
  reads_counts : reading.HaveSameCounts l.initial.reads l.reads;
  replies_counts : replying.HaveSameCounts l.initial.replies l.replies;
}
