use Rattle.std.proofs.Common.{ap, ◌∙◌}
use Rattle.c11_events.specs.EventOf.{events_of}
use Rattle.c11_events.specs.Threads.{blocked_by}
use Rattle.c11_history.specs.Past.{Past}
use Rattle.c11_history.proofs.history.History.blocked.Goals as goal

pub returns : goal.returns
returns c = c.blocked.ensures _ _ c.self.invariant.replies_stand ∙ ap (λ (p : Past). blocked_by (events_of p.entries) c.args.thread c.args.op.now) c.self.view_is
