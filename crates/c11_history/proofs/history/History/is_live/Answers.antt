use Rattle.std.proofs.Common.{◌↔◌, IsTrue, subst}
use Rattle.c11_events.specs.EventOf.{events_of}
use Rattle.c11_events.specs.Threads.{IsLive}
use Rattle.c11_history.specs.Past.{Past}
use Rattle.c11_history.proofs.history.History.is_live.Goals as goal

pub returns : goal.returns
returns c = subst (λ (p : Past). IsTrue c.is_live.result ↔ IsLive (events_of p.entries) c.args.thread) c.self.view_is (c.is_live.ensures _ _ c.self.invariant.replies_stand)
