use Rattle.std.proofs.Common.{ℕ, List, Option, sym, subst}
use Rattle.c11_events.specs.declared.event.Event.{Event}
use Rattle.c11_scorder.specs.SeqCst.{Answers, IsSeqCstFence, IsBeforeFence}
use Rattle.c11_scorder.specs.Tables.{Tables, StandsFor}
use Rattle.c11_scorder.proofs.Answering.{before_fence}
use Rattle.c11_scorder.proofs.order.ScOrder.store_before_fence.Goals as goal

pub returns : goal.returns
returns c = subst (λ (t : Tables). (events : List Event) → StandsFor t events → IsSeqCstFence events c.args.fence → Answers (IsBeforeFence events c.args.cell c.args.thread c.args.fence) c.later.result) c.self.view_is
    (λ events stands is_fence. subst (λ (o : Option ℕ). Answers (IsBeforeFence events c.args.cell c.args.thread c.args.fence) o) (sym c.later.ensures)
    (before_fence _ events stands c.args.cell c.args.thread c.args.fence is_fence c.last_up_to-seq_cst.result c.last_up_to-own.result c.last_store_up_to.result c.last_up_to-seq_cst.ensures c.last_up_to-own.ensures c.last_store_up_to.ensures))
