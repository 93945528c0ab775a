use Rattle.std.proofs.Common.{ap, refl}
use Rattle.c11_latest.specs.Notes.{Notes}
use Rattle.c11_scorder.specs.Tables.{by_store, by_seq_cst_store, by_fence, by_thread}
use Rattle.c11_scorder.proofs.Keeping.{nothing_noted, none_last}
use Rattle.c11_scorder.proofs.order.ScOrder.open.Goals as goal

pub returns-clause-stands : goal.returns-clause-stands
returns-clause-stands c = record {
  count = refl;
  stores = nothing_noted by_store c.in_ok-open.field-0 (ap (λ (n : Notes). n.notes) c.in_ok-open.ensures);
  seq_cst_stores = nothing_noted by_seq_cst_store c.in_ok-open-2.field-0 (ap (λ (n : Notes). n.notes) c.in_ok-open-2.ensures);
  fences = nothing_noted by_fence c.in_ok-open-3.field-0 (ap (λ (n : Notes). n.notes) c.in_ok-open-3.ensures);
  last_stores = none_last by_seq_cst_store c.in_ok-none_yet.field-0.items c.args.cells c.in_ok-none_yet.ensures;
  last_fences = none_last by_thread c.in_ok-none_yet-2.field-0.items c.args.threads c.in_ok-none_yet-2.ensures;
}
