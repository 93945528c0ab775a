use Rattle.std.proofs.Common.{◌≡◌, ℕ, List, [], length, ap, sym, subst, arith, ◌∙◌}
use Rattle.c11_happens.specs.Trace.{Trace}
use Rattle.c11_latest.specs.Notes.{Notes}
use Rattle.c11_scorder.specs.Tables.{by_store, HasRoom}
use Rattle.c11_mayread.specs.declared.kept.Kept.{Kept}
use Rattle.c11_mayread.specs.Facts.{by_load}
use Rattle.c11_mayread.proofs.Noting.{nothing_noted, no_room_taken, no_reads, none_within}
use Rattle.c11_mayread.proofs.past.Past.open.Goals as goal

pub returns-clause-stands : goal.returns-clause-stands
returns-clause-stands c = record {
  happens = ap (λ (t : Trace). t.events) c.in_ok-open.ensures;
  order = c.in_ok-open-2.ensures.stands;
  stores = nothing_noted by_store c.in_ok-open-3.field-0 (ap (λ (n : Notes). n.notes) c.in_ok-open-3.ensures);
  loads = nothing_noted by_load c.in_ok-open-4.field-0 (ap (λ (n : Notes). n.notes) c.in_ok-open-4.ensures);
  count = ap (λ (l : List Kept). length l) c.in_ok-with_capacity.ensures.items;
  kept = λ place e at. cc;
  reads = no_reads;
  within = none_within 0;
  least = λ bound all. omega arith;
}

pub invariant_of-result : goal.invariant_of-result
invariant_of-result c =
    let none : length c.in_ok-with_capacity.field-0.items ≡ 0 = ap (λ (l : List Kept). length l) c.in_ok-with_capacity.ensures.items in
    let room = ap (λ (t : Trace). t.room) c.in_ok-open.ensures in
    record {
      events = [];
      stands = returns-clause-stands c;
      roomy = record {
        threads = ap (λ (t : Trace). t.threads) c.in_ok-open.ensures;
        top = omega arith;
        order_threads = c.in_ok-open-2.ensures.threads;
        order_room = c.in_ok-open-2.ensures.room ∙ sym room;
        stores = subst (λ (p : ℕ × ℕ). HasRoom p.0 p.1 c.in_ok-open-3.field-0) (λ i. (sym room i, sym none i)) (no_room_taken c.args.events c.in_ok-open-3.field-0 c.in_ok-open-3.ensures);
        loads = subst (λ (p : ℕ × ℕ). HasRoom p.0 p.1 c.in_ok-open-4.field-0) (λ i. (sym room i, sym none i)) (no_room_taken c.args.events c.in_ok-open-4.field-0 c.in_ok-open-4.ensures);
        within = omega (arith, none);
      };
      kept_fit = omega (arith, room, c.in_ok-with_capacity.ensures.capacity);
    }
