use Rattle.std.proofs.Common.{◌≡◌, ◌++◌, ◌∷◌, [], List, length, Some, slice_get, refl, sym, ap, ◌∙◌, subst, arith, take}
use Rattle.std.proofs.lemmas.List.{take_all}
use Rattle.std.proofs.lemmas.Option.{slice_get_read}
use Rattle.c11_events.specs.declared.cells.CellInfo.{CellInfo}
use Rattle.c11_events.specs.declared.entry.Entry.{Entry}
use Rattle.c11_events.specs.declared.event.Event.{Event}
use Rattle.c11_events.specs.EventOf.{events_of}
use Rattle.c11_events.specs.Steps.{init_entries}
use Rattle.c11_mayread.specs.Standing as reading
use Rattle.c11_replies.specs.Words as replying
use Rattle.c11_history.proofs.Beginnings.{reading_same, replying_same, count, next_init, few_created, events_next, lawful, can_commit}
use Rattle.c11_history.proofs.opening.add_inits.Goals as goal

pub commit-requires-clause-next : goal.commit-requires-clause-next
commit-requires-clause-next c =
    let cells = c.args.cells.now in
    let at : slice_get cells c.loop-cell.cell ≡ Some c.index-cells-cell.result = slice_get_read cells _ c.loop-cell.cell c.index-cells-cell.result refl c.loop-cell-test.true c.index-cells-cell.is in
    let events = events_of (init_entries (take c.loop-cell.cell cells)) in
    let stands = c.room.ensures.stands events c.loop-cell.invariant.reads in
    let same = reading_same c.loop-cell.invariant.reads_counts c.room.ensures.same in
    (events, (stands, can_commit cells c.loop-cell.cell c.index-cells-cell.result at c.init_entry-entry.result c.in_ok-event.event c.init_entry-entry.ensures c.in_ok-event.ensures c.args.reads.now c.room.new.self c.requires.room same stands))

pub commit-requires-clause-few : goal.commit-requires-clause-few
commit-requires-clause-few c =
    let cells = c.args.cells.now in
    let at : slice_get cells c.loop-cell.cell ≡ Some c.index-cells-cell.result = slice_get_read cells _ c.loop-cell.cell c.index-cells-cell.result refl c.loop-cell-test.true c.index-cells-cell.is in
    let few = few_created cells c.loop-cell.cell c.index-cells-cell.result at c.loop-cell.replies c.requires.replies.0 (c.loop-cell.invariant.replies c.requires.replies.0 c.requires.replies.1) in
    omega arith

pub put-requires : goal.put-requires
put-requires c =
    let cells = c.args.cells.now in
    let at : slice_get cells c.loop-cell.cell ≡ Some c.index-cells-cell.result = slice_get_read cells _ c.loop-cell.cell c.index-cells-cell.result refl c.loop-cell-test.true c.index-cells-cell.is in
    let so_far = ap (λ (l : List Entry). length l) c.loop-cell.invariant.entries ∙ count cells c.loop-cell.cell c.index-cells-cell.result at in
    omega arith

pub loop-cell-preserved : goal.loop-cell-preserved
loop-cell-preserved c =
    let cells = c.args.cells.now in
    let cell = c.loop-cell.cell in
    let info = c.index-cells-cell.result in
    let before = events_of (init_entries (take cell cells)) in
    let at : slice_get cells cell ≡ Some info = slice_get_read cells _ cell info refl c.loop-cell-test.true c.index-cells-cell.is in
    let next = sym (events_next cells cell info at c.init_entry-entry.result c.in_ok-event.event c.init_entry-entry.ensures c.in_ok-event.ensures) in
    let fits = lawful cells cell info at c.init_entry-entry.result c.in_ok-event.event c.init_entry-entry.ensures c.in_ok-event.ensures c.loop-cell.invariant.reads.lawful in
    record {
      entries = c.put.ensures.items ∙ ((λ i. c.loop-cell.invariant.entries i ++ c.init_entry-entry.ensures i ∷ []) ∙ sym (next_init cells cell info at));
      reads = subst (λ (es : List Event). reading.StandsFor c.commit.new.reads es) next (c.commit.ensures.reads before (c.room.ensures.stands before c.loop-cell.invariant.reads) fits);
      replies = λ setting stands. subst (λ (es : List Event). replying.StandsFor c.commit.new.replies setting es) next (c.commit.ensures.replies setting before (c.loop-cell.invariant.replies setting stands));
      capacity = omega (arith, c.loop-cell.invariant.capacity, c.put.ensures.capacity);
      reads_counts = reading_same (reading_same c.loop-cell.invariant.reads_counts c.room.ensures.same) c.commit.ensures.reads_counts;
      replies_counts = replying_same c.loop-cell.invariant.replies_counts c.commit.ensures.replies_counts;
    }

pub returns-clause-replies : goal.returns-clause-replies
returns-clause-replies c = λ setting stands.
    subst (λ (l : List CellInfo). replying.StandsFor c.loop-cell.replies setting (events_of (init_entries l))) (take_all c.loop-cell.cell c.args.cells.now c.loop-cell-test.false)
    (c.loop-cell.invariant.replies setting stands)
