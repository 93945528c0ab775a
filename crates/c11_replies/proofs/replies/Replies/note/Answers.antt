use Rattle.std.proofs.Common.{sym, subst}
use Rattle.std.specs.Vec.{with_items}
use Rattle.c11_replies.specs.Words.{Words, StandsFor}
use Rattle.c11_replies.specs.Changed.{thread_next, mutex_next, value_next}
use Rattle.c11_replies.proofs.Places.{in_place}
use Rattle.c11_replies.proofs.Adding.{stands_next}
use Rattle.c11_replies.proofs.replies.Replies.note.Goals as goal

pub returns-clause-stands : goal.returns-clause-stands
returns-clause-stands c = λ setting events is.
    let e = c.args.event.now in
    let kept = c.self.inside in
    let old : Words = record { created = kept.created; threads = kept.threads.items; mutexes = kept.mutexes.items; values = kept.values.items } in
    let new : Words = record {
      created = c.next_created-self-inside.result;
      threads = (with_items kept.threads c.note_threads.new.threads).items;
      mutexes = (with_items kept.mutexes c.note_mutexes.new.mutexes).items;
      values = (with_items kept.values c.note_values.new.values).items;
    } in
    stands_next setting events e old new (subst (λ (w : Words). StandsFor w setting events) (sym c.self.view_is) is) c.next_created-self-inside.ensures
    (in_place (thread_next kept.created e.thread e.kind) kept.threads c.deref_mut.result.now c.note_threads.new.threads c.deref_mut.ensures.value c.note_threads.ensures)
    (in_place (mutex_next e.thread e.kind) kept.mutexes c.deref_mut-2.result.now c.note_mutexes.new.mutexes c.deref_mut-2.ensures.value c.note_mutexes.ensures)
    (in_place (value_next e.kind) kept.values c.deref_mut-3.result.now c.note_values.new.values c.deref_mut-3.ensures.value c.note_values.ensures)
