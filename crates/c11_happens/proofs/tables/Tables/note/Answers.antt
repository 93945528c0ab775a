use Rattle.std.proofs.Common.{◌≡◌, ◌∙◌, ap, sym, List, [], ℕ, length, slice_set, slice_index_or, arith}
use Rattle.std.specs.Prelude.{◌+◌, if◌then◌else◌}
use Rattle.std.specs.Vec.{with_items}
use Rattle.std.proofs.lemmas.List.{with_items_is, length-set, get_or_default}
use Rattle.c11_clock.specs.Clocks.{joined}
use Rattle.c11_events.specs.Events.{is_create, is_release_fence, is_end, unlocked_mutex}
use Rattle.c11_happens.specs.Mutexes.{state_in}
use Rattle.c11_happens.specs.Noting.{row, joined_if, is_load, after_taking, taken, raised, own_clock, by_unlocked, by_stored, handed_on, started}
use Rattle.c11_happens.specs.Sound.{contents}
use Rattle.c11_happens.proofs.Rows.{row_at, with_set, length_started}
use Rattle.c11_happens.proofs.tables.Tables.note.Goals as goal

module _ (c : goal.After-note_mutex) where
  own_is : List ℕ
  own_is = own_clock (contents c.args.self.now) c.args.event.now

  raised_same : raised (after_taking c.args.event.now c.deref_mut.result.now c.deref.result.now c.deref-2.result.now c.deref-3.result.now (state_in c.args.self.now.mutexes)) c.args.event.now.thread c.args.event.now.number
      ≡ raised (taken (contents c.args.self.now) c.args.event.now) c.args.event.now.thread c.args.event.now.number
  raised_same i = raised (after_taking c.args.event.now (c.deref_mut.ensures.value i) (c.deref.ensures.value i) (c.deref-2.ensures.value i) (c.deref-3.ensures.value i) (state_in c.args.self.now.mutexes)) c.args.event.now.thread c.args.event.now.number

  clocks_new : (with_items c.args.self.now.clocks c.note_clock.new.clocks).items ≡ slice_set c.args.self.now.clocks.items c.args.event.now.number own_is
  unfolding own_is
  clocks_new = with_set c.args.self.now.clocks c.note_clock.new.clocks c.args.event.now.number own_is
      (c.note_clock.ensures.clocks ∙ (λ i. slice_set (c.deref_mut-2.ensures.value i) c.args.event.now.number (joined (row (c.deref_mut-2.ensures.value i) c.args.event.now.number) (raised_same i))))

  own_same : c.index-own.result.now ≡ own_is
  own_same = c.index-own.ensures ∙ (ap (λ (l : List (List ℕ)). slice_index_or l c.args.event.now.number c.index-own.result.now) clocks_new
      ∙ (get_or_default (slice_set c.args.self.now.clocks.items c.args.event.now.number own_is) c.args.event.now.number c.index-own.result.now []
      (omega (arith, length-set c.args.self.now.clocks.items c.args.event.now.number own_is, c.requires.ready.number))
      ∙ row_at c.args.self.now.clocks.items c.args.event.now.number own_is c.requires.ready.number))

  passed_new : (with_items c.args.self.now.passed c.hand_on.new.passed).items ≡ slice_set c.args.self.now.passed.items c.args.event.now.number (handed_on (contents c.args.self.now) c.args.event.now own_is)
  passed_new = with_set c.args.self.now.passed c.hand_on.new.passed c.args.event.now.number (handed_on (contents c.args.self.now) c.args.event.now own_is)
      (c.hand_on.ensures ∙ (λ i. slice_set (c.deref_mut-4.ensures.value i) c.args.event.now.number
      (by_unlocked (unlocked_mutex c.args.event.now.kind) (state_in c.args.self.now.mutexes) (c.deref_mut-4.ensures.value i) (own_same i)
      (by_stored c.args.event.now (c.deref_mut-4.ensures.value i) (c.deref-5.ensures.value i) (own_same i) (row (c.deref_mut-4.ensures.value i) c.args.event.now.number)))))

  read_new : (with_items c.args.self.now.read c.note_read.new.read).items
      ≡ slice_set c.args.self.now.read.items c.args.event.now.thread (joined_if (is_load c.args.event.now) (row c.args.self.now.read.items c.args.event.now.thread) (row c.args.self.now.passed.items c.args.event.now.from))
  read_new = with_set c.args.self.now.read c.note_read.new.read c.args.event.now.thread _
      (c.note_read.ensures ∙ (λ i. slice_set (c.deref_mut-3.ensures.value i) c.args.event.now.thread (joined_if (is_load c.args.event.now) (row (c.deref_mut-3.ensures.value i) c.args.event.now.thread) (row (c.deref-4.ensures.value i) c.args.event.now.from))))

  fenced_new : (with_items c.args.self.now.fenced c.note_own.new.table).items
      ≡ slice_set c.args.self.now.fenced.items c.args.event.now.thread (joined_if (is_release_fence c.args.event.now.kind) (row c.args.self.now.fenced.items c.args.event.now.thread) own_is)
  fenced_new = with_set c.args.self.now.fenced c.note_own.new.table c.args.event.now.thread _
      (c.note_own.ensures ∙ (λ i. slice_set (c.deref_mut-5.ensures.value i) c.args.event.now.thread (joined_if (c.is_release_fence.ensures i) (row (c.deref_mut-5.ensures.value i) c.args.event.now.thread) (own_same i))))

  ended_new : (with_items c.args.self.now.ended c.note_own-2.new.table).items
      ≡ slice_set c.args.self.now.ended.items c.args.event.now.thread (joined_if (is_end c.args.event.now.kind) (row c.args.self.now.ended.items c.args.event.now.thread) own_is)
  ended_new = with_set c.args.self.now.ended c.note_own-2.new.table c.args.event.now.thread _
      (c.note_own-2.ensures ∙ (λ i. slice_set (c.deref_mut-6.ensures.value i) c.args.event.now.thread (joined_if (c.is_end.ensures i) (row (c.deref_mut-6.ensures.value i) c.args.event.now.thread) (own_same i))))

  moved : List (List ℕ)
  moved = slice_set c.args.self.now.known.items c.args.event.now.thread (raised (taken (contents c.args.self.now) c.args.event.now) c.args.event.now.thread c.args.event.now.number)

  moved_new : (with_items c.args.self.now.known c.note_clock.new.known).items ≡ moved
  unfolding moved
  moved_new = with_set c.args.self.now.known c.note_clock.new.known c.args.event.now.thread _
      (c.note_clock.ensures.known ∙ (λ i. slice_set (c.deref_mut.ensures.value i) c.args.event.now.thread (raised_same i)))

  known_new : (with_items (with_items c.args.self.now.known c.note_clock.new.known) c.note_create.new.known).items
      ≡ (if is_create c.args.event.now.kind then started moved own_is (c.args.self.now.created + 1) else moved)
  unfolding moved
  known_new =
      let now = c.deref_mut-7.ensures.value ∙ moved_new in
      let is = c.note_create.ensures.known ∙ (λ i. if is_create c.args.event.now.kind then started (now i) (own_same i) (c.args.self.now.created + 1) else now i) in
      with_items_is (with_items c.args.self.now.known c.note_clock.new.known) c.note_create.new.known (ap (λ (l : List (List ℕ)). length l) is
      ∙ (length_started moved own_is (is_create c.args.event.now.kind) (c.args.self.now.created + 1)
      ∙ (length-set c.args.self.now.known.items c.args.event.now.thread (raised (taken (contents c.args.self.now) c.args.event.now) c.args.event.now.thread c.args.event.now.number) ∙ sym c.args.self.now.known.ok.0))) ∙ is

pub returns-clause-noted : goal.returns-clause-noted
unfolding own_is moved
returns-clause-noted c = record {
  created = c.note_create.ensures.created;
  clocks = clocks_new c;
  passed = passed_new c;
  known = known_new c;
  fenced = fenced_new c;
  read = read_new c;
  ended = ended_new c;
  mutexes = c.note_mutex.ensures.states;
}
