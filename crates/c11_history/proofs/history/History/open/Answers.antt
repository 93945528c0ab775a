use Rattle.std.proofs.Common.{◌≡◌, List, length, refl, sym, ap, ◌∙◌, arith}
use Rattle.c11_events.specs.declared.cells.CellInfo.{CellInfo}
use Rattle.c11_events.specs.Replies.{Setting}
use Rattle.c11_history.proofs.Beginnings.{sound_opened}
use Rattle.c11_history.proofs.history.History.open.Goals as goal

pub add_inits-requires-clause-replies : goal.add_inits-requires-clause-replies
add_inits-requires-clause-replies c =
    let setting : Setting = record { atomic = c.in_ok-atomics.atomics.items; plain = c.in_ok-plains.plains.items; main = c.main-main.result } in
    (setting, c.in_ok-replies.ensures.stands setting (sym c.as_slice.ensures.value) refl)

pub invariant_of-result : goal.invariant_of-result
invariant_of-result c =
    let setting : Setting = record { atomic = c.in_ok-atomics.atomics.items; plain = c.in_ok-plains.plains.items; main = c.main-main.result } in
    let count : c.atomic_count-count.result ≡ length setting.atomic = c.atomic_count-count.ensures.count ∙ ap (λ (l : List CellInfo). length l) (sym (c.in_ok-atomics.ensures ∙ c.atomics.ensures)) in
    let plain_count : c.plain_count.result ≡ length setting.plain = c.plain_count.ensures.count ∙ ap (λ (l : List CellInfo). length l) (sym (c.in_ok-plains.ensures ∙ c.plains.ensures)) in
    sound_opened setting c.args.room _ c.in_ok-reads.reads _ _ c.in_ok-replies.replies _ (record {
      reads_cells = c.in_ok-reads.ensures.cells ∙ count;
      reads_threads = c.in_ok-reads.ensures.threads;
      reads_room = omega (arith, c.in_ok-reads.ensures.events, count);
      reads_counts = c.add_inits.ensures.reads_counts;
      replies_threads = c.in_ok-replies.ensures.threads;
      replies_values = c.in_ok-replies.ensures.values ∙ ap (λ (l : List CellInfo). length l) c.as_slice.ensures.value;
      replies_counts = c.add_inits.ensures.replies_counts;
      shadow_threads = c.in_ok-shadow.ensures.threads;
      shadow_cells = c.in_ok-shadow.ensures.cells ∙ plain_count;
    })
    (omega (arith, count, c.atomic_count-count.ensures.within)) c.requires (omega (arith, count, c.in_ok-entries.ensures.capacity, c.add_inits.ensures.capacity)) c.as_slice-2.result.now _ c.as_slice-2.ensures.value c.in_ok-add_inits.ensures.entries
    c.in_ok-add_inits.ensures.reads (c.in_ok-add_inits.ensures.replies setting (c.in_ok-replies.ensures.stands setting (sym c.as_slice.ensures.value) refl)) c.in_ok-shadow.ensures.none
