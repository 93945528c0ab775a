use Rattle.std.proofs.Common.{◌≡◌, ◌∙◌, ap, sym, List, ℕ, length, max, slice_index, slice_index_or}
use Rattle.std.proofs.lemmas.List.{length-set}
use Rattle.c11_happens.proofs.Places.{length_joined}
use Rattle.c11_happens.proofs.Rows.{row_at, wide_set, width_at}
use Rattle.c11_happens.proofs.take.note_clock.Goals as goal

module _ (c : goal.After-join) where
  size_raised : length c.raise.new.self ≡ length c.args.known.now
  size_raised = ap (λ (x : List ℕ). length x) c.raise.ensures ∙ (length-set c.take.new.clock c.args.event.now.thread (max (slice_index c.take.new.clock c.args.event.now.thread) c.args.event.now.number)
      ∙ (c.take.ensures.places ∙ width_at (length c.args.known.now) c.args.known.now c.args.event.now.thread c.index-known-event.result c.requires.wide_known c.requires.thread))

  size_joined : length c.join.new.self ≡ length c.args.known.now
  size_joined =
      let size = width_at (length c.args.known.now) c.args.clocks.now c.args.event.now.number c.index-clocks-event.result c.requires.wide_clocks c.requires.number in
      ap (λ (x : List ℕ). length x) c.join.ensures ∙ (length_joined (slice_index_or c.args.clocks.now c.args.event.now.number c.index-clocks-event.result) c.raise.new.self (size_raised ∙ sym size) ∙ size)

pub returns-clause-own : goal.returns-clause-own
returns-clause-own c = ap (λ (x : List ℕ). length x) (row_at c.args.clocks.now c.args.event.now.number c.join.new.self c.requires.number) ∙ size_joined c

pub returns-clause-wide : goal.returns-clause-wide
returns-clause-wide c = wide_set (length c.args.known.now) c.args.known.now c.args.event.now.thread c.raise.new.self c.requires.wide_known (size_raised c)
