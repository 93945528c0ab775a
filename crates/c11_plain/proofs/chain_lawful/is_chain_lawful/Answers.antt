use Rattle.std.proofs.Common.{refl, arith}
use Rattle.std.proofs.lemmas.Option.{slice_get_read}
use Rattle.c11_plain.proofs.Numbers.{apart}
use Rattle.c11_plain.proofs.ChainCells.{chain_lawful_of, cells_of, cells_next}
use Rattle.c11_plain.proofs.chain_lawful.is_chain_lawful.Goals as goal

pub returns-then-not-branch : goal.returns-then-not-branch
returns-then-not-branch c = (λ h. cc, λ k. absurd (apart c.if-not-branch.true (c.in_ok-is_event_chain_lawful.ensures.1 (cells_of c.args.events.now k _))))

pub loop-event-preserved : goal.loop-event-preserved
loop-event-preserved c =
    let at = slice_get_read c.args.events.now _ c.loop-event.event-index c.event-item.result refl (omega arith) c.event-item.is in
    cells_next c.args.events.now c.loop-event.event-index c.event-item.result at (c.in_ok-is_event_chain_lawful.ensures.0 c.if-not-branch.false) c.loop-event.invariant

pub returns : goal.returns
returns c = (λ _. chain_lawful_of c.args.events.now (c.reads_earlier.ensures.0 c.if-not-reads_earlier.false) c.loop-event.event-index (omega arith) c.loop-event.invariant, λ _. refl)

pub is_event_chain_lawful-requires-clause-reads : goal.is_event_chain_lawful-requires-clause-reads
is_event_chain_lawful-requires-clause-reads c = c.reads_earlier.ensures.0 c.if-not-reads_earlier.false
