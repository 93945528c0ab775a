use Rattle.std.proofs.Common.{refl, arith}
use Rattle.std.proofs.lemmas.Option.{slice_get_read}
use Rattle.c11_plain.proofs.Numbers.{apart}
use Rattle.c11_plain.proofs.EarlierReads.{well_of, wells_next, reads_of}
use Rattle.c11_plain.proofs.reading.reads_earlier.Goals as goal

pub returns-then-not-reads_well : goal.returns-then-not-reads_well
returns-then-not-reads_well c =
    let at = slice_get_read c.args.events.now _ c.loop-place.place c.index-events-place.result refl (omega arith) c.index-events-place.is in
    (λ h. cc, λ r. absurd (apart c.if-not-reads_well.true (c.reads_well.ensures.1 (well_of c.args.events.now _ _ at r))))

pub loop-place-preserved : goal.loop-place-preserved
loop-place-preserved c =
    let at = slice_get_read c.args.events.now _ c.loop-place.place c.index-events-place.result refl (omega arith) c.index-events-place.is in
    wells_next c.args.events.now c.loop-place.place c.index-events-place.result at (c.reads_well.ensures.0 c.if-not-reads_well.false) c.loop-place.invariant

pub returns : goal.returns
returns c = (λ _. reads_of c.args.events.now c.loop-place.place (omega arith) c.loop-place.invariant, λ _. refl)
