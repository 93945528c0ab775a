use Rattle.std.proofs.Common.{refl}
use Rattle.std.proofs.lemmas.Option.{slice_get_read}
use Rattle.c11_examples.proofs.Going.{read_lawful}
use Rattle.c11_examples.proofs.kept.read.Goals as goal

pub extend-requires-clause-lawful : goal.extend-requires-clause-lawful
extend-requires-clause-lawful c =
    read_lawful c.args.events.now.items c.as_slice.result.now c.args.thread c.args.op.now c.args.cell c.in_ok-expected.expected.items c.deref.result.now c.as_slice.ensures.value c.deref.ensures.value c.requires.reads c.in_ok-expected.ensures _ c.in-Some.from.now
    (slice_get_read c.deref.result.now _ _ c.in-Some.from.now refl c.in-Some.ensures.lookup.3.0 c.in-Some.ensures.lookup.1)
