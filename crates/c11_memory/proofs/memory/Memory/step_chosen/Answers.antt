use Rattle.std.proofs.Common.{ℕ, List, Option, refl, subst, IsSome}
use Rattle.std.specs.Prelude.{Contains}
use Rattle.c11_events.specs.EventOf.{events_of}
use Rattle.c11_events.specs.Offered.{Offered}
use Rattle.c11_events.specs.Steps.{ReadsOffered}
use Rattle.c11_memory.specs.Execution.{Execution}
use Rattle.c11_memory.proofs.Reading.{reads_offered}
use Rattle.c11_memory.proofs.memory.Memory.step_chosen.Goals as goal

pub make-requires-clause-reads : goal.make-requires-clause-reads
make-requires-clause-reads c =
    let member = subst (λ (xs : List ℕ). Contains xs c.args.from) c.as_slice.ensures (c.if-not-is_among.ensures.0 refl) in
    let reads = reads_offered (events_of c.self.inside.history.entries) c.args.thread c.args.ask.now.op c.in-Ok.offers c.args.from c.in-Ok.ensures.offers
    (λ none empty. let clash = subst (λ (o : Option ℕ). IsSome o) none c.requires.reads in cc) (λ some. member) in
    subst (λ (m : Execution). ReadsOffered Offered (events_of m.history) c.args.thread c.args.ask.now.op c.in-Ok.offers c.args.from) c.self.view_is reads
