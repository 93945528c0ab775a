use Rattle.std.proofs.Common.{ℕ, List}
use Rattle.c11_events.specs.declared.event.Event.{Event}
use Rattle.c11_events.specs.declared.event.EventKind.{EventKind}
use Rattle.c11_events.specs.Offered.{IsChainOffered}
use Rattle.c11_mayread.specs.Standing.{StandsFor}
use Rattle.c11_mayread.specs.Choosing.{IsAskedAt, ArePicked}
use Rattle.c11_mayread.proofs.reads.Reads.offers_of.Given as goal

abbrev pub invariant-loop-x : goal.invariant-loop-x
invariant-loop-x l = (events : List Event) (reading : ℕ → EventKind) → StandsFor l.self events → ((x : ℕ) → IsAskedAt l.asked events (reading x) x)
    → ArePicked (IsChainOffered events l.thread reading l.asked.cell) l.candidates l.x-index l.offers.items
