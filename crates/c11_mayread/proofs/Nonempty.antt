-- Something is offered.
use Rattle.std.proofs.Common.{◌≡◌, ◌<◌, ℕ, List, Some, length, arith}
use Rattle.std.proofs.lemmas.Option.{slice_get_within}
use Rattle.c11_events.specs.declared.event.Event.{Event}
use Rattle.c11_events.specs.declared.event.EventKind.{EventKind}
use Rattle.c11_events.specs.Events.{IsStore, loaded_cell}
use Rattle.c11_events.specs.Chains.{ChainLawful}
use Rattle.c11_events.specs.Offered.{ChainOffered, extended}
use Rattle.c11_events.proofs.Necessary.{chain_lawful}
use Rattle.c11_events.proofs.Sufficient.{consistent}
use Rattle.c11_events.proofs.Agreement as agreement

pub some_offered : (events : List Event) (thread : ℕ) (reading : ℕ → EventKind) (cell s : ℕ) (offers : List ℕ) → ChainLawful events → IsStore events cell s → ((x : ℕ) → loaded_cell (reading x) ≡ Some cell)
    → ChainOffered events thread reading cell offers → 0 < length offers
some_offered events thread reading cell s offers c store loads offered =
    let some' = agreement.some_offered events thread reading cell s (consistent events c) store loads in
    let at = offered.all some'.0 (record { store = some'.1.store; lawful = chain_lawful (extended events thread reading some'.0) some'.1.consistent }) in
    let lt = slice_get_within offers at.0 some'.0 at.1 in
    omega arith
