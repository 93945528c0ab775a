use Rattle.std.proofs.Common.{arith}
use Rattle.c11_shadow.proofs.Noted.{safe_after}
use Rattle.c11_shadow.proofs.Whole.{read_within, finds_room, still_safe, still_room, same_threads, answers, stands_on}
use Rattle.c11_shadow.proofs.shadow.Shadow.access.Goals as goal

pub latest_apart-latest-requires-clause-reads : goal.latest_apart-latest-requires-clause-reads
latest_apart-latest-requires-clause-reads c =
    read_within _ _ _ _ _ c.self.view_is c.requires.cell c.index_mut-kept.ensures.value _ _ c.self.invariant c.requires.thread c.requires.clock

pub note-requires : goal.note-requires
note-requires c = finds_room _ _ _ _ _ c.self.view_is c.requires.cell c.index_mut-kept.ensures.value _ _ c.self.invariant c.requires.thread c.pack.ensures.thread c.requires.room

pub invariant_of-self : goal.invariant_of-self
invariant_of-self c = still_safe _ _ _ _ _ c.self.view_is c.requires.cell c.index_mut-kept.ensures.value c.note.new.kept c.self.invariant
    (λ safe. safe_after _ _ _ _ _ (omega (arith, c.pack.ensures.thread, c.requires.thread, same_threads _ _ _ _ _ c.self.view_is c.requires.cell c.index_mut-kept.ensures.value)) safe c.note.ensures.after)

pub returns-clause-answer : goal.returns-clause-answer
returns-clause-answer c events e stands next =
    answers _ _ _ _ _ c.self.view_is c.requires.cell c.index_mut-kept.ensures.value _ _ _ _ _ _ c.latest_apart-latest.ensures c.some_number.ensures.none c.some_number.ensures.some events e stands next

pub returns-clause-stands : goal.returns-clause-stands
returns-clause-stands c events e stands next no_race =
    stands_on _ _ _ _ _ c.self.view_is c.requires.cell c.index_mut-kept.ensures.value _ _ _ _ _ _ c.latest_apart-latest.ensures c.some_number.ensures.none c.some_number.ensures.some events e stands next
    _ _ c.pack.ensures.thread c.pack.ensures.number c.note.ensures.after no_race

pub returns-clause-room : goal.returns-clause-room
returns-clause-room c = still_room _ _ _ _ _ c.self.view_is c.requires.cell c.index_mut-kept.ensures.value _ c.note.ensures.room
