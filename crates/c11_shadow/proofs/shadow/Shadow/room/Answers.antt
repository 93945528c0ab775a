use Rattle.c11_shadow.proofs.Whole.{still_safe, still_room, safe_same, same_words, stands_same}
use Rattle.c11_shadow.proofs.shadow.Shadow.room.Goals as goal

pub invariant_of-self : goal.invariant_of-self
invariant_of-self c = still_safe _ _ _ _ _ c.self.view_is c.requires c.index_mut-kept.ensures.value _ c.self.invariant
    (safe_same _ _ _ _ _ c.self.view_is c.requires c.index_mut-kept.ensures.value _ c.make_room.ensures.write c.make_room.ensures.reads)

pub returns-clause-same : goal.returns-clause-same
returns-clause-same c = same_words _ _ _ _ _ c.self.view_is c.requires c.index_mut-kept.ensures.value _ c.make_room.ensures.write c.make_room.ensures.reads

pub returns-clause-stands : goal.returns-clause-stands
returns-clause-stands c = stands_same _ _ _ _ _ c.self.view_is c.requires c.index_mut-kept.ensures.value _ c.make_room.ensures.write c.make_room.ensures.reads

pub returns-clause-other_room : goal.returns-clause-other_room
returns-clause-other_room c = still_room _ _ _ _ _ c.self.view_is c.requires c.index_mut-kept.ensures.value _ c.make_room.ensures.more
