use Rattle.c11_events.specs.EventOf.{events_of}
use Rattle.c11_history.specs.Sound.{past_of}
use Rattle.c11_history.proofs.Growing.{sound_roomy, next_of, can_commit, sound_grown, race_grown}
use Rattle.c11_history.proofs.history.History.add.Goals as goal

pub invariant_of-self-in_err-make_room : goal.invariant_of-self-in_err-make_room
invariant_of-self-in_err-make_room c = sound_roomy _ _ _ _ _ _ _ _ _ _ c.room.ensures.stands c.room.ensures.same c.make_room.ensures.stands c.make_room.ensures.counts c.self.invariant

pub commit-requires-clause-next : goal.commit-requires-clause-next
commit-requires-clause-next c =
    let next = next_of c.args.self.now (past_of c.self.inside) c.self.view_is c.args.entry c.in_ok-event.event c.in_ok-event.ensures c.requires.quiet c.requires.room c.requires.thread c.requires.within c.requires.step in
    let sound = sound_roomy _ _ _ _ _ _ _ _ _ _ c.room.ensures.stands c.room.ensures.same c.make_room.ensures.stands c.make_room.ensures.counts c.self.invariant in
    (events_of c.self.inside.entries.items, (sound.reads_stand, can_commit (past_of c.self.inside) _ _ _ _ sound c.args.entry c.in_ok-event.event next))

pub invariant_of-self-2 : goal.invariant_of-self-2
invariant_of-self-2 c =
    let next = next_of c.args.self.now (past_of c.self.inside) c.self.view_is c.args.entry c.in_ok-event.event c.in_ok-event.ensures c.requires.quiet c.requires.room c.requires.thread c.requires.within c.requires.step in
    let sound = sound_roomy _ _ _ _ _ _ _ _ _ _ c.room.ensures.stands c.room.ensures.same c.make_room.ensures.stands c.make_room.ensures.counts c.self.invariant in
    sound_grown (past_of c.self.inside) _ _ _ _ sound c.args.entry c.in_ok-event.event next _ _ _ c.note_access-race.result (record {
      reads_stand = c.commit.ensures.reads;
      replies_stand = c.commit.ensures.replies;
      reads_counts = c.commit.ensures.reads_counts;
      replies_counts = c.commit.ensures.replies_counts;
      shadow_stands = c.note_access-race.ensures.stands;
      shadow_counts = c.note_access-race.ensures.counts;
    }) _ _ _ c.put.ensures.capacity c.put.ensures.items c.is_some-self-inside.ensures

pub returns-clause-race : goal.returns-clause-race
returns-clause-race c =
    let next = next_of c.args.self.now (past_of c.self.inside) c.self.view_is c.args.entry c.in_ok-event.event c.in_ok-event.ensures c.requires.quiet c.requires.room c.requires.thread c.requires.within c.requires.step in
    let sound = sound_roomy _ _ _ _ _ _ _ _ _ _ c.room.ensures.stands c.room.ensures.same c.make_room.ensures.stands c.make_room.ensures.counts c.self.invariant in
    race_grown (past_of c.self.inside) _ _ _ _ sound c.args.entry c.in_ok-event.event next _ _ _ c.note_access-race.result (record {
      reads_stand = c.commit.ensures.reads;
      replies_stand = c.commit.ensures.replies;
      reads_counts = c.commit.ensures.reads_counts;
      replies_counts = c.commit.ensures.replies_counts;
      shadow_stands = c.note_access-race.ensures.stands;
      shadow_counts = c.note_access-race.ensures.counts;
    }) _ c.put.ensures.items c.note_access-race.ensures.race
