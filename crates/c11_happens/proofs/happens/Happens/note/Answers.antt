use Rattle.std.proofs.Common.{◌≡◌, ◌+◌, ◌∙◌, ap, sym, subst, List, [], ◌∷◌, length, arith}
use Rattle.std.proofs.lemmas.List.{length-append}
use Rattle.c11_events.specs.declared.event.Event.{Event}
use Rattle.c11_happens.specs.Kept.{IsKept}
use Rattle.c11_happens.specs.Sound.{contents}
use Rattle.c11_happens.proofs.Answering.{ready, next_event}
use Rattle.c11_happens.proofs.Keeping.{kept_next}
use Rattle.c11_happens.proofs.happens.Happens.note.Goals as goal

pub note-requires-clause-ready : goal.note-requires-clause-ready
note-requires-clause-ready c =
    let next = next_event c.self.inside.threads c.self.inside.room c.self.inside.events.items c.args.self.now c.args.event.now c.textless-event.result c.self.view_is c.textless-event.ensures c.self.invariant.kept.reads
    c.requires.number c.requires.room c.requires.thread c.requires.reads in
    ready c.self.inside.threads c.self.inside.room c.self.inside.events.items (contents c.self.inside.tables) c.self.invariant.kept c.textless-event.result next.reads next.space next.thread next.numbered

pub invariant_of-self : goal.invariant_of-self
invariant_of-self c =
    let next = next_event c.self.inside.threads c.self.inside.room c.self.inside.events.items c.args.self.now c.args.event.now c.textless-event.result c.self.view_is c.textless-event.ensures c.self.invariant.kept.reads
    c.requires.number c.requires.room c.requires.thread c.requires.reads in
    record {
      kept = subst (λ (l : List Event). IsKept c.self.inside.threads c.self.inside.room l (contents c.note.new.self)) (sym c.in-Ok.ensures.items)
          (kept_next c.self.inside.threads c.self.inside.room c.self.inside.events.items c.textless-event.result (contents c.self.inside.tables) (contents c.note.new.self) c.self.invariant.kept next.reads next.space next.thread next.numbered c.note.ensures.noted);
      capacity_left = omega (arith, c.self.invariant.capacity_left, c.in-Ok.ensures.capacity);
      spare_left =
          let longer : length c.push.new.self.items ≡ length c.self.inside.events.items + 1 = ap (λ (l : List Event). length l) c.in-Ok.ensures.items ∙ length-append c.self.inside.events.items (c.textless-event.result ∷ []) in
          omega (arith, longer, c.self.invariant.spare_left, c.note.ensures.room);
    }
