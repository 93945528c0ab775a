use Rattle.std.proofs.Common.{◌≡◌, ◌<◌, ℕ, suc, List, Option, ◌++◌, ◌∷◌, [], length, refl, ap, sym, subst, arith, ◌∙◌}
use Rattle.c11_events.specs.declared.event.Event.{Event}
use Rattle.c11_events.specs.Events.{ReadsEarlier}
use Rattle.c11_happens.specs.Trace.{Trace}
use Rattle.c11_scorder.specs.Tables.{noted_at}
use Rattle.c11_mayread.specs.Facts.{Facts, IsPastOf}
use Rattle.c11_mayread.specs.Sound.{facts_of}
use Rattle.c11_mayread.proofs.Noting.{IsNotedIn, still_past, still_roomy, read_store}
use Rattle.c11_mayread.proofs.Texted.{store_as}
use Rattle.c11_mayread.proofs.past.Past.note.Goals as goal

pub note_at-requires-clause-rises : goal.note_at-requires-clause-rises
note_at-requires-clause-rises c = λ cell t y is.
    let le = c.self.invariant.roomy.stores.below cell t y is in
    let count = c.requires.next.1.0.count in
    let same = ap (λ (f : Facts). length f.kept) c.self.view_is in
    omega (arith, c.requires.next.1.1.number)

pub note_at-requires-2-clause-rises : goal.note_at-requires-2-clause-rises
note_at-requires-2-clause-rises c = λ cell t y is.
    let le = c.self.invariant.roomy.loads.below cell t y is in
    let count = c.requires.next.1.0.count in
    let same = ap (λ (f : Facts). length f.kept) c.self.view_is in
    omega (arith, c.requires.next.1.1.number)

pub note-requires-2-clause-reads : goal.note-requires-2-clause-reads
note-requires-2-clause-reads c = λ cell loads.
    let events = c.requires.next.0 in
    store_as c.self.inside.happens.events events (ap (λ (f : Facts). f.happens.events) c.self.view_is ∙ c.requires.next.1.0.happens) cell c.args.event.now.from
    (read_store events c.args.event.now cell c.requires.next.1.1.reads loads)

module _ (c : goal.After-note-2) where
  abbrev old : Facts
  old = facts_of c.self.inside

  abbrev new : Facts
  new = record { threads = c.self.inside.threads; top = c.max-self-inside.result; happens = c.note-2.new.self; order = c.note.new.self; stores = c.note_at.new.latest; loads = c.note_at-2.new.latest; kept = c.put.new.list.items }

  now_is : (events : List Event) → IsPastOf old events → IsPastOf c.args.self.now events
  now_is events past = subst (λ (f : Facts). IsPastOf f events) c.self.view_is past

  old_is : (events : List Event) → IsPastOf c.args.self.now events → IsPastOf old events
  old_is events past = subst (λ (f : Facts). IsPastOf f events) (sym c.self.view_is) past

  noted : IsNotedIn old new c.args.event.now c.value.result
  noted = record {
    threads = refl;
    top = c.max-self-inside.ensures;
    happens = c.note-2.ensures;
    order = λ events stands. c.note.ensures.stands events c.args.event.now stands (record { thread = refl; stored = refl; fence = refl; seq_cst = refl });
    same = c.note.ensures.same;
    stores = c.note_at.ensures ∙ ap (λ (o : Option ℕ). record c.self.inside.stores { notes = noted_at o c.args.event.now.thread c.args.event.now.number c.self.inside.stores.notes }) c.stored_cell.ensures;
    loads = c.note_at-2.ensures ∙ ap (λ (o : Option ℕ). record c.self.inside.loads { notes = noted_at o c.args.event.now.thread c.args.event.now.number c.self.inside.loads.notes }) c.loaded_cell.ensures;
    kept = c.put.ensures.items ∙ (λ i. c.self.inside.kept.items ++ record { from = c.args.event.now.from; seq_cst = c.is_seq_cst.ensures i; value = c.written.ensures i } ∷ []);
    value = λ events past le. c.value.ensures events (now_is events past) le;
  }

  next : (events : List Event) → IsPastOf c.args.self.now events → c.args.event.now.number ≡ suc (length events)
  next events past = let count = past.count in let count' = c.requires.next.1.0.count in omega (arith, c.requires.next.1.1.number)

  thread : c.args.event.now.thread < c.self.inside.threads
  thread = let same = ap (λ (f : Facts). f.threads) c.self.view_is in omega (arith, c.requires.next.1.1.thread)

  stands : (events : List Event) → IsPastOf c.args.self.now events → ReadsEarlier (events ++ c.args.event.now ∷ []) → IsPastOf new (events ++ c.args.event.now ∷ [])
  stands events past reads = still_past old new c.args.event.now c.value.result noted events (old_is events past) (next events past) reads

pub invariant_of-self : goal.invariant_of-self
invariant_of-self c =
    let same = ap (λ (f : Facts). length f.kept) c.self.view_is in
    let room = ap (λ (f : Facts). f.happens.room) c.self.view_is in
    let count = c.requires.next.1.0.count in
    record {
      events = c.requires.next.0 ++ c.args.event.now ∷ [];
      stands = stands c c.requires.next.0 c.requires.next.1.0 c.requires.next.1.1.reads;
      roomy = still_roomy (old c) (new c) c.args.event.now c.value.result (noted c) c.self.invariant.roomy (thread c) (omega (arith, c.requires.next.1.1.number)) (omega (arith, c.requires.next.1.1.room));
      kept_fit = omega (arith, c.self.invariant.kept_fit, c.put.ensures.capacity, ap (λ (t : Trace). t.room) c.note-2.ensures);
    }

pub returns-clause-stands : goal.returns-clause-stands
returns-clause-stands c = stands c
