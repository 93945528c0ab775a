use Rattle.std.proofs.Common.{◌≡◌, ◌+◌, suc, List, [], ◌∷◌, ◌++◌, length, ap, sym, subst, arith, ◌∙◌}
use Rattle.std.proofs.lemmas.List.{length-append}
use Rattle.c11_events.specs.declared.event.Event.{Event}
use Rattle.c11_events.specs.Chains.{ChainLawful}
use Rattle.c11_mayread.specs.Standing.{Words, StandsFor}
use Rattle.c11_mayread.specs.SoundReads.{words_of}
use Rattle.c11_mayread.proofs.reads.Reads.commit.Goals as goal

module _ (c : goal.After-note) where
  abbrev after : Words
  after = record { past = c.note.new.self; graph = c.link_event.new.graph }

  stands_next : (events : List Event) → StandsFor c.args.self.now events → ChainLawful (events ++ c.args.event.now ∷ []) → StandsFor after (events ++ c.args.event.now ∷ [])
  stands_next events now lawful =
      let stands : StandsFor (words_of c.self.inside) events = subst (λ (w : Words). StandsFor w events) (sym c.self.view_is) now in
      let count = now.past.count in
      let count' = c.requires.next.1.0.past.count in
      let number : c.args.event.now.number ≡ suc (length events) = omega (arith, c.requires.next.1.1.number) in
      let linked = c.link_event.ensures.linked events stands.made stands.past number stands.lawful lawful stands.graph stands.agrees in
      record { past = c.note.ensures.stands events stands.past lawful.reads; lawful = lawful; made = linked.0; graph = linked.1.0; agrees = linked.1.1 }

pub invariant_of-self : goal.invariant_of-self
invariant_of-self c =
    let next = stands_next c c.requires.next.0 c.requires.next.1.0 c.requires.next.1.1.lawful in
    let count : length c.note.new.self.kept ≡ length c.requires.next.0 + 1 = next.past.count ∙ length-append c.requires.next.0 (c.args.event.now ∷ []) in
    let before = c.requires.next.1.0.past.count in
    let same = ap (λ (w : Words). length w.past.kept) c.self.view_is in
    record {
      events = c.requires.next.0 ++ c.args.event.now ∷ [];
      stands = next;
      fitting = record {
        cells = c.link_event.ensures.counts.cells ∙ (c.self.invariant.fitting.cells ∙ sym c.note.ensures.same.cells);
        threads = c.link_event.ensures.counts.threads ∙ (c.self.invariant.fitting.threads ∙ sym c.note.ensures.same.threads);
        size = c.link_event.ensures.counts.size ∙ (c.self.invariant.fitting.size ∙ sym c.note.ensures.same.room);
        few = omega (arith, c.link_event.ensures.counts.stores, c.self.invariant.fitting.few);
      };
      priors_fit = omega (arith, c.link_event.ensures.capacity, c.self.invariant.priors_fit, c.note.ensures.same.threads);
    }

pub returns-clause-stands : goal.returns-clause-stands
returns-clause-stands c = stands_next c
