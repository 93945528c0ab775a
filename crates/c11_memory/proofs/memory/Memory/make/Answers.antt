use Rattle.std.proofs.Common.{◌≡◌, ◌+◌, Option, None, slice_set, refl, sym, ap, ◌∙◌, subst}
use Rattle.c11_events.specs.declared.entry.Entry.{Entry}
use Rattle.c11_events.specs.declared.verdict.Verdict.{Verdict}
use Rattle.c11_events.specs.EventOf.{events_of}
use Rattle.c11_events.specs.Offered.{Offered}
use Rattle.c11_events.specs.Steps.{ReadsOffered}
use Rattle.c11_history.specs.Past.{Past, IsRaceOfLast}
use Rattle.c11_memory.specs.Execution.{Execution, IsWithin}
use Rattle.c11_memory.specs.Sound.{ended, execution, IsSound, Makes}
use Rattle.c11_memory.proofs.Reading.{reads_noted}
use Rattle.c11_memory.proofs.Stepping.{IsTaken, longer, makes_taken, sound_taken}
use Rattle.c11_memory.proofs.memory.Memory.make.Goals as goal

pub answer-reply-requires-clause-noted : goal.answer-reply-requires-clause-noted
answer-reply-requires-clause-noted c =
    reads_noted c.self.inside.history.entries c.args.thread c.args.ask.now.op c.args.offered c.args.from
    (subst (λ (m : Execution). ReadsOffered Offered (events_of m.history) c.args.thread c.args.ask.now.op c.args.offered c.args.from) (sym c.self.view_is) c.requires.reads)

module _ (c : goal.After-self-3-1) where
  past : Past
  past = c.self.inside.history

  entry : Entry
  entry = record {
    number = c.count-number.result + 1;
    thread = c.args.thread;
    line = c.args.ask.now.line;
    op = c.in_ok-copy.field-0;
    reply = c.answer-reply.result;
    from = c.args.from;
    offered = c.args.offered;
  }

  none : c.self.inside.verdict ≡ None
  none = ap (λ (m : Execution). m.verdict) c.self.view_is ∙ c.requires.none

  sound : IsSound (execution c.self.inside.history c.self.inside.seed c.self.inside.bound c.self.inside.draws None c.self.inside.marks.items) c.self.inside.history c.self.inside.steps c.self.inside.marks.items
  sound =
      subst (λ (v : Option Verdict). IsSound (execution c.self.inside.history c.self.inside.seed c.self.inside.bound c.self.inside.draws v c.self.inside.marks.items) c.self.inside.history c.self.inside.steps c.self.inside.marks.items)
      none c.self.invariant

  added : c.add.new.self ≡ longer past entry c.in_ok-race.race
  unfolding past entry
  added = c.in_ok-race.ensures.added

  taken : IsTaken past c.self.inside.bound c.self.inside.steps c.args.thread c.args.ask.now entry c.in_ok-race.race c.verdict_after-self-inside.result
  unfolding past entry
  taken = record {
    within = subst (λ (m : Execution). IsWithin m c.args.ask.now.op) (sym c.self.view_is) c.requires.can.within;
    step = record {
      number = ap (λ n. n + 1) c.count-number.ensures.count;
      of_thread = refl;
      line = refl;
      op = c.in_ok-copy.ensures;
      reads = subst (λ (m : Execution). ReadsOffered Offered (events_of m.history) c.args.thread c.args.ask.now.op c.args.offered c.args.from) (sym c.self.view_is) c.requires.reads;
      reply = c.answer-reply.ensures;
    };
    found = subst (λ (p : Past). IsRaceOfLast (events_of p.entries) c.in_ok-race.race) c.in_ok-race.ensures.added c.in_ok-race.ensures.race;
    due =
        c.verdict_after-self-inside.ensures
        ∙ ap (λ (said : Option Verdict). ended c.in_ok-race.race (c.count-number.result + 1) said (c.self.inside.steps + 1) c.self.inside.bound) c.said-said.ensures;
  }

pub invariant_of-self-2 : goal.invariant_of-self-2
unfolding past entry
invariant_of-self-2 c =
    subst (λ (p : Past). IsSound (execution p c.self.inside.seed c.self.inside.bound c.self.inside.draws c.verdict_after-self-inside.result (slice_set c.self.inside.marks.items c.args.thread None)) p (c.self.inside.steps + 1)
    (slice_set c.self.inside.marks.items c.args.thread None)) (sym (added c))
    (sound_taken (past c) c.self.inside.seed c.self.inside.bound c.self.inside.draws c.self.inside.steps c.self.inside.marks.items (sound c) c.args.thread c.args.ask.now (entry c) c.in_ok-race.race
    c.verdict_after-self-inside.result (taken c))

pub returns-clause-made : goal.returns-clause-made
unfolding past entry
returns-clause-made c =
    let after = λ (p : Past). execution p c.self.inside.seed c.self.inside.bound c.self.inside.draws c.verdict_after-self-inside.result (slice_set c.self.inside.marks.items c.args.thread None) in
    let before = λ (v : Option Verdict). execution c.self.inside.history c.self.inside.seed c.self.inside.bound c.self.inside.draws v c.self.inside.marks.items in
    let made = makes_taken (past c) c.self.inside.seed c.self.inside.bound c.self.inside.draws c.self.inside.steps c.self.inside.marks.items (sound c) c.args.thread c.args.ask.now (entry c) c.in_ok-race.race
    c.verdict_after-self-inside.result (taken c) in
    let same : before None ≡ c.args.self.now = ap before (sym (none c)) ∙ c.self.view_is in
    subst (λ (p : Execution × Execution). Makes p.0 p.1 c.args.thread c.args.ask.now c.args.offered c.args.from c.answer-reply.result) (λ i. (same i, ap after (sym (added c)) i)) made
