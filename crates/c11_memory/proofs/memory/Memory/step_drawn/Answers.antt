use Rattle.std.proofs.Common.{◌≡◌, ℕ, ◌<◌, ◌+◌, List, Some, length, slice_get, sym, ap, ◌∙◌, subst}
use Rattle.std.specs.Prelude.{Contains}
use Rattle.c11_events.specs.Draws.{after_words, chosen, words_for}
use Rattle.c11_events.specs.EventOf.{events_of}
use Rattle.c11_events.specs.Offered.{Offered}
use Rattle.c11_events.specs.Steps.{ReadsOffered}
use Rattle.c11_memory.specs.Execution.{Execution}
use Rattle.c11_memory.specs.Steps.{AddsStep}
use Rattle.c11_memory.proofs.Reading.{IsChosen, reads_offered, step_drawn}
use Rattle.c11_memory.proofs.memory.Memory.step_drawn.Goals as goal

pub make-requires-clause-reads : goal.make-requires-clause-reads
make-requires-clause-reads c =
    let some_member = λ (some : 0 < length c.in_ok-offers.offers). subst (λ (xs : List ℕ). Contains xs c.drawn-from.result) c.as_slice.ensures
    (c.drawn-from.ensures.member (subst (λ (xs : List ℕ). 0 < length xs) (sym c.as_slice.ensures) some)) in
    let reads = reads_offered (events_of c.self.inside.history.entries) c.args.thread c.args.ask.now.op c.in_ok-offers.offers c.drawn-from.result c.in_ok-offers.ensures.offers
    (λ none empty. (c.drawn-from.ensures.none (c.as_slice.ensures ∙ empty)).0) (λ some. some_member (c.in_ok-offers.ensures.some some)) in
    subst (λ (m : Execution). ReadsOffered Offered (events_of m.history) c.args.thread c.args.ask.now.op c.in_ok-offers.offers c.drawn-from.result) c.self.view_is reads

pub returns-clause-went : goal.returns-clause-went
returns-clause-went c =
    let old = c.args.self.now in
    let offers = c.in_ok-offers.offers in
    let from = c.drawn-from.result in
    let after = c.drawn-from.new.draws in
    let before : c.in_ok-draws.draws ≡ old.generator = c.in_ok-draws.ensures ∙ ap (λ (m : Execution). m.generator) c.self.view_is in
    let is : IsChosen old offers from after = record {
      none = λ empty. let p = c.drawn-from.ensures.none (c.as_slice.ensures ∙ empty) in (p.0, p.1 ∙ before);
      chosen_from = λ words some drawn. subst (λ (xs : List ℕ). (slice_get xs (chosen old.seed words (length xs)) ≡ Some from) × (after ≡ after_words old.seed (words + words_for (length xs)))) c.as_slice.ensures
          (c.drawn-from.ensures.chosen old.seed words (subst (λ (xs : List ℕ). 0 < length xs) (sym c.as_slice.ensures) some) (before ∙ drawn));
    } in
    subst (λ (m : Execution). AddsStep old (record m { generator = after }) c.args.thread c.args.ask.now c.in_ok-reply.reply) (sym c.self-2.view_is)
    (step_drawn old c.make.new.self c.args.thread c.args.ask.now offers from c.in_ok-reply.reply c.in_ok-reply.ensures.made after is c.in_ok-offers.ensures.some)
