-- What a step reads.
use Rattle.std.proofs.Common.{◌≡◌, ℕ, zero, suc, ◌+◌, ◌<◌, ◌≤◌, List, [], ◌∷◌, Option, Some, None, length, slice_get, refl, sym, ap, ◌∙◌, subst, arith, MatchOption, IsSome}
use Rattle.std.specs.Prelude.{⊤, Contains}
use Rattle.std.proofs.lemmas.Option.{slice_get_within}
use Rattle.rand_pcg.specs.Lcg.{Lcg}
use Rattle.c11_events.specs.declared.event.Event.{Event}
use Rattle.c11_events.specs.declared.entry.Entry.{Entry}
use Rattle.c11_events.specs.declared.op.Ask.{Ask}
use Rattle.c11_events.specs.declared.op.Op.{Op}
use Rattle.c11_events.specs.declared.reply.Reply.{Reply}
use Rattle.c11_events.specs.Draws.{after_words, chosen, words_for}
use Rattle.c11_events.specs.EventOf.{events_of}
use Rattle.c11_events.specs.Events.{event_at}
use Rattle.c11_events.specs.Offered.{Offered, op_cell, op_reading}
use Rattle.c11_events.specs.Steps.{ReadsOffered}
use Rattle.c11_events.proofs.Histories.{contained, length-events_of}
use Rattle.c11_history.specs.Past.{AreOffers}
use Rattle.c11_memory.specs.Execution.{Execution, HasDrawn}
use Rattle.c11_memory.specs.Sound.{Makes}
use Rattle.c11_memory.specs.Steps.{AddsStep}

at_within : (events : List Event) (a : ℕ) (e : Event) → event_at events a ≡ Some e → a ≤ length events
at_within events zero e is = omega arith
at_within events (suc i) e is = omega (arith, slice_get_within events i e is)

-- what is read is a store of the history, if it is anything
pub reads_noted : (entries : List Entry) (thread : ℕ) (o : Op) (offered : List ℕ) (from : ℕ) → ReadsOffered Offered (events_of entries) thread o offered from → from ≤ length entries
reads_noted entries thread o offered from reads = by_cell (op_cell o) reads
  where
    by_cell : (c : Option ℕ) → MatchOption c ((offered ≡ []) × (from ≡ 0)) (λ cell. Offered (events_of entries) thread (op_reading (events_of entries) o) cell offered × Contains offered from) → from ≤ length entries
    by_cell None r = omega (arith, r.1)
    by_cell (Some cell) r =
        let k = contained offered from r.1 in
        let store = (r.0.only k.0 from k.1).store in
        omega (arith, at_within (events_of entries) from store.event store.is, length-events_of entries)

pub reads_offered : (events : List Event) (thread : ℕ) (o : Op) (offered : List ℕ) (from : ℕ) → AreOffers events thread o offered
    → (op_cell o ≡ None → offered ≡ [] → from ≡ 0) → (IsSome (op_cell o) → Contains offered from) → ReadsOffered Offered events thread o offered from
reads_offered events thread o offered from = by_cell (op_cell o)
  where
    by_cell : (c : Option ℕ) → MatchOption c (offered ≡ []) (λ cell. Offered events thread (op_reading events o) cell offered) → (c ≡ None → offered ≡ [] → from ≡ 0)
        → (IsSome c → Contains offered from) → MatchOption c ((offered ≡ []) × (from ≡ 0)) (λ cell. Offered events thread (op_reading events o) cell offered × Contains offered from)
    by_cell None are none some = (are, none refl are)
    by_cell (Some cell) are none some = (are, some refl)

-- what the draws gave: this member of the offers, and the generator after
pub record IsChosen (old : Execution) (offered : List ℕ) (from : ℕ) (generator : Lcg) : Type 0 where
  pub none : offered ≡ [] → (from ≡ 0) × (generator ≡ old.generator)
  pub chosen_from : (words : ℕ) → 0 < length offered → HasDrawn old words
      → (slice_get offered (chosen old.seed words (length offered)) ≡ Some from) × (generator ≡ after_words old.seed (words + words_for (length offered)))

drawn_from : (old : Execution) (offered : List ℕ) (from : ℕ) (generator : Lcg) (c : Option ℕ) → IsChosen old offered from generator → (IsSome c → 0 < length offered)
    → (words : ℕ) → HasDrawn old words
    → MatchOption c ⊤ (λ _. slice_get offered (chosen old.seed words (length offered)) ≡ Some from) × (generator ≡ after_words old.seed (words + words_for (length offered)))
drawn_from old [] from generator None is some words drawn = (tt, (is.none refl).1 ∙ drawn ∙ ap (λ (n : ℕ). after_words old.seed n) (omega arith))
drawn_from old [] from generator (Some cell) is some words drawn = absurd (omega (arith, some refl))
drawn_from old (x ∷ offered) from generator None is some words drawn = (tt, (is.chosen_from words (omega arith) drawn).1)
drawn_from old (x ∷ offered) from generator (Some cell) is some words drawn = is.chosen_from words (omega arith) drawn

module _ (old new : Execution) (thread : ℕ) (ask : Ask) (offered : List ℕ) (from : ℕ) (reply : Reply) (made : Makes old new thread ask offered from reply) where
  -- the step that was made, with the generator that chose what it reads
  pub step_drawn : (generator : Lcg) → IsChosen old offered from generator → (IsSome (op_cell ask.op) → 0 < length offered) → AddsStep old (record new { generator = generator }) thread ask reply
  step_drawn generator is some = record {
    entry = made.entry;
    adds = record {
      history = made.adds.history;
      step = made.adds.step;
      verdict = made.adds.verdict;
      marks = made.adds.marks;
      setting = made.adds.setting;
      mutexes = made.adds.mutexes;
      seed = made.adds.seed;
      bound = made.adds.bound;
    };
    drawn = λ words drawn. drawn_parts words (drawn_from old offered from generator (op_cell ask.op) is some words drawn);
    told = made.told;
  }
    where
      drawn_parts : (words : ℕ)
          → MatchOption (op_cell ask.op) ⊤ (λ _. slice_get offered (chosen old.seed words (length offered)) ≡ Some from) × (generator ≡ after_words old.seed (words + words_for (length offered)))
          → MatchOption (op_cell ask.op) ⊤ (λ _. slice_get made.entry.offered (chosen old.seed words (length made.entry.offered)) ≡ Some made.entry.from)
          × (generator ≡ after_words new.seed (words + words_for (length made.entry.offered)))
      drawn_parts words p =
          let to : (List ℕ × ℕ) × ℕ → Type 0 = λ q. MatchOption (op_cell ask.op) ⊤ (λ _. slice_get q.0.0 (chosen old.seed words (length q.0.0)) ≡ Some q.0.1)
          × (generator ≡ after_words q.1 (words + words_for (length q.0.0))) in
          subst to (λ i. ((sym made.offers i, sym made.read i), sym made.adds.seed i)) p
