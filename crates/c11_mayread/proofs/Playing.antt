-- Tests go on from events that stand to one more.
use Rattle.std.proofs.Common.{◌≡◌, ℕ, ◌<◌, ◌+◌, List, [], ◌∷◌, ◌++◌, Option, Some, None, length, refl, sym, ap, ◌∙◌, subst, arith}
use Rattle.std.proofs.lemmas.List.{length-append}
use Rattle.c11_events.specs.declared.event.Event.{Event}
use Rattle.c11_events.specs.declared.event.EventKind.{EventKind}
use Rattle.c11_events.specs.declared.op.Op.{Op}
use Rattle.c11_events.specs.Events.{IsStore, stored_cell, loaded_cell}
use Rattle.c11_events.specs.Chains.{ChainLawful}
use Rattle.c11_events.specs.Offered.{op_cell, op_reading, ChainOffered}
use Rattle.c11_events.proofs.Others.{others_fit}
use Rattle.c11_events.proofs.Ranks.{kind_same}
use Rattle.c11_mayread.specs.declared.asked.Asked.{Asked}
use Rattle.c11_mayread.specs.Asks.{asked_of}
use Rattle.c11_mayread.specs.Played.{IsPlayed}
use Rattle.c11_mayread.specs.Priors.{In}
use Rattle.c11_mayread.specs.Standing.{Words, StandsFor, CanCommit, HaveSameCounts}
use Rattle.c11_mayread.proofs.Offering.{asked_by, asked_none}

-- the cells of what an operation becomes
pub reading_cells : (op : Op) (cell : ℕ) → op_cell op ≡ Some cell → (events : List Event) (x : ℕ)
    → (loaded_cell (op_reading events op x) ≡ Some cell) × ((d : ℕ) → stored_cell (op_reading events op x) ≡ Some d → cell ≡ d)
reading_cells op cell is events x = by_asked (asked_of op) refl
  where
    by_asked : (o : Option Asked) → asked_of op ≡ o → (loaded_cell (op_reading events op x) ≡ Some cell) × ((d : ℕ) → stored_cell (op_reading events op x) ≡ Some d → cell ≡ d)
    by_asked None e = absurd (let none = asked_none op e in let clash : None ≡ Some cell = sym none ∙ is in cc)
    by_asked (Some asked) e =
        let by = asked_by op asked e in
        let both : Some asked.cell ≡ Some cell = sym by.0 ∙ is in
        let same : asked.cell ≡ cell = cc in
        let loads : loaded_cell (op_reading events op x) ≡ Some cell = (by.1 events x).loads ∙ ap (λ (k : ℕ). Some k) same in
        (loads, λ d stored. kind_same (op_reading events op x) d cell stored loads)

module _ (old mid : Words) (count : ℕ) (played : IsPlayed old count) (stands : (events : List Event) → StandsFor old events → StandsFor mid events) (same : HaveSameCounts old mid)
    (e : Event) (number : e.number ≡ count + 1) (room : count < 64) (thread : e.thread < 4) where
  abbrev pub Next : Type 0
  Next = (events : List Event) × (StandsFor mid events × CanCommit mid events e)

  pub next_with : ((cell : ℕ) → stored_cell e.kind ≡ Some cell → cell < 2) → ((cell : ℕ) → loaded_cell e.kind ≡ Some cell → cell < 2) → ChainLawful (played.events ++ e ∷ []) → Next
  next_with stored loaded lawful = (
    played.events,
    (
      stands played.events played.stands,
      record {
        number = omega (arith, number, played.count_is);
        room = omega (arith, room, played.count_is, same.events, played.room);
        thread = omega (arith, thread, same.threads, played.threads);
        stored = λ cell is. let lt = stored cell is in omega (arith, same.cells, played.cells);
        loaded = λ cell is. let lt = loaded cell is in omega (arith, same.cells, played.cells);
        lawful = lawful;
      },
    ),
  )

  pub next_other : loaded_cell e.kind ≡ None → ((cell : ℕ) → stored_cell e.kind ≡ Some cell → cell < 2) → Next
  next_other none stored = next_with stored (λ cell is. let clash : None ≡ Some cell = sym none ∙ is in cc) (others_fit played.events e played.stands.lawful none)

  pub next_read : (op : Op) (cell : ℕ) → op_cell op ≡ Some cell → cell < 2 → (list : List ℕ) → ChainOffered played.events e.thread (op_reading played.events op) cell list → In list e.from
      → e.kind ≡ op_reading played.events op e.from → Next
  next_read op cell is lt list offered member kind =
      let cells = reading_cells op cell is played.events e.from in
      let lawful = (offered.only member.0 e.from member.1).lawful in
      let number' : length played.events + 1 ≡ e.number = omega (arith, number, played.count_is) in
      next_with
      (λ d stored. subst (λ (k : ℕ). k < 2) (cells.1 d (sym (ap (λ (k : EventKind). stored_cell k) kind) ∙ stored)) lt)
      (λ d loads. let both : Some cell ≡ Some d = sym cells.0 ∙ (sym (ap (λ (k : EventKind). loaded_cell k) kind) ∙ loads) in let same' : cell ≡ d = cc in subst (λ (k : ℕ). k < 2) same' lt)
      (subst (λ (f : Event). ChainLawful (played.events ++ f ∷ [])) (λ i. record { number = number' i; thread = e.thread; kind = (sym kind) i; from = e.from }) lawful)

  -- the operation's cell is whichever it is
  pub next_op : (op : Op) → ((cell : ℕ) → op_cell op ≡ Some cell → cell < 2) → (op_cell op ≡ None → ⊥) → (list : List ℕ)
      → ((cell : ℕ) → op_cell op ≡ Some cell → ChainOffered played.events e.thread (op_reading played.events op) cell list) → In list e.from
      → ((cell : ℕ) → op_cell op ≡ Some cell → IsStore played.events cell e.from → e.kind ≡ op_reading played.events op e.from) → Next
  next_op op below some list offered member kind = by_cell (op_cell op) refl
    where
      by_cell : (o : Option ℕ) → op_cell op ≡ o → Next
      by_cell None is = absurd (some is)
      by_cell (Some cell) is = next_read op cell is (below cell is) list (offered cell is) member (kind cell is ((offered cell is).only member.0 e.from member.1).store)

  -- and then the longer list stands
  pub played_next : (next : Next) (new : Words) → ((events : List Event) → StandsFor mid events → ChainLawful (events ++ e ∷ []) → StandsFor new (events ++ e ∷ [])) → HaveSameCounts mid new → IsPlayed new (count + 1)
  played_next next new committed same' =
      let known = stands played.events played.stands in
      let count' : length next.0 ≡ length played.events = sym next.1.0.past.count ∙ known.past.count in
      record {
        events = next.0 ++ e ∷ [];
        stands = committed next.0 next.1.0 next.1.1.lawful;
        count_is = length-append next.0 (e ∷ []) ∙ omega (arith, count', played.count_is);
        cells = same'.cells ∙ (same.cells ∙ played.cells);
        threads = same'.threads ∙ (same.threads ∙ played.threads);
        room = same'.events ∙ (same.events ∙ played.room);
      }
