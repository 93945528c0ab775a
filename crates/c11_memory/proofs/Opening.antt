-- An execution before its first step.
use Rattle.std.proofs.Common.{◌≡◌, ℕ, zero, suc, ◌+◌, ◌<◌, ◌≤◌, cond, List, [], ◌∷◌, Option, Some, None, length, slice_get, replicate, refl, sym, ap, ◌∙◌, subst, arith, inl, inr}
use Rattle.std.proofs.lemmas.List.Sums.{sum_by-cons}
use Rattle.rand_pcg.specs.Lcg.{Lcg}
use Rattle.c11_check.specs.declared.checked.Checked.{Checked}
use Rattle.c11_events.specs.declared.cells.CellInfo.{CellInfo}
use Rattle.c11_events.specs.declared.event.Event.{Event}
use Rattle.c11_events.specs.declared.event.EventKind.TheVariants.{Init}
use Rattle.c11_events.specs.declared.verdict.Verdict.{Verdict}
use Rattle.c11_events.specs.EventOf.{events_of}
use Rattle.c11_events.specs.Events.{event_at, is_create, read_cell, written_cell}
use Rattle.c11_events.specs.Races.{IsRacing}
use Rattle.c11_events.specs.Replies.{thread_limit}
use Rattle.c11_events.specs.Steps.{init_from, init_entries, step_count}
use Rattle.c11_events.specs.Threads.{created}
use Rattle.c11_events.specs.Verdicts.{last_says, LastVerdict, no_race, StepVerdict, undecided}
use Rattle.c11_history.specs.Past.{opened}
use Rattle.c11_memory.specs.declared.marks.Mark.{Mark}
use Rattle.c11_memory.specs.Sound.{execution, IsSound}
use Rattle.c11_memory.specs.Waits.{by_steps}

-- no event is a plain access
HasNoPlain : List Event → Type 0
HasNoPlain events = (a : ℕ) (e : Event) → event_at events a ≡ Some e → (read_cell e.kind ≡ None) × (written_cell e.kind ≡ None)

-- without plain accesses nothing races
no_races : (events : List Event) → HasNoPlain events → (cell n m : ℕ) → IsRacing events cell n m → ⊥
unfolding HasNoPlain
no_races events plain cell n m r = elim r.races.accesses [
  | inl p ↦ (let none = plain m p.0.event p.0.is in let both : None ≡ Some cell = sym none.1 ∙ p.0.holds in cc)
  | inr p ↦ (let none = plain m p.0.event p.0.is in let both : None ≡ Some cell = sym none.0 ∙ p.0.holds in cc)
]

-- event i of the Inits, of the cells from n on
init_plain : (n : ℕ) (cells : List CellInfo) (i : ℕ) (e : Event) → slice_get (events_of (init_from n cells)) i ≡ Some e → (read_cell e.kind ≡ None) × (written_cell e.kind ≡ None)
init_plain n [] i e at = cc
init_plain n (info ∷ cells) zero e at =
    let same : record { number = n + 1; thread = 0; kind = Init n info.initial; from = 0 } ≡ e = cc in
    (ap (λ (f : Event). read_cell f.kind) (sym same), ap (λ (f : Event). written_cell f.kind) (sym same))
init_plain n (info ∷ cells) (suc i) e at = init_plain (suc n) cells i e at

init_steps : (n : ℕ) (cells : List CellInfo) → step_count (init_from n cells) ≡ 0
init_steps n [] = refl
init_steps n (info ∷ cells) = init_steps (suc n) cells

init_says : (n : ℕ) (cells : List CellInfo) → last_says (init_from n cells) ≡ None
init_says n [] = refl
init_says n (info ∷ []) = refl
init_says n (info ∷ next ∷ cells) = init_says (suc n) (next ∷ cells)

init_created : (n : ℕ) (cells : List CellInfo) → created (events_of (init_from n cells)) ≡ 0
init_created n [] = refl
init_created n (info ∷ cells) =
    omega (arith, init_created (suc n) cells, sum_by-cons (λ (e : Event). cond (is_create e.kind) 1 0) (record { number = n + 1; thread = 0; kind = Init n info.initial; from = 0 }) (events_of (init_from (suc n) cells)))

no_plain : (cells : List CellInfo) → HasNoPlain (events_of (init_entries cells))
unfolding HasNoPlain
no_plain cells zero e is = cc
no_plain cells (suc i) e is = init_plain 0 cells i e is

init_stands : (cells : List CellInfo) (bound : ℕ) → 0 < bound → StepVerdict bound (init_entries cells) None
init_stands cells bound some_step =
    let last = subst (λ (o : Option Verdict). LastVerdict (init_entries cells) o) (init_says 0 cells)
    (no_race (λ cell m. no_races (events_of (init_entries cells)) (no_plain cells) cell (length (init_entries cells)) m)) in
    undecided last (λ same. omega (arith, init_steps 0 cells))

no_marks : (n i : ℕ) (mark : Mark) → slice_get (replicate n None) i ≡ Some (Some mark) → ⊥
no_marks zero i mark at = cc
no_marks (suc n) zero mark at = cc
no_marks (suc n) (suc i) mark at = no_marks n i mark at

pub sound_opened : (checked : Checked) (seed bound : ℕ) (generator : Lcg) → 0 < bound → bound ≤ 10000
    → IsSound (execution (opened checked bound) seed bound generator None (replicate thread_limit None)) (opened checked bound) 0 (replicate thread_limit None)
sound_opened checked seed bound generator some_step few_steps = record {
  few_steps = few_steps;
  counted = sym (init_steps 0 checked.tables.atomics);
  room = omega arith;
  each_thread = refl;
  within = λ thread mark at. absurd (no_marks thread_limit thread mark at);
  going = λ none. record { quiet = refl; few_threads = omega (arith, init_created 0 checked.tables.atomics) };
  stands = by_steps (init_stands checked.tables.atomics bound some_step);
}
