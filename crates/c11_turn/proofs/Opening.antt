-- A memory that is just opened.
use Rattle.std.proofs.Common.{◌≡◌, ℕ, zero, suc, ◌<◌, ◌≤◌, List, [], ◌∷◌, Some, None, length, slice_get, replicate, refl, sym, ap, subst}
use Rattle.c11_check.specs.declared.checked.Checked.{Checked}
use Rattle.c11_events.specs.declared.cells.CellInfo.{CellInfo}
use Rattle.c11_events.specs.declared.entry.Entry.{Entry}
use Rattle.c11_events.specs.declared.op.Ask.{Ask}
use Rattle.c11_events.specs.Draws.{after_words}
use Rattle.c11_events.specs.Replies.{thread_limit}
use Rattle.c11_events.specs.Steps.{init_from, init_entries}
use Rattle.c11_events.specs.Verdicts.{StepVerdict}
use Rattle.c11_history.specs.Past as past
use Rattle.c11_machine.specs.Runs.{choices_of, start}
use Rattle.c11_memory.specs.Sound.{execution}
use Rattle.c11_memory.proofs.Opening.{sound_opened}
use Rattle.c11_run.proofs.Ending.{undecided}
use Rattle.c11_turn.specs.Hand.{OpenedIsMemory}

none_marked : (n u : ℕ) (ask : Ask) → slice_get (replicate n None) u ≡ Some (Some ask) → ⊥
none_marked zero u ask at = cc
none_marked (suc n) zero ask at = let clash : None ≡ Some ask = cc in cc
none_marked (suc n) (suc u) ask at = none_marked n u ask at

-- no Init has a choice
init_choices : (n : ℕ) (cells : List CellInfo) → choices_of (init_from n cells) ≡ []
init_choices n [] = refl
init_choices n (info ∷ cells) = init_choices (suc n) cells

init_undecided : (checked : Checked) (seed bound : ℕ) → 0 < bound → bound ≤ 10000 → StepVerdict bound (init_entries checked.tables.atomics) None
init_undecided checked seed bound some few =
    undecided (execution (past.opened checked bound) seed bound (after_words seed 0) None (replicate thread_limit None)) (sound_opened checked seed bound (after_words seed 0) some few).stands refl

pub opened_memory : OpenedIsMemory
opened_memory terms some few =
    let checked = terms.program.value in
    let cells = checked.tables.atomics in
    let undecided' = init_undecided checked terms.seed terms.bound some few in (
      record {
        home = record {
          entries = refl;
          setting = refl;
          mutexes = refl;
          seed = refl;
          bound = refl;
          drawn = ap (λ (es : List Entry). after_words terms.seed (length es)) (sym (init_choices 0 cells));
          marks = λ u ask at. absurd (none_marked thread_limit u ask at);
          verdict = λ v kept. absurd (let clash : None ≡ Some v = kept in cc);
        };
        ready = record { undecided = λ is. undecided'; few_steps = few };
      },
      record {
        legal = start;
        drawn = λ i e at. absurd (let none : slice_get [] i ≡ Some e = subst (λ (es : List Entry). slice_get es i ≡ Some e) (init_choices 0 cells) at in cc);
      },
    )
