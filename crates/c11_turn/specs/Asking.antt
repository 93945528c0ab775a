-- Which threads still ask.
use Rattle.std.specs.Prelude.{ℕ, ◌≡◌, List, [], ◌∷◌, Some, None}
use Rattle.c11_events.specs.declared.entry.Entry.{Entry}
use Rattle.c11_events.specs.declared.op.Ask.{Ask}
use Rattle.c11_events.specs.Steps.{own_steps}
use Rattle.c11_meaning.specs.Progress.{Ends}
use Rattle.c11_turn.specs.declared.terms.Terms.{Terms}
use Rattle.c11_turn.specs.Hand.{FollowsTerms, next_in}

-- the last of a thread's steps is an End or a Stop, or was told a Fault
abbrev pub IsOver : List Entry → Type 0
IsOver [] = ⊥
IsOver (e ∷ []) = Ends e.op e.reply
IsOver (e ∷ f ∷ more) = IsOver (f ∷ more)

-- in a history that follows a thread that is over asks for nothing, and each other one for something
abbrev pub AsksUntilOver : Type 0
AsksUntilOver = (terms : Terms) (history : List Entry) (thread : ℕ) → FollowsTerms terms history
    → (IsOver (own_steps history thread) → next_in terms history thread ≡ None)
    × ((IsOver (own_steps history thread) → ⊥) → (ask : Ask) × (next_in terms history thread ≡ Some ask))
