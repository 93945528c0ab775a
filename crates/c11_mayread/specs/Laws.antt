-- That the graph and the events reach the same.
use Rattle.std.specs.Prelude.{ℕ, ◌↔◌, List}
use Rattle.c11_events.specs.declared.event.Event.{Event}
use Rattle.c11_events.specs.Events.{IsStore, ReadsEarlier}
use Rattle.c11_events.specs.Chains.{Reach}
use Rattle.c11_mograph.specs.Made as made
use Rattle.c11_mograph.specs.Made.{Made}
use Rattle.c11_mograph.specs.Words.{WellMade}
use Rattle.c11_mayread.specs.Agreement.{Agrees}

-- what the links of a graph reach that agrees with the events is what reaches by all pairs of which the first must precede the second
abbrev pub LinksReachTheSame : Type 0
LinksReachTheSame = (m : Made) (events : List Event) → WellMade m → ReadsEarlier events → Agrees m events → (cell a b : ℕ) → IsStore events cell a → made.Reach m a b ↔ Reach events cell a b
