-- The one order that is printed.
use Rattle.std.specs.Prelude.{ℕ, ◌≡◌, ◌<◌, List, ◌⊎◌}
use Rattle.c11_events.specs.declared.event.Event.{Event}
use Rattle.c11_events.specs.Events.{IsRmw}
use Rattle.c11_events.specs.Lawful.{Precedes, IsNext, IsModificationOrder}
use Rattle.c11_events.specs.Chains.{IsRanked, Links}

-- h begins a chain
abbrev pub IsHead : List Event → ℕ → ℕ → Type 0
IsHead events cell h = IsRanked events cell h 0 h

-- the chains stand one after the other, each by rank; the next is always the chain with the least head among those left
-- that no other chain left reaches
pub record IsLayout (events : List Event) (cell : ℕ) (order : List ℕ) : Type 0 where
  pub stores : IsModificationOrder events cell order
  pub chains : (b x : ℕ) → IsRmw events cell b x → IsNext order x b
  pub links : (h k : ℕ) → Links events cell h k → Precedes order h k
  pub least : (h k : ℕ) → IsHead events cell h → IsHead events cell k → Precedes order h k → k < h
      → (j : ℕ) × (Links events cell j k × ((j ≡ h) ⊎ Precedes order h j))
