-- Happens-before does not see texts.
use Rattle.std.specs.Prelude.{ℕ, ◌↔◌, List, map}
use Rattle.c11_events.specs.declared.event.Event.{Event}
use Rattle.c11_events.specs.Events.{IsStore}
use Rattle.c11_events.specs.HappensBefore.{HappensBefore}
use Rattle.c11_happens.specs.Covers.{UpTo, CoversExactly, HasNoEvent, IsLastOf, IsCreateOf}
use Rattle.c11_happens.specs.Trace.{textless}

-- all that is said of the events noted holds of the events with their texts
pub record IsSameWithTexts (events : List Event) : Type 0 where
  pub before : (a b : ℕ) → HappensBefore (map textless events) a b ↔ HappensBefore events a b
  pub stores : (cell x : ℕ) → IsStore (map textless events) cell x ↔ IsStore events cell x
  pub last : (thread b : ℕ) → IsLastOf (map textless events) thread b ↔ IsLastOf events thread b
  pub creates : (thread c : ℕ) → IsCreateOf (map textless events) thread c ↔ IsCreateOf events thread c
  pub none : (thread : ℕ) → HasNoEvent (map textless events) thread ↔ HasNoEvent events thread
  pub covers : (clock : List ℕ) (b : ℕ) → CoversExactly (map textless events) clock (UpTo (map textless events) b) ↔ CoversExactly events clock (UpTo events b)
  pub nothing : (clock : List ℕ) → CoversExactly (map textless events) clock (λ _. ⊥) ↔ CoversExactly events clock (λ _. ⊥)

abbrev pub TextsDoNotMatter : Type 0
TextsDoNotMatter = (events : List Event) → IsSameWithTexts events
