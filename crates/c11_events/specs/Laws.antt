-- The laws.
use Rattle.std.specs.Prelude.{ℕ, ◌≡◌, ◌<◌, ◌≤◌, ◌↔◌, ◌⊎◌, suc, List, [], ◌∷◌, ◌++◌, Some, None, length}
use Rattle.c11_events.specs.declared.order.Order.TheVariants.{Relaxed}
use Rattle.c11_events.specs.declared.event.EventKind.{EventKind}
use Rattle.c11_events.specs.declared.event.EventKind.TheVariants.{AtomicLoad}
use Rattle.c11_events.specs.declared.event.Event.{Event}
use Rattle.c11_events.specs.Events.{event_at, IsStore, ReadsEarlier, loaded_cell}
use Rattle.c11_events.specs.Values.{written, value_of}
use Rattle.c11_events.specs.HappensBefore.{HappensBefore, DirectlyBefore, AreOfThread}
use Rattle.c11_events.specs.Lawful.{Precedes, Lawful, Consistent, IsFence, IsLastOf, IsLastStore}
use Rattle.c11_events.specs.Layout.{IsHead, IsLayout}
use Rattle.c11_events.specs.Dead.{AreOfLive, IsMark, HasPassed, IsDead}
use Rattle.c11_events.specs.Threads.{IsLive}
use Rattle.c11_events.specs.Priors.{Fits, FitsPriors}
use Rattle.c11_events.specs.declared.cells.CellInfo.{CellInfo}
use Rattle.c11_events.specs.declared.entry.Entry.{Entry}
use Rattle.c11_events.specs.declared.op.Ask.{Ask}
use Rattle.c11_events.specs.EventOf.{events_of}
use Rattle.c11_events.specs.Replies.{Setting}
use Rattle.c11_events.specs.Steps.{IsStep, init_entries}
use Rattle.c11_events.specs.Races.{Races, IsRacing, Kept}
use Rattle.c11_events.specs.Chains.{Links, ChainLawful}
use Rattle.c11_events.specs.Offered.{IsOffered, Offered, ChainOffered}
use Rattle.c11_events.specs.Added.{ReadsStore, Adds, OrdersStores, KeepsStores}

-- happens-before leads from smaller to larger numbers
abbrev pub HappensBeforeRises : Type 0
HappensBeforeRises = (events : List Event) (a b : ℕ) → ReadsEarlier events → HappensBefore events a b → a < b

-- a new event adds no happens-before between earlier ones
abbrev pub HappensBeforeStays : Type 0
HappensBeforeStays = (events : List Event) (e : Event) (a b : ℕ) → ReadsEarlier (events ++ e ∷ []) → b ≤ length events → HappensBefore events a b ↔ HappensBefore (events ++ e ∷ []) a b

-- a lawful order keeps chains together, and what must precede leads forward
abbrev pub ConsistentIsChainLawful : Type 0
ConsistentIsChainLawful = (events : List Event) → Consistent events → ChainLawful events

-- chains in an order that the links allow are a lawful order
abbrev pub ChainLawfulIsConsistent : Type 0
ChainLawfulIsConsistent = (events : List Event) → ChainLawful events → Consistent events

-- a prefix of a consistent list is consistent
abbrev pub PrefixIsConsistent : Type 0
PrefixIsConsistent = (events more : List Event) → Consistent (events ++ more) → Consistent events

-- both ways to say what is offered agree
abbrev pub OffersAgree : Type 0
OffersAgree = (events : List Event) (thread : ℕ) (reading : ℕ → EventKind) (cell : ℕ) (offers : List ℕ)
    → Offered events thread reading cell offers ↔ ChainOffered events thread reading cell offers

-- the last store of the cell in any lawful order is offered
abbrev pub LastIsOffered : Type 0
LastIsOffered = (events : List Event) (thread : ℕ) (reading : ℕ → EventKind) (cell x : ℕ) (c : Consistent events)
    → IsLastOf (c.orders cell) x → loaded_cell (reading x) ≡ Some cell → IsOffered events thread reading cell x

-- where the cell has a store, some store is offered
abbrev pub SomeIsOffered : Type 0
SomeIsOffered = (events : List Event) (thread : ℕ) (reading : ℕ → EventKind) (cell s : ℕ) → Consistent events → IsStore events cell s
    → ((x : ℕ) → loaded_cell (reading x) ≡ Some cell) → (x : ℕ) × IsOffered events thread reading cell x

-- a chain-lawful list has a layout of each cell, and a layout is lawful
abbrev pub LayoutIsLawful : Type 0
LayoutIsLawful = (events : List Event) (cell : ℕ) (order : List ℕ) → ChainLawful events → IsLayout events cell order → Lawful events cell order

abbrev pub LayoutExists : Type 0
LayoutExists = (events : List Event) (cell : ℕ) → ChainLawful events → (order : List ℕ) × IsLayout events cell order

-- and one only: two layouts of a cell have its stores in the same order
abbrev pub LayoutIsOne : Type 0
LayoutIsOne = (events : List Event) (cell : ℕ) (order other : List ℕ) → ChainLawful events → IsLayout events cell order → IsLayout events cell other
    → (x y : ℕ) → Precedes order x y → Precedes other x y

-- where no chain is linked to another, a layout has their heads rising
abbrev pub LayoutRises : Type 0
LayoutRises = (events : List Event) (cell : ℕ) (order : List ℕ) (h k : ℕ) → IsLayout events cell order → ((j l : ℕ) → Links events cell j l → ⊥)
    → IsHead events cell h → IsHead events cell k → Precedes order h k → h < k

-- a read is offered exactly where it fits the chains of the list before it
abbrev pub ReadFits : Type 0
ReadFits = (events : List Event) (e : Event) (cell : ℕ) → ChainLawful events → IsStore events cell e.from → loaded_cell e.kind ≡ Some cell
    → ChainLawful (events ++ e ∷ []) ↔ Fits events e cell

-- the same, by what the thread knows before it reads: an acquire adds nothing
abbrev pub ReadFitsPriors : Type 0
ReadFitsPriors = (events : List Event) (e : Event) (cell : ℕ) → ChainLawful events → IsStore events cell e.from → loaded_cell e.kind ≡ Some cell
    → ChainLawful (events ++ e ∷ []) ↔ FitsPriors events e cell

-- an event that reads nothing keeps a list chain-lawful
abbrev pub OthersFit : Type 0
OthersFit = (events : List Event) (e : Event) → ChainLawful events → loaded_cell e.kind ≡ None → ChainLawful (events ++ e ∷ [])

-- a dead store is in no later offer
abbrev pub DeadIsNotOffered : Type 0
DeadIsNotOffered = (events more : List Event) (cell x u : ℕ) (reading : ℕ → EventKind) → AreOfLive (events ++ more) → IsDead events cell x → IsLive (events ++ more) u
    → loaded_cell (reading x) ≡ Some cell → IsOffered (events ++ more) u reading cell x → ⊥

-- where no fence stands, a relaxed load of a thread is offered each store that the thread has not passed
abbrev pub NotPassedIsOffered : Type 0
NotPassedIsOffered = (events : List Event) (u cell x m : ℕ) → ChainLawful events → ((f : ℕ) → IsFence events f → ⊥) → IsStore events cell x → IsMark events u m
    → (HasPassed events cell u x → ⊥) → IsOffered events u (λ y. AtomicLoad cell Relaxed) cell x

-- where no earlier access raced, each access that races with n has a kept one after it, or is one, that races with n: so the
-- latest that races is a kept one
abbrev pub RacesAreKept : Type 0
RacesAreKept = (events : List Event) (cell n k : ℕ) → ReadsEarlier events → ((i j : ℕ) → j < n → Races events cell i j → ⊥) → Races events cell k n
    → (m : ℕ) × ((k ≤ m) × Kept events cell n m × Races events cell m n)

abbrev pub RacingIsKept : Type 0
RacingIsKept = (events : List Event) (cell n m : ℕ) → ReadsEarlier events → ((i j : ℕ) → j < n → Races events cell i j → ⊥) → IsRacing events cell n m → Kept events cell n m

-- what happens before a new event is, or happens before, an event with a step to it: the clock of an event is the join of theirs
abbrev pub HappensBeforeNew : Type 0
HappensBeforeNew = (events : List Event) (e : Event) (a : ℕ) → ReadsEarlier (events ++ e ∷ [])
    → HappensBefore (events ++ e ∷ []) a (suc (length events)) ↔ ((m : ℕ) × (DirectlyBefore (events ++ e ∷ []) m (suc (length events)) × ((a ≡ m) ⊎ HappensBefore events a m)))

-- the value of a store by that of the store it reads
abbrev pub ValueByRead : Type 0
ValueByRead = (events : List Event) (x : ℕ) (e : Event) → ReadsEarlier events → event_at events x ≡ Some e → value_of events x ≡ written e.kind (value_of events e.from)

-- where each event is of one thread, that thread's next read of a cell is offered the cell's last store and no other
abbrev pub OneThreadReadsLast : Type 0
OneThreadReadsLast = (events : List Event) (thread : ℕ) (reading : ℕ → EventKind) (cell s x : ℕ) → Consistent events → AreOfThread events thread → IsStore events cell s
    → ((y : ℕ) → loaded_cell (reading y) ≡ Some cell) → IsOffered events thread reading cell x ↔ IsLastStore events cell x

-- a step whose read is offered keeps the history consistent
abbrev pub StepStaysConsistent : Type 0
StepStaysConsistent = (setting : Setting) (entries : List Entry) (thread : ℕ) (ask : Ask) (e : Entry) → Consistent (events_of entries)
    → IsStep Offered setting entries thread ask e → Consistent (events_of (entries ++ e ∷ []))

-- a history of Inits alone is consistent
abbrev pub InitsAreConsistent : Type 0
InitsAreConsistent = (cells : List CellInfo) → Consistent (events_of (init_entries cells))

-- what a further event adds to what must precede what
abbrev pub EventAdds : Type 0
EventAdds = (events : List Event) (e : Event) → ChainLawful events → ReadsStore events e → Adds events e

-- to reach is a strict order of a chain-lawful list's stores, which holds what must precede
abbrev pub ReachOrders : Type 0
ReachOrders = (events : List Event) (cell : ℕ) → ChainLawful events → OrdersStores events cell

-- what must precede and what is reached stays so in a longer list
abbrev pub ReachStays : Type 0
ReachStays = (events more : List Event) (cell : ℕ) → KeepsStores events more cell
