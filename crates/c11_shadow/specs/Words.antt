-- What the kept words stand for.
use Rattle.std.specs.Prelude.{ℕ, ◌≡◌, ◌<◌, ◌≤◌, ◌+◌, ◌↔◌, Bool, true, false, List, [], ◌∷◌, ◌++◌, Option, Some, None, MatchOption, length, slice_get, slice_index, vec_capacity}
use Rattle.c11_events.specs.declared.event.Event.{Event}
use Rattle.c11_events.specs.declared.event.EventKind.{EventKind}
use Rattle.c11_events.specs.Events.{At, event_at, ReadsEarlier, read_cell, written_cell}
use Rattle.c11_events.specs.HappensBefore.{HappensBefore}
use Rattle.c11_events.specs.Races.{IsWrite, Races, IsRacing}
use Rattle.c11_shadow.specs.declared.cell.Kept.{Kept}
use Rattle.c11_shadow.specs.Epochs.{thread_of, number_of}
use Rattle.c11_shadow.specs.Kept.{IsSafe}

-- the count of threads, and of each cell what is kept
pub record Words : Type 0 where
  pub threads : ℕ
  pub cells : List Kept

abbrev pub AreSafe : ℕ → List Kept → Type 0
AreSafe threads cells = (cell : ℕ) (kept : Kept) → slice_get cells cell ≡ Some kept → IsSafe threads kept

-- a further read of the cell takes no memory
abbrev pub HasRoom : Words → ℕ → Type 0
HasRoom words cell = (kept : Kept) → slice_get words.cells cell ≡ Some kept → words.threads ≤ vec_capacity kept.reads

-- the words are the same; only what room there is may differ
pub record AreSame (old new : Words) : Type 0 where
  pub threads : new.threads ≡ old.threads
  pub count : length new.cells ≡ length old.cells
  pub each : (cell : ℕ) (a b : Kept) → slice_get old.cells cell ≡ Some a → slice_get new.cells cell ≡ Some b → (b.write ≡ a.write) × (b.reads.items ≡ a.reads.items)

-- of the cell the last write is kept, and the latest read of each thread that has read it since
pub record IsKept (events : List Event) (cell : ℕ) (kept : Kept) : Type 0 where
  pub write : 0 < number_of kept.write → At events (number_of kept.write) (λ e. (e.thread ≡ thread_of kept.write) × (written_cell e.kind ≡ Some cell))
  pub last : (a : ℕ) → IsWrite events cell a → a ≤ number_of kept.write
  pub reads : (i r : ℕ) → slice_get kept.reads.items i ≡ Some r → At events (number_of r) (λ e. (e.thread ≡ thread_of r) × (read_cell e.kind ≡ Some cell))
  pub since : (a : ℕ) (e : Event) → event_at events a ≡ Some e → read_cell e.kind ≡ Some cell → number_of kept.write < a
      → (i : ℕ) × (r : ℕ) × (slice_get kept.reads.items i ≡ Some r) × (e.thread ≡ thread_of r) × (a ≤ number_of r)

-- the words stand for the plain accesses among these events: no two of them race, and of each cell the last write and the later
-- reads are kept
pub record StandsFor (words : Words) (events : List Event) : Type 0 where
  pub earlier : ReadsEarlier events
  pub quiet : (cell m n : ℕ) → Races events cell m n → ⊥
  pub kept : (cell : ℕ) (kept : Kept) → slice_get words.cells cell ≡ Some kept → IsKept events cell kept

-- the plain cell of an access
abbrev pub accessed : Bool → EventKind → Option ℕ
accessed true = written_cell
accessed false = read_cell

-- of the events of other threads the clock covers exactly those that happen before the event n of this thread; it may be the
-- thread's clock before that event or after it
abbrev pub TellsBefore : List Event → ℕ → ℕ → List ℕ → Type 0
TellsBefore events thread n clock = (a : ℕ) (f : Event) → event_at events a ≡ Some f → (f.thread ≡ thread → ⊥) → (a ≤ slice_index clock f.thread) ↔ HappensBefore events a n

-- e is this access, the next event of the list
pub record IsAccess (events : List Event) (e : Event) (cell thread number : ℕ) (write : Bool) (clock : List ℕ) : Type 0 where
  pub next : number ≡ length events + 1
  pub own : e.thread ≡ thread
  pub kind : accessed write e.kind ≡ Some cell
  pub tells : TellsBefore (events ++ e ∷ []) thread number clock

-- the answer is the latest earlier access that races with the event n; none where none races
abbrev pub Answers : List Event → ℕ → ℕ → Option ℕ → Type 0
Answers events cell n answer = MatchOption answer ((m : ℕ) → Races events cell m n → ⊥) (λ m. IsRacing events cell n m)

-- an event that is no plain access changes nothing
abbrev pub OthersChangeNothing : Type 0
OthersChangeNothing = (words : Words) (events : List Event) (e : Event) → StandsFor words events → ReadsEarlier (events ++ e ∷ [])
    → read_cell e.kind ≡ None → written_cell e.kind ≡ None → StandsFor words (events ++ e ∷ [])
