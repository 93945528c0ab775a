-- What the tables keep, and the events for which they stand.
use Rattle.std.specs.Prelude.{ℕ, ◌≡◌, ◌≤◌, ◌↔◌, ◌&&◌, Bool, List, [], ◌∷◌, ◌++◌, Option, Some, None, MatchOption, length, slice_get, slice_set, nat_lt, if◌then◌else◌}
use Rattle.c11_events.specs.declared.event.EventKind.{EventKind}
use Rattle.c11_events.specs.declared.event.Event.{Event}
use Rattle.c11_events.specs.Events.{At, stored_cell, is_fence, is_seq_cst}
use Rattle.c11_latest.specs.declared.latest.Note.{Note}
use Rattle.c11_latest.specs.Notes.{Notes, note, IsNoted, HasNoneUpTo, IsLastUpTo}
use Rattle.c11_scorder.specs.SeqCst.{Answers}

-- how many events may be noted and how many are; the stores, the seq_cst stores and the seq_cst fences; and the last ones of the
-- cells and the threads
pub record Tables : Type 0 where
  pub room : ℕ
  pub noted : ℕ
  pub stores : Notes
  pub seq_cst_stores : Notes
  pub fences : Notes
  pub last_stores : List (Option ℕ)
  pub last_fences : List (Option ℕ)

abbrev pub cells_of : Tables → ℕ
cells_of tables = length tables.last_stores

abbrev pub threads_of : Tables → ℕ
threads_of tables = length tables.last_fences

-- what an event is to the tables

abbrev pub is_seq_cst_fence : EventKind → Bool
is_seq_cst_fence kind = is_fence kind && is_seq_cst kind

abbrev pub seq_cst_cell : EventKind → Option ℕ
seq_cst_cell kind = if is_seq_cst kind then stored_cell kind else None

abbrev pub some_if : Bool → ℕ → Option ℕ
some_if condition value = if condition then Some value else None

-- the cell as whose the event is noted: a fence is noted as of cell 0

abbrev pub by_store : Event → Option ℕ
by_store e = stored_cell e.kind

abbrev pub by_seq_cst_store : Event → Option ℕ
by_seq_cst_store e = seq_cst_cell e.kind

abbrev pub by_fence : Event → Option ℕ
by_fence e = some_if (is_seq_cst_fence e.kind) 0

abbrev pub by_thread : Event → Option ℕ
by_thread e = some_if (is_seq_cst_fence e.kind) e.thread

-- exactly those events are noted that have a cell, by that cell and their thread
abbrev pub AreNoted : (Event → Option ℕ) → List Event → Notes → Type 0
AreNoted by events notes = (cell thread x : ℕ) → IsNoted notes.notes cell thread x ↔ At events x (λ e. (by e ≡ Some cell) × (e.thread ≡ thread))

-- of each place the last event is kept
abbrev pub AreLast : (Event → Option ℕ) → List Event → List (Option ℕ) → Type 0
AreLast by events lasts = (place : ℕ) (last : Option ℕ) → slice_get lasts place ≡ Some last → Answers (λ x. At events x (λ e. by e ≡ Some place)) last

-- the tables are those of these events
pub record StandsFor (tables : Tables) (events : List Event) : Type 0 where
  pub count : length events ≡ tables.noted
  pub stores : AreNoted by_store events tables.stores
  pub seq_cst_stores : AreNoted by_seq_cst_store events tables.seq_cst_stores
  pub fences : AreNoted by_fence events tables.fences
  pub last_stores : AreLast by_seq_cst_store events tables.last_stores
  pub last_fences : AreLast by_thread events tables.last_fences

-- the events do not differ in what the tables keep, as they may in a text
pub record AreAlike (e f : Event) : Type 0 where
  pub thread : e.thread ≡ f.thread
  pub stored : stored_cell e.kind ≡ stored_cell f.kind
  pub fence : is_fence e.kind ≡ is_fence f.kind
  pub seq_cst : is_seq_cst e.kind ≡ is_seq_cst f.kind

-- the counts of cells, threads and events are the same
pub record AreSame (old new : Tables) : Type 0 where
  pub room : new.room ≡ old.room
  pub cells : cells_of new ≡ cells_of old
  pub threads : threads_of new ≡ threads_of old

-- there is room for the events to come, whose numbers are larger
pub record HasRoom (room noted : ℕ) (notes : Notes) : Type 0 where
  pub space : notes.room ≡ room
  pub count : length notes.notes ≤ noted
  pub below : (cell thread y : ℕ) → IsNoted notes.notes cell thread y → y ≤ noted

pub record AreSound (room noted : ℕ) (stores seq_cst_stores fences : Notes) : Type 0 where
  pub within : noted ≤ room
  pub stores_left : HasRoom room noted stores
  pub seq_cst_stores_left : HasRoom room noted seq_cst_stores
  pub fences_left : HasRoom room noted fences

-- how the tables change

abbrev pub noted_at : Option ℕ → ℕ → ℕ → List Note → List Note
noted_at None thread number notes = notes
noted_at (Some cell) thread number notes = notes ++ note cell thread number ∷ []

abbrev pub set_at : Option ℕ → ℕ → List (Option ℕ) → List (Option ℕ)
set_at None number lasts = lasts
set_at (Some place) number lasts = slice_set lasts place (Some number)

abbrev pub later : Option ℕ → Option ℕ → Option ℕ
later None second = second
later (Some one) None = Some one
later (Some one) (Some other) = Some (if nat_lt one other then other else one)

-- the last number noted up to the bound, where there is a bound
abbrev pub IsLastStoreUpTo : List Note → ℕ → ℕ → Option ℕ → Option ℕ → Type 0
IsLastStoreUpTo notes cell thread None answer = answer ≡ None
IsLastStoreUpTo notes cell thread (Some bound) answer = MatchOption answer (HasNoneUpTo notes cell thread bound) (IsLastUpTo notes cell thread bound)
