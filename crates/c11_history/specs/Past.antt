-- What contracts see of a history, and what an operation may name in it.
use Rattle.std.specs.Prelude.{ℕ, ◌≡◌, ◌<◌, ⊤, Bool, false, List, [], Option, length, MatchOption}
use Rattle.c11_check.specs.declared.checked.Checked.{Checked}
use Rattle.c11_events.specs.declared.event.Event.{Event}
use Rattle.c11_events.specs.declared.entry.Entry.{Entry}
use Rattle.c11_events.specs.declared.op.Op.{Op}
use Rattle.c11_events.specs.declared.op.Op.TheVariants as op
use Rattle.c11_events.specs.Offered.{Offered, op_cell, op_reading}
use Rattle.c11_events.specs.Races.{IsRacing}
use Rattle.c11_events.specs.Replies.{Setting, thread_limit}
use Rattle.c11_events.specs.Steps.{init_entries}
use Rattle.c11_history.specs.declared.history.Race.{Race}

-- its program: what the memory model takes from it, and how many mutexes it has; for how many entries more there is room; the
-- entries, and whether the last of them races
pub record Past : Type 0 where
  pub setting : Setting
  pub mutexes : ℕ
  pub room : ℕ
  pub entries : List Entry
  pub raced : Bool

-- what the memory model takes from a checked program
abbrev pub setting_of : Checked → Setting
setting_of checked = record { atomic = checked.tables.atomics; plain = checked.tables.plains; main = checked.main }

-- a history before its first step
abbrev pub opened : Checked → ℕ → Past
opened checked room = record {
  setting = setting_of checked;
  mutexes = length checked.tables.mutexes;
  room = room;
  entries = init_entries checked.tables.atomics;
  raced = false;
}

-- the operation is no Init, and its cells, mutexes and threads are below their counts
abbrev pub IsWithin : Setting → ℕ → Op → Type 0
IsWithin setting mutexes (op.Init cell value) = ⊥
IsWithin setting mutexes (op.AtomicLoad cell order) = cell < length setting.atomic
IsWithin setting mutexes (op.AtomicStore cell order value) = cell < length setting.atomic
IsWithin setting mutexes (op.Rmw cell order kind operand) = cell < length setting.atomic
IsWithin setting mutexes (op.CompareExchange cell success failure weak expected desired) = cell < length setting.atomic
IsWithin setting mutexes (op.PlainRead cell) = cell < length setting.plain
IsWithin setting mutexes (op.PlainWrite cell value) = cell < length setting.plain
IsWithin setting mutexes (op.MutexInit mutex) = mutex < mutexes
IsWithin setting mutexes (op.Lock mutex) = mutex < mutexes
IsWithin setting mutexes (op.TryLock mutex) = mutex < mutexes
IsWithin setting mutexes (op.Unlock mutex) = mutex < mutexes
IsWithin setting mutexes (op.Join thread) = thread < thread_limit
IsWithin setting mutexes _ = ⊤

-- the stores that are offered to the thread's operation; none where it reads no atomic cell
abbrev pub AreOffers : List Event → ℕ → Op → List ℕ → Type 0
AreOffers events thread op offers = MatchOption (op_cell op) (offers ≡ []) (λ cell. Offered events thread (op_reading events op) cell offers)

-- the race with the last event; none where it races with none
abbrev pub IsRaceOfLast : List Event → Option Race → Type 0
IsRaceOfLast events race = MatchOption race ((cell m : ℕ) → IsRacing events cell (length events) m → ⊥) (λ r. IsRacing events r.cell (length events) r.first)
