-- Threads and mutexes, as the events so far leave them (C11 7.26).
use Rattle.std.specs.Prelude.{ℕ, ◌≡◌, ◌≤◌, Bool, false, ◌&&◌, List, [], ◌∷◌, Option, Some, None, count_by, nat_eq, nat_lt, not, if◌then◌else◌}
use Rattle.std.specs.List.{list_any}
use Rattle.c11_events.specs.declared.event.Event.{Event}
use Rattle.c11_events.specs.declared.op.Op.{Op}
use Rattle.c11_events.specs.declared.op.Op.TheVariants as op
use Rattle.c11_events.specs.declared.reply.Holder.{Holder}
use Rattle.c11_events.specs.declared.reply.Holder.TheVariants as waits
use Rattle.c11_events.specs.Events.{initialised_mutex, locked_mutex, unlocked_mutex, is_create, is_end, joined_thread}

abbrev pub option_is : Option ℕ → ℕ → Bool
option_is None n = false
option_is (Some m) n = nat_eq m n

-- how many threads the events create; the u-th Create makes thread u, and main is thread 0
abbrev pub created : List Event → ℕ
created events = count_by (λ e. is_create e.kind) events

-- whether the thread has ended
abbrev pub has_ended : List Event → ℕ → Bool
has_ended events thread = list_any (λ e. nat_eq e.thread thread && is_end e.kind) events

-- whether some thread has joined this one
abbrev pub is_joined : List Event → ℕ → Bool
is_joined events thread = list_any (λ e. option_is (joined_thread e.kind) thread) events

-- whether the mutex is initialised; nothing makes it uninitialised again
abbrev pub is_initialised : List Event → ℕ → Bool
is_initialised events mutex = list_any (λ e. option_is (initialised_mutex e.kind) mutex) events

-- who holds the mutex after an event, by who held it before
abbrev pub holder_next : Option ℕ → ℕ → Event → Option ℕ
holder_next None mutex e = if option_is (locked_mutex e.kind) mutex then Some e.thread else None
holder_next (Some u) mutex e = if option_is (unlocked_mutex e.kind) mutex then (if nat_eq e.thread u then None else Some u) else Some u

abbrev pub holder_from : Option ℕ → ℕ → List Event → Option ℕ
holder_from held mutex [] = held
holder_from held mutex (e ∷ es) = holder_from (holder_next held mutex e) mutex es

-- who holds the mutex after the events: the thread that last found it free and did not unlock it since
abbrev pub holder : List Event → ℕ → Option ℕ
holder events mutex = holder_from None mutex events

abbrev pub held_by : ℕ → Option ℕ → Option Holder
held_by mutex None = None
held_by mutex (Some owner) = Some (waits.Mutex mutex owner)

-- what the thread's operation waits for, if it is blocked
abbrev pub blocked_by : List Event → ℕ → Op → Option Holder
blocked_by events thread (op.Lock mutex) = if is_initialised events mutex then held_by mutex (holder events mutex) else None
blocked_by events thread (op.Join joined) = if nat_lt 0 joined && not (has_ended events joined) then Some (waits.Join joined) else None
blocked_by events thread op.Begin = if nat_lt (created events) thread then Some waits.Unborn else None
blocked_by events thread _ = None

-- the thread is created, as main is from the start, and has not ended
pub record IsLive (events : List Event) (thread : ℕ) : Type 0 where
  pub started : thread ≤ created events
  pub going : has_ended events thread ≡ false
