-- What a thread is told of its operation (C11 7.17.7 and 7.26; the faults and the limit of threads are this project's own).
use Rattle.std.specs.Prelude.{ℕ, zero, suc, ◌+◌, true, ◌||◌, ℤ, pos, List, [], ◌∷◌, Option, Some, None, filter, filter_map, slice_get, nat_eq, nat_lt, is_none, unwrap_or, if◌then◌else◌}
use Rattle.std.specs.Option.{option_map, option_map_or}
use Rattle.std.specs.Ordering.{int_eq}
use Rattle.c11_num.specs.Ranges.{TypedNumber}
use Rattle.c11_events.specs.declared.cells.CellInfo.{CellInfo}
use Rattle.c11_events.specs.declared.op.Op.{Op}
use Rattle.c11_events.specs.declared.op.Op.TheVariants as op
use Rattle.c11_events.specs.declared.reply.Reply.{Reply}
use Rattle.c11_events.specs.declared.reply.Reply.TheVariants as reply
use Rattle.c11_events.specs.declared.reply.FaultKind.TheVariants as fault
use Rattle.c11_events.specs.declared.event.EventKind.{EventKind}
use Rattle.c11_events.specs.declared.event.EventKind.TheVariants.{PlainWrite, Create, End}
use Rattle.c11_events.specs.declared.event.Event.{Event}
use Rattle.c11_events.specs.Events.{is_create}
use Rattle.c11_events.specs.Threads.{option_is, created, is_joined, is_initialised, holder}
use Rattle.c11_events.specs.Values.{no_value, value_of}

-- what the memory model takes from the program: its atomic and plain cells with their initial values, and the number of main
pub record Setting : Type 0 where
  pub atomic : List CellInfo
  pub plain : List CellInfo
  pub main : ℕ

-- with main
abbrev pub thread_limit : ℕ
thread_limit = 16

abbrev pub initial_of : List CellInfo → ℕ → TypedNumber
initial_of cells cell = unwrap_or (option_map (λ (info : CellInfo). info.initial) (slice_get cells cell)) no_value

-- the last of a list, or this where it is empty
abbrev pub last_or : {X : Type 0} → X → List X → X
last_or x [] = x
last_or x (y ∷ ys) = last_or y ys

-- what an event writes to a plain cell
abbrev pub written_to : ℕ → EventKind → Option TypedNumber
written_to cell (PlainWrite written value) = if nat_eq written cell then Some value else None
written_to cell _ = None

-- what a plain cell holds after the events: the latest value that was written to it, else the first
abbrev pub plain_value : ℕ → TypedNumber → List Event → TypedNumber
plain_value cell first events = last_or first (filter_map (λ (e : Event). written_to cell e.kind) events)

-- what the event ends its thread with
abbrev pub ended_with : EventKind → Option ℤ
ended_with (End value) = Some value
ended_with _ = None

-- the value of the thread's End, the last one if there were several; 0 where there is none
abbrev pub end_value : List Event → ℕ → ℤ
end_value events thread = last_or (pos 0) (filter_map (λ (e : Event). if nat_eq e.thread thread then ended_with e.kind else None) events)

-- what a Create tells its thread
abbrev pub told_by : EventKind → Reply
told_by (Create function argument) = reply.Began function argument
told_by _ = reply.Done

-- main runs the function main with 0; thread u what the u-th Create says
abbrev pub began : Setting → List Event → ℕ → Reply
began setting events zero = reply.Began setting.main (pos 0)
began setting events (suc thread) =
    option_map_or (λ (e : Event). told_by e.kind) (slice_get (filter (λ (e : Event). is_create e.kind) events) thread) reply.Done

-- the reply to the thread's operation after the events; x is the store that is read
abbrev pub answer : Setting → List Event → ℕ → Op → ℕ → Reply
answer setting events thread (op.AtomicLoad cell order) x = reply.Value (value_of events x)
answer setting events thread (op.Rmw cell order kind operand) x = reply.Value (value_of events x)
answer setting events thread (op.CompareExchange cell success failure weak expected desired) x =
    reply.Exchanged (value_of events x) (int_eq (value_of events x).number expected.number)
answer setting events thread (op.PlainRead cell) x = reply.Value (plain_value cell (initial_of setting.plain cell) events)
answer setting events thread (op.MutexInit mutex) x = if is_initialised events mutex then reply.Fault fault.Mutex else reply.Done
answer setting events thread (op.Lock mutex) x = if is_initialised events mutex then reply.Locked true else reply.Fault fault.Mutex
answer setting events thread (op.TryLock mutex) x =
    if is_initialised events mutex then reply.Locked (is_none (holder events mutex)) else reply.Fault fault.Mutex
answer setting events thread (op.Unlock mutex) x =
    if is_initialised events mutex then (if option_is (holder events mutex) thread then reply.Done else reply.Fault fault.Unlock) else reply.Fault fault.Mutex
answer setting events thread (op.Create function argument) x =
    if nat_lt (created events + 1) thread_limit then reply.Created (created events + 1) else reply.Fault fault.Threads
answer setting events thread (op.Join joined) x =
    if nat_eq joined 0 || is_joined events joined then reply.Fault fault.Join else reply.Joined (end_value events joined)
answer setting events thread op.Begin x = began setting events thread
answer setting events thread _ x = reply.Done
