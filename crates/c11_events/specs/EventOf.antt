-- What the memory model sees of an entry.
use Rattle.std.specs.Prelude.{ℕ, true, List, map}
use Rattle.c11_num.specs.Ranges.{TypedNumber}
use Rattle.c11_num.specs.declared.kind.RmwKind.TheVariants.{Exchange}
use Rattle.c11_events.specs.declared.order.Order.{Order}
use Rattle.c11_events.specs.declared.op.Op.{Op}
use Rattle.c11_events.specs.declared.op.Op.TheVariants as op
use Rattle.c11_events.specs.declared.reply.Reply.{Reply}
use Rattle.c11_events.specs.declared.reply.Reply.TheVariants.{Exchanged}
use Rattle.c11_events.specs.declared.entry.Entry.{Entry}
use Rattle.c11_events.specs.declared.event.Event.{Event}
use Rattle.c11_events.specs.declared.event.EventKind.{EventKind}
use Rattle.c11_events.specs.declared.event.EventKind.TheVariants.{Init, AtomicLoad, AtomicStore, Rmw, Fence, PlainRead, PlainWrite, MutexInit, Lock, TryLock, Unlock, Create, Begin, End, Join, Out, Stop}

-- a compare-exchange that wrote is a read-modify-write of its desired value, and one that did not is a load
abbrev pub exchange_kind : ℕ → Order → Order → TypedNumber → Reply → EventKind
exchange_kind cell success failure desired (Exchanged old true) = Rmw cell success Exchange desired
exchange_kind cell success failure desired _ = AtomicLoad cell failure

-- what an operation with this reply is as an event
abbrev pub kind_of : Op → Reply → EventKind
kind_of (op.Init cell value) reply = Init cell value
kind_of (op.AtomicLoad cell order) reply = AtomicLoad cell order
kind_of (op.AtomicStore cell order value) reply = AtomicStore cell order value
kind_of (op.Rmw cell order kind operand) reply = Rmw cell order kind operand
kind_of (op.CompareExchange cell success failure weak expected desired) reply = exchange_kind cell success failure desired reply
kind_of (op.Fence order) reply = Fence order
kind_of (op.PlainRead cell) reply = PlainRead cell
kind_of (op.PlainWrite cell value) reply = PlainWrite cell value
kind_of (op.MutexInit mutex) reply = MutexInit mutex
kind_of (op.Lock mutex) reply = Lock mutex
kind_of (op.TryLock mutex) reply = TryLock mutex
kind_of (op.Unlock mutex) reply = Unlock mutex
kind_of (op.Create function argument) reply = Create function argument
kind_of op.Begin reply = Begin
kind_of (op.End value) reply = End value
kind_of (op.Join thread) reply = Join thread
kind_of (op.Out bytes) reply = Out bytes
kind_of (op.Stop kind) reply = Stop kind

-- the event of an entry
abbrev pub event_of : Entry → Event
event_of e = record { number = e.number; thread = e.thread; kind = kind_of e.op e.reply; from = e.from }

-- the events of a history
abbrev pub events_of : List Entry → List Event
events_of entries = map event_of entries
