-- A thread that was told what it asked for goes on to ask.
use Rattle.std.specs.Prelude.{◌≡◌, ◌<◌, ◌^◌, ⊤, true, List, [], ◌∷◌, ◌++◌, length, Some, None, slice_get}
use Rattle.c11_ast.specs.declared.item.Program.{Program}
use Rattle.c11_events.specs.declared.op.Ask.{Ask}
use Rattle.c11_events.specs.declared.op.Op.{Op}
use Rattle.c11_events.specs.declared.op.Op.TheVariants as op
use Rattle.c11_events.specs.declared.reply.Reply.{Reply}
use Rattle.c11_events.specs.declared.reply.Reply.TheVariants as reply
use Rattle.c11_check.specs.declared.entity.Signature.{Signature}
use Rattle.c11_check.specs.Programs.{HasNoFault}
use Rattle.c11_check.specs.Lies.{signatures_in}
use Rattle.c11_meaning.specs.Asks.{asks_of}

abbrev pub IsDone : Reply → Type 0
IsDone reply.Done = ⊤
IsDone _ = ⊥

abbrev pub IsValue : Reply → Type 0
IsValue (reply.Value value) = ⊤
IsValue _ = ⊥

abbrev pub IsExchanged : Reply → Type 0
IsExchanged (reply.Exchanged old success) = ⊤
IsExchanged _ = ⊥

-- the mutex is the thread's now
abbrev pub IsLocked : Reply → Type 0
IsLocked (reply.Locked true) = ⊤
IsLocked _ = ⊥

-- whether it is
abbrev pub IsTried : Reply → Type 0
IsTried (reply.Locked mine) = ⊤
IsTried _ = ⊥

abbrev pub IsCreated : Reply → Type 0
IsCreated (reply.Created thread) = ⊤
IsCreated _ = ⊥

abbrev pub IsJoined : Reply → Type 0
IsJoined (reply.Joined value) = ⊤
IsJoined _ = ⊥

-- it names a function that is there
abbrev pub IsBegun : List Signature → Reply → Type 0
IsBegun functions (reply.Began function argument) = (signature : Signature) × (slice_get functions function ≡ Some signature)
IsBegun functions _ = ⊥

-- The reply is of the kind of the operation. Nothing goes on after an End, a Stop and a Fault.
abbrev pub IsReplyTo : List Signature → Op → Reply → Type 0
IsReplyTo functions op.Begin r = IsBegun functions r
IsReplyTo functions (op.AtomicLoad cell order) r = IsValue r
IsReplyTo functions (op.AtomicStore cell order value) r = IsDone r
IsReplyTo functions (op.Rmw cell order kind operand) r = IsValue r
IsReplyTo functions (op.CompareExchange cell success failure weak expected desired) r = IsExchanged r
IsReplyTo functions (op.Fence order) r = IsDone r
IsReplyTo functions (op.PlainRead cell) r = IsValue r
IsReplyTo functions (op.PlainWrite cell value) r = IsDone r
IsReplyTo functions (op.MutexInit mutex) r = IsDone r
IsReplyTo functions (op.Lock mutex) r = IsLocked r
IsReplyTo functions (op.TryLock mutex) r = IsTried r
IsReplyTo functions (op.Unlock mutex) r = IsDone r
IsReplyTo functions (op.Create function argument) r = IsCreated r
IsReplyTo functions (op.Join thread) r = IsJoined r
IsReplyTo functions (op.Out bytes) r = IsDone r
IsReplyTo functions (op.Init cell value) r = ⊥
IsReplyTo functions (op.End value) r = ⊥
IsReplyTo functions (op.Stop kind) r = ⊥

abbrev pub IsFault : Reply → Type 0
IsFault (reply.Fault fault) = ⊤
IsFault _ = ⊥

-- nothing comes after an End, after a Stop, and after a Fault
abbrev pub Ends : Op → Reply → Type 0
Ends (op.End value) r = ⊤
Ends (op.Stop kind) r = ⊤
Ends _ r = IsFault r

abbrev pub AsksNoMore : Type 0
AsksNoMore = (program : Program) (replies : List Reply) (ask : Ask) (r : Reply) → length program.items < 2 ^ 32 → HasNoFault program → asks_of program replies ≡ Some ask → Ends ask.op r
    → asks_of program (replies ++ r ∷ []) ≡ None

-- Where a thread of a program without a fault wants something, and is told what is of its kind, it wants something again.
abbrev pub AsksAgain : Type 0
AsksAgain = (program : Program) (replies : List Reply) (ask : Ask) (r : Reply) → length program.items < 2 ^ 32 → HasNoFault program → asks_of program replies ≡ Some ask → IsReplyTo (signatures_in program.items) ask.op r
    → (next : Ask) × (asks_of program (replies ++ r ∷ []) ≡ Some next)
