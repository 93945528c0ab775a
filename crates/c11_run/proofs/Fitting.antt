-- What threads ask for is the program's own, and what they are told is of its kind.
use Rattle.std.proofs.Common.{◌≡◌, ℕ, zero, suc, ◌+◌, ◌<◌, ◌≤◌, Bool, true, false, nat_eq, nat_lt, ◌||◌, List, Option, Some, None, length, filter, slice_get, refl, sym, ap, ◌∙◌, subst, arith, inl, inr}
use Rattle.std.specs.Prelude.{ℤ, if◌then◌else◌, is_none}
use Rattle.std.specs.Option.{option_map_or}
use Rattle.std.proofs.lemmas.Bool.Decides.{nat_tests}
use Rattle.std.proofs.lemmas.List.Sums.{length-filter}
use Rattle.std.proofs.lemmas.Option.{slice_get_cases, slice_get_within}
use Rattle.c11_check.specs.declared.checked.Checked.{Checked}
use Rattle.c11_check.specs.declared.entity.Signature.{Signature}
use Rattle.c11_check.specs.Lies.{signatures_in}
use Rattle.c11_check.specs.Tables.{Tables}
use Rattle.c11_events.specs.declared.event.Event.{Event}
use Rattle.c11_events.specs.declared.event.EventKind.{EventKind}
use Rattle.c11_events.specs.declared.event.EventKind.TheVariants.{Create}
use Rattle.c11_events.specs.declared.op.Ask.{Ask}
use Rattle.c11_events.specs.declared.op.Op.{Op}
use Rattle.c11_events.specs.declared.op.Op.TheVariants as op
use Rattle.c11_events.specs.declared.reply.FaultKind.{FaultKind}
use Rattle.c11_events.specs.declared.reply.FaultKind.TheVariants as fault
use Rattle.c11_events.specs.declared.reply.Reply.{Reply}
use Rattle.c11_events.specs.declared.reply.Reply.TheVariants as reply
use Rattle.c11_events.specs.Events.{is_create}
use Rattle.c11_events.specs.Replies.{Setting, answer, began, end_value, thread_limit, told_by}
use Rattle.c11_events.specs.Threads.{created, holder, is_initialised, is_joined, option_is}
use Rattle.c11_events.specs.Verdicts.{step_verdict}
use Rattle.c11_machine.specs.Programs.{program_of}
use Rattle.c11_meaning.specs.Asks.{asks_of}
use Rattle.c11_meaning.specs.Legal.{AsksAreLegal, IsOpOf, World}
use Rattle.c11_meaning.specs.Progress.{IsBegun, IsReplyTo}
use Rattle.c11_memory.specs.Execution.{Execution, IsWithin}
use Rattle.c11_run.specs.Going.{CreatesAreNamed, NamesFunction}

-- ---- what is asked for

-- no reply names a thread past the limit
abbrev pub AreFew : List Reply → Type 0
AreFew replies = (i thread : ℕ) → slice_get replies i ≡ Some (reply.Created thread) → thread < thread_limit

abbrev world : Tables → Checked → List Reply → World
world tables checked replies = record { tables = tables; functions = signatures_in checked.program.items; replies = replies }

pub is_own : AsksAreLegal → (checked : Checked) (replies : List Reply) (ask : Ask) → asks_of checked.program replies ≡ Some ask → IsOpOf (world checked.tables checked replies) ask.op
is_own law checked replies ask asks =
    subst (λ (t : Tables). IsOpOf (world t checked replies) ask.op) (sym checked.own) (law checked.program replies ask checked.few checked.faultless asks)

own_within : (m : Execution) (w : World) (o : Op) → length m.setting.atomic ≡ length w.tables.atomics → length m.setting.plain ≡ length w.tables.plains → m.mutexes ≡ length w.tables.mutexes
    → AreFew w.replies → IsOpOf w o → IsWithin m o
own_within m w (op.Init cell value) a p x few own = absurd own
own_within m w (op.AtomicLoad cell order) a p x few own = omega (arith, slice_get_within w.tables.atomics cell own.0 own.1)
own_within m w (op.AtomicStore cell order value) a p x few own = omega (arith, slice_get_within w.tables.atomics cell own.0 own.1.0)
own_within m w (op.Rmw cell order kind operand) a p x few own = omega (arith, slice_get_within w.tables.atomics cell own.0 own.1.0)
own_within m w (op.CompareExchange cell success failure weak expected desired) a p x few own = omega (arith, slice_get_within w.tables.atomics cell own.0.0 own.0.1.0)
own_within m w (op.PlainRead cell) a p x few own = omega (arith, slice_get_within w.tables.plains cell own.0 own.1)
own_within m w (op.PlainWrite cell value) a p x few own = omega (arith, slice_get_within w.tables.plains cell own.0 own.1.0)
own_within m w (op.MutexInit mutex) a p x few own = omega arith
own_within m w (op.Lock mutex) a p x few own = omega arith
own_within m w (op.TryLock mutex) a p x few own = omega arith
own_within m w (op.Unlock mutex) a p x few own = omega arith
own_within m w (op.Join thread) a p x few own = elim (own (λ t i at. omega (arith, few i t at))) [
  | inl zero' ↦ omega arith
  | inr p' ↦ few p'.0 thread p'.1
]
own_within m w _ a p x few own = tt

-- what a thread of the program asks for is within the execution
pub asks_within : AsksAreLegal → (checked : Checked) (m : Execution) (replies : List Reply) (ask : Ask) → m.setting ≡ (program_of checked).setting → m.mutexes ≡ length checked.tables.mutexes
    → AreFew replies → asks_of checked.program replies ≡ Some ask → IsWithin m ask.op
asks_within law checked m replies ask setting mutexes few asks =
    own_within m (world checked.tables checked replies) ask.op (ap (λ (s : Setting). length s.atomic) setting) (ap (λ (s : Setting). length s.plain) setting) mutexes few (is_own law checked replies ask asks)

-- it is no Init
pub own_no_init : (w : World) (cell : ℕ) (o : Op) (value : _) → o ≡ op.Init cell value → IsOpOf w o → ⊥
own_no_init w cell o value is own = subst (IsOpOf w) is own

-- a Create names a function that is there
pub own_named : (w : World) (o : Op) (function : ℕ) (argument : ℤ) → o ≡ op.Create function argument → IsOpOf w o → NamesFunction w.functions (Create function argument)
own_named w o function argument is own = let t : IsOpOf w (op.Create function argument) = subst (IsOpOf w) is own in (t.0, t.1.0)

-- ---- what is told

-- a thread is told of a created one only below the limit
told_no_thread : (kind : EventKind) (n : ℕ) → told_by kind ≡ reply.Created n → ⊥
told_no_thread (Create function argument) n is = cc
told_no_thread _ n is = cc

began_no_thread : (setting : Setting) (events : List Event) (thread n : ℕ) → began setting events thread ≡ reply.Created n → ⊥
began_no_thread setting events zero n is = cc
began_no_thread setting events (suc thread) n is = by_place (slice_get (filter (λ (e : Event). is_create e.kind) events) thread) is
  where
    by_place : (o : Option Event) → option_map_or (λ (e : Event). told_by e.kind) o reply.Done ≡ reply.Created n → ⊥
    by_place None is = cc
    by_place (Some e) is = told_no_thread e.kind n is

fault_or : (b : Bool) (kind : FaultKind) (r : Reply) (n : ℕ) → (if b then reply.Fault kind else r) ≡ reply.Created n → r ≡ reply.Created n
fault_or true kind r n is = cc
fault_or false kind r n is = is

or_fault : (b : Bool) (kind : FaultKind) (r : Reply) (n : ℕ) → (if b then r else reply.Fault kind) ≡ reply.Created n → (b ≡ true) × (r ≡ reply.Created n)
or_fault true kind r n is = (refl, is)
or_fault false kind r n is = cc

pub created_few : (setting : Setting) (events : List Event) (thread : ℕ) (o : Op) (x n : ℕ) → answer setting events thread o x ≡ reply.Created n → n < thread_limit
created_few setting events thread (op.Create function argument) x n is =
    let p = or_fault (nat_lt (created events + 1) thread_limit) fault.Threads (reply.Created (created events + 1)) n is in
    let lt = p.0 in
    let same : created events + 1 ≡ n = let both = p.1 in cc in
    grind (arith, nat_tests)
created_few setting events thread op.Begin x n is = absurd (began_no_thread setting events thread n is)
created_few setting events thread (op.MutexInit mutex) x n is = let t = fault_or (is_initialised events mutex) fault.Mutex reply.Done n is in cc
created_few setting events thread (op.Lock mutex) x n is = let t = (or_fault (is_initialised events mutex) fault.Mutex (reply.Locked true) n is).1 in cc
created_few setting events thread (op.TryLock mutex) x n is = let t = (or_fault (is_initialised events mutex) fault.Mutex (reply.Locked (is_none (holder events mutex))) n is).1 in cc
created_few setting events thread (op.Unlock mutex) x n is =
    let t = (or_fault (is_initialised events mutex) fault.Mutex (if option_is (holder events mutex) thread then reply.Done else reply.Fault fault.Unlock) n is).1 in
    let s = (or_fault (option_is (holder events mutex) thread) fault.Unlock reply.Done n t).1 in cc
created_few setting events thread (op.Join joined) x n is = let t = fault_or (nat_eq joined 0 || is_joined events joined) fault.Join _ n is in cc
created_few setting events thread _ x n is = cc

-- where a Create is no fault, there is room for its thread
pub create_room : (setting : Setting) (events : List Event) (thread function : ℕ) (argument : ℤ) (x : ℕ)
    → step_verdict thread (op.Create function argument) (answer setting events thread (op.Create function argument) x) ≡ None → created events + 1 < thread_limit
create_room setting events thread function argument x says = by_room (nat_lt (created events + 1) thread_limit) refl says
  where
    by_room : (b : Bool) → nat_lt (created events + 1) thread_limit ≡ b → step_verdict thread (op.Create function argument) (if b then reply.Created (created events + 1) else reply.Fault fault.Threads) ≡ None
        → created events + 1 < thread_limit
    by_room true is says = grind (arith, nat_tests)
    by_room false is says = cc

abbrev creates : List Event → List Event
creates events = filter (λ (e : Event). is_create e.kind) events

-- a thread that is created begins in a function that is there
pub began_named : (functions : List Signature) (setting : Setting) (events : List Event) (thread : ℕ) (main : Signature) → slice_get functions setting.main ≡ Some main → CreatesAreNamed functions events
    → thread ≤ created events → IsBegun functions (began setting events thread)
began_named functions setting events zero main is named le = (main, is)
began_named functions setting events (suc thread) main is named le = by_place (slice_get (creates events) thread) refl
  where
    by_kind : (kind : EventKind) → NamesFunction functions kind → IsBegun functions (told_by kind)
    by_kind (Create function argument) n = n
    by_kind _ n = absurd n

    by_place : (o : Option Event) → slice_get (creates events) thread ≡ o → IsBegun functions (option_map_or (λ (e : Event). told_by e.kind) o reply.Done)
    by_place (Some e) at = by_kind e.kind (named thread e at)
    by_place None at = elim (slice_get_cases (creates events) thread).1 [
      | inl p ↦ let clash : None ≡ Some p.0 = sym at ∙ p.2 in cc
      | inr p ↦ absurd (omega (arith, p.0, length-filter (λ (e : Event). is_create e.kind) events))
    ]

-- the answer to an operation that ends neither its thread nor the run is of its kind
module _ (functions : List Signature) (setting : Setting) (events : List Event) (thread x : ℕ) where
  abbrev Fits : Op → Reply → Type 0
  Fits o r = step_verdict thread o r ≡ None → IsReplyTo functions o r

  unless : (b : Bool) (o : Op) (kind : FaultKind) (r : Reply) → Fits o r → Fits o (if b then r else reply.Fault kind)
  unless true o kind r fits says = fits says
  unless false o kind r fits says = cc

  if_not : (b : Bool) (o : Op) (kind : FaultKind) (r : Reply) → Fits o r → Fits o (if b then reply.Fault kind else r)
  if_not true o kind r fits says = cc
  if_not false o kind r fits says = fits says

  pub fits : (o : Op) → IsBegun functions (began setting events thread) → ((cell : ℕ) (value : _) → o ≡ op.Init cell value → ⊥) → ((value : ℤ) → o ≡ op.End value → ⊥) → Fits o (answer setting events thread o x)
  fits (op.Init cell value) begun no_init no_end says = absurd (no_init cell value refl)
  fits (op.AtomicLoad cell order) begun no_init no_end says = tt
  fits (op.AtomicStore cell order value) begun no_init no_end says = tt
  fits (op.Rmw cell order kind operand) begun no_init no_end says = tt
  fits (op.CompareExchange cell success failure weak expected desired) begun no_init no_end says = tt
  fits (op.Fence order) begun no_init no_end says = tt
  fits (op.PlainRead cell) begun no_init no_end says = tt
  fits (op.PlainWrite cell value) begun no_init no_end says = tt
  fits (op.MutexInit mutex) begun no_init no_end says = if_not (is_initialised events mutex) (op.MutexInit mutex) fault.Mutex reply.Done (λ says. tt) says
  fits (op.Lock mutex) begun no_init no_end says = unless (is_initialised events mutex) (op.Lock mutex) fault.Mutex (reply.Locked true) (λ says. tt) says
  fits (op.TryLock mutex) begun no_init no_end says = unless (is_initialised events mutex) (op.TryLock mutex) fault.Mutex (reply.Locked (is_none (holder events mutex))) (λ says. tt) says
  fits (op.Unlock mutex) begun no_init no_end says =
      unless (is_initialised events mutex) (op.Unlock mutex) fault.Mutex (if option_is (holder events mutex) thread then reply.Done else reply.Fault fault.Unlock)
      (unless (option_is (holder events mutex) thread) (op.Unlock mutex) fault.Unlock reply.Done (λ says. tt)) says
  fits (op.Create function argument) begun no_init no_end says = unless (nat_lt (created events + 1) thread_limit) (op.Create function argument) fault.Threads (reply.Created (created events + 1)) (λ says. tt) says
  fits op.Begin begun no_init no_end says = begun
  fits (op.End value) begun no_init no_end says = absurd (no_end value refl)
  fits (op.Join joined) begun no_init no_end says = if_not (nat_eq joined 0 || is_joined events joined) (op.Join joined) fault.Join (reply.Joined (end_value events joined)) (λ says. tt) says
  fits (op.Out bytes) begun no_init no_end says = tt
  fits (op.Stop kind) begun no_init no_end says = cc
