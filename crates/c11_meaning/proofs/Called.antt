-- Calls, and whole expressions: a further reply changes nothing before it is taken, and where it is of the kind that was asked for, they go on.
use Rattle.std.proofs.Common.{◌≡◌, ℕ, Bool, true, false, List, [], ◌∷◌, map, length, Option, Some, None, refl, subst, arith, ℤ, pos}
use Rattle.c11_num.specs.Ranges.{TypedNumber}
use Rattle.c11_num.specs.Wrapping.{converted}
use Rattle.c11_num.specs.declared.value.CType.{CType}
use Rattle.c11_num.specs.declared.value.CType.TheVariants.{Long}
use Rattle.c11_num.specs.declared.kind.RmwKind.{RmwKind}
use Rattle.c11_ast.specs.declared.place.Word.{Word}
use Rattle.c11_ast.specs.declared.expr.Expr.{Expr, roll-Expr}
use Rattle.c11_ast.specs.declared.expr.Arg.{Arg, roll-Arg}
use Rattle.c11_ast.specs.declared.expr.Link.{Link, roll-Link}
use Rattle.c11_ast.specs.declared.expr.Target.{Target, roll-Target}
use Rattle.c11_ast.specs.declared.expr.Arg.TheOpen.{Arg-F, Expr-F, Link-F, Target-F}
use Rattle.c11_ast.specs.declared.expr.Arg.TheFolds.{fold-Arg, fold-Link, fold-Target, map-Arg, map-Expr, map-Link, map-Target, ind-Expr, fold-roll-Arg, fold-roll-Expr, fold-roll-Link, fold-roll-Target}
use Rattle.c11_events.specs.declared.op.Op.{Op}
use Rattle.c11_events.specs.declared.op.Op.TheVariants as op
use Rattle.c11_events.specs.declared.op.StopKind.TheVariants as kind
use Rattle.c11_events.specs.declared.reply.Reply.{Reply}
use Rattle.c11_events.specs.declared.reply.Reply.TheVariants as reply
use Rattle.c11_check.specs.declared.entity.Entity.{Entity}
use Rattle.c11_check.specs.declared.entity.Entity.TheVariants as e
use Rattle.c11_check.specs.declared.entity.Signature.{Signature}
use Rattle.c11_check.specs.declared.format.Within.TheVariants.{Plain}
use Rattle.c11_check.specs.declared.library.Library.{Library}
use Rattle.c11_check.specs.declared.library.Library.TheVariants as l
use Rattle.c11_check.specs.Scopes.{Scope, denoted}
use Rattle.c11_check.specs.Types.{entity_type}
use Rattle.c11_check.specs.Tables.{Tables}
use Rattle.c11_check.specs.Lies.{LiesIn}
use Rattle.c11_check.proofs.Grown.{Lies}
use Rattle.c11_meaning.specs.Outcome.{State, Outcome, Gives, and_then, operation, told, when_done, left}
use Rattle.c11_meaning.specs.Objects.{int_of, nothing, is_zero, local_value}
use Rattle.c11_meaning.specs.Parts.{Object, Part, Given, Linked, entity_of, given_object, given_entity, order_in, second_order_in, function_named, arg_step, link_step, target_step, part_step}
use Rattle.c11_meaning.specs.Expressions.{Calls, Valuing, located, cast}
use Rattle.c11_meaning.specs.Library.{value_given, loading, object_value, storing, modifying, exchanged, comparing, zero_number, when_locked, tried, created, creating, joined, answer_place, handle_read, thread_of, joining, asserting, values_given, printing, library_call, call}
use Rattle.c11_meaning.specs.Prints.{printed}
use Rattle.c11_meaning.specs.Evaluation.{value_step, part_of}
use Rattle.c11_meaning.specs.Progress.{IsReplyTo, Ends, IsFault, IsExchanged, IsLocked, IsTried, IsCreated, IsJoined}
use Rattle.c11_meaning.proofs.Awaiting.{with_more, Below, Awaits, IsOver, Beside, Runs, Goes, runs_bind, runs_gives, runs_if, runs_operation, runs_stop, goes_told, goes_done}
use Rattle.c11_meaning.proofs.Going.{CallsRun, ValueRuns, ObjectRuns, named, indexed, MayRun, PartRuns, GivenRuns, LinkRuns, linked, AllRun, AllLinks, runs_located, runs_reading, runs_assigning, runs_stepping, runs_prefixed, runs_condition, runs_chained}

module _ (fs : List Signature) where
  -- ---- behind operations

  goes_exchanged : (o : Op) (place : ℕ) → ((r : Reply) → IsReplyTo fs o r → IsExchanged r) → ((r : Reply) → Ends o r → IsFault r) → Goes fs o (exchanged place)
  goes_exchanged o place kind fault = record { less = less; more = more; fits = λ r st is none. fits r st (kind r is) none; ends = λ r st is. ends r st (fault r is) }
    where
      ends : (r : Reply) (st : State) → IsFault r → IsOver fs (exchanged place r st)
      ends (reply.Fault f) st is = IsOver.over
      ends (reply.Value v) st is = absurd is
      ends reply.Done st is = absurd is
      ends (reply.Exchanged old success) st is = absurd is
      ends (reply.Locked mine) st is = absurd is
      ends (reply.Created thread) st is = absurd is
      ends (reply.Began function argument) st is = absurd is
      ends (reply.Joined v) st is = absurd is

      less : (r : Reply) (st : State) → Below fs (left st) (exchanged place r st)
      less (reply.Exchanged old true) st = Below.gives (omega arith)
      less (reply.Exchanged old false) st = Below.gives (omega arith)
      less reply.Done st = Below.over
      less (reply.Value v) st = Below.over
      less (reply.Locked mine) st = Below.over
      less (reply.Created thread) st = Below.over
      less (reply.Began function argument) st = Below.over
      less (reply.Joined v) st = Below.over
      less (reply.Fault fault) st = Below.over

      more : (x r : Reply) (st : State) → Beside fs x (exchanged place r st) (exchanged place r (with_more x st))
      more x (reply.Exchanged old true) st = Beside.gives
      more x (reply.Exchanged old false) st = Beside.gives
      more x reply.Done st = Beside.over
      more x (reply.Value v) st = Beside.over
      more x (reply.Locked mine) st = Beside.over
      more x (reply.Created thread) st = Beside.over
      more x (reply.Began function argument) st = Beside.over
      more x (reply.Joined v) st = Beside.over
      more x (reply.Fault fault) st = Beside.over

      fits : (r : Reply) (st : State) → IsExchanged r → st.replies ≡ [] → Awaits fs (exchanged place r st)
      fits (reply.Exchanged old true) st is none = Awaits.gives none
      fits (reply.Exchanged old false) st is none = Awaits.gives none
      fits reply.Done st is none = absurd is
      fits (reply.Value v) st is none = absurd is
      fits (reply.Locked mine) st is none = absurd is
      fits (reply.Created thread) st is none = absurd is
      fits (reply.Began function argument) st is none = absurd is
      fits (reply.Joined v) st is none = absurd is
      fits (reply.Fault fault) st is none = absurd is

  goes_locked : (o : Op) → ((r : Reply) → IsReplyTo fs o r → IsLocked r) → ((r : Reply) → Ends o r → IsFault r) → Goes fs o when_locked
  goes_locked o kind fault = record { less = less; more = more; fits = λ r st is none. fits r st (kind r is) none; ends = λ r st is. ends r st (fault r is) }
    where
      ends : (r : Reply) (st : State) → IsFault r → IsOver fs (when_locked r st)
      ends (reply.Fault f) st is = IsOver.over
      ends (reply.Value v) st is = absurd is
      ends reply.Done st is = absurd is
      ends (reply.Exchanged old success) st is = absurd is
      ends (reply.Locked mine) st is = absurd is
      ends (reply.Created thread) st is = absurd is
      ends (reply.Began function argument) st is = absurd is
      ends (reply.Joined v) st is = absurd is

      less : (r : Reply) (st : State) → Below fs (left st) (when_locked r st)
      less (reply.Locked true) st = Below.gives (omega arith)
      less (reply.Locked false) st = Below.over
      less reply.Done st = Below.over
      less (reply.Value v) st = Below.over
      less (reply.Exchanged old success) st = Below.over
      less (reply.Created thread) st = Below.over
      less (reply.Began function argument) st = Below.over
      less (reply.Joined v) st = Below.over
      less (reply.Fault fault) st = Below.over

      more : (x r : Reply) (st : State) → Beside fs x (when_locked r st) (when_locked r (with_more x st))
      more x (reply.Locked true) st = Beside.gives
      more x (reply.Locked false) st = Beside.over
      more x reply.Done st = Beside.over
      more x (reply.Value v) st = Beside.over
      more x (reply.Exchanged old success) st = Beside.over
      more x (reply.Created thread) st = Beside.over
      more x (reply.Began function argument) st = Beside.over
      more x (reply.Joined v) st = Beside.over
      more x (reply.Fault fault) st = Beside.over

      fits : (r : Reply) (st : State) → IsLocked r → st.replies ≡ [] → Awaits fs (when_locked r st)
      fits (reply.Locked true) st is none = Awaits.gives none
      fits (reply.Locked false) st is none = absurd is
      fits reply.Done st is none = absurd is
      fits (reply.Value v) st is none = absurd is
      fits (reply.Exchanged old success) st is none = absurd is
      fits (reply.Created thread) st is none = absurd is
      fits (reply.Began function argument) st is none = absurd is
      fits (reply.Joined v) st is none = absurd is
      fits (reply.Fault fault) st is none = absurd is

  goes_tried : (o : Op) → ((r : Reply) → IsReplyTo fs o r → IsTried r) → ((r : Reply) → Ends o r → IsFault r) → Goes fs o tried
  goes_tried o kind fault = record { less = less; more = more; fits = λ r st is none. fits r st (kind r is) none; ends = λ r st is. ends r st (fault r is) }
    where
      ends : (r : Reply) (st : State) → IsFault r → IsOver fs (tried r st)
      ends (reply.Fault f) st is = IsOver.over
      ends (reply.Value v) st is = absurd is
      ends reply.Done st is = absurd is
      ends (reply.Exchanged old success) st is = absurd is
      ends (reply.Locked mine) st is = absurd is
      ends (reply.Created thread) st is = absurd is
      ends (reply.Began function argument) st is = absurd is
      ends (reply.Joined v) st is = absurd is

      less : (r : Reply) (st : State) → Below fs (left st) (tried r st)
      less (reply.Locked true) st = Below.gives (omega arith)
      less (reply.Locked false) st = Below.gives (omega arith)
      less reply.Done st = Below.over
      less (reply.Value v) st = Below.over
      less (reply.Exchanged old success) st = Below.over
      less (reply.Created thread) st = Below.over
      less (reply.Began function argument) st = Below.over
      less (reply.Joined v) st = Below.over
      less (reply.Fault fault) st = Below.over

      more : (x r : Reply) (st : State) → Beside fs x (tried r st) (tried r (with_more x st))
      more x (reply.Locked true) st = Beside.gives
      more x (reply.Locked false) st = Beside.gives
      more x reply.Done st = Beside.over
      more x (reply.Value v) st = Beside.over
      more x (reply.Exchanged old success) st = Beside.over
      more x (reply.Created thread) st = Beside.over
      more x (reply.Began function argument) st = Beside.over
      more x (reply.Joined v) st = Beside.over
      more x (reply.Fault fault) st = Beside.over

      fits : (r : Reply) (st : State) → IsTried r → st.replies ≡ [] → Awaits fs (tried r st)
      fits (reply.Locked true) st is none = Awaits.gives none
      fits (reply.Locked false) st is none = Awaits.gives none
      fits reply.Done st is none = absurd is
      fits (reply.Value v) st is none = absurd is
      fits (reply.Exchanged old success) st is none = absurd is
      fits (reply.Created thread) st is none = absurd is
      fits (reply.Began function argument) st is none = absurd is
      fits (reply.Joined v) st is none = absurd is
      fits (reply.Fault fault) st is none = absurd is

  goes_created : (o : Op) (place : ℕ) → ((r : Reply) → IsReplyTo fs o r → IsCreated r) → ((r : Reply) → Ends o r → IsFault r) → Goes fs o (created place)
  goes_created o place kind fault = record { less = less; more = more; fits = λ r st is none. fits r st (kind r is) none; ends = λ r st is. ends r st (fault r is) }
    where
      ends : (r : Reply) (st : State) → IsFault r → IsOver fs (created place r st)
      ends (reply.Fault f) st is = IsOver.over
      ends (reply.Value v) st is = absurd is
      ends reply.Done st is = absurd is
      ends (reply.Exchanged old success) st is = absurd is
      ends (reply.Locked mine) st is = absurd is
      ends (reply.Created thread) st is = absurd is
      ends (reply.Began function argument) st is = absurd is
      ends (reply.Joined v) st is = absurd is

      less : (r : Reply) (st : State) → Below fs (left st) (created place r st)
      less (reply.Created thread) st = Below.gives (omega arith)
      less reply.Done st = Below.over
      less (reply.Value v) st = Below.over
      less (reply.Exchanged old success) st = Below.over
      less (reply.Locked mine) st = Below.over
      less (reply.Began function argument) st = Below.over
      less (reply.Joined v) st = Below.over
      less (reply.Fault fault) st = Below.over

      more : (x r : Reply) (st : State) → Beside fs x (created place r st) (created place r (with_more x st))
      more x (reply.Created thread) st = Beside.gives
      more x reply.Done st = Beside.over
      more x (reply.Value v) st = Beside.over
      more x (reply.Exchanged old success) st = Beside.over
      more x (reply.Locked mine) st = Beside.over
      more x (reply.Began function argument) st = Beside.over
      more x (reply.Joined v) st = Beside.over
      more x (reply.Fault fault) st = Beside.over

      fits : (r : Reply) (st : State) → IsCreated r → st.replies ≡ [] → Awaits fs (created place r st)
      fits (reply.Created thread) st is none = Awaits.gives none
      fits reply.Done st is none = absurd is
      fits (reply.Value v) st is none = absurd is
      fits (reply.Exchanged old success) st is none = absurd is
      fits (reply.Locked mine) st is none = absurd is
      fits (reply.Began function argument) st is none = absurd is
      fits (reply.Joined v) st is none = absurd is
      fits (reply.Fault fault) st is none = absurd is

  -- what a join leaves
  joined_less : (answer : Option ℕ) (r : Reply) (st : State) → Below fs (left st) (joined answer r st)
  joined_less None (reply.Joined v) st = Below.gives (omega arith)
  joined_less (Some place) (reply.Joined v) st = Below.gives (omega arith)
  joined_less None reply.Done st = Below.over
  joined_less None (reply.Value v) st = Below.over
  joined_less None (reply.Exchanged old success) st = Below.over
  joined_less None (reply.Locked mine) st = Below.over
  joined_less None (reply.Created thread) st = Below.over
  joined_less None (reply.Began function argument) st = Below.over
  joined_less None (reply.Fault fault) st = Below.over
  joined_less (Some place) reply.Done st = Below.over
  joined_less (Some place) (reply.Value v) st = Below.over
  joined_less (Some place) (reply.Exchanged old success) st = Below.over
  joined_less (Some place) (reply.Locked mine) st = Below.over
  joined_less (Some place) (reply.Created thread) st = Below.over
  joined_less (Some place) (reply.Began function argument) st = Below.over
  joined_less (Some place) (reply.Fault fault) st = Below.over

  joined_more : (answer : Option ℕ) (x r : Reply) (st : State) → Beside fs x (joined answer r st) (joined answer r (with_more x st))
  joined_more None x (reply.Joined v) st = Beside.gives
  joined_more (Some place) x (reply.Joined v) st = Beside.gives
  joined_more None x reply.Done st = Beside.over
  joined_more None x (reply.Value v) st = Beside.over
  joined_more None x (reply.Exchanged old success) st = Beside.over
  joined_more None x (reply.Locked mine) st = Beside.over
  joined_more None x (reply.Created thread) st = Beside.over
  joined_more None x (reply.Began function argument) st = Beside.over
  joined_more None x (reply.Fault fault) st = Beside.over
  joined_more (Some place) x reply.Done st = Beside.over
  joined_more (Some place) x (reply.Value v) st = Beside.over
  joined_more (Some place) x (reply.Exchanged old success) st = Beside.over
  joined_more (Some place) x (reply.Locked mine) st = Beside.over
  joined_more (Some place) x (reply.Created thread) st = Beside.over
  joined_more (Some place) x (reply.Began function argument) st = Beside.over
  joined_more (Some place) x (reply.Fault fault) st = Beside.over

  joined_fits : (answer : Option ℕ) (r : Reply) (st : State) → IsJoined r → st.replies ≡ [] → Awaits fs (joined answer r st)
  joined_fits None (reply.Joined v) st is none = Awaits.gives none
  joined_fits (Some place) (reply.Joined v) st is none = Awaits.gives none
  joined_fits answer reply.Done st is none = absurd is
  joined_fits answer (reply.Value v) st is none = absurd is
  joined_fits answer (reply.Exchanged old success) st is none = absurd is
  joined_fits answer (reply.Locked mine) st is none = absurd is
  joined_fits answer (reply.Created thread) st is none = absurd is
  joined_fits answer (reply.Began function argument) st is none = absurd is
  joined_fits answer (reply.Fault fault) st is none = absurd is

  joined_ends : (answer : Option ℕ) (r : Reply) (st : State) → IsFault r → IsOver fs (joined answer r st)
  joined_ends None (reply.Fault f) st is = IsOver.over
  joined_ends (Some place) (reply.Fault f) st is = IsOver.over
  joined_ends answer (reply.Joined v) st is = absurd is
  joined_ends answer reply.Done st is = absurd is
  joined_ends answer (reply.Value v) st is = absurd is
  joined_ends answer (reply.Exchanged old success) st is = absurd is
  joined_ends answer (reply.Locked mine) st is = absurd is
  joined_ends answer (reply.Created thread) st is = absurd is
  joined_ends answer (reply.Began function argument) st is = absurd is

  goes_joined : (o : Op) (answer : Option ℕ) → ((r : Reply) → IsReplyTo fs o r → IsJoined r) → ((r : Reply) → Ends o r → IsFault r) → Goes fs o (joined answer)
  goes_joined o answer kind fault = record { less = joined_less answer; more = joined_more answer; fits = λ r st is none. joined_fits answer r st (kind r is) none; ends = λ r st is. joined_ends answer r st (fault r is) }

  module _ (t : Tables) (calls : Calls) (called : CallsRun fs calls) where
    -- ---- values

    runs_given : (g : Given Valuing) (scope : Scope) → GivenRuns fs t calls g → Lies t fs scope → Runs fs (value_given g scope calls)
    runs_given _ scope (GivenRuns.address d) lies = runs_gives fs nothing
    runs_given _ scope (GivenRuns.text bytes) lies = runs_gives fs nothing
    runs_given _ scope (GivenRuns.of_value d) lies = d.value scope lies

    runs_values : (gs : List (Given Valuing)) (scope : Scope) → AllRun fs t calls gs → Lies t fs scope → Runs fs (values_given gs scope calls)
    runs_values _ scope AllRun.nil lies = runs_gives fs []
    runs_values _ scope (AllRun.cons {g = g} {gs = gs} d ds) lies = runs_bind fs (runs_given g scope d lies) (λ v. runs_bind fs (runs_values gs scope ds lies) (λ vs. runs_gives fs (v ∷ vs)))

    runs_nothing : Runs fs (λ st. Gives nothing st)
    runs_nothing = runs_gives fs nothing

    -- ---- operations of the library

    runs_loading : (line : ℕ) (a : Object Valuing) (orders : List (Given Valuing)) (scope : Scope) → ObjectRuns fs t calls a → Lies t fs scope → Runs fs (loading line a orders scope calls)
    runs_loading line a orders scope d lies = runs_bind fs (runs_located fs t calls a scope d lies) (λ cell. runs_operation fs line (λ locals. op.AtomicLoad cell (order_in orders scope)) (λ locals. told) (λ locals. goes_told fs (op.AtomicLoad cell (order_in orders scope)) (λ r is. is) (λ r is. is)))

    runs_storing : (line : ℕ) (a : Object Valuing) (g : Given Valuing) (orders : List (Given Valuing)) (scope : Scope) → ObjectRuns fs t calls a → GivenRuns fs t calls g → Lies t fs scope → Runs fs (storing line a g orders scope calls)
    runs_storing line a g orders scope d dg lies = runs_bind fs (runs_located fs t calls a scope d lies) (λ cell. runs_bind fs (runs_given g scope dg lies) (λ v.
        runs_operation fs line (λ locals. op.AtomicStore cell (order_in orders scope) (object_value a scope v)) (λ locals. when_done nothing) (λ locals. goes_done fs (op.AtomicStore cell (order_in orders scope) (object_value a scope v)) nothing (λ r is. is) (λ r is. is))))

    runs_modifying : (line : ℕ) (k : RmwKind) (a : Object Valuing) (g : Given Valuing) (orders : List (Given Valuing)) (scope : Scope) → ObjectRuns fs t calls a → GivenRuns fs t calls g → Lies t fs scope → Runs fs (modifying line k a g orders scope calls)
    runs_modifying line k a g orders scope d dg lies = runs_bind fs (runs_located fs t calls a scope d lies) (λ cell. runs_bind fs (runs_given g scope dg lies) (λ v.
        runs_operation fs line (λ locals. op.Rmw cell (order_in orders scope) k (object_value a scope v)) (λ locals. told) (λ locals. goes_told fs (op.Rmw cell (order_in orders scope) k (object_value a scope v)) (λ r is. is) (λ r is. is))))

    expected_in : CType → ℕ → List ℤ → TypedNumber
    expected_in ctype place locals = local_value ctype (record { locals = locals; replies = []; turns = 0 }) place

    runs_comparing : (line : ℕ) (weak : Bool) (a x : Object Valuing) (g : Given Valuing) (orders : List (Given Valuing)) (scope : Scope) → ObjectRuns fs t calls a → ObjectRuns fs t calls x → GivenRuns fs t calls g → Lies t fs scope → Runs fs (comparing line weak a x g orders scope calls)
    unfolding expected_in
    runs_comparing line weak a x g orders scope d dx dg lies = runs_bind fs (runs_located fs t calls a scope d lies) (λ cell. runs_bind fs (runs_located fs t calls x scope dx lies) (λ place. runs_bind fs (runs_given g scope dg lies) (λ v.
        let o : List ℤ → Op = λ locals. op.CompareExchange cell (order_in orders scope) (second_order_in orders scope) weak (expected_in (entity_type (entity_of x scope)) place locals) (object_value a scope v) in
        runs_operation fs line o (λ locals. exchanged place) (λ locals. goes_exchanged (o locals) place (λ r is. is) (λ r is. is)))))

    runs_mutex : (line : ℕ) (o : ℕ → Op) (go : Reply → State → Outcome TypedNumber) (m : Object Valuing) (scope : Scope) → ObjectRuns fs t calls m → ((mutex : ℕ) → Goes fs (o mutex) go) → Lies t fs scope → Runs fs (λ st. and_then (located m scope calls st) (λ mutex st. operation line (o mutex) st go))
    runs_mutex line o go m scope d goes lies = runs_bind fs (runs_located fs t calls m scope d lies) (λ mutex. runs_operation fs line (λ locals. o mutex) (λ locals. go) (λ locals. goes mutex))

    runs_creating : (line : ℕ) (handle : Object Valuing) (function g : Given Valuing) (scope : Scope) → ObjectRuns fs t calls handle → GivenRuns fs t calls g → Lies t fs scope → Runs fs (creating line handle function g scope calls)
    runs_creating line handle function g scope d dg lies = runs_bind fs (runs_located fs t calls handle scope d lies) (λ place. runs_bind fs (runs_given g scope dg lies) (λ v.
        let o = op.Create (function_named (given_entity function scope)) (converted Long v).number in runs_operation fs line (λ locals. o) (λ locals. created place) (λ locals. goes_created o place (λ r is. is) (λ r is. is))))

    runs_handle : (object : Option (Object Valuing)) (scope : Scope) → MayRun fs t calls object → Lies t fs scope → Runs fs (handle_read object scope calls)
    runs_handle _ scope MayRun.none lies = runs_bind fs (runs_gives fs 0) (λ place. record { less = λ st. Below.gives (omega arith); alone = λ st is. Awaits.gives is; more = λ x st. Beside.gives })
    runs_handle _ scope (MayRun.some {o = o} d) lies = runs_bind fs (runs_located fs t calls o scope d lies) (λ place. record { less = λ st. Below.gives (omega arith); alone = λ st is. Awaits.gives is; more = λ x st. Beside.gives })

    given_may : (g : Given Valuing) → GivenRuns fs t calls g → MayRun fs t calls (given_object g)
    given_may _ (GivenRuns.address d) = MayRun.none
    given_may _ (GivenRuns.text bytes) = MayRun.none
    given_may _ (GivenRuns.of_value d) = d.object

    runs_answer : (g : Given Valuing) (scope : Scope) → GivenRuns fs t calls g → Lies t fs scope → Runs fs (answer_place g scope calls)
    runs_answer _ scope (GivenRuns.address {o = o} d) lies = runs_bind fs (runs_located fs t calls o scope d lies) (λ place. runs_gives fs (Some place))
    runs_answer _ scope (GivenRuns.text bytes) lies = runs_gives fs None
    runs_answer _ scope (GivenRuns.of_value d) lies = runs_gives fs None

    runs_joining : (line : ℕ) (handle answer : Given Valuing) (scope : Scope) → GivenRuns fs t calls handle → GivenRuns fs t calls answer → Lies t fs scope → Runs fs (joining line handle answer scope calls)
    runs_joining line handle answer scope d da lies = runs_bind fs (runs_handle (given_object handle) scope (given_may handle d) lies) (λ thread. runs_bind fs (runs_answer answer scope da lies) (λ place.
        runs_operation fs line (λ locals. op.Join (thread_of thread)) (λ locals. joined place) (λ locals. goes_joined (op.Join (thread_of thread)) place (λ r is. is) (λ r is. is))))

    runs_asserting : (line : ℕ) (g : Given Valuing) (scope : Scope) → GivenRuns fs t calls g → Lies t fs scope → Runs fs (asserting line g scope calls)
    runs_asserting line g scope d lies = runs_bind fs (runs_given g scope d lies) (λ v. runs_if fs (is_zero v) (runs_stop fs line kind.Assert) runs_nothing)

    runs_printing : (line : ℕ) (bytes : List ℕ) (gs : List (Given Valuing)) (scope : Scope) → AllRun fs t calls gs → Lies t fs scope → Runs fs (printing line bytes gs scope calls)
    runs_printing line bytes gs scope ds lies = runs_bind fs (runs_values gs scope ds lies) (λ vs. let o = op.Out (printed Plain bytes vs) in let v = int_of (pos (length (printed Plain bytes vs))) in
        runs_operation fs line (λ locals. o) (λ locals. when_done v) (λ locals. goes_done fs o v (λ r is. is) (λ r is. is)))

    runs_library : (f : Library) (line : ℕ) (gs : List (Given Valuing)) (scope : Scope) → AllRun fs t calls gs → Lies t fs scope → Runs fs (library_call f line gs scope calls)
    runs_library (l.Load explicit) line _ scope (AllRun.cons (GivenRuns.address {o = o} d) (AllRun.nil)) lies = runs_loading line o [] scope d lies
    runs_library (l.Load explicit) line _ scope (AllRun.cons (GivenRuns.address {o = o} d) (AllRun.cons {g = g} {gs = gs} dg ds)) lies = runs_loading line o (g ∷ gs) scope d lies
    runs_library (l.Load explicit) line _ scope AllRun.nil lies = runs_nothing
    runs_library (l.Load explicit) line _ scope (AllRun.cons (GivenRuns.text bytes) ds) lies = runs_nothing
    runs_library (l.Load explicit) line _ scope (AllRun.cons (GivenRuns.of_value d) ds) lies = runs_nothing
    runs_library (l.Store explicit) line _ scope (AllRun.cons (GivenRuns.address {o = o} d) (AllRun.cons {g = g} {gs = gs} dg ds)) lies = runs_storing line o g gs scope d dg lies
    runs_library (l.Store explicit) line _ scope (AllRun.cons (GivenRuns.address d) AllRun.nil) lies = runs_nothing
    runs_library (l.Store explicit) line _ scope AllRun.nil lies = runs_nothing
    runs_library (l.Store explicit) line _ scope (AllRun.cons (GivenRuns.text bytes) ds) lies = runs_nothing
    runs_library (l.Store explicit) line _ scope (AllRun.cons (GivenRuns.of_value d) ds) lies = runs_nothing
    runs_library (l.ReadWrite k explicit) line _ scope (AllRun.cons (GivenRuns.address {o = o} d) (AllRun.cons {g = g} {gs = gs} dg ds)) lies = runs_modifying line k o g gs scope d dg lies
    runs_library (l.ReadWrite k explicit) line _ scope (AllRun.cons (GivenRuns.address d) AllRun.nil) lies = runs_nothing
    runs_library (l.ReadWrite k explicit) line _ scope AllRun.nil lies = runs_nothing
    runs_library (l.ReadWrite k explicit) line _ scope (AllRun.cons (GivenRuns.text bytes) ds) lies = runs_nothing
    runs_library (l.ReadWrite k explicit) line _ scope (AllRun.cons (GivenRuns.of_value d) ds) lies = runs_nothing
    runs_library (l.CompareExchange weak explicit) line _ scope (AllRun.cons (GivenRuns.address {o = o} d) (AllRun.cons (GivenRuns.address {o = x} dx) (AllRun.cons {g = g} {gs = gs} dg ds))) lies = runs_comparing line weak o x g gs scope d dx dg lies
    runs_library (l.CompareExchange weak explicit) line _ scope (AllRun.cons (GivenRuns.address d) (AllRun.cons (GivenRuns.address dx) AllRun.nil)) lies = runs_nothing
    runs_library (l.CompareExchange weak explicit) line _ scope (AllRun.cons (GivenRuns.address d) (AllRun.cons (GivenRuns.text bytes) ds)) lies = runs_nothing
    runs_library (l.CompareExchange weak explicit) line _ scope (AllRun.cons (GivenRuns.address d) (AllRun.cons (GivenRuns.of_value dx) ds)) lies = runs_nothing
    runs_library (l.CompareExchange weak explicit) line _ scope (AllRun.cons (GivenRuns.address d) AllRun.nil) lies = runs_nothing
    runs_library (l.CompareExchange weak explicit) line _ scope AllRun.nil lies = runs_nothing
    runs_library (l.CompareExchange weak explicit) line _ scope (AllRun.cons (GivenRuns.text bytes) ds) lies = runs_nothing
    runs_library (l.CompareExchange weak explicit) line _ scope (AllRun.cons (GivenRuns.of_value d) ds) lies = runs_nothing
    runs_library l.Fence line gs scope ds lies = runs_operation fs line (λ locals. op.Fence (order_in gs scope)) (λ locals. when_done nothing) (λ locals. goes_done fs (op.Fence (order_in gs scope)) nothing (λ r is. is) (λ r is. is))
    runs_library l.MutexInit line _ scope (AllRun.cons (GivenRuns.address {o = o} d) ds) lies = runs_mutex line (λ m. op.MutexInit m) (when_done zero_number) o scope d (λ m. goes_done fs (op.MutexInit m) zero_number (λ r is. is) (λ r is. is)) lies
    runs_library l.MutexInit line _ scope AllRun.nil lies = runs_nothing
    runs_library l.MutexInit line _ scope (AllRun.cons (GivenRuns.text bytes) ds) lies = runs_nothing
    runs_library l.MutexInit line _ scope (AllRun.cons (GivenRuns.of_value d) ds) lies = runs_nothing
    runs_library l.MutexLock line _ scope (AllRun.cons (GivenRuns.address {o = o} d) ds) lies = runs_mutex line (λ m. op.Lock m) when_locked o scope d (λ m. goes_locked (op.Lock m) (λ r is. is) (λ r is. is)) lies
    runs_library l.MutexLock line _ scope AllRun.nil lies = runs_nothing
    runs_library l.MutexLock line _ scope (AllRun.cons (GivenRuns.text bytes) ds) lies = runs_nothing
    runs_library l.MutexLock line _ scope (AllRun.cons (GivenRuns.of_value d) ds) lies = runs_nothing
    runs_library l.MutexTryLock line _ scope (AllRun.cons (GivenRuns.address {o = o} d) ds) lies = runs_mutex line (λ m. op.TryLock m) tried o scope d (λ m. goes_tried (op.TryLock m) (λ r is. is) (λ r is. is)) lies
    runs_library l.MutexTryLock line _ scope AllRun.nil lies = runs_nothing
    runs_library l.MutexTryLock line _ scope (AllRun.cons (GivenRuns.text bytes) ds) lies = runs_nothing
    runs_library l.MutexTryLock line _ scope (AllRun.cons (GivenRuns.of_value d) ds) lies = runs_nothing
    runs_library l.MutexUnlock line _ scope (AllRun.cons (GivenRuns.address {o = o} d) ds) lies = runs_mutex line (λ m. op.Unlock m) (when_done zero_number) o scope d (λ m. goes_done fs (op.Unlock m) zero_number (λ r is. is) (λ r is. is)) lies
    runs_library l.MutexUnlock line _ scope AllRun.nil lies = runs_nothing
    runs_library l.MutexUnlock line _ scope (AllRun.cons (GivenRuns.text bytes) ds) lies = runs_nothing
    runs_library l.MutexUnlock line _ scope (AllRun.cons (GivenRuns.of_value d) ds) lies = runs_nothing
    runs_library l.MutexDestroy line _ scope (AllRun.cons (GivenRuns.address {o = o} d) ds) lies = runs_bind fs (runs_located fs t calls o scope d lies) (λ place. runs_nothing)
    runs_library l.MutexDestroy line _ scope AllRun.nil lies = runs_nothing
    runs_library l.MutexDestroy line _ scope (AllRun.cons (GivenRuns.text bytes) ds) lies = runs_nothing
    runs_library l.MutexDestroy line _ scope (AllRun.cons (GivenRuns.of_value d) ds) lies = runs_nothing
    runs_library l.Yield line gs scope ds lies = runs_nothing
    runs_library l.Create line _ scope (AllRun.cons (GivenRuns.address {o = o} d) (AllRun.cons {g = f} df (AllRun.cons {g = g} dg ds))) lies = runs_creating line o f g scope d dg lies
    runs_library l.Create line _ scope (AllRun.cons (GivenRuns.address d) (AllRun.cons df AllRun.nil)) lies = runs_nothing
    runs_library l.Create line _ scope (AllRun.cons (GivenRuns.address d) AllRun.nil) lies = runs_nothing
    runs_library l.Create line _ scope AllRun.nil lies = runs_nothing
    runs_library l.Create line _ scope (AllRun.cons (GivenRuns.text bytes) ds) lies = runs_nothing
    runs_library l.Create line _ scope (AllRun.cons (GivenRuns.of_value d) ds) lies = runs_nothing
    runs_library l.Join line _ scope (AllRun.cons {g = h} dh (AllRun.cons {g = a} da ds)) lies = runs_joining line h a scope dh da lies
    runs_library l.Join line _ scope (AllRun.cons dh AllRun.nil) lies = runs_nothing
    runs_library l.Join line _ scope AllRun.nil lies = runs_nothing
    runs_library l.Assert line _ scope (AllRun.cons {g = g} d ds) lies = runs_asserting line g scope d lies
    runs_library l.Assert line _ scope AllRun.nil lies = runs_nothing
    runs_library l.Print line _ scope (AllRun.cons (GivenRuns.text bytes) (AllRun.nil)) lies = runs_printing line bytes [] scope AllRun.nil lies
    runs_library l.Print line _ scope (AllRun.cons (GivenRuns.text bytes) (AllRun.cons {g = g} {gs = gs} d ds)) lies = runs_printing line bytes (g ∷ gs) scope (AllRun.cons d ds) lies
    runs_library l.Print line _ scope AllRun.nil lies = runs_nothing
    runs_library l.Print line _ scope (AllRun.cons (GivenRuns.address d) ds) lies = runs_nothing
    runs_library l.Print line _ scope (AllRun.cons (GivenRuns.of_value d) ds) lies = runs_nothing

    -- ---- a call of what a name denotes; a function of the program is there

    runs_call : (word : Word) (gs : List (Given Valuing)) → AllRun fs t calls gs → ValueRuns fs t calls (λ scope. call (denoted scope word.name) word.spot.line gs scope)
    runs_call word gs ds scope lies = by (denoted scope word.name) (lies word.name)
      where
        by : (entity : Option Entity) → ((x : Entity) → entity ≡ Some x → LiesIn t fs x) → Runs fs (call entity word.spot.line gs scope calls)
        by (Some (e.Function function signature)) there = runs_bind fs (runs_values gs scope ds lies) (λ vs. called word.spot.line function vs signature (there _ refl))
        by (Some (e.Library f)) there = runs_library f word.spot.line gs scope ds lies
        by None there = runs_nothing
        by (Some (e.Local ctype base size)) there = runs_nothing
        by (Some (e.Handle base size)) there = runs_nothing
        by (Some (e.Atomic ctype base size)) there = runs_nothing
        by (Some (e.Plain ctype base size)) there = runs_nothing
        by (Some (e.Mutex base size)) there = runs_nothing
        by (Some (e.Defined v)) there = runs_nothing
        by (Some (e.Constant constant)) there = runs_nothing
        by (Some (e.Order order)) there = runs_nothing

    -- ---- along the tree

    abbrev arg_means : Arg → Given Valuing
    arg_means = fold-Arg (Given Valuing) (Part Valuing) (Linked Valuing) (Object Valuing) arg_step (part_step value_step) link_step target_step

    abbrev link_means : Link → Linked Valuing
    link_means = fold-Link (Given Valuing) (Part Valuing) (Linked Valuing) (Object Valuing) arg_step (part_step value_step) link_step target_step

    abbrev target_means : Target → Object Valuing
    target_means = fold-Target (Given Valuing) (Part Valuing) (Linked Valuing) (Object Valuing) arg_step (part_step value_step) link_step target_step

    abbrev AnArg : Type 0
    AnArg = (x : Arg) × GivenRuns fs t calls (arg_means x)

    abbrev AnExpr : Type 0
    AnExpr = (x : Expr) × PartRuns fs t calls (part_of x)

    abbrev ALink : Type 0
    ALink = (x : Link) × LinkRuns fs t calls (link_means x)

    abbrev ATarget : Type 0
    ATarget = (x : Target) × ObjectRuns fs t calls (target_means x)

    all_args : (xs : List AnArg) → AllRun fs t calls (map arg_means (map (λ u. u.0) xs))
    all_args [] = AllRun.nil
    all_args (x ∷ xs) = AllRun.cons x.1 (all_args xs)

    all_links : (xs : List ALink) → AllLinks fs t calls (map link_means (map (λ u. u.0) xs))
    all_links [] = AllLinks.nil
    all_links (x ∷ xs) = AllLinks.cons x.1 (all_links xs)

    abbrev in_meaning : Expr-F Arg Expr Link Target → Part Valuing
    in_meaning d = part_step value_step (map-Expr Arg Expr Link Target (Given Valuing) (Part Valuing) (Linked Valuing) (Object Valuing) arg_means part_of link_means target_means d)

    abbrev bare : Expr-F AnArg AnExpr ALink ATarget → Expr-F Arg Expr Link Target
    bare y = map-Expr AnArg AnExpr ALink ATarget Arg Expr Link Target (λ u. u.0) (λ u. u.0) (λ u. u.0) (λ u. u.0) y

    layer : (y : Expr-F AnArg AnExpr ALink ATarget) → PartRuns fs t calls (in_meaning (bare y))
    layer (Expr-F.Assign target op op_spot x) = record { object = MayRun.none; value = runs_assigning fs t calls (target_means target.0) op op_spot.line (part_of x.0).value target.1 x.1.value }
    layer (Expr-F.Cond a b c) = record { object = MayRun.none; value = runs_condition fs t calls (part_of a.0) (part_of b.0) (part_of c.0) a.1 b.1 c.1 }
    layer (Expr-F.Chain first rest) = record { object = MayRun.none; value = λ scope lies. runs_bind fs (first.1.value scope lies) (λ v. runs_chained fs t calls _ v scope (all_links rest) lies) }
    layer (Expr-F.Prefix spot op inner) = record { object = MayRun.none; value = λ scope lies. runs_bind fs (inner.1.value scope lies) (λ v. runs_prefixed fs t calls op spot.line v) }
    layer (Expr-F.Step spot op_spot target up before) = record { object = MayRun.none; value = runs_stepping fs t calls (target_means target.0) op_spot.line up before target.1 }
    layer (Expr-F.Cast spot to inner) = record { object = MayRun.none; value = λ scope lies. runs_bind fs (inner.1.value scope lies) (λ v. runs_gives fs (cast to v)) }
    layer (Expr-F.Call word args) = record { object = MayRun.none; value = runs_call word (map arg_means (map (λ u. u.0) args)) (all_args args) }
    layer (Expr-F.Literal spot v) = record { object = MayRun.none; value = λ scope lies. runs_gives fs v }
    layer (Expr-F.Read target) = record { object = MayRun.some target.1; value = runs_reading fs t calls (target_means target.0) target.1 }
    layer (Expr-F.Paren spot inner) = record { object = MayRun.none; value = inner.1.value }

    rolled_expr : (d : Expr-F Arg Expr Link Target) → PartRuns fs t calls (in_meaning d) → PartRuns fs t calls (part_of (roll-Expr d))
    rolled_expr d h = rw (fold-roll-Expr (Given Valuing) (Part Valuing) (Linked Valuing) (Object Valuing) arg_step (part_step value_step) link_step target_step d) h

    abbrev arg_in_meaning : Arg-F Arg Expr Link Target → Given Valuing
    arg_in_meaning d = arg_step (map-Arg Arg Expr Link Target (Given Valuing) (Part Valuing) (Linked Valuing) (Object Valuing) arg_means part_of link_means target_means d)

    rolled_arg : (d : Arg-F Arg Expr Link Target) → GivenRuns fs t calls (arg_in_meaning d) → GivenRuns fs t calls (arg_means (roll-Arg d))
    rolled_arg d h = rw (fold-roll-Arg (Given Valuing) (Part Valuing) (Linked Valuing) (Object Valuing) arg_step (part_step value_step) link_step target_step d) h

    arg_layer : (y : Arg-F AnArg AnExpr ALink ATarget) → GivenRuns fs t calls (arg_in_meaning (map-Arg AnArg AnExpr ALink ATarget Arg Expr Link Target (λ u. u.0) (λ u. u.0) (λ u. u.0) (λ u. u.0) y))
    arg_layer (Arg-F.Address spot target) = GivenRuns.address target.1
    arg_layer (Arg-F.Text spot bytes) = GivenRuns.text bytes
    arg_layer (Arg-F.Value x) = GivenRuns.of_value x.1

    abbrev link_in_meaning : Link-F Arg Expr Link Target → Linked Valuing
    link_in_meaning d = link_step (map-Link Arg Expr Link Target (Given Valuing) (Part Valuing) (Linked Valuing) (Object Valuing) arg_means part_of link_means target_means d)

    rolled_link : (d : Link-F Arg Expr Link Target) → LinkRuns fs t calls (link_in_meaning d) → LinkRuns fs t calls (link_means (roll-Link d))
    rolled_link d h = rw (fold-roll-Link (Given Valuing) (Part Valuing) (Linked Valuing) (Object Valuing) arg_step (part_step value_step) link_step target_step d) h

    link_layer : (y : Link-F AnArg AnExpr ALink ATarget) → LinkRuns fs t calls (link_in_meaning (map-Link AnArg AnExpr ALink ATarget Arg Expr Link Target (λ u. u.0) (λ u. u.0) (λ u. u.0) (λ u. u.0) y))
    link_layer y = linked y.op y.spot.line y.right.1

    abbrev target_in_meaning : Target-F Arg Expr Link Target → Object Valuing
    target_in_meaning d = target_step (map-Target Arg Expr Link Target (Given Valuing) (Part Valuing) (Linked Valuing) (Object Valuing) arg_means part_of link_means target_means d)

    rolled_target : (d : Target-F Arg Expr Link Target) → ObjectRuns fs t calls (target_in_meaning d) → ObjectRuns fs t calls (target_means (roll-Target d))
    rolled_target d h = rw (fold-roll-Target (Given Valuing) (Part Valuing) (Linked Valuing) (Object Valuing) arg_step (part_step value_step) link_step target_step d) h

    abbrev bare_target : Target-F AnArg AnExpr ALink ATarget → Target-F Arg Expr Link Target
    bare_target y = map-Target AnArg AnExpr ALink ATarget Arg Expr Link Target (λ u. u.0) (λ u. u.0) (λ u. u.0) (λ u. u.0) y

    by_index : (word : Word) (x : Option AnExpr) → ObjectRuns fs t calls (target_in_meaning (bare_target (record { word = word; index = x })))
    by_index word None = named word
    by_index word (Some x) = indexed word x.1.value

    pub runs_expr : (x : Expr) → PartRuns fs t calls (part_of x)
    runs_expr = ind-Expr (λ x. GivenRuns fs t calls (arg_means x)) (λ x. PartRuns fs t calls (part_of x)) (λ x. LinkRuns fs t calls (link_means x)) (λ x. ObjectRuns fs t calls (target_means x))
        (λ x y is. rolled_arg x (subst (λ (z : Arg-F Arg Expr Link Target). GivenRuns fs t calls (arg_in_meaning z)) is (arg_layer y)))
        (λ x y is. rolled_expr x (subst (λ (z : Expr-F Arg Expr Link Target). PartRuns fs t calls (in_meaning z)) is (layer y)))
        (λ x y is. rolled_link x (subst (λ (z : Link-F Arg Expr Link Target). LinkRuns fs t calls (link_in_meaning z)) is (link_layer y)))
        (λ x y is. rolled_target x (subst (λ (z : Target-F Arg Expr Link Target). ObjectRuns fs t calls (target_in_meaning z)) is (by_index y.word y.index)))
