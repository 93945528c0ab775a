-- Expressions: a further reply changes nothing before it is taken, and where it is of the kind that was asked for, they go on.
use Rattle.std.proofs.Common.{◌≡◌, ℕ, ◌+◌, Bool, true, false, List, [], ◌∷◌, Option, Some, None, arith, ℤ, pos, negsuc}
use Rattle.std.specs.Prelude.{slice_get, nat_lt}
use Rattle.c11_num.specs.Ranges.{TypedNumber}
use Rattle.c11_num.specs.Wrapping.{converted}
use Rattle.c11_num.specs.Operators.{binary_of, truth}
use Rattle.c11_num.specs.declared.value.CType.{CType}
use Rattle.c11_num.specs.declared.kind.BinaryOp.{BinaryOp}
use Rattle.c11_num.specs.declared.kind.BinaryOp.TheVariants.{Sub}
use Rattle.c11_num.specs.declared.kind.RmwKind.{RmwKind}
use Rattle.c11_ast.specs.declared.place.Word.{Word}
use Rattle.c11_ast.specs.declared.expr.Infix.{Infix}
use Rattle.c11_ast.specs.declared.expr.Infix.TheVariants as i
use Rattle.c11_ast.specs.declared.expr.Prefix.{Prefix}
use Rattle.c11_ast.specs.declared.expr.Prefix.TheVariants as p
use Rattle.c11_events.specs.declared.order.Order.TheVariants.{SeqCst}
use Rattle.c11_events.specs.declared.op.Op.{Op}
use Rattle.c11_events.specs.declared.op.Op.TheVariants as op
use Rattle.c11_events.specs.declared.op.StopKind.TheVariants as kind
use Rattle.c11_events.specs.declared.reply.Reply.{Reply}
use Rattle.c11_check.specs.declared.entity.Entity.{Entity}
use Rattle.c11_check.specs.declared.entity.Entity.TheVariants as e
use Rattle.c11_check.specs.declared.entity.Signature.{Signature}
use Rattle.c11_check.specs.Library.{constant_value}
use Rattle.c11_check.specs.Scopes.{Scope, denoted}
use Rattle.c11_check.specs.Types.{branches_type}
use Rattle.c11_check.specs.Tables.{Tables}
use Rattle.c11_check.proofs.Grown.{Lies}
use Rattle.c11_meaning.specs.Outcome.{State, Outcome, Gives, and_then, told, when_done, left}
use Rattle.c11_meaning.specs.Objects.{nothing, one, is_zero, entity_base, entity_size, element, read_of, write_of, kind_of_op, updated, update, compute, compound, step_op, new_or_old, not_before, step_plain, step}
use Rattle.c11_meaning.specs.Parts.{Object, Part, Given, Address, Text, Value, Linked, line_of, entity_of}
use Rattle.c11_meaning.specs.Expressions.{Calls, Valuing, element_by, located, reading, assigning, stepping, typed_as, branch, condition, truth_of, right_truth, infixed, chained, prefixed}
use Rattle.c11_meaning.specs.Progress.{IsReplyTo, Ends, IsFault, IsValue}
use Rattle.c11_meaning.proofs.Awaiting.{Below, Awaits, Beside, Runs, Goes, below_bind, awaits_bind, over_bind, beside_bind, runs_bind, runs_gives, runs_if, runs_operation, runs_stop, goes_told, goes_done, runs_computed}

-- a call of a function that is there
abbrev pub CallsRun : List Signature → Calls → Type 0
CallsRun fs calls = (line function : ℕ) (values : List TypedNumber) (signature : Signature) → slice_get fs function ≡ Some signature → Runs fs (calls line function values)

module _ (fs : List Signature) where
  -- what changes the locals alone
  pub runs_local : {A : Type 0} (v : List ℤ → A) (g : List ℤ → List ℤ) → Runs fs (λ st. Gives (v st.locals) (record st { locals = g st.locals }))
  runs_local v g = record { less = λ st. Below.gives (omega arith); alone = λ st is. Awaits.gives is; more = λ x st. Beside.gives }

  runs_element : (line base size : ℕ) (number : ℤ) → Runs fs (λ st. element line base size number st)
  unfolding element
  runs_element line base size (pos n) = runs_if fs (nat_lt n size) (runs_gives fs (base + n)) (runs_stop fs line kind.Bounds)
  runs_element line base size (negsuc n) = runs_stop fs line kind.Bounds

  runs_read : (entity : Option Entity) (line place : ℕ) → Runs fs (read_of entity line place)
  runs_read (Some (e.Local ctype base size)) line place = record { less = λ st. Below.gives (omega arith); alone = λ st is. Awaits.gives is; more = λ x st. Beside.gives }
  runs_read (Some (e.Plain ctype base size)) line place = runs_operation fs line (λ locals. op.PlainRead place) (λ locals. told) (λ locals. goes_told fs (op.PlainRead place) (λ r is. is) (λ r is. is))
  runs_read (Some (e.Atomic ctype base size)) line place = runs_operation fs line (λ locals. op.AtomicLoad place SeqCst) (λ locals. told) (λ locals. goes_told fs (op.AtomicLoad place SeqCst) (λ r is. is) (λ r is. is))
  runs_read (Some (e.Defined value)) line place = runs_gives fs value
  runs_read (Some (e.Constant constant)) line place = runs_gives fs (constant_value constant)
  runs_read (Some (e.Handle base size)) line place = runs_gives fs nothing
  runs_read (Some (e.Mutex base size)) line place = runs_gives fs nothing
  runs_read (Some (e.Function function signature)) line place = runs_gives fs nothing
  runs_read (Some (e.Library library)) line place = runs_gives fs nothing
  runs_read (Some (e.Order order)) line place = runs_gives fs nothing
  runs_read None line place = runs_gives fs nothing

  runs_write : (entity : Option Entity) (line place : ℕ) (value : TypedNumber) → Runs fs (write_of entity line place value)
  runs_write (Some (e.Local ctype base size)) line place value = record { less = λ st. Below.gives (omega arith); alone = λ st is. Awaits.gives is; more = λ x st. Beside.gives }
  runs_write (Some (e.Plain ctype base size)) line place value = runs_operation fs line (λ locals. op.PlainWrite place (converted ctype value)) (λ locals. when_done (converted ctype value)) (λ locals. goes_done fs (op.PlainWrite place (converted ctype value)) (converted ctype value) (λ r is. is) (λ r is. is))
  runs_write (Some (e.Atomic ctype base size)) line place value = runs_operation fs line (λ locals. op.AtomicStore place SeqCst (converted ctype value)) (λ locals. when_done (converted ctype value)) (λ locals. goes_done fs (op.AtomicStore place SeqCst (converted ctype value)) (converted ctype value) (λ r is. is) (λ r is. is))
  runs_write (Some (e.Defined v)) line place value = runs_gives fs nothing
  runs_write (Some (e.Constant constant)) line place value = runs_gives fs nothing
  runs_write (Some (e.Handle base size)) line place value = runs_gives fs nothing
  runs_write (Some (e.Mutex base size)) line place value = runs_gives fs nothing
  runs_write (Some (e.Function function signature)) line place value = runs_gives fs nothing
  runs_write (Some (e.Library library)) line place value = runs_gives fs nothing
  runs_write (Some (e.Order order)) line place value = runs_gives fs nothing
  runs_write None line place value = runs_gives fs nothing

  goes_updated : (o : Op) (old : Bool) (k : RmwKind) (operand : TypedNumber) → ((r : Reply) → IsReplyTo fs o r → IsValue r) → ((r : Reply) → Ends o r → IsFault r) → Goes fs o (λ r st. and_then (told r st) (updated old k operand))
  goes_updated o old k operand kind fault = let g = goes_told fs o kind fault in record {
    less = λ r st. below_bind fs (left st) (g.less r st) (λ a after le. Below.gives le);
    more = λ x r st. beside_bind fs x (g.more x r st) (λ a after is. Beside.gives) (λ a after is. Awaits.gives is);
    fits = λ r st is none. awaits_bind fs (g.fits r st is none) (λ a after is. Awaits.gives is);
    ends = λ r st is. over_bind fs _ (g.ends r st is);
  }

  runs_update : (line cell : ℕ) (ctype : CType) (o : BinaryOp) (old : Bool) (value : TypedNumber) → Runs fs (update line cell ctype o old value)
  runs_update line cell ctype o old value = runs_operation fs line (λ locals. op.Rmw cell SeqCst (kind_of_op o) (converted ctype value)) (λ locals r st. and_then (told r st) (updated old (kind_of_op o) (converted ctype value)))
      (λ locals. goes_updated (op.Rmw cell SeqCst (kind_of_op o) (converted ctype value)) old (kind_of_op o) (converted ctype value) (λ r is. is) (λ r is. is))

  runs_compute : (entity : Option Entity) (line op_line : ℕ) (o : BinaryOp) (place : ℕ) (right : State → Outcome TypedNumber) → Runs fs right → Runs fs (compute entity line op_line o place right)
  runs_compute entity line op_line o place right f = runs_bind fs (runs_read entity line place) (λ x. runs_bind fs f (λ y. runs_bind fs (runs_computed fs op_line (binary_of o x y)) (λ z. runs_write entity line place z)))

  runs_compound : (entity : Option Entity) (line op_line : ℕ) (o : BinaryOp) (place : ℕ) (right : State → Outcome TypedNumber) → Runs fs right → Runs fs (compound entity line op_line o place right)
  runs_compound (Some (e.Atomic ctype base size)) line op_line o place right f = runs_bind fs f (λ y. runs_update line place ctype o false y)
  runs_compound (Some (e.Local ctype base size)) line op_line o place right f = runs_compute (Some (e.Local ctype base size)) line op_line o place right f
  runs_compound (Some (e.Plain ctype base size)) line op_line o place right f = runs_compute (Some (e.Plain ctype base size)) line op_line o place right f
  runs_compound (Some (e.Defined v)) line op_line o place right f = runs_gives fs nothing
  runs_compound (Some (e.Constant constant)) line op_line o place right f = runs_gives fs nothing
  runs_compound (Some (e.Handle base size)) line op_line o place right f = runs_gives fs nothing
  runs_compound (Some (e.Mutex base size)) line op_line o place right f = runs_gives fs nothing
  runs_compound (Some (e.Function function signature)) line op_line o place right f = runs_gives fs nothing
  runs_compound (Some (e.Library library)) line op_line o place right f = runs_gives fs nothing
  runs_compound (Some (e.Order order)) line op_line o place right f = runs_gives fs nothing
  runs_compound None line op_line o place right f = runs_gives fs nothing

  runs_step_plain : (entity : Option Entity) (line op_line : ℕ) (up before : Bool) (place : ℕ) → Runs fs (step_plain entity line op_line up before place)
  runs_step_plain entity line op_line up before place = runs_bind fs (runs_read entity line place) (λ x. runs_bind fs (runs_computed fs op_line (binary_of (step_op up) x one)) (λ y. runs_bind fs (runs_write entity line place y) (λ z. runs_gives fs (new_or_old before z x))))

  runs_step : (entity : Option Entity) (line op_line : ℕ) (up before : Bool) (place : ℕ) → Runs fs (step entity line op_line up before place)
  runs_step (Some (e.Atomic ctype base size)) line op_line up before place = runs_update line place ctype (step_op up) (not_before before) one
  runs_step (Some (e.Local ctype base size)) line op_line up before place = runs_step_plain (Some (e.Local ctype base size)) line op_line up before place
  runs_step (Some (e.Plain ctype base size)) line op_line up before place = runs_step_plain (Some (e.Plain ctype base size)) line op_line up before place
  runs_step (Some (e.Defined v)) line op_line up before place = runs_gives fs nothing
  runs_step (Some (e.Constant constant)) line op_line up before place = runs_gives fs nothing
  runs_step (Some (e.Handle base size)) line op_line up before place = runs_gives fs nothing
  runs_step (Some (e.Mutex base size)) line op_line up before place = runs_gives fs nothing
  runs_step (Some (e.Function function signature)) line op_line up before place = runs_gives fs nothing
  runs_step (Some (e.Library library)) line op_line up before place = runs_gives fs nothing
  runs_step (Some (e.Order order)) line op_line up before place = runs_gives fs nothing
  runs_step None line op_line up before place = runs_gives fs nothing

  -- ---- parts of expressions

  module _ (t : Tables) (calls : Calls) where
    abbrev pub ValueRuns : Valuing → Type 0
    ValueRuns v = (scope : Scope) → Lies t fs scope → Runs fs (v scope calls)

    pub data ObjectRuns : Object Valuing → Type 0 where
      named : (word : Word) → ObjectRuns (record { word = word; index = None })
      indexed : (word : Word) {v : Valuing} → ValueRuns v → ObjectRuns (record { word = word; index = Some v })

    pub data MayRun : Option (Object Valuing) → Type 0 where
      none : MayRun None
      some : {o : Object Valuing} → ObjectRuns o → MayRun (Some o)

    pub record PartRuns (q : Part Valuing) : Type 0 where
      pub object : MayRun q.object
      pub value : ValueRuns q.value

    pub data GivenRuns : Given Valuing → Type 0 where
      address : {o : Object Valuing} → ObjectRuns o → GivenRuns (Address o)
      text : (bytes : List ℕ) → GivenRuns (Text bytes)
      of_value : {q : Part Valuing} → PartRuns q → GivenRuns (Value q)

    pub data LinkRuns : Linked Valuing → Type 0 where
      linked : (o : Infix) (line : ℕ) {q : Part Valuing} → PartRuns q → LinkRuns (record { op = o; line = line; right = q })

    pub data AllRun : List (Given Valuing) → Type 0 where
      nil : AllRun []
      cons : {g : Given Valuing} {gs : List (Given Valuing)} → GivenRuns g → AllRun gs → AllRun (g ∷ gs)

    pub data AllLinks : List (Linked Valuing) → Type 0 where
      nil : AllLinks []
      cons : {m : Linked Valuing} {ms : List (Linked Valuing)} → LinkRuns m → AllLinks ms → AllLinks (m ∷ ms)

    runs_by : (size : Option ℕ) (line base : ℕ) (index : TypedNumber) → Runs fs (element_by size line base index)
    runs_by None line base index = runs_gives fs base
    runs_by (Some size) line base index = runs_element line base size index.number

    pub runs_located : (o : Object Valuing) (scope : Scope) → ObjectRuns o → Lies t fs scope → Runs fs (located o scope calls)
    runs_located _ scope (named word) lies = runs_gives fs (entity_base (denoted scope word.name))
    runs_located _ scope (indexed word f) lies = let entity = denoted scope word.name in runs_bind fs (f scope lies) (λ index. runs_by (entity_size entity) word.spot.line (entity_base entity) index)

    pub runs_reading : (o : Object Valuing) → ObjectRuns o → ValueRuns (reading o)
    runs_reading o d scope lies = runs_bind fs (runs_located o scope d lies) (λ place. runs_read (entity_of o scope) (line_of o) place)

    pub runs_assigning : (o : Object Valuing) (op : Option BinaryOp) (op_line : ℕ) (v : Valuing) → ObjectRuns o → ValueRuns v → ValueRuns (assigning o op op_line v)
    runs_assigning o None op_line v d f scope lies = runs_bind fs (runs_located o scope d lies) (λ place. runs_bind fs (f scope lies) (λ value. runs_write (entity_of o scope) (line_of o) place value))
    runs_assigning o (Some op) op_line v d f scope lies = runs_bind fs (runs_located o scope d lies) (λ place. runs_compound (entity_of o scope) (line_of o) op_line op place (v scope calls) (f scope lies))

    pub runs_stepping : (o : Object Valuing) (op_line : ℕ) (up before : Bool) → ObjectRuns o → ValueRuns (stepping o op_line up before)
    runs_stepping o op_line up before d scope lies = runs_bind fs (runs_located o scope d lies) (λ place. runs_step (entity_of o scope) (line_of o) op_line up before place)

    pub runs_prefixed : (o : Prefix) (line : ℕ) (value : TypedNumber) → Runs fs (prefixed o line value)
    runs_prefixed p.Minus line value = runs_computed fs line (binary_of Sub (record { ctype = value.ctype; number = pos 0 }) value)
    runs_prefixed p.Plus line value = runs_gives fs value
    runs_prefixed p.Not line value = runs_gives fs (truth (is_zero value))
    runs_prefixed p.Flip line value = record { less = λ st. Below.gives (omega arith); alone = λ st is. Awaits.gives is; more = λ x st. Beside.gives }

    runs_branch : (ctype : Option CType) (q : Part Valuing) (scope : Scope) → PartRuns q → Lies t fs scope → Runs fs (branch ctype q scope calls)
    runs_branch ctype q scope d lies = runs_bind fs (d.value scope lies) (λ v. runs_gives fs (typed_as ctype v))

    pub runs_condition : (a b c : Part Valuing) → PartRuns a → PartRuns b → PartRuns c → ValueRuns (condition a b c)
    runs_condition a b c da db dc scope lies = let ctype = branches_type (b.typed scope) (c.typed scope) in
        runs_bind fs (da.value scope lies) (λ v. runs_if fs (is_zero v) (runs_branch ctype c scope dc lies) (runs_branch ctype b scope db lies))

    runs_truth : (q : Part Valuing) (scope : Scope) → PartRuns q → Lies t fs scope → Runs fs (right_truth q scope calls)
    runs_truth q scope d lies = runs_bind fs (d.value scope lies) (λ v. runs_gives fs (truth_of v))

    runs_infixed : (o : Infix) (line : ℕ) (q : Part Valuing) (value : TypedNumber) (scope : Scope) → PartRuns q → Lies t fs scope → Runs fs (infixed o line q value scope calls)
    runs_infixed (i.Number o) line q value scope d lies = runs_bind fs (d.value scope lies) (λ right. runs_computed fs line (binary_of o value right))
    runs_infixed i.Both line q value scope d lies = runs_if fs (is_zero value) (runs_gives fs (truth false)) (runs_truth q scope d lies)
    runs_infixed i.Either line q value scope d lies = runs_if fs (is_zero value) (runs_truth q scope d lies) (runs_gives fs (truth true))

    pub runs_chained : (ms : List (Linked Valuing)) (value : TypedNumber) (scope : Scope) → AllLinks ms → Lies t fs scope → Runs fs (chained ms value scope calls)
    runs_chained _ value scope AllLinks.nil lies = runs_gives fs value
    runs_chained _ value scope (AllLinks.cons {ms = ms} (linked o line {q = q} d) ds) lies = runs_bind fs (runs_infixed o line q value scope d lies) (λ v. runs_chained ms v scope ds lies)
