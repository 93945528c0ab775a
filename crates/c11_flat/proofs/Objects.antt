-- The code of objects does what their meaning says.
use Rattle.std.proofs.Common.{◌≡◌, ℕ, ◌+◌, ◌≤◌, Bool, true, false, List, [], ◌∷◌, ◌++◌, Option, Some, None, refl, ap, ◌∙◌, sym}
use Rattle.std.specs.Prelude.{ℤ, pos, negsuc, nat_lt, if◌then◌else◌}
use Rattle.c11_num.specs.Ranges.{TypedNumber}
use Rattle.c11_num.specs.Wrapping.{converted}
use Rattle.c11_num.specs.Operators.{binary_of}
use Rattle.c11_num.specs.declared.value.CType.{CType}
use Rattle.c11_num.specs.declared.fault.NumFault.{NumFault}
use Rattle.c11_num.specs.declared.kind.BinaryOp.{BinaryOp}
use Rattle.c11_num.specs.declared.kind.RmwKind.{RmwKind}
use Rattle.std.specs.Prelude.{Result, Ok, Err}
use Rattle.c11_events.specs.declared.order.Order.{Order}
use Rattle.c11_events.specs.declared.order.Order.TheVariants.{SeqCst}
use Rattle.c11_events.specs.declared.op.Op.TheVariants as op
use Rattle.c11_events.specs.declared.reply.Reply.{Reply}
use Rattle.c11_events.specs.declared.reply.Reply.TheVariants as reply
use Rattle.c11_check.specs.declared.entity.Entity.{Entity}
use Rattle.c11_check.specs.declared.entity.Entity.TheVariants as e
use Rattle.c11_check.specs.Library.{constant_value}
use Rattle.c11_check.specs.Scopes.{Scope}
use Rattle.c11_meaning.specs.Outcome.{State, Outcome, Gives, Wants, Over, and_then, operation, told, when_done, computed, left}
use Rattle.c11_meaning.specs.Objects.{nothing, one, local_at, with_local_at, entity_base, entity_size, element, read_of, write_of, kind_of_op, updated, update, step_op, new_or_old, not_before, compute, step_plain}
use Rattle.c11_meaning.specs.Objects as meaning
use Rattle.c11_meaning.specs.Parts.{Object, line_of, entity_of}
use Rattle.c11_meaning.specs.Expressions.{Calls, Valuing}
use Rattle.c11_meaning.specs.Expressions as means
use Rattle.c11_flat.specs.declared.instr.Instr.{Instr}
use Rattle.c11_flat.specs.declared.instr.Instr.TheVariants as i
use Rattle.c11_flat.specs.declared.instr.Place.{Place}
use Rattle.c11_flat.specs.declared.instr.Place.TheVariants.{At, OnStack}
use Rattle.c11_flat.specs.declared.instr.Storage.{Storage}
use Rattle.c11_flat.specs.declared.instr.Storage.TheVariants.{Local, Plain}
use Rattle.c11_flat.specs.declared.slot.Slot.{Slot}
use Rattle.c11_flat.specs.declared.slot.Slot.TheVariants as slot
use Rattle.c11_flat.specs.Pieces.{Piece, Coding, plain, joined, place_by, place_in, element_instr, located, located_by, dropped, read_code, write_code, compound, step, reading, assigning, stepping}
use Rattle.c11_flat.specs.Code.{Whole}
use Rattle.c11_flat.specs.Flat.{Caller, Next, To, from, on_place, at_place, read_at, write_at, act}
use Rattle.c11_flat.proofs.Follows.{Keeps, keeps_operation, keeps_stop, keeps_then, IsSized, sized_plain, sized_joined, config, Runs, runs_joined, runs_instr, runs_none, runs_step, runs_same, runs_cons}
use Rattle.c11_flat.proofs.Parts.{Any, ValueDoes, ObjectDoes, named, indexed}

-- ---- what outcomes keep

pub keeps_told : (most : ℕ) (reply : Reply) (st : State) → left st ≤ most → Keeps most Any (told reply st)
keeps_told most (reply.Value v) st le = Keeps.gives le tt
keeps_told most _ st le = Keeps.over

pub keeps_done : (most : ℕ) (value : TypedNumber) (reply : Reply) (st : State) → left st ≤ most → Keeps most Any (when_done value reply st)
keeps_done most value reply.Done st le = Keeps.gives le tt
keeps_done most value _ st le = Keeps.over

keeps_result : (most line : ℕ) (r : Result TypedNumber NumFault) (st : State) → left st ≤ most → Keeps most Any (computed line r st)
unfolding computed
keeps_result most line (Ok value) st le = Keeps.gives le tt
keeps_result most line (Err fault) st le = keeps_stop most Any line _ st le

pub keeps_computed : (most line : ℕ) (r : Result TypedNumber NumFault) (st : State) → left st ≤ most → Keeps most Any (computed line r st)
keeps_computed most line r st le = keeps_result most line r st le

pub keeps_read : (most : ℕ) (storage : Storage) (ctype : CType) (line place : ℕ) (st : State) → left st ≤ most → Keeps most Any (read_at storage ctype line place st)
keeps_read most Local ctype line place st le = Keeps.gives le tt
keeps_read most Plain ctype line cell st le = keeps_operation most Any line _ st _ le (λ reply after le. keeps_told most reply after le)

pub keeps_write : (most : ℕ) (storage : Storage) (ctype : CType) (line place : ℕ) (value : TypedNumber) (st : State) → left st ≤ most → Keeps most Any (write_at storage ctype line place value st)
keeps_write most Local ctype line place value st le = Keeps.gives le tt
keeps_write most Plain ctype line cell value st le = keeps_operation most Any line _ st _ le (λ reply after le. keeps_done most _ reply after le)

pub keeps_if : {A : Type 0} (most : ℕ) (P : A → Type 0) (t : Bool) (a b : Outcome A) → Keeps most P a → Keeps most P b → Keeps most P (if t then a else b)
keeps_if most P true a b f g = f
keeps_if most P false a b f g = g

keeps_element : (P : ℕ → Type 0) (most line base size : ℕ) (index : ℤ) (st : State) → ((n : ℕ) → P n) → left st ≤ most → Keeps most P (element line base size index st)
unfolding element
keeps_element P most line base size (pos n) st p le = keeps_if most P (nat_lt n size) _ _ (Keeps.gives le (p (base + n))) (keeps_stop most P line _ st le)
keeps_element P most line base size (negsuc n) st p le = keeps_stop most P line _ st le

-- ---- places

-- what is known of where the object is
abbrev pub PlaceHeld : Place → ℕ → Type 0
PlaceHeld (At base) n = n ≡ base
PlaceHeld OnStack n = Unit {0}

-- the stack with the place, where that lies there
abbrev pub stacked : Place → ℕ → List Slot → List Slot
stacked (At base) n stack = stack
stacked OnStack n stack = slot.Place n ∷ stack

pub on_stacked : (place : Place) (n : ℕ) (stack : List Slot) (go : ℕ → List Slot → Next) → PlaceHeld place n → on_place place (stacked place n stack) go ≡ go n stack
on_stacked (At base) n stack go held = ap (λ (k : ℕ). go k stack) (sym held)
on_stacked OnStack n stack go held = refl

pub at_stacked : (place : Place) (n : ℕ) (stack : List Slot) (go : ℕ → Next) → PlaceHeld place n → at_place place (stacked place n stack) go ≡ go n
at_stacked (At base) n stack go held = ap go (sym held)
at_stacked OnStack n stack go held = refl

pub sized_located : (index : Option Coding) (entity : Option Entity) (line : ℕ) (scope : Scope) → ((c : Coding) → index ≡ Some c → IsSized (c scope)) → IsSized (located_by index entity line scope)
sized_located None entity line scope f = sized_plain []
sized_located (Some c) entity line scope f = sized_joined (c scope) (plain (element_instr (entity_size entity) line (entity_base entity) ∷ [])) (f c refl) (sized_plain (element_instr (entity_size entity) line (entity_base entity) ∷ []))

pub sized_dropped_push : (place : Place) (value : TypedNumber) → IsSized (plain (dropped place ++ i.Push value ∷ []))
sized_dropped_push place value = sized_plain _

pub from_gives : {A : Type 0} (a : A) (st : State) (go : A → State → Next) → go a st ≡ from (Gives a st) go
unfolding from
from_gives a st go = refl

from_then : (o : Outcome TypedNumber) (f : TypedNumber → TypedNumber → TypedNumber) (x : TypedNumber) (go : TypedNumber → State → Next)
    → from o (λ z st. go (f z x) st) ≡ from (and_then o (λ z st. Gives (f z x) st)) go
unfolding from and_then
from_then (Gives z st) f x go = refl
from_then (Wants ask) f x go = refl
from_then Over f x go = refl

module _ (code : Whole) (callers : List Caller) (answers : Option CType) where
  -- an outcome that gives at once
  pub runs_pure : (instr : Instr) (before after : List Slot) (value : TypedNumber)
      → ((b : ℕ) (st : State) → act code instr (config code callers answers b before st) ≡ To (config code callers answers (b + 1) after st)) → Runs code callers answers Any (plain (instr ∷ [])) before (λ v. after) (λ st. Gives value st)
  runs_pure instr before after value does = runs_instr code callers answers Any instr before (λ v. after) (λ st. Gives value st)
      (λ b st. does b st ∙ from_gives value st (λ v st. To (config code callers answers (b + 1) after st))) (λ most st le. Keeps.gives le tt)

  -- an instruction that gives a value
  abbrev pub pushed : List Slot → TypedNumber → List Slot
  pushed stack value = slot.Value value ∷ stack

  pub runs_push : (value : TypedNumber) (stack : List Slot) → Runs code callers answers Any (plain (i.Push value ∷ [])) stack (pushed stack) (λ st. Gives value st)
  runs_push value stack = runs_instr code callers answers Any (i.Push value) stack (pushed stack) (λ st. Gives value st)
      (λ b st. from_gives value st (λ v st. To (config code callers answers (b + 1) (pushed stack v) st))) (λ most st le. Keeps.gives le tt)

  -- a place that is not wanted, and a value
  pub runs_dropped : (place : Place) (n : ℕ) (value : TypedNumber) (stack : List Slot) → Runs code callers answers Any (plain (dropped place ++ i.Push value ∷ [])) (stacked place n stack) (pushed stack) (λ st. Gives value st)
  runs_dropped (At base) n value stack = runs_push value stack
  runs_dropped OnStack n value stack = runs_step code callers answers Any i.Drop (plain (i.Push value ∷ [])) (slot.Place n ∷ stack) stack (pushed stack) (λ st. Gives value st) (λ b st. refl) (runs_push value stack)

  pub runs_read : (storage : Storage) (ctype : CType) (line : ℕ) (place : Place) (n : ℕ) (stack : List Slot) → PlaceHeld place n
      → Runs code callers answers Any (plain (i.Read line storage ctype place ∷ [])) (stacked place n stack) (pushed stack) (read_at storage ctype line n)
  runs_read storage ctype line place n stack held = runs_instr code callers answers Any (i.Read line storage ctype place) (stacked place n stack) (pushed stack) (read_at storage ctype line n)
      (λ b st. on_stacked place n stack _ held) (λ most st le. keeps_read most storage ctype line n st le)

  pub runs_write : (storage : Storage) (ctype : CType) (line : ℕ) (place : Place) (n : ℕ) (value : TypedNumber) (stack : List Slot) → PlaceHeld place n
      → Runs code callers answers Any (plain (i.Write line storage ctype place ∷ [])) (slot.Value value ∷ stacked place n stack) (pushed stack) (write_at storage ctype line n value)
  runs_write storage ctype line place n value stack held = runs_instr code callers answers Any (i.Write line storage ctype place) (slot.Value value ∷ stacked place n stack) (pushed stack) (write_at storage ctype line n value)
      (λ b st. on_stacked place n stack _ held) (λ most st le. keeps_write most storage ctype line n value st le)

  pub runs_fetch : (storage : Storage) (ctype : CType) (line : ℕ) (place : Place) (n : ℕ) (stack : List Slot) → PlaceHeld place n
      → Runs code callers answers Any (plain (i.Fetch line storage ctype place ∷ [])) (stacked place n stack) (pushed (stacked place n stack)) (read_at storage ctype line n)
  runs_fetch storage ctype line place n stack held = runs_instr code callers answers Any (i.Fetch line storage ctype place) (stacked place n stack) (pushed (stacked place n stack)) (read_at storage ctype line n)
      (λ b st. at_stacked place n stack _ held) (λ most st le. keeps_read most storage ctype line n st le)

  pub runs_compute : (line : ℕ) (op : BinaryOp) (x y : TypedNumber) (stack : List Slot)
      → Runs code callers answers Any (plain (i.Compute line op ∷ [])) (slot.Value y ∷ slot.Value x ∷ stack) (pushed stack) (computed line (binary_of op x y))
  runs_compute line op x y stack = runs_instr code callers answers Any (i.Compute line op) (slot.Value y ∷ slot.Value x ∷ stack) (pushed stack) (computed line (binary_of op x y))
      (λ b st. refl) (λ most st le. keeps_computed most line (binary_of op x y) st le)

  pub runs_load : (line : ℕ) (order : Order) (place : Place) (n : ℕ) (stack : List Slot) → PlaceHeld place n
      → Runs code callers answers Any (plain (i.Load line order place ∷ [])) (stacked place n stack) (pushed stack) (λ st. operation line (op.AtomicLoad n order) st told)
  runs_load line order place n stack held = runs_instr code callers answers Any (i.Load line order place) (stacked place n stack) (pushed stack) (λ st. operation line (op.AtomicLoad n order) st told)
      (λ b st. on_stacked place n stack _ held) (λ most st le. keeps_operation most Any line _ st _ le (λ reply after le. keeps_told most reply after le))

  pub runs_store : (line : ℕ) (order : Order) (ctype : CType) (place : Place) (n : ℕ) (value : TypedNumber) (stack : List Slot) → PlaceHeld place n
      → Runs code callers answers Any (plain (i.Store line order ctype place ∷ [])) (slot.Value value ∷ stacked place n stack) (pushed stack)
      (λ st. operation line (op.AtomicStore n order (converted ctype value)) st (when_done (converted ctype value)))
  runs_store line order ctype place n value stack held = runs_instr code callers answers Any (i.Store line order ctype place) (slot.Value value ∷ stacked place n stack) (pushed stack)
      (λ st. operation line (op.AtomicStore n order (converted ctype value)) st (when_done (converted ctype value)))
      (λ b st. on_stacked place n stack _ held) (λ most st le. keeps_operation most Any line _ st _ le (λ reply after le. keeps_done most _ reply after le))

  pub runs_modify : (line : ℕ) (order : Order) (kind : RmwKind) (ctype : CType) (place : Place) (old : Bool) (n : ℕ) (value : TypedNumber) (stack : List Slot) → PlaceHeld place n
      → Runs code callers answers Any (plain (i.Modify line order kind ctype place old ∷ [])) (slot.Value value ∷ stacked place n stack) (pushed stack)
      (λ st. operation line (op.Rmw n order kind (converted ctype value)) st (λ reply st. and_then (told reply st) (updated old kind (converted ctype value))))
  runs_modify line order kind ctype place old n value stack held = runs_instr code callers answers Any (i.Modify line order kind ctype place old) (slot.Value value ∷ stacked place n stack) (pushed stack)
      (λ st. operation line (op.Rmw n order kind (converted ctype value)) st (λ reply st. and_then (told reply st) (updated old kind (converted ctype value))))
      (λ b st. on_stacked place n stack _ held) (λ most st le. keeps_operation most Any line _ st _ le (λ reply after le.
      keeps_then most Any Any (keeps_told most reply after le) (λ v st le p. Keeps.gives le tt)))

  -- the place of the object
  element_runs : (size : Option ℕ) (line base : ℕ) (value : TypedNumber) (stack : List Slot)
      → Runs code callers answers (PlaceHeld (place_by size base)) (plain (element_instr size line base ∷ [])) (slot.Value value ∷ stack) (λ n. stacked (place_by size base) n stack) (means.element_by size line base value)
  element_runs None line base value stack = runs_instr code callers answers (PlaceHeld (At base)) i.Drop (slot.Value value ∷ stack) (λ n. stack) (λ st. Gives base st)
      (λ b st. from_gives base st (λ n st. To (config code callers answers (b + 1) stack st))) (λ most st le. Keeps.gives le refl)
  element_runs (Some size) line base value stack = runs_instr code callers answers (PlaceHeld OnStack) (i.Element line (record { base = base; size = size })) (slot.Value value ∷ stack) (λ n. slot.Place n ∷ stack) (element line base size value.number)
      (λ b st. refl) (λ most st le. keeps_element (PlaceHeld OnStack) most line base size value.number st (λ n. tt) le)

  module _ (calls : Calls) where
    abbrev Does : Coding → Valuing → Type 0
    Does = ValueDoes code callers answers calls

    pub object_sized : (o : Object Coding) (w : Object Valuing) (scope : Scope) → ObjectDoes code callers answers calls o w → IsSized (located o scope)
    object_sized _ _ scope (named word) = sized_plain []
    object_sized o _ scope (indexed word {c = c} d) = sized_joined (c scope) (plain (element_instr (entity_size (entity_of o scope)) (line_of o) (entity_base (entity_of o scope)) ∷ [])) (d.sized scope)
        (sized_plain (element_instr (entity_size (entity_of o scope)) (line_of o) (entity_base (entity_of o scope)) ∷ []))

    pub located_runs : (o : Object Coding) (w : Object Valuing) (scope : Scope) (stack : List Slot) → ObjectDoes code callers answers calls o w
        → Runs code callers answers (PlaceHeld (place_in o scope)) (located o scope) stack (λ n. stacked (place_in o scope) n stack) (means.located w scope calls)
    located_runs o w scope stack (named word) = runs_none code callers answers (λ n. n ≡ entity_base (entity_of o scope)) (entity_base (entity_of o scope)) (λ n. stack) refl
    located_runs o w scope stack (indexed word {c = c} {v = v} d) =
        runs_joined code callers answers Any (PlaceHeld (place_in o scope)) (c scope) (plain (element_instr (entity_size (entity_of o scope)) (line_of o) (entity_base (entity_of o scope)) ∷ [])) stack (pushed stack) (λ n. stacked (place_in o scope) n stack)
        (v scope calls) (means.element_by (entity_size (entity_of o scope)) (line_of o) (entity_base (entity_of o scope)))
        (d.sized scope) (d.does scope stack) (λ value p. element_runs (entity_size (entity_of o scope)) (line_of o) (entity_base (entity_of o scope)) value stack)

    -- ---- reading

    read_runs : (entity : Option Entity) (line : ℕ) (place : Place) (n : ℕ) (stack : List Slot) → PlaceHeld place n
        → Runs code callers answers Any (plain (read_code entity line place)) (stacked place n stack) (pushed stack) (read_of entity line n)
    read_runs (Some (e.Local ctype base size)) line place n stack held = runs_read Local ctype line place n stack held
    read_runs (Some (e.Plain ctype base size)) line place n stack held = runs_read Plain ctype line place n stack held
    read_runs (Some (e.Atomic ctype base size)) line place n stack held = runs_load line SeqCst place n stack held
    read_runs (Some (e.Defined value)) line place n stack held = runs_dropped place n value stack
    read_runs (Some (e.Constant constant)) line place n stack held = runs_dropped place n (constant_value constant) stack
    read_runs (Some (e.Handle base size)) line place n stack held = runs_dropped place n nothing stack
    read_runs (Some (e.Mutex base size)) line place n stack held = runs_dropped place n nothing stack
    read_runs (Some (e.Function function signature)) line place n stack held = runs_dropped place n nothing stack
    read_runs (Some (e.Library library)) line place n stack held = runs_dropped place n nothing stack
    read_runs (Some (e.Order order)) line place n stack held = runs_dropped place n nothing stack
    read_runs None line place n stack held = runs_dropped place n nothing stack

    -- behind the place of the object
    pub behind_object : (o : Object Coding) (w : Object Valuing) (scope : Scope) (stack : List Slot) (q : Piece) (f : ℕ → State → Outcome TypedNumber) → ObjectDoes code callers answers calls o w
        → ((n : ℕ) → PlaceHeld (place_in o scope) n → Runs code callers answers Any q (stacked (place_in o scope) n stack) (pushed stack) (f n))
        → Runs code callers answers Any (joined (located o scope) q) stack (pushed stack) (λ st. and_then (means.located w scope calls st) f)
    behind_object o w scope stack q f d rest = runs_joined code callers answers (PlaceHeld (place_in o scope)) Any (located o scope) q stack (λ n. stacked (place_in o scope) n stack) (pushed stack)
        (means.located w scope calls) f (object_sized o w scope d) (located_runs o w scope stack d) rest

    pub same_line : (o : Object Coding) (w : Object Valuing) → ObjectDoes code callers answers calls o w → line_of o ≡ line_of w
    same_line _ _ (named word) = refl
    same_line _ _ (indexed word d) = refl

    pub same_entity_of : (o : Object Coding) (w : Object Valuing) (scope : Scope) → ObjectDoes code callers answers calls o w → entity_of o scope ≡ entity_of w scope
    same_entity_of _ _ scope (named word) = refl
    same_entity_of _ _ scope (indexed word d) = refl

    reading_runs : (o : Object Coding) (w : Object Valuing) (scope : Scope) (stack : List Slot) → ObjectDoes code callers answers calls o w
        → Runs code callers answers Any (reading o scope) stack (pushed stack) (means.reading w scope calls)
    reading_runs o w scope stack (named word) = behind_object o w scope stack (plain (read_code (entity_of o scope) (line_of o) (place_in o scope))) (read_of (entity_of w scope) (line_of w)) (named word)
        (λ n held. read_runs (entity_of o scope) (line_of o) (place_in o scope) n stack held)
    reading_runs o w scope stack (indexed word d) = behind_object o w scope stack (plain (read_code (entity_of o scope) (line_of o) (place_in o scope))) (read_of (entity_of w scope) (line_of w)) (indexed word d)
        (λ n held. read_runs (entity_of o scope) (line_of o) (place_in o scope) n stack held)

    pub reading_does : (o : Object Coding) (w : Object Valuing) → ObjectDoes code callers answers calls o w → Does (reading o) (means.reading w)
    reading_does o w d = record {
      sized = λ scope. sized_joined (located o scope) (plain (read_code (entity_of o scope) (line_of o) (place_in o scope))) (object_sized o w scope d) (sized_plain (read_code (entity_of o scope) (line_of o) (place_in o scope)));
      does = λ scope stack. reading_runs o w scope stack d;
    }

    -- ---- assigning

    dropped_runs : (place : Place) (n : ℕ) (value : TypedNumber) (stack : List Slot)
        → Runs code callers answers Any (plain (i.Drop ∷ (dropped place ++ i.Push nothing ∷ []))) (slot.Value value ∷ stacked place n stack) (pushed stack) (λ st. Gives nothing st)
    dropped_runs place n value stack = runs_cons code callers answers Any i.Drop (dropped place ++ i.Push nothing ∷ []) (slot.Value value ∷ stacked place n stack) (pushed stack) (λ st. Gives nothing st)
        (runs_step code callers answers Any i.Drop (plain (dropped place ++ i.Push nothing ∷ [])) (slot.Value value ∷ stacked place n stack) (stacked place n stack) (pushed stack) (λ st. Gives nothing st)
        (λ b st. refl) (runs_dropped place n nothing stack))

    write_runs : (entity : Option Entity) (line : ℕ) (place : Place) (n : ℕ) (value : TypedNumber) (stack : List Slot) → PlaceHeld place n
        → Runs code callers answers Any (plain (write_code entity line place)) (slot.Value value ∷ stacked place n stack) (pushed stack) (write_of entity line n value)
    write_runs (Some (e.Local ctype base size)) line place n value stack held = runs_write Local ctype line place n value stack held
    write_runs (Some (e.Plain ctype base size)) line place n value stack held = runs_write Plain ctype line place n value stack held
    write_runs (Some (e.Atomic ctype base size)) line place n value stack held = runs_store line SeqCst ctype place n value stack held
    write_runs (Some (e.Defined v)) line place n value stack held = dropped_runs place n value stack
    write_runs (Some (e.Constant constant)) line place n value stack held = dropped_runs place n value stack
    write_runs (Some (e.Handle base size)) line place n value stack held = dropped_runs place n value stack
    write_runs (Some (e.Mutex base size)) line place n value stack held = dropped_runs place n value stack
    write_runs (Some (e.Function function signature)) line place n value stack held = dropped_runs place n value stack
    write_runs (Some (e.Library library)) line place n value stack held = dropped_runs place n value stack
    write_runs (Some (e.Order order)) line place n value stack held = dropped_runs place n value stack
    write_runs None line place n value stack held = dropped_runs place n value stack

    -- a value behind what lies on the stack, and what is done with it
    pub behind_value : (c : Coding) (v : Valuing) (scope : Scope) (before stack : List Slot) (q : Piece) (f : TypedNumber → State → Outcome TypedNumber) → Does c v
        → ((value : TypedNumber) → Runs code callers answers Any q (slot.Value value ∷ before) (pushed stack) (f value))
        → Runs code callers answers Any (joined (c scope) q) before (pushed stack) (λ st. and_then (v scope calls st) f)
    behind_value c v scope before stack q f d rest = runs_joined code callers answers Any Any (c scope) q before (pushed before) (pushed stack) (v scope calls) f (d.sized scope) (d.does scope before) (λ value p. rest value)

    -- `x op= e` on a local or a plain object
    compute_runs : (storage : Storage) (ctype : CType) (line op_line : ℕ) (op : BinaryOp) (place : Place) (n : ℕ) (c : Coding) (v : Valuing) (scope : Scope) (stack : List Slot) → PlaceHeld place n → Does c v
        → Runs code callers answers Any (joined (plain (i.Fetch line storage ctype place ∷ [])) (joined (c scope) (plain (i.Compute op_line op ∷ i.Write line storage ctype place ∷ [])))) (stacked place n stack) (pushed stack)
        (λ st. and_then (read_at storage ctype line n st) (λ x st. and_then (v scope calls st) (λ y st. and_then (computed op_line (binary_of op x y) st) (λ z st. write_at storage ctype line n z st))))
    compute_runs storage ctype line op_line op place n c v scope stack held d =
        runs_joined code callers answers Any Any (plain (i.Fetch line storage ctype place ∷ [])) (joined (c scope) (plain (i.Compute op_line op ∷ i.Write line storage ctype place ∷ []))) (stacked place n stack) (pushed (stacked place n stack)) (pushed stack)
        (read_at storage ctype line n) (λ x st. and_then (v scope calls st) (λ y st. and_then (computed op_line (binary_of op x y) st) (λ z st. write_at storage ctype line n z st)))
        (sized_plain (i.Fetch line storage ctype place ∷ [])) (runs_fetch storage ctype line place n stack held)
        (λ x p. behind_value c v scope (slot.Value x ∷ stacked place n stack) stack (plain (i.Compute op_line op ∷ i.Write line storage ctype place ∷ []))
        (λ y st. and_then (computed op_line (binary_of op x y) st) (λ z st. write_at storage ctype line n z st)) d
        (λ y. runs_joined code callers answers Any Any (plain (i.Compute op_line op ∷ [])) (plain (i.Write line storage ctype place ∷ [])) (slot.Value y ∷ slot.Value x ∷ stacked place n stack) (pushed (stacked place n stack)) (pushed stack)
        (computed op_line (binary_of op x y)) (λ z st. write_at storage ctype line n z st) (sized_plain (i.Compute op_line op ∷ [])) (runs_compute op_line op x y (stacked place n stack))
        (λ z q. runs_write storage ctype line place n z stack held)))

    compound_runs : (entity : Option Entity) (line op_line : ℕ) (op : BinaryOp) (place : Place) (n : ℕ) (c : Coding) (v : Valuing) (scope : Scope) (stack : List Slot) → PlaceHeld place n → Does c v
        → Runs code callers answers Any (compound entity line op_line op place (c scope)) (stacked place n stack) (pushed stack) (meaning.compound entity line op_line op n (v scope calls))
    compound_runs (Some (e.Local ctype base size)) line op_line op place n c v scope stack held d = compute_runs Local ctype line op_line op place n c v scope stack held d
    compound_runs (Some (e.Plain ctype base size)) line op_line op place n c v scope stack held d = compute_runs Plain ctype line op_line op place n c v scope stack held d
    compound_runs (Some (e.Atomic ctype base size)) line op_line op place n c v scope stack held d =
        behind_value c v scope (stacked place n stack) stack (plain (i.Modify line SeqCst (kind_of_op op) ctype place false ∷ [])) (λ y st. update line n ctype op false y st) d
        (λ y. runs_modify line SeqCst (kind_of_op op) ctype place false n y stack held)
    compound_runs (Some (e.Defined value)) line op_line op place n c v scope stack held d = runs_dropped place n nothing stack
    compound_runs (Some (e.Constant constant)) line op_line op place n c v scope stack held d = runs_dropped place n nothing stack
    compound_runs (Some (e.Handle base size)) line op_line op place n c v scope stack held d = runs_dropped place n nothing stack
    compound_runs (Some (e.Mutex base size)) line op_line op place n c v scope stack held d = runs_dropped place n nothing stack
    compound_runs (Some (e.Function function signature)) line op_line op place n c v scope stack held d = runs_dropped place n nothing stack
    compound_runs (Some (e.Library library)) line op_line op place n c v scope stack held d = runs_dropped place n nothing stack
    compound_runs (Some (e.Order order)) line op_line op place n c v scope stack held d = runs_dropped place n nothing stack
    compound_runs None line op_line op place n c v scope stack held d = runs_dropped place n nothing stack

    sized_compound : (entity : Option Entity) (line op_line : ℕ) (op : BinaryOp) (place : Place) (p : Piece) → IsSized p → IsSized (compound entity line op_line op place p)
    sized_compound (Some (e.Local ctype base size)) line op_line op place p f = sized_joined (plain (i.Fetch line Local ctype place ∷ [])) (joined p (plain (i.Compute op_line op ∷ i.Write line Local ctype place ∷ []))) (sized_plain (i.Fetch line Local ctype place ∷ []))
        (sized_joined p (plain (i.Compute op_line op ∷ i.Write line Local ctype place ∷ [])) f (sized_plain (i.Compute op_line op ∷ i.Write line Local ctype place ∷ [])))
    sized_compound (Some (e.Plain ctype base size)) line op_line op place p f = sized_joined (plain (i.Fetch line Plain ctype place ∷ [])) (joined p (plain (i.Compute op_line op ∷ i.Write line Plain ctype place ∷ []))) (sized_plain (i.Fetch line Plain ctype place ∷ []))
        (sized_joined p (plain (i.Compute op_line op ∷ i.Write line Plain ctype place ∷ [])) f (sized_plain (i.Compute op_line op ∷ i.Write line Plain ctype place ∷ [])))
    sized_compound (Some (e.Atomic ctype base size)) line op_line op place p f = sized_joined p (plain (i.Modify line SeqCst (kind_of_op op) ctype place false ∷ [])) f (sized_plain (i.Modify line SeqCst (kind_of_op op) ctype place false ∷ []))
    sized_compound (Some (e.Defined value)) line op_line op place p f = sized_plain (dropped place ++ i.Push nothing ∷ [])
    sized_compound (Some (e.Constant constant)) line op_line op place p f = sized_plain (dropped place ++ i.Push nothing ∷ [])
    sized_compound (Some (e.Handle base size)) line op_line op place p f = sized_plain (dropped place ++ i.Push nothing ∷ [])
    sized_compound (Some (e.Mutex base size)) line op_line op place p f = sized_plain (dropped place ++ i.Push nothing ∷ [])
    sized_compound (Some (e.Function function signature)) line op_line op place p f = sized_plain (dropped place ++ i.Push nothing ∷ [])
    sized_compound (Some (e.Library library)) line op_line op place p f = sized_plain (dropped place ++ i.Push nothing ∷ [])
    sized_compound (Some (e.Order order)) line op_line op place p f = sized_plain (dropped place ++ i.Push nothing ∷ [])
    sized_compound None line op_line op place p f = sized_plain (dropped place ++ i.Push nothing ∷ [])

    -- the object under both names of it
    abbrev AssignDoes : Object Coding → Object Valuing → Option BinaryOp → ℕ → Coding → Valuing → Type 0
    AssignDoes o w op op_line c v = Does (assigning o op op_line c) (means.assigning w op op_line v)

    assign_plain : (o : Object Coding) (w : Object Valuing) (op_line : ℕ) (c : Coding) (v : Valuing) → ObjectDoes code callers answers calls o w → Does c v
        → ((scope : Scope) → entity_of w scope ≡ entity_of o scope) → line_of w ≡ line_of o → AssignDoes o w None op_line c v
    assign_plain o w op_line c v d f same line = record {
      sized = λ scope. sized_joined (located o scope) (joined (c scope) (plain (write_code (entity_of o scope) (line_of o) (place_in o scope)))) (object_sized o w scope d)
          (sized_joined (c scope) (plain (write_code (entity_of o scope) (line_of o) (place_in o scope))) (f.sized scope) (sized_plain (write_code (entity_of o scope) (line_of o) (place_in o scope))));
      does = λ scope stack. runs_same code callers answers Any (assigning o None op_line c scope) stack (pushed stack) _ (means.assigning w None op_line v scope calls)
          (λ st. ap (λ (entity : Option Entity). and_then (means.located w scope calls st) (λ n st. and_then (v scope calls st) (write_of entity (line_of o) n))) (sym (same scope))
          ∙ ap (λ (k : ℕ). and_then (means.located w scope calls st) (λ n st. and_then (v scope calls st) (write_of (entity_of w scope) k n))) (sym line))
          (behind_object o w scope stack (joined (c scope) (plain (write_code (entity_of o scope) (line_of o) (place_in o scope)))) (λ n st. and_then (v scope calls st) (write_of (entity_of o scope) (line_of o) n)) d
          (λ n held. behind_value c v scope (stacked (place_in o scope) n stack) stack (plain (write_code (entity_of o scope) (line_of o) (place_in o scope))) (write_of (entity_of o scope) (line_of o) n) f
          (λ value. write_runs (entity_of o scope) (line_of o) (place_in o scope) n value stack held)));
    }

    assign_compound : (o : Object Coding) (w : Object Valuing) (op : BinaryOp) (op_line : ℕ) (c : Coding) (v : Valuing) → ObjectDoes code callers answers calls o w → Does c v
        → ((scope : Scope) → entity_of w scope ≡ entity_of o scope) → line_of w ≡ line_of o → AssignDoes o w (Some op) op_line c v
    assign_compound o w op op_line c v d f same line = record {
      sized = λ scope. sized_joined (located o scope) (compound (entity_of o scope) (line_of o) op_line op (place_in o scope) (c scope)) (object_sized o w scope d)
          (sized_compound (entity_of o scope) (line_of o) op_line op (place_in o scope) (c scope) (f.sized scope));
      does = λ scope stack. runs_same code callers answers Any (assigning o (Some op) op_line c scope) stack (pushed stack) _ (means.assigning w (Some op) op_line v scope calls)
          (λ st. ap (λ (entity : Option Entity). and_then (means.located w scope calls st) (λ n st. meaning.compound entity (line_of o) op_line op n (v scope calls) st)) (sym (same scope))
          ∙ ap (λ (k : ℕ). and_then (means.located w scope calls st) (λ n st. meaning.compound (entity_of w scope) k op_line op n (v scope calls) st)) (sym line))
          (behind_object o w scope stack (compound (entity_of o scope) (line_of o) op_line op (place_in o scope) (c scope)) (λ n st. meaning.compound (entity_of o scope) (line_of o) op_line op n (v scope calls) st) d
          (λ n held. compound_runs (entity_of o scope) (line_of o) op_line op (place_in o scope) n c v scope stack held f));
    }

    pub assigning_does : (o : Object Coding) (w : Object Valuing) (op : Option BinaryOp) (op_line : ℕ) (c : Coding) (v : Valuing) → ObjectDoes code callers answers calls o w → Does c v → AssignDoes o w op op_line c v
    assigning_does o w None op_line c v d f = assign_plain o w op_line c v d f (λ scope. sym (same_entity_of o w scope d)) (sym (same_line o w d))
    assigning_does o w (Some op) op_line c v d f = assign_compound o w op op_line c v d f (λ scope. sym (same_entity_of o w scope d)) (sym (same_line o w d))

    -- ---- stepping

    step_runs : (storage : Storage) (ctype : CType) (line op_line : ℕ) (up before : Bool) (place : Place) (n : ℕ) (stack : List Slot) → PlaceHeld place n
        → Runs code callers answers Any (plain (i.Fetch line storage ctype place ∷ i.Step op_line up ∷ i.Stepped line storage ctype place before ∷ [])) (stacked place n stack) (pushed stack)
        (λ st. and_then (read_at storage ctype line n st) (λ x st. and_then (computed op_line (binary_of (step_op up) x one) st) (λ y st. and_then (write_at storage ctype line n y st) (λ z st. Gives (new_or_old before z x) st))))
    step_runs storage ctype line op_line up before place n stack held =
        runs_joined code callers answers Any Any (plain (i.Fetch line storage ctype place ∷ [])) (plain (i.Step op_line up ∷ i.Stepped line storage ctype place before ∷ [])) (stacked place n stack) (pushed (stacked place n stack)) (pushed stack)
        (read_at storage ctype line n) (λ x st. and_then (computed op_line (binary_of (step_op up) x one) st) (λ y st. and_then (write_at storage ctype line n y st) (λ z st. Gives (new_or_old before z x) st)))
        (sized_plain (i.Fetch line storage ctype place ∷ [])) (runs_fetch storage ctype line place n stack held)
        (λ x p. runs_joined code callers answers Any Any (plain (i.Step op_line up ∷ [])) (plain (i.Stepped line storage ctype place before ∷ [])) (slot.Value x ∷ stacked place n stack) (λ y. slot.Value y ∷ slot.Value x ∷ stacked place n stack) (pushed stack)
        (computed op_line (binary_of (step_op up) x one)) (λ y st. and_then (write_at storage ctype line n y st) (λ z st. Gives (new_or_old before z x) st)) (sized_plain (i.Step op_line up ∷ []))
        (runs_instr code callers answers Any (i.Step op_line up) (slot.Value x ∷ stacked place n stack) (λ y. slot.Value y ∷ slot.Value x ∷ stacked place n stack) (computed op_line (binary_of (step_op up) x one))
        (λ b st. refl) (λ most st le. keeps_computed most op_line (binary_of (step_op up) x one) st le))
        (λ y q. runs_instr code callers answers Any (i.Stepped line storage ctype place before) (slot.Value y ∷ slot.Value x ∷ stacked place n stack) (pushed stack) (λ st. and_then (write_at storage ctype line n y st) (λ z st. Gives (new_or_old before z x) st))
        (λ b st. on_stacked place n stack _ held ∙ from_then (write_at storage ctype line n y st) (new_or_old before) x _)
        (λ most st le. keeps_then most Any Any (keeps_write most storage ctype line n y st le) (λ z st le p. Keeps.gives le tt))))

    update_step : (line : ℕ) (ctype : CType) (up before : Bool) (place : Place) (n : ℕ) (stack : List Slot) → PlaceHeld place n
        → Runs code callers answers Any (plain (i.Push one ∷ i.Modify line SeqCst (kind_of_op (step_op up)) ctype place (not_before before) ∷ [])) (stacked place n stack) (pushed stack) (update line n ctype (step_op up) (not_before before) one)
    update_step line ctype up before place n stack held = runs_step code callers answers Any (i.Push one) (plain (i.Modify line SeqCst (kind_of_op (step_op up)) ctype place (not_before before) ∷ [])) (stacked place n stack) (slot.Value one ∷ stacked place n stack) (pushed stack)
        (update line n ctype (step_op up) (not_before before) one) (λ b st. refl) (runs_modify line SeqCst (kind_of_op (step_op up)) ctype place (not_before before) n one stack held)

    steps_run : (entity : Option Entity) (line op_line : ℕ) (up before : Bool) (place : Place) (n : ℕ) (stack : List Slot) → PlaceHeld place n
        → Runs code callers answers Any (plain (step entity line op_line up before place)) (stacked place n stack) (pushed stack) (meaning.step entity line op_line up before n)
    steps_run (Some (e.Local ctype base size)) line op_line up before place n stack held = step_runs Local ctype line op_line up before place n stack held
    steps_run (Some (e.Plain ctype base size)) line op_line up before place n stack held = step_runs Plain ctype line op_line up before place n stack held
    steps_run (Some (e.Atomic ctype base size)) line op_line up before place n stack held = update_step line ctype up before place n stack held
    steps_run (Some (e.Defined value)) line op_line up before place n stack held = runs_dropped place n nothing stack
    steps_run (Some (e.Constant constant)) line op_line up before place n stack held = runs_dropped place n nothing stack
    steps_run (Some (e.Handle base size)) line op_line up before place n stack held = runs_dropped place n nothing stack
    steps_run (Some (e.Mutex base size)) line op_line up before place n stack held = runs_dropped place n nothing stack
    steps_run (Some (e.Function function signature)) line op_line up before place n stack held = runs_dropped place n nothing stack
    steps_run (Some (e.Library library)) line op_line up before place n stack held = runs_dropped place n nothing stack
    steps_run (Some (e.Order order)) line op_line up before place n stack held = runs_dropped place n nothing stack
    steps_run None line op_line up before place n stack held = runs_dropped place n nothing stack

    pub stepping_does : (o : Object Coding) (w : Object Valuing) (op_line : ℕ) (up before : Bool) → ObjectDoes code callers answers calls o w → Does (stepping o op_line up before) (means.stepping w op_line up before)
    stepping_does o w op_line up before d = record {
      sized = λ scope. sized_joined (located o scope) (plain (step (entity_of o scope) (line_of o) op_line up before (place_in o scope))) (object_sized o w scope d)
          (sized_plain (step (entity_of o scope) (line_of o) op_line up before (place_in o scope)));
      does = λ scope stack. runs_same code callers answers Any (stepping o op_line up before scope) stack (pushed stack) _ (means.stepping w op_line up before scope calls)
          (λ st. ap (λ (entity : Option Entity). and_then (means.located w scope calls st) (meaning.step entity (line_of o) op_line up before)) (same_entity_of o w scope d)
          ∙ ap (λ (k : ℕ). and_then (means.located w scope calls st) (meaning.step (entity_of w scope) k op_line up before)) (same_line o w d))
          (behind_object o w scope stack (plain (step (entity_of o scope) (line_of o) op_line up before (place_in o scope))) (meaning.step (entity_of o scope) (line_of o) op_line up before) d
          (λ n held. steps_run (entity_of o scope) (line_of o) op_line up before (place_in o scope) n stack held));
    }
