-- The code of calls does what their meaning says.
use Rattle.std.proofs.Common.{◌≡◌, ℕ, zero, suc, ◌+◌, ◌≤◌, Bool, true, false, List, [], ◌∷◌, ◌++◌, length, Option, Some, None, refl, ap, ◌∙◌, sym, arith}
use Rattle.std.specs.Prelude.{ℤ, slice_get, if◌then◌else◌}
use Rattle.c11_num.specs.Ranges.{TypedNumber}
use Rattle.c11_num.specs.Wrapping.{converted}
use Rattle.c11_num.specs.declared.value.CType.{CType}
use Rattle.c11_num.specs.declared.value.CType.TheVariants.{Long}
use Rattle.c11_num.specs.declared.kind.RmwKind.{RmwKind}
use Rattle.c11_ast.specs.declared.expr.CastTo.TheVariants as to
use Rattle.c11_events.specs.declared.order.Order.{Order}
use Rattle.c11_events.specs.declared.op.Ask.{Ask}
use Rattle.c11_events.specs.declared.op.Op.{Op}
use Rattle.c11_events.specs.declared.op.Op.TheVariants as op
use Rattle.c11_events.specs.declared.op.StopKind.TheVariants as stop
use Rattle.c11_events.specs.declared.reply.Reply.{Reply}
use Rattle.c11_events.specs.declared.reply.Reply.TheVariants as reply
use Rattle.c11_check.specs.declared.entity.Entity.{Entity}
use Rattle.c11_check.specs.declared.entity.Entity.TheVariants as e
use Rattle.c11_check.specs.declared.library.Library.{Library}
use Rattle.c11_check.specs.declared.library.Library.TheVariants as l
use Rattle.c11_check.specs.declared.format.Within.TheVariants as format
use Rattle.c11_check.specs.Scopes.{Scope}
use Rattle.c11_check.specs.Types.{entity_type}
use Rattle.c11_meaning.specs.Outcome.{State, Outcome, Gives, Wants, Over, and_then, operation, told, when_done, left}
use Rattle.c11_meaning.specs.Outcome as outcome
use Rattle.c11_meaning.specs.Objects.{nothing, is_zero, local_value, updated}
use Rattle.c11_meaning.specs.Prints.{printed}
use Rattle.c11_meaning.specs.Parts.{Object, Given, entity_of, given_object, given_entity, order_in, second_order_in, function_named}
use Rattle.c11_meaning.specs.Expressions.{Calls, Valuing, cast}
use Rattle.c11_meaning.specs.Expressions as means
use Rattle.c11_meaning.specs.Library.{when_locked, tried, created, exchanged, joined, thread_of, writing, zero_number}
use Rattle.c11_meaning.specs.Library as lib
use Rattle.c11_flat.specs.declared.instr.Instr.{Instr}
use Rattle.c11_flat.specs.declared.instr.Instr.TheVariants as i
use Rattle.c11_flat.specs.declared.instr.Acts.{Acts}
use Rattle.c11_flat.specs.declared.instr.Acts.TheVariants as acts
use Rattle.c11_flat.specs.declared.instr.Place.{Place}
use Rattle.c11_flat.specs.declared.instr.Place.TheVariants.{At}
use Rattle.c11_flat.specs.declared.instr.Storage.TheVariants.{Local}
use Rattle.c11_flat.specs.declared.slot.Slot.{Slot}
use Rattle.c11_flat.specs.declared.slot.Slot.TheVariants as slot
use Rattle.c11_flat.specs.Pieces.{Piece, Coding, plain, with_instr, place_in, located, dropped, value_given, values_given, loading, storing, modifying, comparing, with_mutex, destroying, creating, handle_located, handle_place, answer_located, answer_place, handle_read, joining, library_call, call, type_in}
use Rattle.c11_flat.specs.Pieces as pieces
use Rattle.c11_flat.specs.Code.{Whole}
use Rattle.c11_flat.specs.Flat.{Caller, Next, To, from, popping, mutex_act, on_answer}
use Rattle.c11_flat.proofs.Follows.{Keeps, keeps_operation, keeps_stop, Follows, follows_bind, IsSized, sized_plain, sized_joined, config, Runs, runs_joined, runs_instr, runs_none, runs_same}
use Rattle.c11_flat.proofs.Parts.{Any, ValueDoes, ObjectDoes, MayNameDoes, none, some, GivenDoes, address, text, value, AllGiven, nil, cons, same_entity, same_order, same_second, given_named}
use Rattle.c11_flat.proofs.Objects.{keeps_done, keeps_if, from_gives, PlaceHeld, stacked, on_stacked, pushed, runs_load, runs_read, runs_store, runs_modify, runs_dropped, object_sized, located_runs, behind_object, behind_value, same_entity_of}
use Rattle.c11_flat.proofs.Operators.{with_does, literal_does}

-- ---- the values of arguments on the stack, the last one on top

abbrev pub stacked_all : List TypedNumber → List Slot → List Slot
stacked_all [] stack = stack
stacked_all (v ∷ vs) stack = stacked_all vs (slot.Value v ∷ stack)

popped : (k n m : ℕ) (vs found : List TypedNumber) (stack : List Slot) (go : List TypedNumber → List Slot → Next) → k ≡ n + m → length vs ≡ n → popping k found (stacked_all vs stack) go ≡ popping m (vs ++ found) stack go
popped k n m [] found stack go e len = let same : k ≡ m = omega (arith, e, len) in ap (λ (x : ℕ). popping x found stack go) same
popped k zero m (v ∷ vs) found stack go e len = absurd (omega (arith, len))
popped k (suc n) m (v ∷ vs) found stack go e len = popped k n (suc m) vs found (slot.Value v ∷ stack) go (omega (arith, e)) (omega (arith, len))

nothing_behind : (vs : List TypedNumber) → vs ++ [] ≡ vs
nothing_behind [] = refl
nothing_behind (v ∷ vs) = ap (λ (xs : List TypedNumber). v ∷ xs) (nothing_behind vs)

pub takes_args : (n : ℕ) (vs : List TypedNumber) (stack : List Slot) (go : List TypedNumber → List Slot → Next) → length vs ≡ n → popping n [] (stacked_all vs stack) go ≡ go vs stack
takes_args n vs stack go len = popped n n 0 vs [] stack go (omega arith) len ∙ ap (λ (xs : List TypedNumber). go xs stack) (nothing_behind vs)

-- ---- what replies keep

keeps_exchanged : (most place : ℕ) (r : Reply) (st : State) → left st ≤ most → Keeps most Any (exchanged place r st)
keeps_exchanged most place (reply.Exchanged old true) st le = Keeps.gives le tt
keeps_exchanged most place (reply.Exchanged old false) st le = Keeps.gives le tt
keeps_exchanged most place _ st le = Keeps.over

keeps_locked : (most : ℕ) (r : Reply) (st : State) → left st ≤ most → Keeps most Any (when_locked r st)
keeps_locked most (reply.Locked true) st le = Keeps.gives le tt
keeps_locked most _ st le = Keeps.over

keeps_tried : (most : ℕ) (r : Reply) (st : State) → left st ≤ most → Keeps most Any (tried r st)
keeps_tried most (reply.Locked true) st le = Keeps.gives le tt
keeps_tried most (reply.Locked false) st le = Keeps.gives le tt
keeps_tried most _ st le = Keeps.over

keeps_created : (most place : ℕ) (r : Reply) (st : State) → left st ≤ most → Keeps most Any (created place r st)
keeps_created most place (reply.Created thread) st le = Keeps.gives le tt
keeps_created most place _ st le = Keeps.over

keeps_joined : (most : ℕ) (place : Option ℕ) (r : Reply) (st : State) → left st ≤ most → Keeps most Any (joined place r st)
keeps_joined most None (reply.Joined v) st le = Keeps.gives le tt
keeps_joined most (Some place) (reply.Joined v) st le = Keeps.gives le tt
keeps_joined most _ _ st le = Keeps.over

keeps_mutex : (most : ℕ) (a : Acts) (line mutex : ℕ) (st : State) → left st ≤ most → Keeps most Any (mutex_act a line mutex st)
keeps_mutex most acts.Init line mutex st le = keeps_operation most Any line _ st _ le (λ r after le. keeps_done most _ r after le)
keeps_mutex most acts.Lock line mutex st le = keeps_operation most Any line _ st _ le (λ r after le. keeps_locked most r after le)
keeps_mutex most acts.TryLock line mutex st le = keeps_operation most Any line _ st _ le (λ r after le. keeps_tried most r after le)
keeps_mutex most acts.Unlock line mutex st le = keeps_operation most Any line _ st _ le (λ r after le. keeps_done most _ r after le)

done_then : (r : Reply) (st : State) (v : TypedNumber) → and_then (when_done v r st) (λ w st. Gives nothing st) ≡ when_done nothing r st
unfolding and_then
done_then reply.Done st v = refl
done_then (reply.Value u) st v = refl
done_then (reply.Exchanged old success) st v = refl
done_then (reply.Locked taken) st v = refl
done_then (reply.Created thread) st v = refl
done_then (reply.Began function argument) st v = refl
done_then (reply.Joined u) st v = refl
done_then (reply.Fault kind) st v = refl

told_then : (r : Reply) (st : State) (kind : RmwKind) (w : TypedNumber) → and_then (told r st) (updated true kind w) ≡ told r st
unfolding and_then
told_then reply.Done st kind w = refl
told_then (reply.Value u) st kind w = refl
told_then (reply.Exchanged old success) st kind w = refl
told_then (reply.Locked taken) st kind w = refl
told_then (reply.Created thread) st kind w = refl
told_then (reply.Began function argument) st kind w = refl
told_then (reply.Joined u) st kind w = refl
told_then (reply.Fault k) st kind w = refl

by_replies : (ask : Ask) (locals : List ℤ) (replies : List Reply) (f g : Reply → State → Outcome TypedNumber) → ((r : Reply) (st : State) → f r st ≡ g r st) → outcome.with_reply ask locals replies f ≡ outcome.with_reply ask locals replies g
unfolding outcome.with_reply
by_replies ask locals [] f g same = refl
by_replies ask locals (r ∷ rs) f g same = same r _

then_replies : (ask : Ask) (locals : List ℤ) (replies : List Reply) (go : Reply → State → Outcome TypedNumber) (f : TypedNumber → State → Outcome TypedNumber)
    → and_then (outcome.with_reply ask locals replies go) f ≡ outcome.with_reply ask locals replies (λ r st. and_then (go r st) f)
unfolding outcome.with_reply and_then
then_replies ask locals [] go f = refl
then_replies ask locals (r ∷ rs) go f = refl

done_nothing : (line : ℕ) (o : Op) (st : State) (v : TypedNumber) → and_then (operation line o st (when_done v)) (λ w st. Gives nothing st) ≡ operation line o st (when_done nothing)
done_nothing line o st v = then_replies _ st.locals st.replies (when_done v) (λ w st. Gives nothing st) ∙ by_replies _ st.locals st.replies (λ r st. and_then (when_done v r st) (λ w st. Gives nothing st)) (when_done nothing) (λ r st. done_then r st v)

told_old : (line : ℕ) (o : Op) (st : State) (kind : RmwKind) (w : TypedNumber) → operation line o st (λ r st. and_then (told r st) (updated true kind w)) ≡ operation line o st told
told_old line o st kind w = by_replies _ st.locals st.replies (λ r st. and_then (told r st) (updated true kind w)) told (λ r st. told_then r st kind w)

module _ (code : Whole) (callers : List Caller) (answers : Option CType) where
  abbrev Pushes : Piece → List Slot → List Slot → (State → Outcome TypedNumber) → Type 0
  Pushes piece before stack m = Runs code callers answers Any piece before (pushed code callers answers stack) m

  -- the code of a call of a function does what the call does
  abbrev pub CallsDo : Calls → Type 0
  CallsDo calls = (most place line function : ℕ) (vs : List TypedNumber) (stack : List Slot) (st : State) → left st ≤ most → slice_get code.instrs place ≡ Some (i.Call line function (length vs))
      → Follows code most Any (To (config code callers answers place (stacked_all vs stack) st)) (λ v st. To (config code callers answers (place + 1) (slot.Value v ∷ stack) st)) (calls line function vs st)

  module _ (calls : Calls) where
    abbrev Does : Coding → Valuing → Type 0
    Does = ValueDoes code callers answers calls

    abbrev GivenDo : Given Coding → Given Valuing → Type 0
    GivenDo = GivenDoes code callers answers calls

    abbrev AllDo : List (Given Coding) → List (Given Valuing) → Type 0
    AllDo = AllGiven code callers answers calls

    abbrev ObjectDo : Object Coding → Object Valuing → Type 0
    ObjectDo = ObjectDoes code callers answers calls

    -- ---- arguments

    pub given_does : (g : Given Coding) (h : Given Valuing) → GivenDo g h → Does (value_given g) (lib.value_given h)
    given_does _ _ (address d) = literal_does code callers answers calls nothing
    given_does _ _ (text bytes) = literal_does code callers answers calls nothing
    given_does _ _ (value d) = d.value

    abbrev HasLength : ℕ → List TypedNumber → Type 0
    HasLength n vs = length vs ≡ n

    pub givens_sized : (gs : List (Given Coding)) (hs : List (Given Valuing)) (scope : Scope) → AllDo gs hs → IsSized (values_given gs scope)
    givens_sized _ _ scope nil = sized_plain []
    givens_sized _ _ scope (cons {g = g} {h = h} {gs = gs} {hs = hs} d ds) = sized_joined (value_given g scope) (values_given gs scope) ((given_does g h d).sized scope) (givens_sized gs hs scope ds)

    one_more : (gs : List (Given Coding)) (hs : List (Given Valuing)) (scope : Scope) (v : TypedNumber) (stack : List Slot)
        → ((before : List Slot) → Runs code callers answers (HasLength (length gs)) (values_given gs scope) before (λ vs. stacked_all vs before) (lib.values_given hs scope calls))
        → Runs code callers answers (HasLength (suc (length gs))) (values_given gs scope) (slot.Value v ∷ stack) (λ vs. stacked_all vs stack) (λ st. and_then (lib.values_given hs scope calls st) (λ vs st. Gives (v ∷ vs) st))
    one_more gs hs scope v stack rest most b st le has = follows_bind code most (HasLength (length gs)) (HasLength (suc (length gs))) _ (rest (slot.Value v ∷ stack) most b st le has)
        (λ vs st le p. Follows.gives le (ap suc p) (0, refl))

    pub givens_run : (gs : List (Given Coding)) (hs : List (Given Valuing)) (scope : Scope) (stack : List Slot) → AllDo gs hs
        → Runs code callers answers (HasLength (length gs)) (values_given gs scope) stack (λ vs. stacked_all vs stack) (lib.values_given hs scope calls)
    givens_run _ _ scope stack nil = runs_none code callers answers (HasLength 0) [] (λ vs. stacked_all vs stack) refl
    givens_run _ _ scope stack (cons {g = g} {h = h} {gs = gs} {hs = hs} d ds) =
        runs_joined code callers answers Any (HasLength (suc (length gs))) (value_given g scope) (values_given gs scope) stack (pushed code callers answers stack) (λ vs. stacked_all vs stack)
        (lib.value_given h scope calls) (λ v st. and_then (lib.values_given hs scope calls st) (λ vs st. Gives (v ∷ vs) st)) ((given_does g h d).sized scope) ((given_does g h d).does scope stack)
        (λ v p. one_more gs hs scope v stack (λ before. givens_run gs hs scope before ds))

    -- ---- atomic operations

    pub loading_does : (line : ℕ) (a : Object Coding) (a' : Object Valuing) (gs : List (Given Coding)) (hs : List (Given Valuing)) → ObjectDo a a' → AllDo gs hs → Does (loading line a gs) (lib.loading line a' hs)
    loading_does line a a' gs hs d ds = record {
      sized = λ scope. sized_joined (located a scope) (plain (i.Load line (order_in gs scope) (place_in a scope) ∷ [])) (object_sized code callers answers calls a a' scope d) (sized_plain (i.Load line (order_in gs scope) (place_in a scope) ∷ []));
      does = λ scope stack. runs_same code callers answers Any (loading line a gs scope) stack (pushed code callers answers stack) _ (lib.loading line a' hs scope calls)
          (λ st. ap (λ (order : Order). and_then (means.located a' scope calls st) (λ cell st. operation line (op.AtomicLoad cell order) st told)) (same_order code callers answers calls gs hs scope ds))
          (behind_object code callers answers calls a a' scope stack (plain (i.Load line (order_in gs scope) (place_in a scope) ∷ [])) (λ cell st. operation line (op.AtomicLoad cell (order_in gs scope)) st told) d
          (λ n held. runs_load code callers answers line (order_in gs scope) (place_in a scope) n stack held));
    }

    abbrev type_held : Object Valuing → Scope → CType
    type_held w scope = entity_type (entity_of w scope)

    same_type : (o : Object Coding) (w : Object Valuing) (scope : Scope) → ObjectDo o w → type_in o scope ≡ type_held w scope
    same_type o w scope d = ap entity_type (same_entity_of code callers answers calls o w scope d)

    -- the value given, and one instruction, behind the place of an object
    object_value : (a : Object Coding) (a' : Object Valuing) (g : Given Coding) (h : Given Valuing) (scope : Scope) (stack : List Slot) (q : Piece) (f : ℕ → TypedNumber → State → Outcome TypedNumber) → ObjectDo a a' → GivenDo g h
        → ((n : ℕ) (v : TypedNumber) → PlaceHeld (place_in a scope) n → Pushes q (slot.Value v ∷ stacked (place_in a scope) n stack) stack (f n v))
        → Pushes (pieces.joined (located a scope) (pieces.joined (value_given g scope) q)) stack stack (λ st. and_then (means.located a' scope calls st) (λ n st. and_then (lib.value_given h scope calls st) (f n)))
    object_value a a' g h scope stack q f d dg rest = behind_object code callers answers calls a a' scope stack (pieces.joined (value_given g scope) q) (λ n st. and_then (lib.value_given h scope calls st) (f n)) d
        (λ n held. behind_value code callers answers calls (value_given g) (lib.value_given h) scope (stacked (place_in a scope) n stack) stack q (f n) (given_does g h dg) (λ v. rest n v held))

    sized_object_value : (a : Object Coding) (a' : Object Valuing) (g : Given Coding) (h : Given Valuing) (scope : Scope) (instrs : List Instr) → ObjectDo a a' → GivenDo g h
        → IsSized (pieces.joined (located a scope) (pieces.joined (value_given g scope) (plain instrs)))
    sized_object_value a a' g h scope instrs d dg = sized_joined (located a scope) (pieces.joined (value_given g scope) (plain instrs)) (object_sized code callers answers calls a a' scope d)
        (sized_joined (value_given g scope) (plain instrs) ((given_does g h dg).sized scope) (sized_plain instrs))

    -- a store that gives nothing
    store_void : (line : ℕ) (order : Order) (ctype : CType) (place : Place) (n : ℕ) (v : TypedNumber) (stack : List Slot) → PlaceHeld place n
        → Pushes (plain (i.Store line order ctype place ∷ i.Cast to.Void ∷ [])) (slot.Value v ∷ stacked place n stack) stack (λ st. operation line (op.AtomicStore n order (converted ctype v)) st (when_done nothing))
    store_void line order ctype place n v stack held = runs_same code callers answers Any (plain (i.Store line order ctype place ∷ i.Cast to.Void ∷ [])) (slot.Value v ∷ stacked place n stack) (pushed code callers answers stack)
        (λ st. and_then (operation line (op.AtomicStore n order (converted ctype v)) st (when_done (converted ctype v))) (λ w st. Gives nothing st)) (λ st. operation line (op.AtomicStore n order (converted ctype v)) st (when_done nothing))
        (λ st. done_nothing line (op.AtomicStore n order (converted ctype v)) st (converted ctype v))
        (runs_joined code callers answers Any Any (plain (i.Store line order ctype place ∷ [])) (plain (i.Cast to.Void ∷ [])) (slot.Value v ∷ stacked place n stack) (pushed code callers answers stack) (pushed code callers answers stack)
        (λ st. operation line (op.AtomicStore n order (converted ctype v)) st (when_done (converted ctype v))) (λ w st. Gives nothing st) (sized_plain (i.Store line order ctype place ∷ []))
        (runs_store code callers answers line order ctype place n v stack held)
        (λ w p. runs_instr code callers answers Any (i.Cast to.Void) (slot.Value w ∷ stack) (pushed code callers answers stack) (λ st. Gives nothing st)
        (λ b st. from_gives nothing st (λ u st. To (config code callers answers (b + 1) (slot.Value u ∷ stack) st))) (λ most st le. Keeps.gives le tt)))

    pub storing_does : (line : ℕ) (a : Object Coding) (a' : Object Valuing) (g : Given Coding) (h : Given Valuing) (gs : List (Given Coding)) (hs : List (Given Valuing)) → ObjectDo a a' → GivenDo g h → AllDo gs hs → Does (storing line a g gs) (lib.storing line a' h hs)
    storing_does line a a' g h gs hs d dg ds = record {
      sized = λ scope. sized_object_value a a' g h scope (i.Store line (order_in gs scope) (type_in a scope) (place_in a scope) ∷ i.Cast to.Void ∷ []) d dg;
      does = λ scope stack. runs_same code callers answers Any (storing line a g gs scope) stack (pushed code callers answers stack) _ (lib.storing line a' h hs scope calls)
          (λ st. ap (λ (ctype : CType). and_then (means.located a' scope calls st) (λ cell st. and_then (lib.value_given h scope calls st) (λ v st. operation line (op.AtomicStore cell (order_in gs scope) (converted ctype v)) st (when_done nothing)))) (same_type a a' scope d)
          ∙ ap (λ (order : Order). and_then (means.located a' scope calls st) (λ cell st. and_then (lib.value_given h scope calls st) (λ v st. operation line (op.AtomicStore cell order (converted (type_held a' scope) v)) st (when_done nothing)))) (same_order code callers answers calls gs hs scope ds))
          (object_value a a' g h scope stack (plain (i.Store line (order_in gs scope) (type_in a scope) (place_in a scope) ∷ i.Cast to.Void ∷ [])) (λ n v st. operation line (op.AtomicStore n (order_in gs scope) (converted (type_in a scope) v)) st (when_done nothing)) d dg
          (λ n v held. store_void line (order_in gs scope) (type_in a scope) (place_in a scope) n v stack held));
    }

    pub modifying_does : (line : ℕ) (kind : RmwKind) (a : Object Coding) (a' : Object Valuing) (g : Given Coding) (h : Given Valuing) (gs : List (Given Coding)) (hs : List (Given Valuing)) → ObjectDo a a' → GivenDo g h → AllDo gs hs
        → Does (modifying line kind a g gs) (lib.modifying line kind a' h hs)
    modifying_does line kind a a' g h gs hs d dg ds = record {
      sized = λ scope. sized_object_value a a' g h scope (i.Modify line (order_in gs scope) kind (type_in a scope) (place_in a scope) true ∷ []) d dg;
      does = λ scope stack. runs_same code callers answers Any (modifying line kind a g gs scope) stack (pushed code callers answers stack) _ (lib.modifying line kind a' h hs scope calls)
          (λ st. ap (λ (ctype : CType). and_then (means.located a' scope calls st) (λ cell st. and_then (lib.value_given h scope calls st) (λ v st. operation line (op.Rmw cell (order_in gs scope) kind (converted ctype v)) st told))) (same_type a a' scope d)
          ∙ ap (λ (order : Order). and_then (means.located a' scope calls st) (λ cell st. and_then (lib.value_given h scope calls st) (λ v st. operation line (op.Rmw cell order kind (converted (type_held a' scope) v)) st told))) (same_order code callers answers calls gs hs scope ds))
          (object_value a a' g h scope stack (plain (i.Modify line (order_in gs scope) kind (type_in a scope) (place_in a scope) true ∷ [])) (λ n v st. operation line (op.Rmw n (order_in gs scope) kind (converted (type_in a scope) v)) st told) d dg
          (λ n v held. runs_same code callers answers Any (plain (i.Modify line (order_in gs scope) kind (type_in a scope) (place_in a scope) true ∷ [])) (slot.Value v ∷ stacked (place_in a scope) n stack) (pushed code callers answers stack) _
          (λ st. operation line (op.Rmw n (order_in gs scope) kind (converted (type_in a scope) v)) st told) (λ st. told_old line (op.Rmw n (order_in gs scope) kind (converted (type_in a scope) v)) st kind (converted (type_in a scope) v))
          (runs_modify code callers answers line (order_in gs scope) kind (type_in a scope) (place_in a scope) true n v stack held)));
    }

    abbrev lib_compare : ℕ → Bool → Order → Order → CType → CType → Object Valuing → Object Valuing → Given Valuing → Scope → State → Outcome TypedNumber
    lib_compare line weak success failure ctype expected a' x' h scope st = and_then (means.located a' scope calls st) (λ cell st. and_then (means.located x' scope calls st) (λ place st. and_then (lib.value_given h scope calls st) (λ v st.
        operation line (op.CompareExchange cell success failure weak (local_value expected st place) (converted ctype v)) st (exchanged place))))

    -- ---- compare-exchange: the place of the local lies above that of the atomic object

    comparing_runs : (line : ℕ) (weak : Bool) (success failure : Order) (a x : Object Coding) (a' x' : Object Valuing) (g : Given Coding) (h : Given Valuing) (scope : Scope) (stack : List Slot) → ObjectDo a a' → ObjectDo x x' → GivenDo g h
        → Pushes (pieces.joined (located a scope) (pieces.joined (located x scope) (with_instr (value_given g scope) (i.Compare line weak success failure (type_in a scope) (type_in x scope) (place_in a scope) (place_in x scope))))) stack stack
        (λ st. and_then (means.located a' scope calls st) (λ cell st. and_then (means.located x' scope calls st) (λ place st. and_then (lib.value_given h scope calls st) (λ v st.
        operation line (op.CompareExchange cell success failure weak (local_value (type_in x scope) st place) (converted (type_in a scope) v)) st (exchanged place)))))
    comparing_runs line weak success failure a x a' x' g h scope stack d dx dg =
        behind_object code callers answers calls a a' scope stack (pieces.joined (located x scope) (with_instr (value_given g scope) (i.Compare line weak success failure (type_in a scope) (type_in x scope) (place_in a scope) (place_in x scope))))
        (λ cell st. and_then (means.located x' scope calls st) (λ place st. and_then (lib.value_given h scope calls st) (λ v st.
        operation line (op.CompareExchange cell success failure weak (local_value (type_in x scope) st place) (converted (type_in a scope) v)) st (exchanged place)))) d
        (λ n held. runs_joined code callers answers (PlaceHeld (place_in x scope)) Any (located x scope) (with_instr (value_given g scope) (i.Compare line weak success failure (type_in a scope) (type_in x scope) (place_in a scope) (place_in x scope)))
        (stacked (place_in a scope) n stack) (λ m. stacked (place_in x scope) m (stacked (place_in a scope) n stack)) (pushed code callers answers stack) (means.located x' scope calls)
        (λ place st. and_then (lib.value_given h scope calls st) (λ v st. operation line (op.CompareExchange n success failure weak (local_value (type_in x scope) st place) (converted (type_in a scope) v)) st (exchanged place)))
        (object_sized code callers answers calls x x' scope dx) (located_runs code callers answers calls x x' scope (stacked (place_in a scope) n stack) dx)
        (λ m held'. behind_value code callers answers calls (value_given g) (lib.value_given h) scope (stacked (place_in x scope) m (stacked (place_in a scope) n stack)) stack
        (plain (i.Compare line weak success failure (type_in a scope) (type_in x scope) (place_in a scope) (place_in x scope) ∷ []))
        (λ v st. operation line (op.CompareExchange n success failure weak (local_value (type_in x scope) st m) (converted (type_in a scope) v)) st (exchanged m)) (given_does g h dg)
        (λ v. runs_instr code callers answers Any (i.Compare line weak success failure (type_in a scope) (type_in x scope) (place_in a scope) (place_in x scope)) (slot.Value v ∷ stacked (place_in x scope) m (stacked (place_in a scope) n stack)) (pushed code callers answers stack)
        (λ st. operation line (op.CompareExchange n success failure weak (local_value (type_in x scope) st m) (converted (type_in a scope) v)) st (exchanged m))
        (λ b st. on_stacked (place_in x scope) m (stacked (place_in a scope) n stack) _ held' ∙ on_stacked (place_in a scope) n stack _ held)
        (λ most st le. keeps_operation most Any line _ st _ le (λ r after le. keeps_exchanged most m r after le)))))

    pub comparing_does : (line : ℕ) (weak : Bool) (a x : Object Coding) (a' x' : Object Valuing) (g : Given Coding) (h : Given Valuing) (gs : List (Given Coding)) (hs : List (Given Valuing)) → ObjectDo a a' → ObjectDo x x' → GivenDo g h → AllDo gs hs
        → Does (comparing line weak a x g gs) (lib.comparing line weak a' x' h hs)
    comparing_does line weak a x a' x' g h gs hs d dx dg ds = record {
      sized = λ scope. sized_joined (located a scope) (pieces.joined (located x scope) (with_instr (value_given g scope) (i.Compare line weak (order_in gs scope) (second_order_in gs scope) (type_in a scope) (type_in x scope) (place_in a scope) (place_in x scope))))
          (object_sized code callers answers calls a a' scope d) (sized_object_value x x' g h scope (i.Compare line weak (order_in gs scope) (second_order_in gs scope) (type_in a scope) (type_in x scope) (place_in a scope) (place_in x scope) ∷ []) dx dg);
      does = λ scope stack. runs_same code callers answers Any (comparing line weak a x g gs scope) stack (pushed code callers answers stack) _ (lib.comparing line weak a' x' h hs scope calls)
          (λ st. ap (λ (order : Order). lib_compare line weak order (second_order_in gs scope) (type_in a scope) (type_in x scope) a' x' h scope st) (same_order code callers answers calls gs hs scope ds)
          ∙ (ap (λ (order : Order). lib_compare line weak (order_in hs scope) order (type_in a scope) (type_in x scope) a' x' h scope st) (same_second code callers answers calls gs hs scope ds)
          ∙ (ap (λ (ctype : CType). lib_compare line weak (order_in hs scope) (second_order_in hs scope) ctype (type_in x scope) a' x' h scope st) (same_type a a' scope d)
          ∙ ap (λ (ctype : CType). lib_compare line weak (order_in hs scope) (second_order_in hs scope) (type_held a' scope) ctype a' x' h scope st) (same_type x x' scope dx))))
          (comparing_runs line weak (order_in gs scope) (second_order_in gs scope) a x a' x' g h scope stack d dx dg);
    }

    -- ---- mutexes

    pub mutex_does : (a : Acts) (line : ℕ) (o : Object Coding) (w : Object Valuing) → ObjectDo o w → Does (with_mutex line a o) (λ scope calls st. and_then (means.located w scope calls st) (λ n st. mutex_act a line n st))
    mutex_does a line o w d = record {
      sized = λ scope. sized_joined (located o scope) (plain (i.Mutex line a (place_in o scope) ∷ [])) (object_sized code callers answers calls o w scope d) (sized_plain (i.Mutex line a (place_in o scope) ∷ []));
      does = λ scope stack. behind_object code callers answers calls o w scope stack (plain (i.Mutex line a (place_in o scope) ∷ [])) (λ n st. mutex_act a line n st) d
          (λ n held. runs_instr code callers answers Any (i.Mutex line a (place_in o scope)) (stacked (place_in o scope) n stack) (pushed code callers answers stack) (λ st. mutex_act a line n st)
          (λ b st. on_stacked (place_in o scope) n stack _ held) (λ most st le. keeps_mutex most a line n st le));
    }

    pub destroying_does : (o : Object Coding) (w : Object Valuing) → ObjectDo o w → Does (destroying o) (λ scope calls st. and_then (means.located w scope calls st) (λ n st. Gives nothing st))
    destroying_does o w d = record {
      sized = λ scope. sized_joined (located o scope) (plain (dropped (place_in o scope) ++ i.Push nothing ∷ [])) (object_sized code callers answers calls o w scope d) (sized_plain (dropped (place_in o scope) ++ i.Push nothing ∷ []));
      does = λ scope stack. behind_object code callers answers calls o w scope stack (plain (dropped (place_in o scope) ++ i.Push nothing ∷ [])) (λ n st. Gives nothing st) d
          (λ n held. runs_dropped code callers answers (place_in o scope) n nothing stack);
    }

    -- ---- threads

    pub creating_does : (line : ℕ) (o : Object Coding) (w : Object Valuing) (f : Given Coding) (f' : Given Valuing) (g : Given Coding) (h : Given Valuing) → ObjectDo o w → GivenDo f f' → GivenDo g h → Does (creating line o f g) (lib.creating line w f' h)
    creating_does line o w f f' g h d df dg = record {
      sized = λ scope. sized_object_value o w g h scope (i.Create line (function_named (given_entity f scope)) (place_in o scope) ∷ []) d dg;
      does = λ scope stack. runs_same code callers answers Any (creating line o f g scope) stack (pushed code callers answers stack) _ (lib.creating line w f' h scope calls)
          (λ st. ap (λ (entity : Option Entity). and_then (means.located w scope calls st) (λ n st. and_then (lib.value_given h scope calls st) (λ v st. operation line (op.Create (function_named entity) (converted Long v).number) st (created n))))
          (same_entity code callers answers calls f f' scope df))
          (object_value o w g h scope stack (plain (i.Create line (function_named (given_entity f scope)) (place_in o scope) ∷ [])) (λ n v st. operation line (op.Create (function_named (given_entity f scope)) (converted Long v).number) st (created n)) d dg
          (λ n v held. runs_instr code callers answers Any (i.Create line (function_named (given_entity f scope)) (place_in o scope)) (slot.Value v ∷ stacked (place_in o scope) n stack) (pushed code callers answers stack)
          (λ st. operation line (op.Create (function_named (given_entity f scope)) (converted Long v).number) st (created n)) (λ b st. on_stacked (place_in o scope) n stack _ held)
          (λ most st le. keeps_operation most Any line _ st _ le (λ r after le. keeps_created most n r after le))));
    }

    -- the handle that is given
    handle_sized : (o : Option (Object Coding)) (w : Option (Object Valuing)) (scope : Scope) → MayNameDoes code callers answers calls o w → IsSized (handle_located o scope)
    handle_sized _ _ scope none = sized_plain []
    handle_sized _ _ scope (some {o = o} {w = w} d) = object_sized code callers answers calls o w scope d

    handle_runs : (o : Option (Object Coding)) (w : Option (Object Valuing)) (scope : Scope) (stack : List Slot) → MayNameDoes code callers answers calls o w
        → Runs code callers answers (PlaceHeld (handle_place o scope)) (handle_located o scope) stack (λ n. stacked (handle_place o scope) n stack) (lib.handle_located w scope calls)
    handle_runs _ _ scope stack none = runs_none code callers answers (PlaceHeld (At 0)) 0 (λ n. stack) refl
    handle_runs _ _ scope stack (some {o = o} {w = w} d) = located_runs code callers answers calls o w scope stack d

    -- the place that gets the answer
    abbrev AnswerHeld : Option Place → Option ℕ → Type 0
    AnswerHeld None n = n ≡ None
    AnswerHeld (Some place) n = (m : ℕ) × ((n ≡ Some m) × PlaceHeld place m)

    abbrev answer_stacked : Option Place → Option ℕ → List Slot → List Slot
    answer_stacked (Some place) (Some n) stack = stacked place n stack
    answer_stacked _ _ stack = stack

    answer_sized : (g : Given Coding) (h : Given Valuing) (scope : Scope) → GivenDo g h → IsSized (answer_located g scope)
    answer_sized _ _ scope (address {o = o} {w = w} d) = object_sized code callers answers calls o w scope d
    answer_sized _ _ scope (text bytes) = sized_plain []
    answer_sized _ _ scope (value d) = sized_plain []

    answer_runs : (g : Given Coding) (h : Given Valuing) (scope : Scope) (stack : List Slot) → GivenDo g h
        → Runs code callers answers (AnswerHeld (answer_place g scope)) (answer_located g scope) stack (λ n. answer_stacked (answer_place g scope) n stack) (lib.answer_place h scope calls)
    answer_runs _ _ scope stack (address {o = o} {w = w} d) most b st le has = follows_bind code most (PlaceHeld (place_in o scope)) (AnswerHeld (Some (place_in o scope))) _ (located_runs code callers answers calls o w scope stack d most b st le has)
        (λ n st le held. Follows.gives le (n, (refl, held)) (0, refl))
    answer_runs _ _ scope stack (text bytes) most b st le has = runs_none code callers answers (AnswerHeld None) None (λ n. stack) refl most b st le has
    answer_runs _ _ scope stack (value d) most b st le has = runs_none code callers answers (AnswerHeld None) None (λ n. stack) refl most b st le has

    on_answer_stacked : (place : Option Place) (n : Option ℕ) (stack : List Slot) (go : Option ℕ → List Slot → Next) → AnswerHeld place n → on_answer place (answer_stacked place n stack) go ≡ go n stack
    on_answer_stacked None n stack go held = ap (λ (k : Option ℕ). go k stack) (sym held)
    on_answer_stacked (Some place) n stack go held =
        ap (λ (k : Option ℕ). on_answer (Some place) (answer_stacked (Some place) k stack) go) held.1.0 ∙ (on_stacked place held.0 stack (λ m stack. go (Some m) stack) held.1.1 ∙ ap (λ (k : Option ℕ). go k stack) (sym held.1.0))

    handle_read_sized : (line : ℕ) (g : Given Coding) (h : Given Valuing) (scope : Scope) → GivenDo g h → IsSized (handle_read line (given_object g) scope)
    handle_read_sized line g h scope dg = sized_joined (handle_located (given_object g) scope) (plain (i.Read line Local Long (handle_place (given_object g) scope) ∷ []))
        (handle_sized (given_object g) (given_object h) scope (given_named code callers answers calls g h dg)) (sized_plain (i.Read line Local Long (handle_place (given_object g) scope) ∷ []))

    handle_read_pushes : (line : ℕ) (g : Given Coding) (h : Given Valuing) (scope : Scope) (stack : List Slot) → GivenDo g h
        → Runs code callers answers Any (handle_read line (given_object g) scope) stack (pushed code callers answers stack) (lib.handle_read (given_object h) scope calls)
    handle_read_pushes line g h scope stack dg = let place = handle_place (given_object g) scope in
        runs_joined code callers answers (PlaceHeld place) Any (handle_located (given_object g) scope) (plain (i.Read line Local Long place ∷ [])) stack (λ n. stacked place n stack) (pushed code callers answers stack)
        (lib.handle_located (given_object h) scope calls) (λ n st. Gives (local_value Long st n) st)
        (handle_sized (given_object g) (given_object h) scope (given_named code callers answers calls g h dg)) (handle_runs (given_object g) (given_object h) scope stack (given_named code callers answers calls g h dg))
        (λ n held. runs_read code callers answers Local Long line place n stack held)

    pub joining_does : (line : ℕ) (g : Given Coding) (h : Given Valuing) (a : Given Coding) (a' : Given Valuing) → GivenDo g h → GivenDo a a' → Does (joining line g a) (lib.joining line h a')
    joining_does line g h a a' dg da = record {
      sized = λ scope. let join = i.Join line (answer_place a scope) in
          sized_joined (handle_read line (given_object g) scope) (with_instr (answer_located a scope) join) (handle_read_sized line g h scope dg)
          (sized_joined (answer_located a scope) (plain (join ∷ [])) (answer_sized a a' scope da) (sized_plain (join ∷ [])));
      does = λ scope stack. let join = i.Join line (answer_place a scope) in
          runs_joined code callers answers Any Any (handle_read line (given_object g) scope) (with_instr (answer_located a scope) join) stack (pushed code callers answers stack) (pushed code callers answers stack)
          (lib.handle_read (given_object h) scope calls) (λ thread st. and_then (lib.answer_place a' scope calls st) (λ answer st. operation line (op.Join (thread_of thread)) st (joined answer)))
          (handle_read_sized line g h scope dg) (handle_read_pushes line g h scope stack dg)
          (λ v any. runs_joined code callers answers (AnswerHeld (answer_place a scope)) Any (answer_located a scope) (plain (join ∷ [])) (slot.Value v ∷ stack)
          (λ m. answer_stacked (answer_place a scope) m (slot.Value v ∷ stack)) (pushed code callers answers stack) (lib.answer_place a' scope calls)
          (λ answer st. operation line (op.Join (thread_of v)) st (joined answer)) (answer_sized a a' scope da) (answer_runs a a' scope (slot.Value v ∷ stack) da)
          (λ m held'. runs_instr code callers answers Any join (answer_stacked (answer_place a scope) m (slot.Value v ∷ stack)) (pushed code callers answers stack) (λ st. operation line (op.Join (thread_of v)) st (joined m))
          (λ b st. on_answer_stacked (answer_place a scope) m (slot.Value v ∷ stack) _ held')
          (λ most st le. keeps_operation most Any line _ st _ le (λ r after le. keeps_joined most m r after le))));
    }

    -- ---- fences, `assert` and `printf`

    pub fence_does : (line : ℕ) (gs : List (Given Coding)) (hs : List (Given Valuing)) → AllDo gs hs → Does (λ scope. plain (i.Fence line (order_in gs scope) ∷ [])) (λ scope calls st. operation line (op.Fence (order_in hs scope)) st (when_done nothing))
    fence_does line gs hs ds = record {
      sized = λ scope. sized_plain (i.Fence line (order_in gs scope) ∷ []);
      does = λ scope stack. runs_same code callers answers Any (plain (i.Fence line (order_in gs scope) ∷ [])) stack (pushed code callers answers stack) (λ st. operation line (op.Fence (order_in gs scope)) st (when_done nothing)) (λ st. operation line (op.Fence (order_in hs scope)) st (when_done nothing))
          (λ st. ap (λ (order : Order). operation line (op.Fence order) st (when_done nothing)) (same_order code callers answers calls gs hs scope ds))
          (runs_instr code callers answers Any (i.Fence line (order_in gs scope)) stack (pushed code callers answers stack) (λ st. operation line (op.Fence (order_in gs scope)) st (when_done nothing)) (λ b st. refl)
          (λ most st le. keeps_operation most Any line _ st _ le (λ r after le. keeps_done most nothing r after le)));
    }

    from_if : (t : Bool) (a : Outcome TypedNumber) (v : TypedNumber) (st : State) (go : TypedNumber → State → Next) → (if t then from a go else go v st) ≡ from (if t then a else Gives v st) go
    from_if true a v st go = refl
    from_if false a v st go = from_gives v st go

    pub asserting_does : (line : ℕ) (g : Given Coding) (h : Given Valuing) → GivenDo g h → Does (λ scope. with_instr (value_given g scope) (i.Assert line)) (lib.asserting line h)
    asserting_does line g h dg = with_does code callers answers calls (value_given g) (lib.value_given h) (λ scope. i.Assert line) (λ scope v st. if is_zero v then outcome.stop line stop.Assert st else Gives nothing st) (given_does g h dg)
        (λ scope v stack. runs_instr code callers answers Any (i.Assert line) (slot.Value v ∷ stack) (pushed code callers answers stack) (λ st. if is_zero v then outcome.stop line stop.Assert st else Gives nothing st)
        (λ b st. from_if (is_zero v) (outcome.stop line stop.Assert st) nothing st (λ w st. To (config code callers answers (b + 1) (slot.Value w ∷ stack) st)))
        (λ most st le. keeps_if most Any (is_zero v) _ _ (keeps_stop most Any line _ st le) (Keeps.gives le tt)))

    pub printing_does : (line : ℕ) (bytes : List ℕ) (gs : List (Given Coding)) (hs : List (Given Valuing)) → AllDo gs hs → Does (λ scope. with_instr (values_given gs scope) (i.Print line bytes (length gs))) (lib.printing line bytes hs)
    printing_does line bytes gs hs ds = record {
      sized = λ scope. sized_joined (values_given gs scope) (plain (i.Print line bytes (length gs) ∷ [])) (givens_sized gs hs scope ds) (sized_plain (i.Print line bytes (length gs) ∷ []));
      does = λ scope stack. runs_joined code callers answers (HasLength (length gs)) Any (values_given gs scope) (plain (i.Print line bytes (length gs) ∷ [])) stack (λ vs. stacked_all vs stack) (pushed code callers answers stack)
          (lib.values_given hs scope calls) (λ vs st. writing line (printed format.Plain bytes vs) st) (givens_sized gs hs scope ds) (givens_run gs hs scope stack ds)
          (λ vs len. runs_instr code callers answers Any (i.Print line bytes (length gs)) (stacked_all vs stack) (pushed code callers answers stack) (λ st. writing line (printed format.Plain bytes vs) st)
          (λ b st. takes_args (length gs) vs stack _ len) (λ most st le. keeps_operation most Any line _ st _ le (λ r after le. keeps_done most _ r after le)));
    }

    -- ---- calls of functions

    pub function_does : CallsDo calls → (line function : ℕ) (gs : List (Given Coding)) (hs : List (Given Valuing)) → AllDo gs hs
        → Does (λ scope. with_instr (values_given gs scope) (i.Call line function (length gs))) (λ scope calls st. and_then (lib.values_given hs scope calls st) (λ vs st. calls line function vs st))
    function_does called line function gs hs ds = record {
      sized = λ scope. sized_joined (values_given gs scope) (plain (i.Call line function (length gs) ∷ [])) (givens_sized gs hs scope ds) (sized_plain (i.Call line function (length gs) ∷ []));
      does = λ scope stack. runs_joined code callers answers (HasLength (length gs)) Any (values_given gs scope) (plain (i.Call line function (length gs) ∷ [])) stack (λ vs. stacked_all vs stack) (pushed code callers answers stack)
          (lib.values_given hs scope calls) (λ vs st. calls line function vs st) (givens_sized gs hs scope ds) (givens_run gs hs scope stack ds)
          (λ vs len most b st le has. called most b line function vs stack st le (has.0 ∙ ap (λ (n : ℕ). Some (i.Call line function n)) (sym len)));
    }

    -- ---- each function of the library with its arguments

    nothing_does : Does (λ scope. plain (i.Push nothing ∷ [])) (λ scope calls st. Gives nothing st)
    nothing_does = literal_does code callers answers calls nothing

    library_does : (f : Library) (line : ℕ) (gs : List (Given Coding)) (hs : List (Given Valuing)) → AllDo gs hs → Does (library_call f line gs) (lib.library_call f line hs)
    library_does (l.Load explicit) line _ _ (cons (address {o = o} {w = w} d) (nil)) = loading_does line o w [] [] d nil
    library_does (l.Load explicit) line _ _ (cons (address {o = o} {w = w} d) (cons {g = g} {h = h} {gs = gs} {hs = hs} dg ds)) = loading_does line o w (g ∷ gs) (h ∷ hs) d (cons dg ds)
    library_does (l.Load explicit) line _ _ nil = nothing_does
    library_does (l.Load explicit) line _ _ (cons (text bytes) ds) = nothing_does
    library_does (l.Load explicit) line _ _ (cons (value d) ds) = nothing_does
    library_does (l.Store explicit) line _ _ (cons (address {o = o} {w = w} d) (cons {g = g} {h = h} {gs = gs} {hs = hs} dg ds)) = storing_does line o w g h gs hs d dg ds
    library_does (l.Store explicit) line _ _ (cons (address d) nil) = nothing_does
    library_does (l.Store explicit) line _ _ nil = nothing_does
    library_does (l.Store explicit) line _ _ (cons (text bytes) ds) = nothing_does
    library_does (l.Store explicit) line _ _ (cons (value d) ds) = nothing_does
    library_does (l.ReadWrite kind explicit) line _ _ (cons (address {o = o} {w = w} d) (cons {g = g} {h = h} {gs = gs} {hs = hs} dg ds)) = modifying_does line kind o w g h gs hs d dg ds
    library_does (l.ReadWrite kind explicit) line _ _ (cons (address d) nil) = nothing_does
    library_does (l.ReadWrite kind explicit) line _ _ nil = nothing_does
    library_does (l.ReadWrite kind explicit) line _ _ (cons (text bytes) ds) = nothing_does
    library_does (l.ReadWrite kind explicit) line _ _ (cons (value d) ds) = nothing_does
    library_does (l.CompareExchange weak explicit) line _ _ (cons (address {o = a} {w = a'} d) (cons (address {o = x} {w = x'} dx) (cons {g = g} {h = h} {gs = gs} {hs = hs} dg ds))) = comparing_does line weak a x a' x' g h gs hs d dx dg ds
    library_does (l.CompareExchange weak explicit) line _ _ (cons (address d) (cons (address dx) nil)) = nothing_does
    library_does (l.CompareExchange weak explicit) line _ _ (cons (address d) (cons (text bytes) ds)) = nothing_does
    library_does (l.CompareExchange weak explicit) line _ _ (cons (address d) (cons (value dx) ds)) = nothing_does
    library_does (l.CompareExchange weak explicit) line _ _ (cons (address d) nil) = nothing_does
    library_does (l.CompareExchange weak explicit) line _ _ nil = nothing_does
    library_does (l.CompareExchange weak explicit) line _ _ (cons (text bytes) ds) = nothing_does
    library_does (l.CompareExchange weak explicit) line _ _ (cons (value d) ds) = nothing_does
    library_does l.Fence line gs hs ds = fence_does line gs hs ds
    library_does l.MutexInit line _ _ (cons (address {o = o} {w = w} d) ds) = mutex_does acts.Init line o w d
    library_does l.MutexInit line _ _ nil = nothing_does
    library_does l.MutexInit line _ _ (cons (text bytes) ds) = nothing_does
    library_does l.MutexInit line _ _ (cons (value d) ds) = nothing_does
    library_does l.MutexLock line _ _ (cons (address {o = o} {w = w} d) ds) = mutex_does acts.Lock line o w d
    library_does l.MutexLock line _ _ nil = nothing_does
    library_does l.MutexLock line _ _ (cons (text bytes) ds) = nothing_does
    library_does l.MutexLock line _ _ (cons (value d) ds) = nothing_does
    library_does l.MutexTryLock line _ _ (cons (address {o = o} {w = w} d) ds) = mutex_does acts.TryLock line o w d
    library_does l.MutexTryLock line _ _ nil = nothing_does
    library_does l.MutexTryLock line _ _ (cons (text bytes) ds) = nothing_does
    library_does l.MutexTryLock line _ _ (cons (value d) ds) = nothing_does
    library_does l.MutexUnlock line _ _ (cons (address {o = o} {w = w} d) ds) = mutex_does acts.Unlock line o w d
    library_does l.MutexUnlock line _ _ nil = nothing_does
    library_does l.MutexUnlock line _ _ (cons (text bytes) ds) = nothing_does
    library_does l.MutexUnlock line _ _ (cons (value d) ds) = nothing_does
    library_does l.MutexDestroy line _ _ (cons (address {o = o} {w = w} d) ds) = destroying_does o w d
    library_does l.MutexDestroy line _ _ nil = nothing_does
    library_does l.MutexDestroy line _ _ (cons (text bytes) ds) = nothing_does
    library_does l.MutexDestroy line _ _ (cons (value d) ds) = nothing_does
    library_does l.Yield line gs hs ds = nothing_does
    library_does l.Create line _ _ (cons (address {o = o} {w = w} d) (cons {g = f} {h = f'} df (cons {g = g} {h = h} dg ds))) = creating_does line o w f f' g h d df dg
    library_does l.Create line _ _ (cons (address d) (cons df nil)) = nothing_does
    library_does l.Create line _ _ (cons (address d) nil) = nothing_does
    library_does l.Create line _ _ nil = nothing_does
    library_does l.Create line _ _ (cons (text bytes) ds) = nothing_does
    library_does l.Create line _ _ (cons (value d) ds) = nothing_does
    library_does l.Join line _ _ (cons {g = g} {h = h} dg (cons {g = a} {h = a'} da ds)) = joining_does line g h a a' dg da
    library_does l.Join line _ _ (cons dg nil) = nothing_does
    library_does l.Join line _ _ nil = nothing_does
    library_does l.Assert line _ _ (cons {g = g} {h = h} dg ds) = asserting_does line g h dg
    library_does l.Assert line _ _ nil = nothing_does
    library_does l.Print line _ _ (cons (text bytes) (nil)) = printing_does line bytes [] [] nil
    library_does l.Print line _ _ (cons (text bytes) (cons {g = g} {h = h} {gs = gs} {hs = hs} dg ds)) = printing_does line bytes (g ∷ gs) (h ∷ hs) (cons dg ds)
    library_does l.Print line _ _ nil = nothing_does
    library_does l.Print line _ _ (cons (address d) ds) = nothing_does
    library_does l.Print line _ _ (cons (value d) ds) = nothing_does

    -- ---- a call of what a name denotes

    pub call_does : CallsDo calls → (entity : Scope → Option Entity) (line : ℕ) (gs : List (Given Coding)) (hs : List (Given Valuing)) → AllDo gs hs
        → Does (λ scope. call (entity scope) line gs scope) (λ scope. lib.call (entity scope) line hs scope)
    call_does called entity line gs hs ds = record { sized = λ scope. sized_by scope (entity scope); does = λ scope stack. runs_by scope stack (entity scope) }
      where
        sized_by : (scope : Scope) (t : Option Entity) → IsSized (call t line gs scope)
        sized_by scope None = sized_plain (i.Push nothing ∷ [])
        sized_by scope (Some (e.Function function signature)) = (function_does called line function gs hs ds).sized scope
        sized_by scope (Some (e.Library f)) = (library_does f line gs hs ds).sized scope
        sized_by scope (Some (e.Local ctype base size)) = sized_plain (i.Push nothing ∷ [])
        sized_by scope (Some (e.Plain ctype base size)) = sized_plain (i.Push nothing ∷ [])
        sized_by scope (Some (e.Atomic ctype base size)) = sized_plain (i.Push nothing ∷ [])
        sized_by scope (Some (e.Defined v)) = sized_plain (i.Push nothing ∷ [])
        sized_by scope (Some (e.Constant constant)) = sized_plain (i.Push nothing ∷ [])
        sized_by scope (Some (e.Handle base size)) = sized_plain (i.Push nothing ∷ [])
        sized_by scope (Some (e.Mutex base size)) = sized_plain (i.Push nothing ∷ [])
        sized_by scope (Some (e.Order order)) = sized_plain (i.Push nothing ∷ [])

        runs_by : (scope : Scope) (stack : List Slot) (t : Option Entity) → Pushes (call t line gs scope) stack stack (lib.call t line hs scope calls)
        runs_by scope stack None = nothing_does.does scope stack
        runs_by scope stack (Some (e.Function function signature)) = (function_does called line function gs hs ds).does scope stack
        runs_by scope stack (Some (e.Library f)) = (library_does f line gs hs ds).does scope stack
        runs_by scope stack (Some (e.Local ctype base size)) = nothing_does.does scope stack
        runs_by scope stack (Some (e.Plain ctype base size)) = nothing_does.does scope stack
        runs_by scope stack (Some (e.Atomic ctype base size)) = nothing_does.does scope stack
        runs_by scope stack (Some (e.Defined v)) = nothing_does.does scope stack
        runs_by scope stack (Some (e.Constant constant)) = nothing_does.does scope stack
        runs_by scope stack (Some (e.Handle base size)) = nothing_does.does scope stack
        runs_by scope stack (Some (e.Mutex base size)) = nothing_does.does scope stack
        runs_by scope stack (Some (e.Order order)) = nothing_does.does scope stack
