-- Calls in a program without a fault ask for what is legal.
use Rattle.std.proofs.Common.{◌≡◌, ℕ, ◌<◌, Bool, true, false, List, [], ◌∷◌, ◌++◌, length, Option, Some, None, refl, sym, ap, ◌∙◌, subst, true≢false, ℤ, pos}
use Rattle.std.specs.Prelude.{⊤, slice_get, is_none, not, if◌then◌else◌}
use Rattle.c11_num.specs.Ranges.{TypedNumber}
use Rattle.c11_num.specs.Wrapping.{wrapped, converted}
use Rattle.c11_num.specs.declared.value.CType.{CType}
use Rattle.c11_num.specs.declared.value.CType.TheVariants as c
use Rattle.c11_num.specs.declared.kind.RmwKind.{RmwKind}
use Rattle.c11_ast.specs.declared.place.Spot.{Spot}
use Rattle.c11_ast.specs.declared.place.Word.{Word}
use Rattle.c11_events.specs.declared.op.Op.{Op}
use Rattle.c11_events.specs.declared.op.Op.TheVariants as op
use Rattle.c11_events.specs.declared.op.StopKind.TheVariants.{Assert}
use Rattle.c11_events.specs.declared.reply.Reply.{Reply}
use Rattle.c11_events.specs.declared.reply.Reply.TheVariants as reply
use Rattle.c11_check.specs.declared.entity.Entity.{Entity}
use Rattle.c11_check.specs.declared.entity.Entity.TheVariants as e
use Rattle.c11_check.specs.declared.fault.Rule.TheVariants as rule
use Rattle.c11_check.specs.declared.form.Form.{Form}
use Rattle.c11_check.specs.declared.form.Form.TheVariants as f
use Rattle.c11_check.specs.declared.format.Within.TheVariants.{Plain}
use Rattle.c11_check.specs.declared.library.Library.{Library}
use Rattle.c11_check.specs.declared.library.Library.TheVariants as l
use Rattle.c11_check.specs.declared.library.Want.{Want}
use Rattle.c11_check.specs.declared.library.Want.TheVariants as want
use Rattle.c11_check.specs.Faults.{when, unknown, misindexed, miscalled, miscounted, misprinted, misfailed, misexpected, misaddressed, misthreaded, misformed, misordered, stray, has_form, is_handle, is_function, is_wrong_object, is_misthreaded, is_thread_function, is_misexpected, differ, unvalued, first_token}
use Rattle.c11_check.specs.Library.{wants_of}
use Rattle.c11_check.specs.Scopes.{Scope, denoted}
use Rattle.c11_check.specs.Types.{entity_type}
use Rattle.c11_check.specs.Expressions.{Named, naming, no_faults, no_spots, address_form, name_form, text_form, argument, arguments, is_asked_for, forms_in, wants_in_call}
use Rattle.c11_check.specs.Expressions as check
use Rattle.c11_check.specs.Lies.{LiesIn}
use Rattle.c11_check.proofs.Lying.{nil_front, nil_back, when_nil}
use Rattle.c11_meaning.specs.Outcome.{State, Outcome, and_then, operation, told, when_done}
use Rattle.c11_meaning.specs.Objects.{nothing, option_number, is_zero, local_value}
use Rattle.c11_meaning.specs.Prints.{printed}
use Rattle.c11_meaning.specs.Parts.{Object, Given, entity_of, entity_given, given_object, given_entity, order_in, second_order_in, function_named}
use Rattle.c11_meaning.specs.Expressions.{Calls, Valuing, located}
use Rattle.c11_meaning.specs.Library.{value_given, loading, object_value, storing, modifying, exchanged, comparing, zero_number, when_locked, tried, created, creating, joined, answer_place, handle_read, thread_of, joining, values_given, printing, library_call, call}
use Rattle.c11_meaning.specs.Legal.{World, IsCellOf, IsThread, AreReplies, IsThreadFunction, IsOpOf}
use Rattle.c11_meaning.proofs.Fine.{IsKnownAt, IsKnownReply, thread_known, Good, AllKnown, Fine, Keeps, good_local, good_handle, fine_bind, fine_more, fine_operation, fine_stop, fine_told, fine_done, fine_if}
use Rattle.c11_meaning.proofs.Named.{CallsFine, Knows, AtEntity, ValueFine, IsNamed, named, indexed, IsFormed, GivenFine, AllGiven, located_fine}

-- ---- tests

sure : (b : Bool) → not b ≡ false → b ≡ true
sure true is = refl
sure false is = absurd (true≢false is)

clash : {A : Type 0} → true ≡ false → A
clash is = absurd (true≢false is)

-- ---- what an argument without a fault is

pub record Argued (w : Want) (part : check.Part) (scope : Scope) : Type 0 where
  pub faults : part.faults scope ≡ []
  pub form : has_form w (part.form scope) ≡ true
  pub addressed : misaddressed w (part.form scope) ≡ []
  pub threaded : misthreaded w (part.form scope) ≡ []

argued : (word : Word) (w : Want) (part : check.Part) (scope : Scope) → argument word w part scope ≡ [] → Argued w part scope
argued word w part scope clean =
    let form = part.form scope in
    let one = nil_back (part.faults scope) ((if is_asked_for w form then [] else part.misread scope) ++ (unvalued (part.voids scope) ++ (stray word w form ++ (misformed w form ++ (misaddressed w form ++ (misthreaded w form ++ misordered w form)))))) clean in
    let two = nil_back (if is_asked_for w form then [] else part.misread scope) (unvalued (part.voids scope) ++ (stray word w form ++ (misformed w form ++ (misaddressed w form ++ (misthreaded w form ++ misordered w form))))) one in
    let three = nil_back (unvalued (part.voids scope)) (stray word w form ++ (misformed w form ++ (misaddressed w form ++ (misthreaded w form ++ misordered w form)))) two in
    let four = nil_back (stray word w form) (misformed w form ++ (misaddressed w form ++ (misthreaded w form ++ misordered w form))) three in
    let five = nil_back (misformed w form) (misaddressed w form ++ (misthreaded w form ++ misordered w form)) four in
    let six = nil_back (misaddressed w form) (misthreaded w form ++ misordered w form) five in record {
      faults = nil_front (part.faults scope) _ clean;
      form = sure (has_form w form) (when_nil (not (has_form w form)) rule.Kind (first_token form) (nil_front (misformed w form) _ four));
      addressed = nil_front (misaddressed w form) _ five;
      threaded = nil_front (misthreaded w form) _ six;
    }

abbrev AllClean : List check.Part → Scope → Type 0
AllClean [] scope = ⊤
AllClean (part ∷ parts) scope = (part.faults scope ≡ []) × AllClean parts scope

all_clean : (word : Word) (wants : List Want) (parts : List check.Part) (scope : Scope) → arguments word wants parts scope ≡ [] → AllClean parts scope
all_clean word wants [] scope clean = tt
all_clean word [] (part ∷ parts) scope clean = (
  (argued word want.Value part scope (nil_front (argument word want.Value part scope) (arguments word [] parts scope) clean)).faults,
  all_clean word [] parts scope (nil_back (argument word want.Value part scope) (arguments word [] parts scope) clean),
)
all_clean word (w ∷ wants) (part ∷ parts) scope clean = (
  (argued word w part scope (nil_front (argument word w part scope) (arguments word wants parts scope) clean)).faults,
  all_clean word wants parts scope (nil_back (argument word w part scope) (arguments word wants parts scope) clean),
)

abbrev tail : List Want → List Want
tail [] = []
tail (v ∷ vs) = vs

-- an argument with `&`
abbrev pub behind_and : Spot → Named → check.Part
behind_and spot n = record { first = spot; form = address_form spot n; faults = naming n; misread = no_faults; voids = no_spots }

-- the first argument, and the rest
first_argued : (word : Word) (w : Want) (wants : List Want) (part : check.Part) (parts : List check.Part) (scope : Scope) → arguments word (w ∷ wants) (part ∷ parts) scope ≡ [] → Argued w part scope × (arguments word wants parts scope ≡ [])
first_argued word w wants part parts scope clean = (argued word w part scope (nil_front (argument word w part scope) (arguments word wants parts scope) clean), nil_back (argument word w part scope) (arguments word wants parts scope) clean)

-- ---- types

types_same : (a b : CType) → differ a b ≡ false → a ≡ b
types_same c.Int c.Int is = refl
types_same c.Unsigned c.Unsigned is = refl
types_same c.Long c.Long is = refl
types_same c.ULong c.ULong is = refl
types_same c.Int c.Unsigned is = clash is
types_same c.Int c.Long is = clash is
types_same c.Int c.ULong is = clash is
types_same c.Unsigned c.Int is = clash is
types_same c.Unsigned c.Long is = clash is
types_same c.Unsigned c.ULong is = clash is
types_same c.Long c.Int is = clash is
types_same c.Long c.Unsigned is = clash is
types_same c.Long c.ULong is = clash is
types_same c.ULong c.Int is = clash is
types_same c.ULong c.Unsigned is = clash is
types_same c.ULong c.Long is = clash is

-- what stands behind `&` is there, and is what is wanted
abbrev IsObjectFor : Want → Option Entity → Type 0
IsObjectFor w entity = (is_none entity ≡ false) × (is_wrong_object w entity ≡ false)

expected_typed : (a x : Option Entity) (p q r s : Spot) → IsObjectFor want.Atomic a → IsObjectFor want.Expected x → is_misexpected (f.Address p q a) (f.Address r s x) ≡ false → entity_type x ≡ entity_type a
expected_typed None x p q r s ha hx is = clash ha.0
expected_typed (Some (e.Local ctype base size)) x p q r s ha hx is = clash ha.1
expected_typed (Some (e.Handle base size)) x p q r s ha hx is = clash ha.1
expected_typed (Some (e.Plain ctype base size)) x p q r s ha hx is = clash ha.1
expected_typed (Some (e.Mutex base size)) x p q r s ha hx is = clash ha.1
expected_typed (Some (e.Function function signature)) x p q r s ha hx is = clash ha.1
expected_typed (Some (e.Defined v)) x p q r s ha hx is = clash ha.1
expected_typed (Some (e.Library library)) x p q r s ha hx is = clash ha.1
expected_typed (Some (e.Constant constant)) x p q r s ha hx is = clash ha.1
expected_typed (Some (e.Order order)) x p q r s ha hx is = clash ha.1
expected_typed (Some (e.Atomic ctype base size)) (Some (e.Local other place more)) p q r s ha hx is = sym (types_same ctype other is)
expected_typed (Some (e.Atomic ctype base size)) None p q r s ha hx is = clash hx.0
expected_typed (Some (e.Atomic ctype base size)) (Some (e.Handle place more)) p q r s ha hx is = clash hx.1
expected_typed (Some (e.Atomic ctype base size)) (Some (e.Atomic other place more)) p q r s ha hx is = clash hx.1
expected_typed (Some (e.Atomic ctype base size)) (Some (e.Plain other place more)) p q r s ha hx is = clash hx.1
expected_typed (Some (e.Atomic ctype base size)) (Some (e.Mutex place more)) p q r s ha hx is = clash hx.1
expected_typed (Some (e.Atomic ctype base size)) (Some (e.Function function signature)) p q r s ha hx is = clash hx.1
expected_typed (Some (e.Atomic ctype base size)) (Some (e.Defined v)) p q r s ha hx is = clash hx.1
expected_typed (Some (e.Atomic ctype base size)) (Some (e.Library library)) p q r s ha hx is = clash hx.1
expected_typed (Some (e.Atomic ctype base size)) (Some (e.Constant constant)) p q r s ha hx is = clash hx.1
expected_typed (Some (e.Atomic ctype base size)) (Some (e.Order order)) p q r s ha hx is = clash hx.1

module _ (w : World) (owners : List Bool) (calls : Calls) where
  -- ---- objects behind `&`

  atomic_at : (entity : Option Entity) → IsObjectFor want.Atomic entity → (place : ℕ) → AtEntity w owners calls entity place → IsCellOf w.tables.atomics place (entity_type entity)
  atomic_at (Some (e.Atomic ctype base size)) is place at = at
  atomic_at None is place at = clash is.0
  atomic_at (Some (e.Local ctype base size)) is place at = clash is.1
  atomic_at (Some (e.Handle base size)) is place at = clash is.1
  atomic_at (Some (e.Plain ctype base size)) is place at = clash is.1
  atomic_at (Some (e.Mutex base size)) is place at = clash is.1
  atomic_at (Some (e.Function function signature)) is place at = clash is.1
  atomic_at (Some (e.Defined v)) is place at = clash is.1
  atomic_at (Some (e.Library library)) is place at = clash is.1
  atomic_at (Some (e.Constant constant)) is place at = clash is.1
  atomic_at (Some (e.Order order)) is place at = clash is.1

  mutex_at : (entity : Option Entity) → IsObjectFor want.Mutex entity → (place : ℕ) → AtEntity w owners calls entity place → place < length w.tables.mutexes
  mutex_at (Some (e.Mutex base size)) is place at = at
  mutex_at None is place at = clash is.0
  mutex_at (Some (e.Local ctype base size)) is place at = clash is.1
  mutex_at (Some (e.Handle base size)) is place at = clash is.1
  mutex_at (Some (e.Atomic ctype base size)) is place at = clash is.1
  mutex_at (Some (e.Plain ctype base size)) is place at = clash is.1
  mutex_at (Some (e.Function function signature)) is place at = clash is.1
  mutex_at (Some (e.Defined v)) is place at = clash is.1
  mutex_at (Some (e.Library library)) is place at = clash is.1
  mutex_at (Some (e.Constant constant)) is place at = clash is.1
  mutex_at (Some (e.Order order)) is place at = clash is.1

  expected_at : (entity : Option Entity) → IsObjectFor want.Expected entity → (place : ℕ) → AtEntity w owners calls entity place → slice_get owners place ≡ Some false
  expected_at (Some (e.Local ctype base size)) is place at = at
  expected_at None is place at = clash is.0
  expected_at (Some (e.Mutex base size)) is place at = clash is.1
  expected_at (Some (e.Handle base size)) is place at = clash is.1
  expected_at (Some (e.Atomic ctype base size)) is place at = clash is.1
  expected_at (Some (e.Plain ctype base size)) is place at = clash is.1
  expected_at (Some (e.Function function signature)) is place at = clash is.1
  expected_at (Some (e.Defined v)) is place at = clash is.1
  expected_at (Some (e.Library library)) is place at = clash is.1
  expected_at (Some (e.Constant constant)) is place at = clash is.1
  expected_at (Some (e.Order order)) is place at = clash is.1

  answer_at : (entity : Option Entity) → IsObjectFor want.Answer entity → (place : ℕ) → AtEntity w owners calls entity place → slice_get owners place ≡ Some false
  answer_at (Some (e.Local ctype base size)) is place at = at
  answer_at None is place at = clash is.0
  answer_at (Some (e.Mutex base size)) is place at = clash is.1
  answer_at (Some (e.Handle base size)) is place at = clash is.1
  answer_at (Some (e.Atomic ctype base size)) is place at = clash is.1
  answer_at (Some (e.Plain ctype base size)) is place at = clash is.1
  answer_at (Some (e.Function function signature)) is place at = clash is.1
  answer_at (Some (e.Defined v)) is place at = clash is.1
  answer_at (Some (e.Library library)) is place at = clash is.1
  answer_at (Some (e.Constant constant)) is place at = clash is.1
  answer_at (Some (e.Order order)) is place at = clash is.1

  new_handle_at : (entity : Option Entity) → IsObjectFor want.NewHandle entity → (place : ℕ) → AtEntity w owners calls entity place → slice_get owners place ≡ Some true
  new_handle_at (Some (e.Handle base size)) is place at = at
  new_handle_at None is place at = clash is.0
  new_handle_at (Some (e.Mutex base size)) is place at = clash is.1
  new_handle_at (Some (e.Local ctype base size)) is place at = clash is.1
  new_handle_at (Some (e.Atomic ctype base size)) is place at = clash is.1
  new_handle_at (Some (e.Plain ctype base size)) is place at = clash is.1
  new_handle_at (Some (e.Function function signature)) is place at = clash is.1
  new_handle_at (Some (e.Defined v)) is place at = clash is.1
  new_handle_at (Some (e.Library library)) is place at = clash is.1
  new_handle_at (Some (e.Constant constant)) is place at = clash is.1
  new_handle_at (Some (e.Order order)) is place at = clash is.1

  handle_at : (entity : Option Entity) → is_handle entity ≡ true → (place : ℕ) → AtEntity w owners calls entity place → slice_get owners place ≡ Some true
  handle_at (Some (e.Handle base size)) is place at = at
  handle_at None is place at = clash (sym is)
  handle_at (Some (e.Mutex base size)) is place at = clash (sym is)
  handle_at (Some (e.Local ctype base size)) is place at = clash (sym is)
  handle_at (Some (e.Atomic ctype base size)) is place at = clash (sym is)
  handle_at (Some (e.Plain ctype base size)) is place at = clash (sym is)
  handle_at (Some (e.Function function signature)) is place at = clash (sym is)
  handle_at (Some (e.Defined v)) is place at = clash (sym is)
  handle_at (Some (e.Library library)) is place at = clash (sym is)
  handle_at (Some (e.Constant constant)) is place at = clash (sym is)
  handle_at (Some (e.Order order)) is place at = clash (sym is)

  function_at : (entity : Option Entity) → ((x : Entity) → entity ≡ Some x → LiesIn w.tables w.functions x) → is_function entity ≡ true → is_misthreaded entity ≡ false → IsThreadFunction w.functions (function_named entity)
  function_at (Some (e.Function function signature)) lies is good = (signature, (lies _ refl, sure (is_thread_function signature) good))
  function_at None lies is good = clash (sym is)
  function_at (Some (e.Handle base size)) lies is good = clash (sym is)
  function_at (Some (e.Mutex base size)) lies is good = clash (sym is)
  function_at (Some (e.Local ctype base size)) lies is good = clash (sym is)
  function_at (Some (e.Atomic ctype base size)) lies is good = clash (sym is)
  function_at (Some (e.Plain ctype base size)) lies is good = clash (sym is)
  function_at (Some (e.Defined v)) lies is good = clash (sym is)
  function_at (Some (e.Library library)) lies is good = clash (sym is)
  function_at (Some (e.Constant constant)) lies is good = clash (sym is)
  function_at (Some (e.Order order)) lies is good = clash (sym is)

  -- ---- an object behind `&`, where an `&` is taken

  named_same : (n : Named) (o : Object Valuing) → IsNamed w owners calls n o → n.word ≡ o.word
  named_same _ _ (named word) = refl
  named_same _ _ (indexed word f) = refl

  object_for : (v : Want) (spot : Spot) (n : Named) (o : Object Valuing) (scope : Scope) → IsNamed w owners calls n o → naming n scope ≡ [] → misaddressed v (address_form spot n scope) ≡ [] → IsObjectFor v (entity_of o scope)
  object_for v spot n o scope is clean addressed = let entity = denoted scope n.word.name in
      subst (λ (word : Word). IsObjectFor v (denoted scope word.name)) (named_same n o is) (
        when_nil (is_none entity) rule.Unknown n.word.spot (nil_front (unknown scope n.word) (misindexed scope n.word n.indexed) (nil_back (n.within scope) (unknown scope n.word ++ misindexed scope n.word n.indexed) clean)),
        when_nil (is_wrong_object v entity) rule.Kind n.word.spot addressed,
      )

  -- where the object is, with what is known of such an object
  place_fine : (P : ℕ → Type 0) (n : Named) (o : Object Valuing) (scope : Scope) (st : State) → IsNamed w owners calls n o → Knows w owners calls scope → naming n scope ≡ [] → ((place : ℕ) → AtEntity w owners calls (entity_of o scope) place → P place) → Good w owners st
      → Fine w (λ place st. Good w owners st × P place) (located o scope calls st)
  place_fine P n o scope st is knows clean holds good = fine_more w (λ place st at. (at.0, holds place at.1)) (located_fine w owners calls n o scope st is knows (nil_front (n.within scope) _ clean) good)

  -- ---- values

  given_fine : (part : check.Part) (g : Given Valuing) (scope : Scope) (st : State) → GivenFine w owners calls part g → Knows w owners calls scope → part.faults scope ≡ [] → Good w owners st → Fine w (Keeps w owners) (value_given g scope calls st)
  given_fine _ _ scope st (GivenFine.address spot is) knows clean good = Fine.gives good
  given_fine _ _ scope st (GivenFine.text spot bytes) knows clean good = Fine.gives good
  given_fine _ _ scope st (GivenFine.of_value part) knows clean good = part.value scope knows clean st good

  values_fine : (parts : List check.Part) (gs : List (Given Valuing)) (scope : Scope) (st : State) → AllGiven w owners calls parts gs → Knows w owners calls scope → AllClean parts scope → Good w owners st → Fine w (Keeps w owners) (values_given gs scope calls st)
  values_fine _ _ scope st AllGiven.nil knows clean good = Fine.gives good
  values_fine _ _ scope st (AllGiven.cons {part = part} {g = g} {parts = parts} {gs = gs} is rest) knows clean good =
      fine_bind w (given_fine part g scope st is knows clean.0 good) (λ v st good. fine_bind w (values_fine parts gs scope st rest knows clean.1 good) (λ vs st good. Fine.gives good))

  -- ---- replies

  locked_fine : (r : Reply) (st : State) → Good w owners st → Fine w (Keeps w owners) (when_locked r st)
  locked_fine (reply.Locked true) st good = Fine.gives good
  locked_fine (reply.Locked false) st good = Fine.over
  locked_fine reply.Done st good = Fine.over
  locked_fine (reply.Value v) st good = Fine.over
  locked_fine (reply.Exchanged old success) st good = Fine.over
  locked_fine (reply.Created thread) st good = Fine.over
  locked_fine (reply.Began function argument) st good = Fine.over
  locked_fine (reply.Joined v) st good = Fine.over
  locked_fine (reply.Fault fault) st good = Fine.over

  tried_fine : (r : Reply) (st : State) → Good w owners st → Fine w (Keeps w owners) (tried r st)
  tried_fine (reply.Locked true) st good = Fine.gives good
  tried_fine (reply.Locked false) st good = Fine.gives good
  tried_fine reply.Done st good = Fine.over
  tried_fine (reply.Value v) st good = Fine.over
  tried_fine (reply.Exchanged old success) st good = Fine.over
  tried_fine (reply.Created thread) st good = Fine.over
  tried_fine (reply.Began function argument) st good = Fine.over
  tried_fine (reply.Joined v) st good = Fine.over
  tried_fine (reply.Fault fault) st good = Fine.over

  exchanged_fine : (place : ℕ) (r : Reply) (st : State) → slice_get owners place ≡ Some false → Good w owners st → Fine w (Keeps w owners) (exchanged place r st)
  exchanged_fine place (reply.Exchanged old true) st at good = Fine.gives good
  exchanged_fine place (reply.Exchanged old false) st at good = Fine.gives (good_local w owners st place old.number at good)
  exchanged_fine place reply.Done st at good = Fine.over
  exchanged_fine place (reply.Value v) st at good = Fine.over
  exchanged_fine place (reply.Locked mine) st at good = Fine.over
  exchanged_fine place (reply.Created thread) st at good = Fine.over
  exchanged_fine place (reply.Began function argument) st at good = Fine.over
  exchanged_fine place (reply.Joined v) st at good = Fine.over
  exchanged_fine place (reply.Fault fault) st at good = Fine.over

  created_fine : (place : ℕ) (r : Reply) (st : State) → IsKnownReply w r → Good w owners st → Fine w (Keeps w owners) (created place r st)
  created_fine place (reply.Created thread) st is good = Fine.gives (good_handle w owners st place (pos thread) (thread, (refl, is thread refl)) good)
  created_fine place reply.Done st is good = Fine.over
  created_fine place (reply.Value v) st is good = Fine.over
  created_fine place (reply.Exchanged old success) st is good = Fine.over
  created_fine place (reply.Locked mine) st is good = Fine.over
  created_fine place (reply.Began function argument) st is good = Fine.over
  created_fine place (reply.Joined v) st is good = Fine.over
  created_fine place (reply.Fault fault) st is good = Fine.over

  abbrev IsAnswer : Option ℕ → Type 0
  IsAnswer None = ⊤
  IsAnswer (Some place) = slice_get owners place ≡ Some false

  joined_fine : (answer : Option ℕ) (r : Reply) (st : State) → IsAnswer answer → Good w owners st → Fine w (Keeps w owners) (joined answer r st)
  joined_fine None (reply.Joined v) st at good = Fine.gives good
  joined_fine (Some place) (reply.Joined v) st at good = Fine.gives (good_local w owners st place v at good)
  joined_fine None reply.Done st at good = Fine.over
  joined_fine None (reply.Value v) st at good = Fine.over
  joined_fine None (reply.Exchanged old success) st at good = Fine.over
  joined_fine None (reply.Locked mine) st at good = Fine.over
  joined_fine None (reply.Created thread) st at good = Fine.over
  joined_fine None (reply.Began function argument) st at good = Fine.over
  joined_fine None (reply.Fault fault) st at good = Fine.over
  joined_fine (Some place) reply.Done st at good = Fine.over
  joined_fine (Some place) (reply.Value v) st at good = Fine.over
  joined_fine (Some place) (reply.Exchanged old success) st at good = Fine.over
  joined_fine (Some place) (reply.Locked mine) st at good = Fine.over
  joined_fine (Some place) (reply.Created thread) st at good = Fine.over
  joined_fine (Some place) (reply.Began function argument) st at good = Fine.over
  joined_fine (Some place) (reply.Fault fault) st at good = Fine.over

  -- ---- operations of the library; the object is that of the first argument

  loading_fine : (line : ℕ) (n : Named) (a : Object Valuing) (orders : List (Given Valuing)) (scope : Scope) (st : State) → IsNamed w owners calls n a → Knows w owners calls scope → naming n scope ≡ [] → IsObjectFor want.Atomic (entity_of a scope) → Good w owners st
      → Fine w (Keeps w owners) (loading line a orders scope calls st)
  loading_fine line n a orders scope st is knows clean holds good = fine_bind w (place_fine _ n a scope st is knows clean (atomic_at (entity_of a scope) holds) good) (λ cell st at.
      fine_operation w owners _ line (op.AtomicLoad cell (order_in orders scope)) st told (at.1.0, at.1.1.0) at.0 (λ r st good is. fine_told w owners r st good))

  storing_fine : (line : ℕ) (n : Named) (a : Object Valuing) (part : check.Part) (g : Given Valuing) (orders : List (Given Valuing)) (scope : Scope) (st : State) → IsNamed w owners calls n a → GivenFine w owners calls part g → Knows w owners calls scope → naming n scope ≡ []
      → IsObjectFor want.Atomic (entity_of a scope) → part.faults scope ≡ [] → Good w owners st → Fine w (Keeps w owners) (storing line a g orders scope calls st)
  unfolding wrapped
  storing_fine line n a part g orders scope st is given knows clean holds other good = fine_bind w (place_fine _ n a scope st is knows clean (atomic_at (entity_of a scope) holds) good) (λ cell st at.
      fine_bind w (given_fine part g scope st given knows other at.0) (λ v st good.
      fine_operation w owners _ line (op.AtomicStore cell (order_in orders scope) (object_value a scope v)) st _ at.1 good (λ r st good is. fine_done w owners nothing r st good)))

  modifying_fine : (line : ℕ) (kind : RmwKind) (n : Named) (a : Object Valuing) (part : check.Part) (g : Given Valuing) (orders : List (Given Valuing)) (scope : Scope) (st : State) → IsNamed w owners calls n a → GivenFine w owners calls part g → Knows w owners calls scope
      → naming n scope ≡ [] → IsObjectFor want.Atomic (entity_of a scope) → part.faults scope ≡ [] → Good w owners st → Fine w (Keeps w owners) (modifying line kind a g orders scope calls st)
  unfolding wrapped
  modifying_fine line kind n a part g orders scope st is given knows clean holds other good = fine_bind w (place_fine _ n a scope st is knows clean (atomic_at (entity_of a scope) holds) good) (λ cell st at.
      fine_bind w (given_fine part g scope st given knows other at.0) (λ v st good.
      fine_operation w owners _ line (op.Rmw cell (order_in orders scope) kind (object_value a scope v)) st _ at.1 good (λ r st good is. fine_told w owners r st good)))

  comparing_fine : (line : ℕ) (weak : Bool) (n m : Named) (a x : Object Valuing) (part : check.Part) (g : Given Valuing) (orders : List (Given Valuing)) (scope : Scope) (st : State) → IsNamed w owners calls n a → IsNamed w owners calls m x → GivenFine w owners calls part g
      → Knows w owners calls scope → naming n scope ≡ [] → naming m scope ≡ [] → IsObjectFor want.Atomic (entity_of a scope) → IsObjectFor want.Expected (entity_of x scope) → entity_type (entity_of x scope) ≡ entity_type (entity_of a scope)
      → part.faults scope ≡ [] → Good w owners st → Fine w (Keeps w owners) (comparing line weak a x g orders scope calls st)
  unfolding wrapped
  comparing_fine line weak n m a x part g orders scope st is is' given knows clean clean' holds holds' same other good = fine_bind w (place_fine _ n a scope st is knows clean (atomic_at (entity_of a scope) holds) good) (λ cell st at.
      fine_bind w (place_fine _ m x scope st is' knows clean' (expected_at (entity_of x scope) holds') at.0) (λ place st at'. fine_bind w (given_fine part g scope st given knows other at'.0) (λ v st good.
      fine_operation w owners _ line (op.CompareExchange cell (order_in orders scope) (second_order_in orders scope) weak (local_value (entity_type (entity_of x scope)) st place) (object_value a scope v)) st (exchanged place)
      (subst (IsCellOf w.tables.atomics cell) (sym same) at.1, at.1) good (λ r st good is. exchanged_fine place r st at'.1 good))))

  mutex_fine : (P : Reply → State → Outcome TypedNumber) (o : ℕ → Op) (line : ℕ) (n : Named) (m : Object Valuing) (scope : Scope) (st : State) → IsNamed w owners calls n m → Knows w owners calls scope → naming n scope ≡ [] → IsObjectFor want.Mutex (entity_of m scope)
      → ((mutex : ℕ) → mutex < length w.tables.mutexes → IsOpOf w (o mutex)) → ((r : Reply) (st : State) → Good w owners st → Fine w (Keeps w owners) (P r st)) → Good w owners st
      → Fine w (Keeps w owners) (and_then (located m scope calls st) (λ mutex st. operation line (o mutex) st P))
  mutex_fine P o line n m scope st is knows clean holds legal go good = fine_bind w (place_fine _ n m scope st is knows clean (mutex_at (entity_of m scope) holds) good) (λ mutex st at.
      fine_operation w owners _ line (o mutex) st P (legal mutex at.1) at.0 (λ r st good is. go r st good))

  -- ---- threads

  thread_function : (part : check.Part) (g : Given Valuing) (scope : Scope) → GivenFine w owners calls part g → Knows w owners calls scope → Argued want.ThreadFunction part scope → IsThreadFunction w.functions (function_named (given_entity g scope))
  thread_function _ _ scope (GivenFine.address spot is) knows argued = clash (sym argued.form)
  thread_function _ _ scope (GivenFine.text spot bytes) knows argued = clash (sym argued.form)
  thread_function _ _ scope (GivenFine.of_value {part = part} {q = q} fine) knows argued = by q.object fine.form
    where
      form_by : (n : Named) (o : Object Valuing) → IsNamed w owners calls n o → part.form scope ≡ name_form n scope → IsThreadFunction w.functions (function_named (entity_of o scope))
      form_by _ _ (named word) is = let entity = denoted scope word.name in
          function_at entity (knows.lies word.name) (sym (ap (has_form want.ThreadFunction) is) ∙ argued.form)
          (when_nil (is_misthreaded entity) rule.Kind word.spot (sym (ap (misthreaded want.ThreadFunction) is) ∙ argued.threaded))
      form_by _ _ (indexed word f) is = clash (sym (sym (ap (has_form want.ThreadFunction) is) ∙ argued.form))

      by : (object : Option (Object Valuing)) → IsFormed w owners calls part object → IsThreadFunction w.functions (function_named (entity_given object scope))
      by _ (IsFormed.other none) = clash (sym argued.form ∙ (none scope).1)
      by _ (IsFormed.read {n = n} {o = o} is form faults) = form_by n o is (form scope)

  creating_fine : (line : ℕ) (n : Named) (handle : Object Valuing) (fpart part : check.Part) (function g : Given Valuing) (scope : Scope) (st : State) → IsNamed w owners calls n handle → GivenFine w owners calls fpart function → GivenFine w owners calls part g → Knows w owners calls scope
      → naming n scope ≡ [] → Argued want.ThreadFunction fpart scope → part.faults scope ≡ [] → Good w owners st → Fine w (Keeps w owners) (creating line handle function g scope calls st)
  creating_fine line n handle fpart part function g scope st is fgiven given knows clean argued other good = fine_bind w (place_fine (λ place. ⊤) n handle scope st is knows clean (λ place at. tt) good) (λ place st at.
      fine_bind w (given_fine part g scope st given knows other at.0) (λ v st good.
      fine_operation w owners _ line (op.Create (function_named (given_entity function scope)) (converted c.Long v).number) st (created place) (thread_function fpart function scope fgiven knows argued) good (λ r st good is. created_fine place r st is good)))

  handle_fine : (part : check.Part) (g : Given Valuing) (scope : Scope) (st : State) → GivenFine w owners calls part g → Knows w owners calls scope → Argued want.Handle part scope → Good w owners st
      → Fine w (λ thread st. Good w owners st × (AreReplies w.replies → IsThread w.replies (thread_of thread))) (handle_read (given_object g) scope calls st)
  handle_fine _ _ scope st (GivenFine.address spot is) knows argued good = clash (sym argued.form)
  handle_fine _ _ scope st (GivenFine.text spot bytes) knows argued good = clash (sym argued.form)
  handle_fine _ _ scope st (GivenFine.of_value {part = part} {q = q} fine) knows argued good = by q.object fine.form
    where
      is_one : (n : Named) (o : Object Valuing) → IsNamed w owners calls n o → part.form scope ≡ name_form n scope → is_handle (entity_of o scope) ≡ true
      is_one _ _ (named word) is = sym (ap (has_form want.Handle) is) ∙ argued.form
      is_one _ _ (indexed word f) is = sym (ap (has_form want.Handle) is) ∙ argued.form

      by : (object : Option (Object Valuing)) → IsFormed w owners calls part object → Fine w (λ thread st. Good w owners st × (AreReplies w.replies → IsThread w.replies (thread_of thread))) (handle_read object scope calls st)
      by _ (IsFormed.other none) = clash (sym argued.form ∙ (none scope).0)
      by _ (IsFormed.read {n = n} {o = o} is form faults) = fine_bind w (place_fine _ n o scope st is knows (sym (faults scope) ∙ argued.faults) (handle_at (entity_of o scope) (is_one n o is (form scope))) good)
          (λ place st at. Fine.gives (at.0, thread_known w st place (at.0.handles place at.1)))

  answer_fine : (part : check.Part) (g : Given Valuing) (scope : Scope) (st : State) → GivenFine w owners calls part g → Knows w owners calls scope → Argued want.Answer part scope → Good w owners st
      → Fine w (λ answer st. Good w owners st × IsAnswer answer) (answer_place g scope calls st)
  answer_fine _ _ scope st (GivenFine.address spot {n = n} {o = o} is) knows argued good = fine_bind w (place_fine _ n o scope st is knows argued.faults (answer_at (entity_of o scope) (object_for want.Answer spot n o scope is argued.faults argued.addressed)) good)
      (λ place st at. Fine.gives at)
  answer_fine _ _ scope st (GivenFine.text spot bytes) knows argued good = Fine.gives (good, tt)
  answer_fine _ _ scope st (GivenFine.of_value fine) knows argued good = Fine.gives (good, tt)

  joining_fine : (line : ℕ) (hpart apart : check.Part) (handle answer : Given Valuing) (scope : Scope) (st : State) → GivenFine w owners calls hpart handle → GivenFine w owners calls apart answer → Knows w owners calls scope → Argued want.Handle hpart scope → Argued want.Answer apart scope
      → Good w owners st → Fine w (Keeps w owners) (joining line handle answer scope calls st)
  joining_fine line hpart apart handle answer scope st hgiven agiven knows hargued aargued good = fine_bind w (handle_fine hpart handle scope st hgiven knows hargued good) (λ thread st at.
      fine_bind w (answer_fine apart answer scope st agiven knows aargued at.0) (λ place st at'.
      fine_operation w owners _ line (op.Join (thread_of thread)) st (joined place) at.1 at'.0 (λ r st good is. joined_fine place r st at'.1 good)))

  printing_fine : (line : ℕ) (bytes : List ℕ) (parts : List check.Part) (gs : List (Given Valuing)) (scope : Scope) (st : State) → AllGiven w owners calls parts gs → Knows w owners calls scope → AllClean parts scope → Good w owners st
      → Fine w (Keeps w owners) (printing line bytes gs scope calls st)
  printing_fine line bytes parts gs scope st ds knows clean good = fine_bind w (values_fine parts gs scope st ds knows clean good) (λ vs st good.
      fine_operation w owners _ line (op.Out (printed Plain bytes vs)) st _ tt good (λ r st good is. fine_done w owners _ r st good))

  -- ---- each function of the library with its arguments

  library_fine : (word : Word) (f : Library) (line : ℕ) (parts : List check.Part) (gs : List (Given Valuing)) (scope : Scope) (st : State) → AllGiven w owners calls parts gs → Knows w owners calls scope → misexpected (Some (e.Library f)) (forms_in parts scope) ≡ []
      → arguments word (wants_of f) parts scope ≡ [] → Good w owners st → Fine w (Keeps w owners) (library_call f line gs scope calls st)
  library_fine word (l.Load explicit) line _ _ scope st (AllGiven.cons (GivenFine.address spot {n = n} {o = o} is) (AllGiven.nil)) knows fits clean good = let one = first_argued word want.Atomic (tail (wants_of (l.Load explicit))) (behind_and spot n) [] scope clean in
      loading_fine line n o [] scope st is knows one.0.faults (object_for want.Atomic spot n o scope is one.0.faults one.0.addressed) good
  library_fine word (l.Load explicit) line _ _ scope st (AllGiven.cons (GivenFine.address spot {n = n} {o = o} is) (AllGiven.cons {part = part} {g = g} {parts = parts} {gs = gs} d ds)) knows fits clean good = let one = first_argued word want.Atomic (tail (wants_of (l.Load explicit))) (behind_and spot n) (part ∷ parts) scope clean in
      loading_fine line n o (g ∷ gs) scope st is knows one.0.faults (object_for want.Atomic spot n o scope is one.0.faults one.0.addressed) good
  library_fine word (l.Load explicit) line _ _ scope st AllGiven.nil knows fits clean good = Fine.gives good
  library_fine word (l.Load explicit) line _ _ scope st (AllGiven.cons (GivenFine.text spot bytes) ds) knows fits clean good = Fine.gives good
  library_fine word (l.Load explicit) line _ _ scope st (AllGiven.cons (GivenFine.of_value d) ds) knows fits clean good = Fine.gives good
  library_fine word (l.Store explicit) line _ _ scope st (AllGiven.cons (GivenFine.address spot {n = n} {o = o} is) (AllGiven.cons {part = part} {g = g} {parts = parts} {gs = gs} d ds)) knows fits clean good =
      let one = first_argued word want.Atomic (tail (wants_of (l.Store explicit))) (behind_and spot n) (part ∷ parts) scope clean in let two = first_argued word want.Value (tail (tail (wants_of (l.Store explicit)))) part parts scope one.1 in
      storing_fine line n o part g gs scope st is d knows one.0.faults (object_for want.Atomic spot n o scope is one.0.faults one.0.addressed) two.0.faults good
  library_fine word (l.Store explicit) line _ _ scope st (AllGiven.cons (GivenFine.address spot is) AllGiven.nil) knows fits clean good = Fine.gives good
  library_fine word (l.Store explicit) line _ _ scope st AllGiven.nil knows fits clean good = Fine.gives good
  library_fine word (l.Store explicit) line _ _ scope st (AllGiven.cons (GivenFine.text spot bytes) ds) knows fits clean good = Fine.gives good
  library_fine word (l.Store explicit) line _ _ scope st (AllGiven.cons (GivenFine.of_value d) ds) knows fits clean good = Fine.gives good
  library_fine word (l.ReadWrite kind explicit) line _ _ scope st (AllGiven.cons (GivenFine.address spot {n = n} {o = o} is) (AllGiven.cons {part = part} {g = g} {parts = parts} {gs = gs} d ds)) knows fits clean good =
      let one = first_argued word want.Atomic (tail (wants_of (l.ReadWrite kind explicit))) (behind_and spot n) (part ∷ parts) scope clean in let two = first_argued word want.Value (tail (tail (wants_of (l.ReadWrite kind explicit)))) part parts scope one.1 in
      modifying_fine line kind n o part g gs scope st is d knows one.0.faults (object_for want.Atomic spot n o scope is one.0.faults one.0.addressed) two.0.faults good
  library_fine word (l.ReadWrite kind explicit) line _ _ scope st (AllGiven.cons (GivenFine.address spot is) AllGiven.nil) knows fits clean good = Fine.gives good
  library_fine word (l.ReadWrite kind explicit) line _ _ scope st AllGiven.nil knows fits clean good = Fine.gives good
  library_fine word (l.ReadWrite kind explicit) line _ _ scope st (AllGiven.cons (GivenFine.text spot bytes) ds) knows fits clean good = Fine.gives good
  library_fine word (l.ReadWrite kind explicit) line _ _ scope st (AllGiven.cons (GivenFine.of_value d) ds) knows fits clean good = Fine.gives good
  library_fine word (l.CompareExchange weak explicit) line _ _ scope st (AllGiven.cons (GivenFine.address spot {n = n} {o = o} is) (AllGiven.cons (GivenFine.address spot' {n = m} {o = x} is') (AllGiven.cons {part = part} {g = g} {parts = parts} {gs = gs} d ds))) knows fits clean good =
      let one = first_argued word want.Atomic (tail (wants_of (l.CompareExchange weak explicit))) (behind_and spot n) ((behind_and spot' m) ∷ part ∷ parts) scope clean in let two = first_argued word want.Expected (tail (tail (wants_of (l.CompareExchange weak explicit)))) (behind_and spot' m) (part ∷ parts) scope one.1 in let three = first_argued word want.Value (tail (tail (tail (wants_of (l.CompareExchange weak explicit))))) part parts scope two.1 in
      let a = object_for want.Atomic spot n o scope is one.0.faults one.0.addressed in let b = object_for want.Expected spot' m x scope is' two.0.faults two.0.addressed in
      let same = expected_typed (entity_of o scope) (entity_of x scope) spot n.word.spot spot' m.word.spot a b (matched n m o x is is' fits) in
      comparing_fine line weak n m o x part g gs scope st is is' d knows one.0.faults two.0.faults a b same three.0.faults good
    where
      matched : (n m : Named) (o x : Object Valuing) → IsNamed w owners calls n o → IsNamed w owners calls m x
          → when (is_misexpected (address_form spot n scope) (address_form spot' m scope)) rule.Typing (first_token (address_form spot' m scope)) ≡ [] → is_misexpected (f.Address spot n.word.spot (entity_of o scope)) (f.Address spot' m.word.spot (entity_of x scope)) ≡ false
      matched _ _ _ _ (named a) (named b) fits = when_nil (is_misexpected (f.Address spot a.spot (denoted scope a.name)) (f.Address spot' b.spot (denoted scope b.name))) rule.Typing spot' fits
      matched _ _ _ _ (named a) (indexed b q) fits = when_nil (is_misexpected (f.Address spot a.spot (denoted scope a.name)) (f.Address spot' b.spot (denoted scope b.name))) rule.Typing spot' fits
      matched _ _ _ _ (indexed a p) (named b) fits = when_nil (is_misexpected (f.Address spot a.spot (denoted scope a.name)) (f.Address spot' b.spot (denoted scope b.name))) rule.Typing spot' fits
      matched _ _ _ _ (indexed a p) (indexed b q) fits = when_nil (is_misexpected (f.Address spot a.spot (denoted scope a.name)) (f.Address spot' b.spot (denoted scope b.name))) rule.Typing spot' fits
  library_fine word (l.CompareExchange weak explicit) line _ _ scope st (AllGiven.cons (GivenFine.address spot is) (AllGiven.cons (GivenFine.address spot' is') AllGiven.nil)) knows fits clean good = Fine.gives good
  library_fine word (l.CompareExchange weak explicit) line _ _ scope st (AllGiven.cons (GivenFine.address spot is) (AllGiven.cons (GivenFine.text spot' bytes) ds)) knows fits clean good = Fine.gives good
  library_fine word (l.CompareExchange weak explicit) line _ _ scope st (AllGiven.cons (GivenFine.address spot is) (AllGiven.cons (GivenFine.of_value d) ds)) knows fits clean good = Fine.gives good
  library_fine word (l.CompareExchange weak explicit) line _ _ scope st (AllGiven.cons (GivenFine.address spot is) AllGiven.nil) knows fits clean good = Fine.gives good
  library_fine word (l.CompareExchange weak explicit) line _ _ scope st AllGiven.nil knows fits clean good = Fine.gives good
  library_fine word (l.CompareExchange weak explicit) line _ _ scope st (AllGiven.cons (GivenFine.text spot bytes) ds) knows fits clean good = Fine.gives good
  library_fine word (l.CompareExchange weak explicit) line _ _ scope st (AllGiven.cons (GivenFine.of_value d) ds) knows fits clean good = Fine.gives good
  library_fine word l.Fence line parts gs scope st ds knows fits clean good = fine_operation w owners _ line (op.Fence (order_in gs scope)) st _ tt good (λ r st good is. fine_done w owners nothing r st good)
  library_fine word l.MutexInit line _ _ scope st (AllGiven.cons {parts = parts} (GivenFine.address spot {n = n} {o = o} is) ds) knows fits clean good = let one = first_argued word want.Mutex (tail (wants_of l.MutexInit)) (behind_and spot n) parts scope clean in
      mutex_fine (when_done zero_number) (λ mutex. op.MutexInit mutex) line n o scope st is knows one.0.faults (object_for want.Mutex spot n o scope is one.0.faults one.0.addressed) (λ mutex less. less) (λ r st good. fine_done w owners zero_number r st good) good
  library_fine word l.MutexInit line _ _ scope st AllGiven.nil knows fits clean good = Fine.gives good
  library_fine word l.MutexInit line _ _ scope st (AllGiven.cons (GivenFine.text spot bytes) ds) knows fits clean good = Fine.gives good
  library_fine word l.MutexInit line _ _ scope st (AllGiven.cons (GivenFine.of_value d) ds) knows fits clean good = Fine.gives good
  library_fine word l.MutexLock line _ _ scope st (AllGiven.cons {parts = parts} (GivenFine.address spot {n = n} {o = o} is) ds) knows fits clean good = let one = first_argued word want.Mutex (tail (wants_of l.MutexLock)) (behind_and spot n) parts scope clean in
      mutex_fine when_locked (λ mutex. op.Lock mutex) line n o scope st is knows one.0.faults (object_for want.Mutex spot n o scope is one.0.faults one.0.addressed) (λ mutex less. less) locked_fine good
  library_fine word l.MutexLock line _ _ scope st AllGiven.nil knows fits clean good = Fine.gives good
  library_fine word l.MutexLock line _ _ scope st (AllGiven.cons (GivenFine.text spot bytes) ds) knows fits clean good = Fine.gives good
  library_fine word l.MutexLock line _ _ scope st (AllGiven.cons (GivenFine.of_value d) ds) knows fits clean good = Fine.gives good
  library_fine word l.MutexTryLock line _ _ scope st (AllGiven.cons {parts = parts} (GivenFine.address spot {n = n} {o = o} is) ds) knows fits clean good = let one = first_argued word want.Mutex (tail (wants_of l.MutexTryLock)) (behind_and spot n) parts scope clean in
      mutex_fine tried (λ mutex. op.TryLock mutex) line n o scope st is knows one.0.faults (object_for want.Mutex spot n o scope is one.0.faults one.0.addressed) (λ mutex less. less) tried_fine good
  library_fine word l.MutexTryLock line _ _ scope st AllGiven.nil knows fits clean good = Fine.gives good
  library_fine word l.MutexTryLock line _ _ scope st (AllGiven.cons (GivenFine.text spot bytes) ds) knows fits clean good = Fine.gives good
  library_fine word l.MutexTryLock line _ _ scope st (AllGiven.cons (GivenFine.of_value d) ds) knows fits clean good = Fine.gives good
  library_fine word l.MutexUnlock line _ _ scope st (AllGiven.cons {parts = parts} (GivenFine.address spot {n = n} {o = o} is) ds) knows fits clean good = let one = first_argued word want.Mutex (tail (wants_of l.MutexUnlock)) (behind_and spot n) parts scope clean in
      mutex_fine (when_done zero_number) (λ mutex. op.Unlock mutex) line n o scope st is knows one.0.faults (object_for want.Mutex spot n o scope is one.0.faults one.0.addressed) (λ mutex less. less) (λ r st good. fine_done w owners zero_number r st good) good
  library_fine word l.MutexUnlock line _ _ scope st AllGiven.nil knows fits clean good = Fine.gives good
  library_fine word l.MutexUnlock line _ _ scope st (AllGiven.cons (GivenFine.text spot bytes) ds) knows fits clean good = Fine.gives good
  library_fine word l.MutexUnlock line _ _ scope st (AllGiven.cons (GivenFine.of_value d) ds) knows fits clean good = Fine.gives good
  library_fine word l.MutexDestroy line _ _ scope st (AllGiven.cons {parts = parts} (GivenFine.address spot {n = n} {o = o} is) ds) knows fits clean good = let one = first_argued word want.Mutex (tail (wants_of l.MutexDestroy)) (behind_and spot n) parts scope clean in
      fine_bind w (place_fine (λ place. ⊤) n o scope st is knows one.0.faults (λ place at. tt) good) (λ place st at. Fine.gives at.0)
  library_fine word l.MutexDestroy line _ _ scope st AllGiven.nil knows fits clean good = Fine.gives good
  library_fine word l.MutexDestroy line _ _ scope st (AllGiven.cons (GivenFine.text spot bytes) ds) knows fits clean good = Fine.gives good
  library_fine word l.MutexDestroy line _ _ scope st (AllGiven.cons (GivenFine.of_value d) ds) knows fits clean good = Fine.gives good
  library_fine word l.Yield line parts gs scope st ds knows fits clean good = Fine.gives good
  library_fine word l.Create line _ _ scope st (AllGiven.cons (GivenFine.address spot {n = n} {o = o} is) (AllGiven.cons {part = fpart} {g = fg} fd (AllGiven.cons {part = part} {g = g} {parts = parts} d ds))) knows fits clean good =
      let one = first_argued word want.NewHandle (tail (wants_of l.Create)) (behind_and spot n) (fpart ∷ part ∷ parts) scope clean in let two = first_argued word want.ThreadFunction (tail (tail (wants_of l.Create))) fpart (part ∷ parts) scope one.1 in let three = first_argued word want.Value (tail (tail (tail (wants_of l.Create)))) part parts scope two.1 in
      creating_fine line n o fpart part fg g scope st is fd d knows one.0.faults two.0 three.0.faults good
  library_fine word l.Create line _ _ scope st (AllGiven.cons (GivenFine.address spot is) (AllGiven.cons fd AllGiven.nil)) knows fits clean good = Fine.gives good
  library_fine word l.Create line _ _ scope st (AllGiven.cons (GivenFine.address spot is) AllGiven.nil) knows fits clean good = Fine.gives good
  library_fine word l.Create line _ _ scope st AllGiven.nil knows fits clean good = Fine.gives good
  library_fine word l.Create line _ _ scope st (AllGiven.cons (GivenFine.text spot bytes) ds) knows fits clean good = Fine.gives good
  library_fine word l.Create line _ _ scope st (AllGiven.cons (GivenFine.of_value d) ds) knows fits clean good = Fine.gives good
  library_fine word l.Join line _ _ scope st (AllGiven.cons {part = hpart} {g = h} hd (AllGiven.cons {part = apart} {g = a} {parts = parts} ad ds)) knows fits clean good =
      let one = first_argued word want.Handle (tail (wants_of l.Join)) hpart (apart ∷ parts) scope clean in let two = first_argued word want.Answer (tail (tail (wants_of l.Join))) apart parts scope one.1 in
      joining_fine line hpart apart h a scope st hd ad knows one.0 two.0 good
  library_fine word l.Join line _ _ scope st (AllGiven.cons hd AllGiven.nil) knows fits clean good = Fine.gives good
  library_fine word l.Join line _ _ scope st AllGiven.nil knows fits clean good = Fine.gives good
  library_fine word l.Assert line _ _ scope st (AllGiven.cons {part = part} {g = g} {parts = parts} d ds) knows fits clean good = let one = first_argued word want.Value (tail (wants_of l.Assert)) part parts scope clean in
      fine_bind w (given_fine part g scope st d knows one.0.faults good) (λ v st good. fine_if w (is_zero v) (fine_stop w _ line Assert st good.replies) (Fine.gives good))
  library_fine word l.Assert line _ _ scope st AllGiven.nil knows fits clean good = Fine.gives good
  library_fine word l.Print line _ _ scope st (AllGiven.cons (GivenFine.text spot bytes) (AllGiven.nil)) knows fits clean good = printing_fine line bytes [] [] scope st AllGiven.nil knows tt good
  library_fine word l.Print line _ _ scope st (AllGiven.cons (GivenFine.text spot bytes) (AllGiven.cons {part = part} {g = g} {parts = parts} {gs = gs} d ds)) knows fits clean good =
      let one = first_argued word want.Format [] (record { first = spot; form = text_form spot bytes; faults = no_faults; misread = no_faults; voids = no_spots }) (part ∷ parts) scope clean in printing_fine line bytes (part ∷ parts) (g ∷ gs) scope st (AllGiven.cons d ds) knows (all_clean word [] (part ∷ parts) scope one.1) good
  library_fine word l.Print line _ _ scope st AllGiven.nil knows fits clean good = Fine.gives good
  library_fine word l.Print line _ _ scope st (AllGiven.cons (GivenFine.address spot is) ds) knows fits clean good = Fine.gives good
  library_fine word l.Print line _ _ scope st (AllGiven.cons (GivenFine.of_value d) ds) knows fits clean good = Fine.gives good

  -- ---- a call of what a name denotes

  function_fine : CallsFine w calls → (line function : ℕ) (parts : List check.Part) (gs : List (Given Valuing)) (scope : Scope) (st : State) → AllGiven w owners calls parts gs → Knows w owners calls scope → AllClean parts scope → Good w owners st
      → Fine w (Keeps w owners) (and_then (values_given gs scope calls st) (λ values st. calls line function values st))
  function_fine fine line function parts gs scope st ds knows clean good = fine_bind w (values_fine parts gs scope st ds knows clean good) (λ vs st good.
      fine_more w (λ value after is. kept st after good is.0 is.1) (fine line function vs st good.replies))
    where
      kept : (st after : State) → Good w owners st → after.locals ≡ st.locals → AllKnown w after.replies → Good w owners after
      kept st after good same known = record { handles = λ p own. subst (IsKnownAt w) (ap (λ (xs : List ℤ). option_number (slice_get xs p)) (sym same)) (good.handles p own); replies = known }

  pub call_fine : CallsFine w calls → (word : Word) (parts : List check.Part) (gs : List (Given Valuing)) → AllGiven w owners calls parts gs → ValueFine w owners calls (check.call word parts) (λ scope. call (denoted scope word.name) word.spot.line gs scope)
  call_fine fine word parts gs ds scope knows clean st good = by (denoted scope word.name) (nil_front (misexpected (denoted scope word.name) forms) (arguments word (wants_in_call (denoted scope word.name)) parts scope) five)
      (nil_back (misexpected (denoted scope word.name) forms) (arguments word (wants_in_call (denoted scope word.name)) parts scope) five)
    where
      forms : List Form
      forms = forms_in parts scope

      by : (entity : Option Entity) → misexpected entity forms ≡ [] → arguments word (wants_in_call entity) parts scope ≡ [] → Fine w (Keeps w owners) (call entity word.spot.line gs scope calls st)
      by (Some (e.Function function signature)) fits clean = function_fine fine word.spot.line function parts gs scope st ds knows (all_clean word [] parts scope clean) good
      by (Some (e.Library f)) fits clean = library_fine word f word.spot.line parts gs scope st ds knows fits clean good
      by None fits clean = Fine.gives good
      by (Some (e.Local ctype base size)) fits clean = Fine.gives good
      by (Some (e.Handle base size)) fits clean = Fine.gives good
      by (Some (e.Atomic ctype base size)) fits clean = Fine.gives good
      by (Some (e.Plain ctype base size)) fits clean = Fine.gives good
      by (Some (e.Mutex base size)) fits clean = Fine.gives good
      by (Some (e.Defined v)) fits clean = Fine.gives good
      by (Some (e.Constant constant)) fits clean = Fine.gives good
      by (Some (e.Order order)) fits clean = Fine.gives good

      five : misexpected (denoted scope word.name) forms ++ arguments word (wants_in_call (denoted scope word.name)) parts scope ≡ []
      five = let entity = denoted scope word.name in let rest = misexpected entity forms ++ arguments word (wants_in_call entity) parts scope in
          nil_back (misfailed entity forms) rest (nil_back (misprinted scope word forms) (misfailed entity forms ++ rest) (nil_back (miscounted scope word (length parts)) (misprinted scope word forms ++ (misfailed entity forms ++ rest))
          (nil_back (miscalled scope word) (miscounted scope word (length parts) ++ (misprinted scope word forms ++ (misfailed entity forms ++ rest)))
          (nil_back (unknown scope word) (miscalled scope word ++ (miscounted scope word (length parts) ++ (misprinted scope word forms ++ (misfailed entity forms ++ rest)))) clean))))
