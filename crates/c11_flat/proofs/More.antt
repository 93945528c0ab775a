-- A further reply changes nothing of what was done before it.
use Rattle.std.proofs.Common.{◌≡◌, ℕ, zero, suc, ◌+◌, Bool, true, false, List, [], ◌∷◌, ◌++◌, length, Option, Some, None, refl, ap}
use Rattle.std.specs.Prelude.{slice_get, nat_lt, ℤ, pos, negsuc, Result, Ok, Err, if◌then◌else◌}
use Rattle.c11_num.specs.Ranges.{TypedNumber}
use Rattle.c11_num.specs.Wrapping.{converted}
use Rattle.c11_num.specs.Operators.{binary_of}
use Rattle.c11_num.specs.declared.fault.NumFault.{NumFault}
use Rattle.c11_num.specs.declared.value.CType.{CType}
use Rattle.c11_num.specs.declared.kind.RmwKind.{RmwKind}
use Rattle.c11_ast.specs.declared.expr.Prefix.{Prefix}
use Rattle.c11_ast.specs.declared.expr.Prefix.TheVariants as p
use Rattle.c11_events.specs.declared.op.Ask.{Ask}
use Rattle.c11_events.specs.declared.op.Op.{Op}
use Rattle.c11_events.specs.declared.op.StopKind.{StopKind}
use Rattle.c11_events.specs.declared.op.StopKind.TheVariants as stop
use Rattle.c11_events.specs.declared.reply.Reply.{Reply}
use Rattle.c11_events.specs.declared.reply.Reply.TheVariants as reply
use Rattle.c11_meaning.specs.Outcome.{State, Outcome, Gives, Wants, Over, and_then, operation, told, when_done, computed}
use Rattle.c11_meaning.specs.Outcome as outcome
use Rattle.c11_meaning.specs.Objects.{nothing, one, is_zero, element, updated, step_op}
use Rattle.c11_meaning.specs.Expressions.{prefixed}
use Rattle.c11_meaning.specs.Library.{when_locked, tried, created, exchanged, joined}
use Rattle.c11_meaning.specs.Statements.{cleared}
use Rattle.c11_flat.specs.declared.instr.Instr.{Instr}
use Rattle.c11_flat.specs.declared.instr.Instr.TheVariants as i
use Rattle.c11_flat.specs.declared.instr.Place.{Place}
use Rattle.c11_flat.specs.declared.instr.Place.TheVariants.{At, OnStack}
use Rattle.c11_flat.specs.declared.instr.Storage.{Storage}
use Rattle.c11_flat.specs.declared.instr.Storage.TheVariants.{Local, Plain}
use Rattle.c11_flat.specs.declared.instr.Acts.{Acts}
use Rattle.c11_flat.specs.declared.instr.Acts.TheVariants as acts
use Rattle.c11_flat.specs.declared.slot.Slot.{Slot}
use Rattle.c11_flat.specs.declared.slot.Slot.TheVariants as slot
use Rattle.c11_flat.specs.Code.{Whole, Start}
use Rattle.c11_flat.specs.Law.{AReplyIsLeft}
use Rattle.c11_flat.specs.Flat.{Caller, Config, Next, To, Says, Halts, from, on_value, on_slot, on_place, at_place, on_answer, popping, jumping, read_at, write_at, counting, mutex_act, entering, returning, answer_in, act, act_at, next, steps, first, beginning, asking, start}

module _ (x : Reply) where
  abbrev pub later : State → State
  later st = record st { replies = st.replies ++ x ∷ [] }

  abbrev pub more : Config → Config
  more c = record c { state = later c.state }

  abbrev more_next : Next → Next
  more_next (To c) = To (more c)
  more_next (Says ask) = Says ask
  more_next Halts = Halts

  -- where the one goes on, the other does too, with the reply left
  abbrev IsMore : Next → Next → Type 0
  IsMore n m = (c : Config) → n ≡ To c → m ≡ To (more c)

  same : (a : Config) → IsMore (To a) (To (more a))
  same a c e = ap more_next e

  no_says : (ask : Ask) (m : Next) → IsMore (Says ask) m
  no_says ask m c e = absurd (cc e)

  no_halts : (m : Next) → IsMore Halts m
  no_halts m c e = absurd (cc e)

  -- ---- outcomes

  -- with the reply left, the outcome is the same, and it is left
  data IsLater {A : Type 0} : Outcome A → Outcome A → Type 0 where
    gives : (a : A) (st : State) → IsLater (Gives a st) (Gives a (later st))
    wants : (ask : Ask) (o : Outcome A) → IsLater (Wants ask) o
    over : (o : Outcome A) → IsLater Over o

  from_more : {A : Type 0} (o o' : Outcome A) (go go' : A → State → Next) → IsLater o o' → ((a : A) (st : State) → IsMore (go a st) (go' a (later st))) → IsMore (from o go) (from o' go')
  unfolding from
  from_more _ _ go go' (gives a st) rest = rest a st
  from_more _ _ go go' (wants ask o) rest = no_says ask _
  from_more _ _ go go' (over o) rest = no_halts _

  reply_later : {A : Type 0} (ask : Ask) (locals : List ℤ) (replies : List Reply) (go : Reply → State → Outcome A) → ((r : Reply) (st : State) → IsLater (go r st) (go r (later st)))
      → IsLater (outcome.with_reply ask locals replies go) (outcome.with_reply ask locals (replies ++ x ∷ []) go)
  unfolding outcome.with_reply
  reply_later ask locals [] go rest = wants ask _
  reply_later ask locals (r ∷ rs) go rest = rest r _

  operation_later : {A : Type 0} (line : ℕ) (o : Op) (st : State) (go : Reply → State → Outcome A) → ((r : Reply) (st : State) → IsLater (go r st) (go r (later st))) → IsLater (operation line o st go) (operation line o (later st) go)
  operation_later line o st go rest = reply_later _ st.locals st.replies go rest

  stop_later : {A : Type 0} (line : ℕ) (kind : StopKind) (st : State) → IsLater {A = A} (outcome.stop line kind st) (outcome.stop line kind (later st))
  stop_later line kind st = operation_later line _ st _ (λ r after. over _)

  told_later : (r : Reply) (st : State) → IsLater (told r st) (told r (later st))
  told_later (reply.Value v) st = gives v st
  told_later reply.Done st = over _
  told_later (reply.Exchanged old success) st = over _
  told_later (reply.Locked taken) st = over _
  told_later (reply.Created thread) st = over _
  told_later (reply.Began function argument) st = over _
  told_later (reply.Joined v) st = over _
  told_later (reply.Fault kind) st = over _

  done_later : (v : TypedNumber) (r : Reply) (st : State) → IsLater (when_done v r st) (when_done v r (later st))
  done_later v reply.Done st = gives v st
  done_later v (reply.Value u) st = over _
  done_later v (reply.Exchanged old success) st = over _
  done_later v (reply.Locked taken) st = over _
  done_later v (reply.Created thread) st = over _
  done_later v (reply.Began function argument) st = over _
  done_later v (reply.Joined u) st = over _
  done_later v (reply.Fault kind) st = over _

  computed_later : (line : ℕ) (r : Result TypedNumber NumFault) (st : State) → IsLater (computed line r st) (computed line r (later st))
  unfolding computed
  computed_later line (Ok v) st = gives v st
  computed_later line (Err fault) st = stop_later line _ st

  if_later : {A : Type 0} (t : Bool) (a a' b b' : Outcome A) → IsLater a a' → IsLater b b' → IsLater (if t then a else b) (if t then a' else b')
  if_later true a a' b b' f g = f
  if_later false a a' b b' f g = g

  element_later : (line base size : ℕ) (index : ℤ) (st : State) → IsLater (element line base size index st) (element line base size index (later st))
  unfolding element
  element_later line base size (pos n) st = if_later (nat_lt n size) _ _ _ _ (gives (base + n) st) (stop_later line _ st)
  element_later line base size (negsuc n) st = stop_later line _ st

  read_later : (storage : Storage) (ctype : CType) (line place : ℕ) (st : State) → IsLater (read_at storage ctype line place st) (read_at storage ctype line place (later st))
  read_later Local ctype line place st = gives _ st
  read_later Plain ctype line cell st = operation_later line _ st told told_later

  write_later : (storage : Storage) (ctype : CType) (line place : ℕ) (v : TypedNumber) (st : State) → IsLater (write_at storage ctype line place v st) (write_at storage ctype line place v (later st))
  write_later Local ctype line place v st = gives _ _
  write_later Plain ctype line cell v st = operation_later line _ st _ (λ r st. done_later (converted ctype v) r st)

  prefixed_later : (o : Prefix) (line : ℕ) (v : TypedNumber) (st : State) → IsLater (prefixed o line v st) (prefixed o line v (later st))
  prefixed_later p.Minus line v st = computed_later line _ st
  prefixed_later p.Plus line v st = gives v st
  prefixed_later p.Not line v st = gives _ st
  prefixed_later p.Flip line v st = gives _ st

  then_later : (r : Reply) (old : Bool) (kind : RmwKind) (w : TypedNumber) (st : State) → IsLater (and_then (told r st) (updated old kind w)) (and_then (told r (later st)) (updated old kind w))
  unfolding and_then
  then_later (reply.Value v) old kind w st = gives _ st
  then_later reply.Done old kind w st = over _
  then_later (reply.Exchanged u success) old kind w st = over _
  then_later (reply.Locked taken) old kind w st = over _
  then_later (reply.Created thread) old kind w st = over _
  then_later (reply.Began function argument) old kind w st = over _
  then_later (reply.Joined v) old kind w st = over _
  then_later (reply.Fault k) old kind w st = over _

  exchanged_later : (place : ℕ) (r : Reply) (st : State) → IsLater (exchanged place r st) (exchanged place r (later st))
  exchanged_later place (reply.Exchanged old true) st = gives _ st
  exchanged_later place (reply.Exchanged old false) st = gives _ _
  exchanged_later place reply.Done st = over _
  exchanged_later place (reply.Value v) st = over _
  exchanged_later place (reply.Locked taken) st = over _
  exchanged_later place (reply.Created thread) st = over _
  exchanged_later place (reply.Began function argument) st = over _
  exchanged_later place (reply.Joined v) st = over _
  exchanged_later place (reply.Fault kind) st = over _

  locked_later : (r : Reply) (st : State) → IsLater (when_locked r st) (when_locked r (later st))
  locked_later (reply.Locked true) st = gives _ st
  locked_later (reply.Locked false) st = over _
  locked_later reply.Done st = over _
  locked_later (reply.Value v) st = over _
  locked_later (reply.Exchanged old success) st = over _
  locked_later (reply.Created thread) st = over _
  locked_later (reply.Began function argument) st = over _
  locked_later (reply.Joined v) st = over _
  locked_later (reply.Fault kind) st = over _

  tried_later : (r : Reply) (st : State) → IsLater (tried r st) (tried r (later st))
  tried_later (reply.Locked true) st = gives _ st
  tried_later (reply.Locked false) st = gives _ st
  tried_later reply.Done st = over _
  tried_later (reply.Value v) st = over _
  tried_later (reply.Exchanged old success) st = over _
  tried_later (reply.Created thread) st = over _
  tried_later (reply.Began function argument) st = over _
  tried_later (reply.Joined v) st = over _
  tried_later (reply.Fault kind) st = over _

  created_later : (place : ℕ) (r : Reply) (st : State) → IsLater (created place r st) (created place r (later st))
  created_later place (reply.Created thread) st = gives _ _
  created_later place reply.Done st = over _
  created_later place (reply.Value v) st = over _
  created_later place (reply.Exchanged old success) st = over _
  created_later place (reply.Locked taken) st = over _
  created_later place (reply.Began function argument) st = over _
  created_later place (reply.Joined v) st = over _
  created_later place (reply.Fault kind) st = over _

  joined_later : (place : Option ℕ) (r : Reply) (st : State) → IsLater (joined place r st) (joined place r (later st))
  joined_later None (reply.Joined v) st = gives _ st
  joined_later (Some place) (reply.Joined v) st = gives _ _
  joined_later None reply.Done st = over _
  joined_later None (reply.Value v) st = over _
  joined_later None (reply.Exchanged old success) st = over _
  joined_later None (reply.Locked taken) st = over _
  joined_later None (reply.Created thread) st = over _
  joined_later None (reply.Began function argument) st = over _
  joined_later None (reply.Fault kind) st = over _
  joined_later (Some place) reply.Done st = over _
  joined_later (Some place) (reply.Value v) st = over _
  joined_later (Some place) (reply.Exchanged old success) st = over _
  joined_later (Some place) (reply.Locked taken) st = over _
  joined_later (Some place) (reply.Created thread) st = over _
  joined_later (Some place) (reply.Began function argument) st = over _
  joined_later (Some place) (reply.Fault kind) st = over _

  mutex_later : (a : Acts) (line mutex : ℕ) (st : State) → IsLater (mutex_act a line mutex st) (mutex_act a line mutex (later st))
  mutex_later acts.Init line mutex st = operation_later line _ st _ (λ r st. done_later _ r st)
  mutex_later acts.Lock line mutex st = operation_later line _ st when_locked locked_later
  mutex_later acts.TryLock line mutex st = operation_later line _ st tried tried_later
  mutex_later acts.Unlock line mutex st = operation_later line _ st _ (λ r st. done_later _ r st)

  cleared_later : (place n : ℕ) (st : State) → later (cleared place n st) ≡ cleared place n (later st)
  cleared_later place zero st = refl
  cleared_later place (suc n) st = cleared_later (suc place) n _

  -- ---- the stack

  values_more : (stack : List Slot) (go go' : TypedNumber → List Slot → Next) → ((v : TypedNumber) (stack : List Slot) → IsMore (go v stack) (go' v stack)) → IsMore (on_value stack go) (on_value stack go')
  values_more [] go go' rest = no_halts _
  values_more (slot.Value v ∷ stack) go go' rest = rest v stack
  values_more (slot.Place n ∷ stack) go go' rest = no_halts _

  slots_more : (stack : List Slot) (go go' : List Slot → Next) → ((stack : List Slot) → IsMore (go stack) (go' stack)) → IsMore (on_slot stack go) (on_slot stack go')
  slots_more [] go go' rest = no_halts _
  slots_more (s ∷ stack) go go' rest = rest stack

  places_more : (place : Place) (stack : List Slot) (go go' : ℕ → List Slot → Next) → ((n : ℕ) (stack : List Slot) → IsMore (go n stack) (go' n stack)) → IsMore (on_place place stack go) (on_place place stack go')
  places_more (At n) stack go go' rest = rest n stack
  places_more OnStack [] go go' rest = no_halts _
  places_more OnStack (slot.Place n ∷ stack) go go' rest = rest n stack
  places_more OnStack (slot.Value v ∷ stack) go go' rest = no_halts _

  kept_more : (place : Place) (stack : List Slot) (go go' : ℕ → Next) → ((n : ℕ) → IsMore (go n) (go' n)) → IsMore (at_place place stack go) (at_place place stack go')
  kept_more (At n) stack go go' rest = rest n
  kept_more OnStack [] go go' rest = no_halts _
  kept_more OnStack (slot.Place n ∷ stack) go go' rest = rest n
  kept_more OnStack (slot.Value v ∷ stack) go go' rest = no_halts _

  answers_more : (place : Option Place) (stack : List Slot) (go go' : Option ℕ → List Slot → Next) → ((n : Option ℕ) (stack : List Slot) → IsMore (go n stack) (go' n stack)) → IsMore (on_answer place stack go) (on_answer place stack go')
  answers_more None stack go go' rest = rest None stack
  answers_more (Some place) stack go go' rest = places_more place stack _ _ (λ n stack. rest (Some n) stack)

  pops_more : (n : ℕ) (found : List TypedNumber) (stack : List Slot) (go go' : List TypedNumber → List Slot → Next) → ((vs : List TypedNumber) (stack : List Slot) → IsMore (go vs stack) (go' vs stack)) → IsMore (popping n found stack go) (popping n found stack go')
  pops_more zero found stack go go' rest = rest found stack
  pops_more (suc n) found [] go go' rest = no_halts _
  pops_more (suc n) found (slot.Value v ∷ stack) go go' rest = pops_more n (v ∷ found) stack go go' rest
  pops_more (suc n) found (slot.Place m ∷ stack) go go' rest = no_halts _

  tests_more : (b : Bool) (n n' m m' : Next) → IsMore n n' → IsMore m m' → IsMore (if b then n else m) (if b then n' else m')
  tests_more true n n' m m' f g = f
  tests_more false n n' m m' f g = g

  stops_more : (line : ℕ) (kind : StopKind) (st : State) → IsMore (from (outcome.stop line kind st) (λ (v : TypedNumber) st. Halts)) (from (outcome.stop line kind (later st)) (λ (v : TypedNumber) st. Halts))
  stops_more line kind st = from_more _ _ _ _ (stop_later line kind st) (λ v st. no_halts _)

  counts_more : (n line : ℕ) (st : State) (go go' : State → Next) → ((st : State) → IsMore (go st) (go' (later st))) → IsMore (counting n line st go) (counting n line (later st) go')
  counts_more zero line st go go' rest = stops_more line stop.Local st
  counts_more (suc n) line st go go' rest = rest (record st { turns = n })

  jumps_more : (c : Config) (to : ℕ) (stack : List Slot) → IsMore (jumping c to stack) (jumping (more c) to stack)
  jumps_more c to stack = tests_more (nat_lt c.place to) _ _ _ _ (same _) (no_halts _)

  enters_more : (s : Option Start) (c : Config) (vs : List TypedNumber) (stack : List Slot) (st : State) → IsMore (entering s c vs stack st) (entering s (more c) vs stack (later st))
  enters_more None c vs stack st = no_halts _
  enters_more (Some s) c vs stack st = same _

  returns_more : (line : ℕ) (v : TypedNumber) (stack : List Slot) (callers : List Caller) (st : State) → IsMore (returning line v stack callers st) (returning line v stack callers (later st))
  returns_more line v stack [] st = from_more _ _ _ _ (operation_later line _ st _ (λ r after. over _)) (λ v st. no_halts _)
  returns_more line v stack (caller ∷ callers) st = same _

  -- a value that an outcome gives, put on a stack
  gives_more : (c : Config) (stack : List Slot) (o o' : Outcome TypedNumber) → IsLater o o'
      → IsMore (from o (λ v st. To (record c { place = c.place + 1; stack = slot.Value v ∷ stack; state = st }))) (from o' (λ v st. To (record (more c) { place = c.place + 1; stack = slot.Value v ∷ stack; state = st })))
  gives_more c stack o o' l = from_more o o' _ _ l (λ v st. same _)

  act_more : (code : Whole) (instr : Instr) (c : Config) → IsMore (act code instr c) (act code instr (more c))
  act_more code (i.Push v) c = same _
  act_more code i.Drop c = slots_more c.stack _ _ (λ stack. same _)
  act_more code (i.Element line span) c = values_more c.stack _ _ (λ v stack. from_more _ _ _ _ (element_later line span.base span.size v.number c.state) (λ n st. same _))
  act_more code (i.Read line storage ctype place) c = places_more place c.stack _ _ (λ n stack. gives_more c stack _ _ (read_later storage ctype line n c.state))
  act_more code (i.Fetch line storage ctype place) c = kept_more place c.stack _ _ (λ n. gives_more c c.stack _ _ (read_later storage ctype line n c.state))
  act_more code (i.Write line storage ctype place) c = values_more c.stack _ _ (λ v stack. places_more place stack _ _ (λ n stack. gives_more c stack _ _ (write_later storage ctype line n v c.state)))
  act_more code (i.Compute line op) c = values_more c.stack _ _ (λ y stack. values_more stack _ _ (λ z stack. gives_more c stack _ _ (computed_later line (binary_of op z y) c.state)))
  act_more code (i.Step line up) c = values_more c.stack _ _ (λ y stack. gives_more c c.stack _ _ (computed_later line (binary_of (step_op up) y one) c.state))
  act_more code (i.Stepped line storage ctype place before) c = values_more c.stack _ _ (λ y stack. values_more stack _ _ (λ z stack. places_more place stack _ _ (λ n stack.
      from_more _ _ _ _ (write_later storage ctype line n y c.state) (λ w st. same _))))
  act_more code (i.Prefix line op) c = values_more c.stack _ _ (λ v stack. gives_more c stack _ _ (prefixed_later op line v c.state))
  act_more code (i.Cast to) c = values_more c.stack _ _ (λ v stack. same _)
  act_more code i.Truth c = values_more c.stack _ _ (λ v stack. same _)
  act_more code (i.JumpIfZero to) c = values_more c.stack _ _ (λ v stack. tests_more (is_zero v) _ _ _ _ (jumps_more c to stack) (same _))
  act_more code (i.Jump to) c = jumps_more c to c.stack
  act_more code (i.Turn line) c = counts_more c.state.turns line c.state _ _ (λ st. same _)
  act_more code (i.TurnIf line to) c = values_more c.stack _ _ (λ v stack. tests_more (is_zero v) _ _ _ _ (same _) (counts_more c.state.turns line c.state _ _ (λ st. same _)))
  act_more code (i.Load line order cell) c = places_more cell c.stack _ _ (λ n stack. gives_more c stack _ _ (operation_later line _ c.state told told_later))
  act_more code (i.Store line order ctype cell) c = values_more c.stack _ _ (λ v stack. places_more cell stack _ _ (λ n stack. gives_more c stack _ _ (operation_later line _ c.state _ (λ r st. done_later (converted ctype v) r st))))
  act_more code (i.Modify line order kind ctype cell old) c = values_more c.stack _ _ (λ v stack. places_more cell stack _ _ (λ n stack. gives_more c stack _ _ (operation_later line _ c.state _ (λ r st. then_later r old kind (converted ctype v) st))))
  act_more code (i.Compare line weak success failure ctype expected cell local) c = values_more c.stack _ _ (λ v stack. places_more local stack _ _ (λ m stack. places_more cell stack _ _ (λ n stack.
      gives_more c stack _ _ (operation_later line _ c.state _ (λ r st. exchanged_later m r st)))))
  act_more code (i.Fence line order) c = gives_more c c.stack _ _ (operation_later line _ c.state _ (λ r st. done_later nothing r st))
  act_more code (i.Mutex line a mutex) c = places_more mutex c.stack _ _ (λ n stack. gives_more c stack _ _ (mutex_later a line n c.state))
  act_more code (i.Create line function handle) c = values_more c.stack _ _ (λ v stack. places_more handle stack _ _ (λ n stack. gives_more c stack _ _ (operation_later line _ c.state _ (λ r st. created_later n r st))))
  act_more code (i.Join line answer) c = answers_more answer c.stack _ _ (λ m stack. values_more stack _ _ (λ v stack. gives_more c stack _ _ (operation_later line _ c.state _ (λ r st. joined_later m r st))))
  act_more code (i.Assert line) c = values_more c.stack _ _ (λ v stack. tests_more (is_zero v) _ _ _ _ (gives_more c stack _ _ (stop_later line stop.Assert c.state)) (same _))
  act_more code (i.Print line text count) c = pops_more count [] c.stack _ _ (λ vs stack. gives_more c stack _ _ (operation_later line _ c.state _ (λ r st. done_later _ r st)))
  act_more code (i.Call line function count) c = pops_more count [] c.stack _ _ (λ vs stack. counts_more c.state.turns line c.state _ _ (λ st.
      tests_more (nat_lt (length c.callers) 63) _ _ _ _ (enters_more (slice_get code.starts function) c vs stack st) (stops_more line stop.Depth st)))
  act_more code (i.Return line) c = values_more c.stack _ _ (λ v stack. returns_more line (answer_in c.answers v) stack c.callers c.state)
  act_more code (i.Clear place count) c = clears_more place count c
    where
      clears_more : (place count : ℕ) (c : Config) → IsMore (To (record c { place = c.place + 1; state = cleared place count c.state })) (To (record (more c) { place = c.place + 1; state = cleared place count (later c.state) }))
      clears_more place count c = rw (← cleared_later place count c.state) (same _)

  instr_more : (code : Whole) (o : Option Instr) (c : Config) → IsMore (act_at code o c) (act_at code o (more c))
  instr_more code None c = no_halts _
  instr_more code (Some instr) c = act_more code instr c

  next_more : (code : Whole) (n m : Next) → IsMore n m → IsMore (next code n) (next code m)
  next_more code (To a) m f c e = rw (f a refl) (instr_more code (slice_get code.instrs a.place) a c e)
  next_more code (Says ask) m f c e = absurd (cc e)
  next_more code Halts m f c e = absurd (cc e)

  steps_more : (code : Whole) (j : ℕ) (n m : Next) → IsMore n m → IsMore (steps code j n) (steps code j m)
  steps_more code zero n m f = f
  steps_more code (suc j) n m f = steps_more code j (next code n) (next code m) (next_more code n m f)

  first_more : (s : Option Start) (argument : ℤ) (st : State) → IsMore (first s argument st) (first s argument (later st))
  first_more None argument st = no_halts _
  first_more (Some s) argument st = same _

  begins_more : (code : Whole) (r : Reply) (st : State) → IsMore (beginning code r st) (beginning code r (later st))
  begins_more code (reply.Began function argument) st = first_more (slice_get code.starts function) argument st
  begins_more code reply.Done st = no_halts _
  begins_more code (reply.Value v) st = no_halts _
  begins_more code (reply.Exchanged old success) st = no_halts _
  begins_more code (reply.Locked taken) st = no_halts _
  begins_more code (reply.Created thread) st = no_halts _
  begins_more code (reply.Joined v) st = no_halts _
  begins_more code (reply.Fault kind) st = no_halts _

  asks_more : (ask : Ask) (locals : List ℤ) (replies : List Reply) (go : Reply → State → Next) → ((r : Reply) (st : State) → IsMore (go r st) (go r (later st))) → IsMore (asking ask locals replies go) (asking ask locals (replies ++ x ∷ []) go)
  unfolding asking
  asks_more ask locals [] go rest = no_says ask _
  asks_more ask locals (r ∷ replies) go rest = rest r _

  -- with one reply more the code comes to the same place, and has that reply left
  pub comes_with : (code : Whole) (j : ℕ) (replies : List Reply) (c : Config) → steps code j (start code replies) ≡ To c → steps code j (start code (replies ++ x ∷ [])) ≡ To (more c)
  comes_with code j replies c e = steps_more code j _ _ (asks_more _ [] replies _ (begins_more code)) c e

pub a_reply_is_left : AReplyIsLeft
a_reply_is_left code replies reply j c e = comes_with reply code j replies c e
