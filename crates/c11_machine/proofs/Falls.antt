-- Each instruction that goes on brings the code nearer to its next operation, and one that asks has no reply.
use Rattle.std.proofs.Common.{◌≡◌, ℕ, zero, suc, ◌+◌, ◌*◌, ◌<◌, ◌≤◌, Bool, true, false, List, [], ◌∷◌, length, Option, Some, None, refl, ap, sym, arith}
use Rattle.std.specs.Prelude.{slice_get, nat_lt, ℤ, pos, negsuc, Result, Ok, Err, if◌then◌else◌}
use Rattle.std.proofs.Math.Nat.{mul-le-mul_left}
use native.Mathlib.Nat.{suc-mul}
use Rattle.std.proofs.lemmas.Bool.Decides.{nat_tests}
use Rattle.c11_num.specs.Ranges.{TypedNumber}
use Rattle.c11_num.specs.Wrapping.{converted}
use Rattle.c11_num.specs.Operators.{binary_of}
use Rattle.c11_num.specs.declared.fault.NumFault.{NumFault}
use Rattle.c11_num.specs.declared.value.CType.{CType}
use Rattle.c11_num.specs.declared.kind.RmwKind.{RmwKind}
use Rattle.c11_ast.specs.declared.expr.Prefix.{Prefix}
use Rattle.c11_ast.specs.declared.expr.Prefix.TheVariants as p
use Rattle.c11_events.specs.declared.op.Ask.{Ask}
use Rattle.c11_events.specs.declared.op.Op.{Op}
use Rattle.c11_events.specs.declared.op.Op.TheVariants.{Stop}
use Rattle.c11_events.specs.declared.op.StopKind.{StopKind}
use Rattle.c11_events.specs.declared.op.StopKind.TheVariants.{Depth}
use Rattle.c11_events.specs.declared.reply.Reply.{Reply}
use Rattle.c11_events.specs.declared.reply.Reply.TheVariants as reply
use Rattle.c11_meaning.specs.Outcome.{State, Outcome, Gives, Wants, Over, and_then, operation, with_reply, told, when_done, computed, left, turn_limit}
use Rattle.c11_meaning.specs.Outcome as outcome
use Rattle.c11_meaning.specs.Objects.{element, updated, is_zero, step_op, one}
use Rattle.c11_meaning.specs.Expressions.{prefixed}
use Rattle.c11_meaning.specs.Library.{when_locked, tried, created, exchanged, joined}
use Rattle.c11_meaning.specs.Statements.{cleared}
use Rattle.c11_flat.specs.declared.instr.Instr.{Instr}
use Rattle.c11_flat.specs.declared.instr.Instr.TheVariants as i
use Rattle.c11_flat.specs.declared.instr.Place.{Place}
use Rattle.c11_flat.specs.declared.instr.Place.TheVariants.{At, OnStack}
use Rattle.c11_flat.specs.declared.instr.Storage.{Storage}
use Rattle.c11_flat.specs.declared.instr.Storage.TheVariants.{Local, Plain}
use Rattle.c11_flat.specs.declared.instr.Acts.{Acts}
use Rattle.c11_flat.specs.declared.instr.Acts.TheVariants as acts
use Rattle.c11_flat.specs.declared.slot.Slot.{Slot}
use Rattle.c11_flat.specs.declared.slot.Slot.TheVariants as slot
use Rattle.c11_flat.specs.Code.{Whole, Start}
use Rattle.c11_flat.specs.Flat.{Caller, Config, Next, To, Says, Halts, from, on_value, on_slot, on_place, at_place, on_answer, popping, going, giving, jumping, read_at, write_at, counting, mutex_act, entering, returning, act}
use Rattle.c11_machine.specs.Measures.{rests, far}

-- ---- what outcomes leave

-- a reply is taken, and nothing is asked
data Told {A : Type 0} (most : ℕ) : Outcome A → Type 0 where
  gives : {a : A} {st : State} → left st ≤ most → Told most (Gives a st)
  over : Told most Over

-- the turns and replies that are left are no more, and where something is asked no reply was left
data Within {A : Type 0} (before : State) : Outcome A → Type 0 where
  gives : {a : A} {st : State} → left st ≤ left before → Within before (Gives a st)
  wants : {ask : Ask} → before.replies ≡ [] → Within before (Wants ask)
  over : Within before Over

told_within : {A : Type 0} {o : Outcome A} (before : State) → Told (left before) o → Within before o
told_within before (Told.gives le) = Within.gives le
told_within before Told.over = Within.over

by_replies : {A : Type 0} (before : State) (ask : Ask) (locals : List ℤ) (replies : List Reply) (go : Reply → State → Outcome A) → replies ≡ before.replies
    → ((r : Reply) (after : State) → left after ≤ left before → Told (left before) (go r after)) → Within before (with_reply ask locals replies go)
unfolding with_reply
by_replies before ask locals [] go e rest = Within.wants (sym e)
by_replies before ask locals (r ∷ rs) go e rest = let same = ap (λ (xs : List Reply). length xs) e in told_within before (rest r _ (omega (arith, same)))

operation_within : {A : Type 0} (line : ℕ) (op : Op) (st : State) (go : Reply → State → Outcome A)
    → ((r : Reply) (after : State) → left after ≤ left st → Told (left st) (go r after)) → Within st (operation line op st go)
operation_within line op st go rest = by_replies st _ st.locals st.replies go refl rest

stop_within : {A : Type 0} (line : ℕ) (kind : StopKind) (st : State) → Within {A = A} st (outcome.stop line kind st)
stop_within line kind st = operation_within line _ st _ (λ r after le. Told.over)

told_told : (most : ℕ) (r : Reply) (st : State) → left st ≤ most → Told most (told r st)
told_told most (reply.Value v) st le = Told.gives le
told_told most _ st le = Told.over

done_told : (most : ℕ) (v : TypedNumber) (r : Reply) (st : State) → left st ≤ most → Told most (when_done v r st)
done_told most v reply.Done st le = Told.gives le
done_told most v _ st le = Told.over

updated_told : (most : ℕ) (r : Reply) (old : Bool) (kind : RmwKind) (v : TypedNumber) (st : State) → left st ≤ most → Told most (and_then (told r st) (updated old kind v))
unfolding and_then
updated_told most (reply.Value x) old kind v st le = Told.gives le
updated_told most _ old kind v st le = Told.over

exchanged_told : (most place : ℕ) (r : Reply) (st : State) → left st ≤ most → Told most (exchanged place r st)
exchanged_told most place (reply.Exchanged old true) st le = Told.gives le
exchanged_told most place (reply.Exchanged old false) st le = Told.gives le
exchanged_told most place _ st le = Told.over

locked_told : (most : ℕ) (r : Reply) (st : State) → left st ≤ most → Told most (when_locked r st)
locked_told most (reply.Locked true) st le = Told.gives le
locked_told most _ st le = Told.over

tried_told : (most : ℕ) (r : Reply) (st : State) → left st ≤ most → Told most (tried r st)
tried_told most (reply.Locked true) st le = Told.gives le
tried_told most (reply.Locked false) st le = Told.gives le
tried_told most _ st le = Told.over

created_told : (most place : ℕ) (r : Reply) (st : State) → left st ≤ most → Told most (created place r st)
created_told most place (reply.Created thread) st le = Told.gives le
created_told most place _ st le = Told.over

joined_told : (most : ℕ) (place : Option ℕ) (r : Reply) (st : State) → left st ≤ most → Told most (joined place r st)
joined_told most None (reply.Joined v) st le = Told.gives le
joined_told most (Some place) (reply.Joined v) st le = Told.gives le
joined_told most _ _ st le = Told.over

computed_within : (line : ℕ) (r : Result TypedNumber NumFault) (st : State) → Within st (computed line r st)
unfolding computed
computed_within line (Ok v) st = Within.gives (omega arith)
computed_within line (Err fault) st = stop_within line _ st

read_within : (storage : Storage) (ctype : CType) (line place : ℕ) (st : State) → Within st (read_at storage ctype line place st)
read_within Local ctype line place st = Within.gives (omega arith)
read_within Plain ctype line cell st = operation_within line _ st _ (λ r after le. told_told _ r after le)

write_within : (storage : Storage) (ctype : CType) (line place : ℕ) (v : TypedNumber) (st : State) → Within st (write_at storage ctype line place v st)
write_within Local ctype line place v st = Within.gives (omega arith)
write_within Plain ctype line cell v st = operation_within line _ st _ (λ r after le. done_told _ _ r after le)

if_within : {A : Type 0} (st : State) (t : Bool) (a b : Outcome A) → Within st a → Within st b → Within st (if t then a else b)
if_within st true a b f g = f
if_within st false a b f g = g

element_within : (line base size : ℕ) (index : ℤ) (st : State) → Within st (element line base size index st)
unfolding element
element_within line base size (pos n) st = if_within st (nat_lt n size) _ _ (Within.gives (omega arith)) (stop_within line _ st)
element_within line base size (negsuc n) st = stop_within line _ st

prefixed_within : (o : Prefix) (line : ℕ) (v : TypedNumber) (st : State) → Within st (prefixed o line v st)
prefixed_within p.Minus line v st = computed_within line _ st
prefixed_within p.Plus line v st = Within.gives (omega arith)
prefixed_within p.Not line v st = Within.gives (omega arith)
prefixed_within p.Flip line v st = Within.gives (omega arith)

mutex_within : (a : Acts) (line mutex : ℕ) (st : State) → Within st (mutex_act a line mutex st)
mutex_within acts.Init line mutex st = operation_within line _ st _ (λ r after le. done_told _ _ r after le)
mutex_within acts.Lock line mutex st = operation_within line _ st _ (λ r after le. locked_told _ r after le)
mutex_within acts.TryLock line mutex st = operation_within line _ st _ (λ r after le. tried_told _ r after le)
mutex_within acts.Unlock line mutex st = operation_within line _ st _ (λ r after le. done_told _ _ r after le)

cleared_left : (place count : ℕ) (st : State) → left (cleared place count st) ≡ left st
cleared_left place zero st = refl
cleared_left place (suc count) st = cleared_left (suc place) count _

-- ---- where an instruction leads

pub data Lands (size : ℕ) (before : Config) : Next → Type 0 where
  goes : {c : Config} → far size c < far size before → Lands size before (To c)
  says : {ask : Ask} → before.state.replies ≡ [] → Lands size before (Says ask)
  ends : Lands size before Halts

module _ (size : ℕ) (c : Config) (in_code : c.place < size) where
  -- inside the function, further on
  further : (place : ℕ) (stack : List Slot) (st : State) → c.place < place → left st ≤ left c.state → Lands size c (To (record c { place = place; stack = stack; state = st }))
  further place stack st on le = let more = mul-le-mul_left (size + 1) le in Lands.goes (omega (arith, more, in_code, on))

  to_next : (stack : List Slot) (st : State) → left st ≤ left c.state → Lands size c (going c stack st)
  to_next stack st le = further (c.place + 1) stack st (omega arith) le

  from_lands : {A : Type 0} {o : Outcome A} (go : A → State → Next) → Within c.state o → ((a : A) (st : State) → left st ≤ left c.state → Lands size c (go a st)) → Lands size c (from o go)
  unfolding from
  from_lands go (Within.gives le) rest = rest _ _ le
  from_lands go (Within.wants e) rest = Lands.says e
  from_lands go Within.over rest = Lands.ends

  giving_lands : {o : Outcome TypedNumber} (stack : List Slot) → Within c.state o → Lands size c (from o (giving c stack))
  giving_lands stack w = from_lands _ w (λ v st le. to_next _ st le)

  value_lands : (stack : List Slot) (go : TypedNumber → List Slot → Next) → ((v : TypedNumber) (rest : List Slot) → Lands size c (go v rest)) → Lands size c (on_value stack go)
  value_lands [] go rest = Lands.ends
  value_lands (slot.Value v ∷ stack) go rest = rest v stack
  value_lands (slot.Place n ∷ stack) go rest = Lands.ends

  slot_lands : (stack : List Slot) (go : List Slot → Next) → ((rest : List Slot) → Lands size c (go rest)) → Lands size c (on_slot stack go)
  slot_lands [] go rest = Lands.ends
  slot_lands (s ∷ stack) go rest = rest stack

  place_lands : (place : Place) (stack : List Slot) (go : ℕ → List Slot → Next) → ((n : ℕ) (rest : List Slot) → Lands size c (go n rest)) → Lands size c (on_place place stack go)
  place_lands (At n) stack go rest = rest n stack
  place_lands OnStack [] go rest = Lands.ends
  place_lands OnStack (slot.Value v ∷ stack) go rest = Lands.ends
  place_lands OnStack (slot.Place n ∷ stack) go rest = rest n stack

  stays_lands : (place : Place) (stack : List Slot) (go : ℕ → Next) → ((n : ℕ) → Lands size c (go n)) → Lands size c (at_place place stack go)
  stays_lands (At n) stack go rest = rest n
  stays_lands OnStack [] go rest = Lands.ends
  stays_lands OnStack (slot.Value v ∷ stack) go rest = Lands.ends
  stays_lands OnStack (slot.Place n ∷ stack) go rest = rest n

  answer_lands : (answer : Option Place) (stack : List Slot) (go : Option ℕ → List Slot → Next) → ((n : Option ℕ) (rest : List Slot) → Lands size c (go n rest)) → Lands size c (on_answer answer stack go)
  answer_lands None stack go rest = rest None stack
  answer_lands (Some place) stack go rest = place_lands place stack _ (λ n stack. rest (Some n) stack)

  popping_lands : (n : ℕ) (found : List TypedNumber) (stack : List Slot) (go : List TypedNumber → List Slot → Next) → ((vs : List TypedNumber) (rest : List Slot) → Lands size c (go vs rest)) → Lands size c (popping n found stack go)
  popping_lands zero found stack go rest = rest found stack
  popping_lands (suc n) found [] go rest = Lands.ends
  popping_lands (suc n) found (slot.Value v ∷ stack) go rest = popping_lands n (v ∷ found) stack go rest
  popping_lands (suc n) found (slot.Place p ∷ stack) go rest = Lands.ends

  test_lands : (b : Bool) (n m : Next) → (b ≡ true → Lands size c n) → Lands size c m → Lands size c (if b then n else m)
  test_lands true n m f g = f refl
  test_lands false n m f g = g

  jump_lands : (to : ℕ) (stack : List Slot) → Lands size c (jumping c to stack)
  jump_lands to stack = test_lands (nat_lt c.place to) _ _ (λ yes. further to stack c.state (grind (arith, nat_tests, yes)) (omega arith)) Lands.ends

  -- one turn less is worth the whole code
  turn_less : (m : ℕ) → suc m ≡ c.state.turns → (m + length c.state.replies * turn_limit) * (size + 1) + (size + 1) ≡ left c.state * (size + 1)
  turn_less m e =
      let n = m + length c.state.replies * turn_limit in
      let whole : suc n * (size + 1) ≡ left c.state * (size + 1) = let same : suc n ≡ left c.state = omega (arith, e) in ap (λ (k : ℕ). k * (size + 1)) same in omega (arith, suc-mul n (size + 1), whole)

  counts_by : (n line : ℕ) (go : State → Next) → n ≡ c.state.turns → ((m : ℕ) → suc m ≡ c.state.turns → Lands size c (go (record c.state { turns = m }))) → Lands size c (counting n line c.state go)
  counts_by zero line go e rest = from_lands _ (stop_within line _ c.state) (λ v st le. Lands.ends)
  counts_by (suc n) line go e rest = rest n e

  turn_lands : (line to : ℕ) (stack : List Slot) → Lands size c (counting c.state.turns line c.state (λ st. To (record c { place = to; stack = stack; state = st })))
  turn_lands line to stack = counts_by c.state.turns line _ refl (λ m e. let less = turn_less m e in Lands.goes (omega (arith, less, in_code)))

  stops_by : (line : ℕ) (replies : List Reply) → replies ≡ c.state.replies → Lands size c (from (with_reply (outcome.ask_at line (Stop Depth)) c.state.locals replies (λ reply after. Over)) (λ (v : TypedNumber) st. Halts))
  unfolding from with_reply
  stops_by line [] e = Lands.says (sym e)
  stops_by line (r ∷ rs) e = Lands.ends

  -- the Stop for too many frames, which is made after the call is counted
  by_depth : (m line : ℕ) → Lands size c (from (outcome.stop line Depth (record c.state { turns = m })) (λ (v : TypedNumber) st. Halts))
  by_depth m line = stops_by line c.state.replies refl

  enters : (m : ℕ) (start : Option Start) (values : List TypedNumber) (stack : List Slot) → suc m ≡ c.state.turns → Lands size c (entering start c values stack (record c.state { turns = m }))
  enters m None values stack e = Lands.ends
  enters m (Some start) values stack e = let less = turn_less m e in Lands.goes (omega (arith, less, in_code))

  returns_to : (line : ℕ) (v : TypedNumber) (stack : List Slot) (callers : List Caller) → callers ≡ c.callers → Lands size c (returning line v stack callers c.state)
  returns_to line v stack [] e = from_lands _ (operation_within line _ c.state _ (λ r after le. Told.over)) (λ w st le. Lands.ends)
  returns_to line v stack (caller ∷ callers) e = let same = ap (λ (cs : List Caller). rests size cs) e in Lands.goes (omega (arith, same, in_code))

  pub lands : (code : Whole) (instr : Instr) → Lands size c (act code instr c)
  lands code (i.Push v) = to_next _ c.state (omega arith)
  lands code i.Drop = slot_lands c.stack _ (λ stack. to_next stack c.state (omega arith))
  lands code (i.Element line span) = value_lands c.stack _ (λ v stack. from_lands _ (element_within line span.base span.size v.number c.state) (λ n st le. to_next _ st le))
  lands code (i.Read line storage ctype place) = place_lands place c.stack _ (λ n stack. giving_lands stack (read_within storage ctype line n c.state))
  lands code (i.Fetch line storage ctype place) = stays_lands place c.stack _ (λ n. giving_lands c.stack (read_within storage ctype line n c.state))
  lands code (i.Write line storage ctype place) = value_lands c.stack _ (λ v stack. place_lands place stack _ (λ n stack. giving_lands stack (write_within storage ctype line n v c.state)))
  lands code (i.Compute line op) = value_lands c.stack _ (λ y stack. value_lands stack _ (λ x stack. giving_lands stack (computed_within line (binary_of op x y) c.state)))
  lands code (i.Step line up) = value_lands c.stack _ (λ x stack. giving_lands c.stack (computed_within line (binary_of (step_op up) x one) c.state))
  lands code (i.Stepped line storage ctype place before) = value_lands c.stack _ (λ y stack. value_lands stack _ (λ x stack. place_lands place stack _ (λ n stack.
      from_lands _ (write_within storage ctype line n y c.state) (λ z st le. to_next _ st le))))
  lands code (i.Prefix line op) = value_lands c.stack _ (λ v stack. giving_lands stack (prefixed_within op line v c.state))
  lands code (i.Cast to) = value_lands c.stack _ (λ v stack. to_next _ c.state (omega arith))
  lands code i.Truth = value_lands c.stack _ (λ v stack. to_next _ c.state (omega arith))
  lands code (i.JumpIfZero to) = value_lands c.stack _ (λ v stack. test_lands (is_zero v) _ _ (λ _. jump_lands to stack) (to_next stack c.state (omega arith)))
  lands code (i.Jump to) = jump_lands to c.stack
  lands code (i.Turn line) = turn_lands line (c.place + 1) c.stack
  lands code (i.TurnIf line to) = value_lands c.stack _ (λ v stack. test_lands (is_zero v) _ _ (λ _. to_next stack c.state (omega arith)) (turn_lands line to stack))
  lands code (i.Load line order cell) = place_lands cell c.stack _ (λ n stack. giving_lands stack (operation_within line _ c.state _ (λ r after le. told_told _ r after le)))
  lands code (i.Store line order ctype cell) = value_lands c.stack _ (λ v stack. place_lands cell stack _ (λ n stack. giving_lands stack (operation_within line _ c.state _ (λ r after le. done_told _ _ r after le))))
  lands code (i.Modify line order kind ctype cell old) = value_lands c.stack _ (λ v stack. place_lands cell stack _ (λ n stack.
      giving_lands stack (operation_within line _ c.state _ (λ r after le. updated_told _ r old kind (converted ctype v) after le))))
  lands code (i.Compare line weak success failure ctype expected cell local) = value_lands c.stack _ (λ v stack. place_lands local stack _ (λ place stack. place_lands cell stack _ (λ n stack.
      giving_lands stack (operation_within line _ c.state _ (λ r after le. exchanged_told _ place r after le)))))
  lands code (i.Fence line order) = giving_lands c.stack (operation_within line _ c.state _ (λ r after le. done_told _ _ r after le))
  lands code (i.Mutex line a mutex) = place_lands mutex c.stack _ (λ n stack. giving_lands stack (mutex_within a line n c.state))
  lands code (i.Create line function handle) = value_lands c.stack _ (λ v stack. place_lands handle stack _ (λ n stack. giving_lands stack (operation_within line _ c.state _ (λ r after le. created_told _ n r after le))))
  lands code (i.Join line answer) = answer_lands answer c.stack _ (λ place stack. value_lands stack _ (λ thread stack. giving_lands stack (operation_within line _ c.state _ (λ r after le. joined_told _ place r after le))))
  lands code (i.Assert line) = value_lands c.stack _ (λ v stack. test_lands (is_zero v) _ _ (λ _. giving_lands stack (stop_within line _ c.state)) (to_next _ c.state (omega arith)))
  lands code (i.Print line text count) = popping_lands count [] c.stack _ (λ vs stack. giving_lands stack (operation_within line _ c.state _ (λ r after le. done_told _ _ r after le)))
  lands code (i.Call line function count) = popping_lands count [] c.stack _ (λ vs stack. counts_by c.state.turns line _ refl (λ m e.
      test_lands (nat_lt (length c.callers) 63) _ _ (λ _. enters m (slice_get code.starts function) vs stack e) (by_depth m line)))
  lands code (i.Return line) = value_lands c.stack _ (λ v stack. returns_to line _ stack c.callers refl)
  lands code (i.Clear place count) = let same = cleared_left place count c.state in to_next c.stack (cleared place count c.state) (omega (arith, same))
