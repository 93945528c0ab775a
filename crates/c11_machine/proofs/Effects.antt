-- What operations come to, where they have a reply and where they have none.
use Rattle.std.proofs.Common.{◌≡◌, ℕ, zero, suc, ◌-◌, ◌<◌, Bool, true, false, List, [], ◌∷◌, drop, Option, Some, None, refl, ap, sym, ◌∙◌, arith}
use Rattle.std.specs.Prelude.{ℤ, Ok, Err, if◌then◌else◌}
use Rattle.c11_num.specs.Ranges.{TypedNumber}
use Rattle.c11_num.specs.declared.fault.NumFault.{NumFault}
use Rattle.c11_events.specs.declared.op.Ask.{Ask}
use Rattle.c11_events.specs.declared.op.Op.{Op}
use Rattle.c11_events.specs.declared.op.StopKind.{StopKind}
use Rattle.c11_events.specs.declared.reply.Reply.{Reply}
use Rattle.c11_events.specs.declared.reply.Reply.TheVariants as reply
use Rattle.c11_events.specs.declared.op.StopKind.TheVariants.{Local}
use Rattle.c11_meaning.specs.Outcome.{State, Outcome, Gives, Wants, Over, operation, with_reply, turn_limit, ask_at, computed, stop_of, when_done}
use Rattle.c11_meaning.specs.Outcome as outcome
use Rattle.c11_meaning.specs.Objects.{new_or_old, with_local_at}
use Rattle.c11_flat.specs.declared.instr.Place.{Place}
use Rattle.c11_flat.specs.declared.slot.Slot.{Slot}
use Rattle.c11_flat.specs.declared.slot.Slot.TheVariants as slot
use Rattle.c11_flat.specs.Flat.{Config, Next, Says, Halts, from, giving, on_slot, on_place, on_answer, counting}
use Rattle.c11_machine.specs.Views.{listed}
use Rattle.c11_machine.specs.Answers.{answer_of, answered}
use Rattle.c11_machine.specs.Effects.{meant, stopped, gives, replied_by}
use Rattle.c11_machine.specs.declared.answer.Answer.{Answer}
use Rattle.c11_machine.specs.declared.answer.Wanted.{Wanted}
use Rattle.c11_machine.specs.declared.effect.Effect.{Effect}
use Rattle.c11_machine.specs.declared.effect.Effect.TheVariants.{Moves}
use Rattle.c11_machine.specs.declared.effect.Budget.TheVariants.{Kept}

pub from_same : {A : Type 0} (o o' : Outcome A) (go : A → State → Next) → o ≡ o' → from o go ≡ from o' go
from_same o o' go e = ap (λ (x : Outcome _). from x go) e

pub seen : (e e' : Effect) (c : Config) → e' ≡ e → meant e c ≡ meant e' c
seen e e' c same = ap (λ (x : Effect). meant x c) (sym same)

pub operation_asks : {A : Type 0} (line : ℕ) (op : Op) (st : State) (k : Reply → State → Outcome A) (go : A → State → Next) → st.replies ≡ []
    → from (operation line op st k) go ≡ Says (ask_at line op)
unfolding from with_reply
operation_asks line op st k go e = ap (λ (rs : List Reply). from (with_reply (ask_at line op) st.locals rs k) go) e

pub operation_takes : {A : Type 0} (line : ℕ) (op : Op) (st : State) (k : Reply → State → Outcome A) (go : A → State → Next) (reply : Reply) → st.replies ≡ reply ∷ []
    → from (operation line op st k) go ≡ from (k reply (record { locals = st.locals; replies = []; turns = turn_limit })) go
unfolding with_reply
operation_takes line op st k go reply e = ap (λ (rs : List Reply). from (with_reply (ask_at line op) st.locals rs k) go) e

-- a Stop
pub stops_at : {A : Type 0} (line : ℕ) (kind : StopKind) (st : State) (c : Config) (pending : Option Reply) (go : A → State → Next) → st.replies ≡ listed pending
    → from (outcome.stop line kind st) go ≡ meant (stopped line kind pending) c
unfolding from
stops_at line kind st c None go e = operation_asks line _ st _ go e
stops_at line kind st c (Some reply) go e = operation_takes line _ st _ go reply e

pub stops : {A : Type 0} (line : ℕ) (kind : StopKind) (c : Config) (pending : Option Reply) (go : A → State → Next) → c.state.replies ≡ listed pending
    → from (outcome.stop line kind c.state) go ≡ meant (stopped line kind pending) c
stops line kind c pending go e = stops_at line kind c.state c pending go e

pub computes : (line : ℕ) (fault : NumFault) (c : Config) (pending : Option Reply) (go : TypedNumber → State → Next) → c.state.replies ≡ listed pending
    → from (computed line (Err fault) c.state) go ≡ meant (stopped line (stop_of fault) pending) c
unfolding computed
computes line fault c pending go e = stops line (stop_of fault) c pending go e

pub gives_value : (line takes : ℕ) (value : TypedNumber) (c : Config) → from (computed line (Ok value) c.state) (giving c (drop takes c.stack)) ≡ meant (gives takes value) c
unfolding computed from
gives_value line takes value c = refl

-- an operation with its reply
goes_on : (c : Config) (answer : Option Answer) (takes : ℕ) → from (answered answer (record { locals = c.state.locals; replies = []; turns = turn_limit })) (giving c (drop takes c.stack)) ≡ meant (replied_by answer takes) c
unfolding from
goes_on c None takes = refl
goes_on c (Some answer) takes = refl

pub replies : (line : ℕ) (op : Op) (wanted : Wanted) (takes : ℕ) (c : Config) (reply : Reply) (answer : Option Answer) → c.state.replies ≡ reply ∷ []
    → ((st : State) → answer_of wanted reply st ≡ answered answer st) → from (operation line op c.state (answer_of wanted)) (giving c (drop takes c.stack)) ≡ meant (replied_by answer takes) c
replies line op wanted takes c reply answer e is = operation_takes line op c.state (answer_of wanted) _ reply e
    ∙ (ap (λ (o : Outcome TypedNumber). from o (giving c (drop takes c.stack))) (is _) ∙ goes_on c answer takes)

-- ---- effects of some forms

pub gives_seen : (takes : ℕ) (v v' : TypedNumber) (e : Effect) (c : Config) → v' ≡ v → e ≡ gives takes v' → giving c (drop takes c.stack) v c.state ≡ meant e c
gives_seen takes v v' e c same is = ap (λ (x : TypedNumber). giving c (drop takes c.stack) x c.state) (sym same) ∙ seen (gives takes v') e c is

kept_by : (ask : Ask) (locals : List ℤ) (replies : List Reply) (v : TypedNumber) (f : TypedNumber → TypedNumber) (go : TypedNumber → State → Next)
    → from (with_reply ask locals replies (when_done v)) (λ z st. go (f z) st) ≡ from (with_reply ask locals replies (when_done (f v))) go
unfolding from with_reply
kept_by ask locals [] v f go = refl
kept_by ask locals (reply.Done ∷ rs) v f go = refl
kept_by ask locals (reply.Value u ∷ rs) v f go = refl
kept_by ask locals (reply.Exchanged old success ∷ rs) v f go = refl
kept_by ask locals (reply.Locked taken ∷ rs) v f go = refl
kept_by ask locals (reply.Created thread ∷ rs) v f go = refl
kept_by ask locals (reply.Began function argument ∷ rs) v f go = refl
kept_by ask locals (reply.Joined u ∷ rs) v f go = refl
kept_by ask locals (reply.Fault kind ∷ rs) v f go = refl

-- what an operation that is done gives may be made before it
pub done_keeps : (line : ℕ) (op : Op) (st : State) (v : TypedNumber) (f : TypedNumber → TypedNumber) (go : TypedNumber → State → Next)
    → from (operation line op st (when_done v)) (λ z st. go (f z) st) ≡ from (operation line op st (when_done (f v))) go
done_keeps line op st v f go = kept_by _ st.locals st.replies v f go

pub writes_local : (c : Config) (takes place : ℕ) (v v' kept : TypedNumber) (new : Bool) (old : TypedNumber) → v' ≡ v → kept ≡ new_or_old new v' old
    → giving c (drop takes c.stack) (new_or_old new v old) (with_local_at c.state place v.number)
    ≡ meant (Moves (record { takes = takes; puts = Some (slot.Value kept); writes = Some (record { place = place; value = v' }); to = None; budget = Kept })) c
writes_local c takes place v v' kept new old same is =
    ap (λ (x : TypedNumber). giving c (drop takes c.stack) (new_or_old new x old) (with_local_at c.state place x.number)) (sym same)
    ∙ ap (λ (x : TypedNumber). giving c (drop takes c.stack) x (with_local_at c.state place v'.number)) (sym is)

-- ---- tests, slots, jumps and turns

pub test_true : (b : Bool) (x y : Next) → b ≡ true → (if b then x else y) ≡ x
test_true b x y e = ap (λ (t : Bool). if t then x else y) e

pub test_false : (b : Bool) (x y : Next) → b ≡ false → (if b then x else y) ≡ y
test_false b x y e = ap (λ (t : Bool). if t then x else y) e

pub slot_found : (s : Slot) (stack rest : List Slot) (go : List Slot → Next) → stack ≡ s ∷ rest → on_slot stack go ≡ go rest
slot_found s stack rest go e = ap (λ (x : List Slot). on_slot x go) e

pub no_slot : (stack : List Slot) (go : List Slot → Next) → stack ≡ [] → on_slot stack go ≡ Halts
no_slot stack go e = ap (λ (x : List Slot). on_slot x go) e

pub counts_none : (n line : ℕ) (c : Config) (pending : Option Reply) (go : State → Next) → c.state.replies ≡ listed pending → n ≡ 0 → counting n line c.state go ≡ meant (stopped line Local pending) c
counts_none zero line c pending go e none = stops line Local c pending _ e
counts_none (suc n) line c pending go e none = absurd (omega (arith, none))

pub counts_one : (n line : ℕ) (st : State) (go : State → Next) → 0 < n → counting n line st go ≡ go (record st { turns = n - 1 })
counts_one zero line st go some_turn = absurd (omega (arith, some_turn))
counts_one (suc n) line st go some_turn = let e : n ≡ suc n - 1 = omega arith in ap (λ (k : ℕ). go (record st { turns = k })) e

pub answer_none : (answer : Option Place) (stack : List Slot) (go : Option ℕ → List Slot → Next) → answer ≡ None → on_answer answer stack go ≡ go None stack
answer_none answer stack go e = ap (λ (a : Option Place). on_answer a stack go) e

pub answer_some : (answer : Option Place) (place : Place) (stack : List Slot) (go : Option ℕ → List Slot → Next) → answer ≡ Some place
    → on_answer answer stack go ≡ on_place place stack (λ n rest. go (Some n) rest)
answer_some answer place stack go e = ap (λ (a : Option Place). on_answer a stack go) e
