-- What a further reply changes: nothing before it is taken, and then, if it is of the kind that was asked for, nothing ends.
use Rattle.std.proofs.Common.{◌≡◌, ℕ, zero, suc, ◌*◌, ◌≤◌, Bool, true, false, List, [], ◌∷◌, ◌++◌, length, Result, Ok, Err, refl, arith, ℤ}
use Rattle.std.specs.Prelude.{if◌then◌else◌}
use Rattle.c11_num.specs.Ranges.{TypedNumber}
use Rattle.c11_num.specs.declared.fault.NumFault.{NumFault}
use Rattle.c11_events.specs.declared.op.Ask.{Ask}
use Rattle.c11_events.specs.declared.op.Op.{Op}
use Rattle.c11_events.specs.declared.op.Op.TheVariants as op
use Rattle.c11_events.specs.declared.op.StopKind.{StopKind}
use Rattle.c11_events.specs.declared.op.StopKind.TheVariants as kind
use Rattle.c11_events.specs.declared.reply.Reply.{Reply}
use Rattle.c11_events.specs.declared.reply.Reply.TheVariants as reply
use Rattle.c11_check.specs.declared.entity.Signature.{Signature}
use Rattle.c11_meaning.specs.Outcome.{State, Outcome, Gives, Wants, Over, and_then, ask_at, with_reply, operation, told, when_done, stop, stop_of, computed, counting, counted, left, turn_limit}
use Rattle.c11_meaning.specs.Progress.{IsDone, IsValue, IsFault, Ends, IsReplyTo}

-- the state, with a further reply left
abbrev pub with_more : Reply → State → State
with_more x st = record st { replies = st.replies ++ x ∷ [] }

module _ (fs : List Signature) where
  -- no more turns are left than these
  pub data Below {A : Type 0} (n : ℕ) : Outcome A → Type 0 where
    gives : {a : A} {st : State} → left st ≤ n → Below n (Gives a st)
    wants : {ask : Ask} → Below n (Wants ask)
    over : Below n Over

  -- it does not end, and all replies were taken
  pub data Awaits {A : Type 0} : Outcome A → Type 0 where
    gives : {a : A} {st : State} → st.replies ≡ [] → Awaits (Gives a st)
    wants : {ask : Ask} → Awaits (Wants ask)

  -- it has ended
  pub data IsOver {A : Type 0} : Outcome A → Type 0 where
    over : IsOver Over

  -- the outcomes without and with the further reply
  pub data Beside {A : Type 0} (x : Reply) : Outcome A → Outcome A → Type 0 where
    gives : {a : A} {st : State} → Beside x (Gives a st) (Gives a (with_more x st))
    wants : {ask : Ask} {o : Outcome A} → (IsReplyTo fs ask.op x → Awaits o) → (Ends ask.op x → IsOver o) → Beside x (Wants ask) o
    over : {o : Outcome A} → Beside x Over o

  pub record Runs {A : Type 0} (c : State → Outcome A) : Type 0 where
    pub less : (st : State) → Below (left st) (c st)
    pub alone : (st : State) → st.replies ≡ [] → Awaits (c st)
    pub more : (x : Reply) (st : State) → Beside x (c st) (c (with_more x st))

  -- ---- in order

  pub below_more : {A : Type 0} {o : Outcome A} (m n : ℕ) → m ≤ n → Below m o → Below n o
  below_more m n le (Below.gives less) = Below.gives (omega (arith, le, less))
  below_more m n le Below.wants = Below.wants
  below_more m n le Below.over = Below.over

  pub below_bind : {A B : Type 0} {o : Outcome A} {f : A → State → Outcome B} (n : ℕ) → Below n o → ((a : A) (st : State) → left st ≤ n → Below n (f a st)) → Below n (and_then o f)
  unfolding and_then
  below_bind n (Below.gives {a = a} {st = st} less) rest = rest a st less
  below_bind n Below.wants rest = Below.wants
  below_bind n Below.over rest = Below.over

  pub awaits_bind : {A B : Type 0} {o : Outcome A} {f : A → State → Outcome B} → Awaits o → ((a : A) (st : State) → st.replies ≡ [] → Awaits (f a st)) → Awaits (and_then o f)
  unfolding and_then
  awaits_bind (Awaits.gives {a = a} {st = st} is) rest = rest a st is
  awaits_bind Awaits.wants rest = Awaits.wants

  pub over_bind : {A B : Type 0} {o : Outcome A} (f : A → State → Outcome B) → IsOver o → IsOver (and_then o f)
  unfolding and_then
  over_bind f IsOver.over = IsOver.over

  pub beside_bind : {A B : Type 0} {o o' : Outcome A} {f f' : A → State → Outcome B} (x : Reply) → Beside x o o' → ((a : A) (st : State) → o ≡ Gives a st → Beside x (f a st) (f' a (with_more x st))) → ((a : A) (st : State) → st.replies ≡ [] → Awaits (f' a st))
      → Beside x (and_then o f) (and_then o' f')
  unfolding and_then
  beside_bind x (Beside.gives {a = a} {st = st}) rest last = rest a st refl
  beside_bind x (Beside.wants fits ends) rest last = Beside.wants (λ is. awaits_bind (fits is) last) (λ is. over_bind _ (ends is))
  beside_bind x Beside.over rest last = Beside.over

  pub runs_bind : {A B : Type 0} {c : State → Outcome A} {f : A → State → Outcome B} → Runs c → ((a : A) → Runs (f a)) → Runs (λ st. and_then (c st) f)
  runs_bind r rest = record {
    less = λ st. below_bind (left st) (r.less st) (λ a after le. below_more (left after) (left st) le ((rest a).less after));
    alone = λ st is. awaits_bind (r.alone st is) (λ a after is. (rest a).alone after is);
    more = λ x st. beside_bind x (r.more x st) (λ a after is. (rest a).more x after) (λ a after is. (rest a).alone after is);
  }

  pub runs_gives : {A : Type 0} (a : A) → Runs (λ st. Gives a st)
  runs_gives a = record { less = λ st. Below.gives (omega arith); alone = λ st is. Awaits.gives is; more = λ x st. Beside.gives }

  pub runs_if : {A : Type 0} {c d : State → Outcome A} (t : Bool) → Runs c → Runs d → Runs (λ st. if t then c st else d st)
  runs_if true r s = record { less = r.less; alone = r.alone; more = r.more }
  runs_if false r s = record { less = s.less; alone = s.alone; more = s.more }

  -- ---- operations

  -- what goes on behind an operation
  pub record Goes {A : Type 0} (o : Op) (go : Reply → State → Outcome A) : Type 0 where
    pub less : (r : Reply) (st : State) → Below (left st) (go r st)
    pub more : (x r : Reply) (st : State) → Beside x (go r st) (go r (with_more x st))
    pub fits : (r : Reply) (st : State) → IsReplyTo fs o r → st.replies ≡ [] → Awaits (go r st)
    pub ends : (r : Reply) (st : State) → Ends o r → IsOver (go r st)

  asks_below : {A : Type 0} (ask : Ask) (locals : List ℤ) (replies : List Reply) (go : Reply → State → Outcome A) (n : ℕ) → length replies * turn_limit ≤ n → ((r : Reply) (st : State) → Below (left st) (go r st)) → Below n (with_reply ask locals replies go)
  unfolding with_reply
  asks_below ask locals [] go n le less = Below.wants
  asks_below ask locals (r ∷ rs) go n le less = below_more (left (record { locals = locals; replies = rs; turns = turn_limit })) n (omega (arith, le)) (less r (record { locals = locals; replies = rs; turns = turn_limit }))

  asks_alone : {A : Type 0} (ask : Ask) (locals : List ℤ) (replies : List Reply) (go : Reply → State → Outcome A) → replies ≡ [] → Awaits (with_reply ask locals replies go)
  unfolding with_reply
  asks_alone ask locals [] go is = Awaits.wants
  asks_alone ask locals (r ∷ rs) go is = absurd cc

  asks_more : {A : Type 0} (x : Reply) (ask ask' : Ask) (locals : List ℤ) (replies : List Reply) (go : Reply → State → Outcome A) → Goes ask.op go → Beside x (with_reply ask locals replies go) (with_reply ask' locals (replies ++ x ∷ []) go)
  unfolding with_reply
  asks_more x ask ask' locals [] go g = Beside.wants (λ is. g.fits x (record { locals = locals; replies = []; turns = turn_limit }) is refl) (λ is. g.ends x (record { locals = locals; replies = []; turns = turn_limit }) is)
  asks_more x ask ask' locals (r ∷ rs) go g = g.more x r (record { locals = locals; replies = rs; turns = turn_limit })

  -- the operation may depend on the locals
  pub runs_operation : {A : Type 0} (line : ℕ) (o : List ℤ → Op) (go : List ℤ → Reply → State → Outcome A) → ((locals : List ℤ) → Goes (o locals) (go locals)) → Runs (λ st. operation line (o st.locals) st (go st.locals))
  runs_operation line o go g = record {
    less = λ st. asks_below (ask_at line (o st.locals)) st.locals st.replies (go st.locals) (left st) (omega arith) (g st.locals).less;
    alone = λ st is. asks_alone (ask_at line (o st.locals)) st.locals st.replies (go st.locals) is;
    more = λ x st. asks_more x (ask_at line (o st.locals)) (ask_at line (o st.locals)) st.locals st.replies (go st.locals) (g st.locals);
  }

  abbrev nothing_follows : {A : Type 0} → Reply → State → Outcome A
  nothing_follows r st = Over

  goes_stop : {A : Type 0} (k : StopKind) → Goes {A = A} (op.Stop k) nothing_follows
  goes_stop k = record { less = λ r st. Below.over; more = λ x r st. Beside.over; fits = λ r st is none. absurd is; ends = λ r st is. IsOver.over }

  pub runs_stop : {A : Type 0} (line : ℕ) (k : StopKind) → Runs (λ st. stop {A = A} line k st)
  runs_stop {A = A} line k = runs_operation line (λ locals. op.Stop k) (λ locals. nothing_follows {A = A}) (λ locals. goes_stop k)

  pub goes_told : (o : Op) → ((r : Reply) → IsReplyTo fs o r → IsValue r) → ((r : Reply) → Ends o r → IsFault r) → Goes o told
  goes_told o kind fault = record { less = less; more = more; fits = λ r st is none. fits r st (kind r is) none; ends = λ r st is. ends r st (fault r is) }
    where
      ends : (r : Reply) (st : State) → IsFault r → IsOver (told r st)
      ends (reply.Fault f) st is = IsOver.over
      ends (reply.Value v) st is = absurd is
      ends reply.Done st is = absurd is
      ends (reply.Exchanged old success) st is = absurd is
      ends (reply.Locked mine) st is = absurd is
      ends (reply.Created thread) st is = absurd is
      ends (reply.Began function argument) st is = absurd is
      ends (reply.Joined v) st is = absurd is

      less : (r : Reply) (st : State) → Below (left st) (told r st)
      less (reply.Value v) st = Below.gives (omega arith)
      less reply.Done st = Below.over
      less (reply.Exchanged old success) st = Below.over
      less (reply.Locked mine) st = Below.over
      less (reply.Created thread) st = Below.over
      less (reply.Began function argument) st = Below.over
      less (reply.Joined v) st = Below.over
      less (reply.Fault fault) st = Below.over

      more : (x r : Reply) (st : State) → Beside x (told r st) (told r (with_more x st))
      more x (reply.Value v) st = Beside.gives
      more x reply.Done st = Beside.over
      more x (reply.Exchanged old success) st = Beside.over
      more x (reply.Locked mine) st = Beside.over
      more x (reply.Created thread) st = Beside.over
      more x (reply.Began function argument) st = Beside.over
      more x (reply.Joined v) st = Beside.over
      more x (reply.Fault fault) st = Beside.over

      fits : (r : Reply) (st : State) → IsValue r → st.replies ≡ [] → Awaits (told r st)
      fits (reply.Value v) st is none = Awaits.gives none
      fits reply.Done st is none = absurd is
      fits (reply.Exchanged old success) st is none = absurd is
      fits (reply.Locked mine) st is none = absurd is
      fits (reply.Created thread) st is none = absurd is
      fits (reply.Began function argument) st is none = absurd is
      fits (reply.Joined v) st is none = absurd is
      fits (reply.Fault fault) st is none = absurd is

  pub goes_done : (o : Op) (value : TypedNumber) → ((r : Reply) → IsReplyTo fs o r → IsDone r) → ((r : Reply) → Ends o r → IsFault r) → Goes o (when_done value)
  goes_done o value kind fault = record { less = less; more = more; fits = λ r st is none. fits r st (kind r is) none; ends = λ r st is. ends r st (fault r is) }
    where
      ends : (r : Reply) (st : State) → IsFault r → IsOver (when_done value r st)
      ends (reply.Fault f) st is = IsOver.over
      ends (reply.Value v) st is = absurd is
      ends reply.Done st is = absurd is
      ends (reply.Exchanged old success) st is = absurd is
      ends (reply.Locked mine) st is = absurd is
      ends (reply.Created thread) st is = absurd is
      ends (reply.Began function argument) st is = absurd is
      ends (reply.Joined v) st is = absurd is

      less : (r : Reply) (st : State) → Below (left st) (when_done value r st)
      less reply.Done st = Below.gives (omega arith)
      less (reply.Value v) st = Below.over
      less (reply.Exchanged old success) st = Below.over
      less (reply.Locked mine) st = Below.over
      less (reply.Created thread) st = Below.over
      less (reply.Began function argument) st = Below.over
      less (reply.Joined v) st = Below.over
      less (reply.Fault fault) st = Below.over

      more : (x r : Reply) (st : State) → Beside x (when_done value r st) (when_done value r (with_more x st))
      more x reply.Done st = Beside.gives
      more x (reply.Value v) st = Beside.over
      more x (reply.Exchanged old success) st = Beside.over
      more x (reply.Locked mine) st = Beside.over
      more x (reply.Created thread) st = Beside.over
      more x (reply.Began function argument) st = Beside.over
      more x (reply.Joined v) st = Beside.over
      more x (reply.Fault fault) st = Beside.over

      fits : (r : Reply) (st : State) → IsDone r → st.replies ≡ [] → Awaits (when_done value r st)
      fits reply.Done st is none = Awaits.gives none
      fits (reply.Value v) st is none = absurd is
      fits (reply.Exchanged old success) st is none = absurd is
      fits (reply.Locked mine) st is none = absurd is
      fits (reply.Created thread) st is none = absurd is
      fits (reply.Began function argument) st is none = absurd is
      fits (reply.Joined v) st is none = absurd is
      fits (reply.Fault fault) st is none = absurd is

  -- ---- turns

  pub counts_below : {A : Type 0} (t line : ℕ) (st : State) (go : State → Outcome A) → t ≡ st.turns → Runs go → Below (left st) (counting t line st go)
  unfolding counting
  counts_below {A = A} zero line st go is r = (runs_stop {A = A} line kind.Local).less st
  counts_below (suc t) line st go is r = below_more (left (record st { turns = t })) (left st) (omega (arith, is)) (r.less (record st { turns = t }))

  pub counts_alone : {A : Type 0} (t line : ℕ) (st : State) (go : State → Outcome A) → Runs go → st.replies ≡ [] → Awaits (counting t line st go)
  unfolding counting
  counts_alone {A = A} zero line st go r is = (runs_stop {A = A} line kind.Local).alone st is
  counts_alone (suc t) line st go r is = r.alone (record st { turns = t }) is

  counts_more : {A : Type 0} (x : Reply) (t line : ℕ) (st : State) (go : State → Outcome A) → Runs go → Beside x (counting t line st go) (counting t line (with_more x st) go)
  unfolding counting
  counts_more {A = A} x zero line st go r = (runs_stop {A = A} line kind.Local).more x st
  counts_more x (suc t) line st go r = r.more x (record st { turns = t })

  pub runs_counted : {A : Type 0} (line : ℕ) (go : State → Outcome A) → Runs go → Runs (λ st. counted line st go)
  runs_counted line go r = record { less = λ st. counts_below st.turns line st go refl r; alone = λ st is. counts_alone st.turns line st go r is; more = λ x st. counts_more x st.turns line st go r }

  pub runs_computed : (line : ℕ) (r : Result TypedNumber NumFault) → Runs (λ st. computed line r st)
  unfolding computed
  runs_computed line (Ok value) = runs_gives value
  runs_computed line (Err fault) = runs_stop line (stop_of fault)
