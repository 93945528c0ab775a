-- The flat code does what an outcome says.
use Rattle.std.proofs.Common.{◌≡◌, ℕ, zero, suc, ◌+◌, ◌*◌, ◌≤◌, List, [], ◌∷◌, ◌++◌, length, Option, Some, refl, ap, ◌∙◌, subst, arith}
use Rattle.std.specs.Prelude.{slice_get, ℤ}
use Rattle.std.proofs.lemmas.List.{length-append}
use Rattle.c11_num.specs.declared.value.CType.{CType}
use Rattle.c11_events.specs.declared.op.Ask.{Ask}
use Rattle.c11_events.specs.declared.op.Op.{Op}
use Rattle.c11_events.specs.declared.op.StopKind.{StopKind}
use Rattle.c11_events.specs.declared.reply.Reply.{Reply}
use Rattle.c11_meaning.specs.Outcome.{State, Outcome, Gives, Wants, Over, and_then, with_reply, operation, stop, left, turn_limit}
use Rattle.c11_flat.specs.declared.instr.Instr.{Instr}
use Rattle.c11_flat.specs.declared.slot.Slot.{Slot}
use Rattle.c11_flat.specs.Pieces.{Piece, plain, joined}
use Rattle.c11_flat.specs.Code.{Whole}
use Rattle.c11_flat.specs.Flat.{Caller, Config, Next, To, Says, Halts, from, act, act_at, next, steps}

-- from one moment to another
abbrev pub Reaches : Whole → Next → Next → Type 0
Reaches code n m = (j : ℕ) × (steps code j n ≡ m)

pub steps_add : (code : Whole) (k i j : ℕ) (n : Next) → k ≡ i + j → steps code k n ≡ steps code j (steps code i n)
steps_add code k zero j n e = let same : k ≡ j = omega (arith, e) in ap (λ (x : ℕ). steps code x n) same
steps_add code zero (suc i) j n e = absurd (omega (arith, e))
steps_add code (suc k) (suc i) j n e = steps_add code k i j (next code n) (omega (arith, e))

pub reaches_on : (code : Whole) (a b c : Next) → Reaches code a b → Reaches code b c → Reaches code a c
reaches_on code a b c r q = (r.0 + q.0, steps_add code (r.0 + q.0) r.0 q.0 a refl ∙ (ap (λ (n : Next). steps code q.0 n) r.1 ∙ q.1))

-- ---- outcomes that leave no more turns than a bound, and give what has P

pub data Keeps {A : Type 0} (most : ℕ) (P : A → Type 0) : Outcome A → Type 0 where
  gives : {a : A} {st : State} → left st ≤ most → P a → Keeps most P (Gives a st)
  wanting : {ask : Ask} → Keeps most P (Wants ask)
  over : Keeps most P Over

keeps_reply : {A : Type 0} (most : ℕ) (P : A → Type 0) (ask : Ask) (locals : List ℤ) (replies : List Reply) (turns : ℕ) (go : Reply → State → Outcome A)
    → turns + length replies * turn_limit ≤ most → ((reply : Reply) (after : State) → left after ≤ most → Keeps most P (go reply after)) → Keeps most P (with_reply ask locals replies go)
unfolding with_reply
keeps_reply most P ask locals [] turns go le rest = wanting
keeps_reply most P ask locals (reply ∷ replies) turns go le rest = rest reply _ (omega (arith, le))

pub keeps_operation : {A : Type 0} (most : ℕ) (P : A → Type 0) (line : ℕ) (op : Op) (st : State) (go : Reply → State → Outcome A)
    → left st ≤ most → ((reply : Reply) (after : State) → left after ≤ most → Keeps most P (go reply after)) → Keeps most P (operation line op st go)
keeps_operation most P line op st go le rest = keeps_reply most P _ st.locals st.replies st.turns go le rest

pub keeps_stop : {A : Type 0} (most : ℕ) (P : A → Type 0) (line : ℕ) (kind : StopKind) (st : State) → left st ≤ most → Keeps most P (stop line kind st)
keeps_stop most P line kind st le = keeps_operation most P line _ st _ le (λ reply after le. over)

pub keeps_then : {A B : Type 0} {o : Outcome A} {f : A → State → Outcome B} (most : ℕ) (P : A → Type 0) (Q : B → Type 0)
    → Keeps most P o → ((a : A) (st : State) → left st ≤ most → P a → Keeps most Q (f a st)) → Keeps most Q (and_then o f)
unfolding and_then
keeps_then most P Q (gives {a = a} {st = st} le p) rest = rest a st le p
keeps_then most P Q wanting rest = wanting
keeps_then most P Q over rest = over

-- ---- the code from n on does what the outcome says

pub data Follows {A : Type 0} (code : Whole) (most : ℕ) (P : A → Type 0) (n : Next) (to : A → State → Next) : Outcome A → Type 0 where
  gives : {a : A} {st : State} → left st ≤ most → P a → Reaches code n (to a st) → Follows code most P n to (Gives a st)
  wanting : {ask : Ask} → Reaches code n (Says ask) → Follows code most P n to (Wants ask)
  over : Reaches code n Halts → Follows code most P n to Over

module _ {A : Type 0} (code : Whole) (most : ℕ) (P : A → Type 0) (to : A → State → Next) where
  pub follows_from : {o : Outcome A} (n n' : Next) → Reaches code n n' → Follows code most P n' to o → Follows code most P n to o
  follows_from n n' r (gives {a = a} {st = st} le p q) = gives le p (reaches_on code n n' (to a st) r q)
  follows_from n n' r (wanting {ask = ask} q) = wanting (reaches_on code n n' (Says ask) r q)
  follows_from n n' r (over q) = over (reaches_on code n n' Halts r q)

  -- one instruction
  pub follows_step : {o : Outcome A} (instr : Instr) (c : Config) (n : Next) → slice_get code.instrs c.place ≡ Some instr → act code instr c ≡ n → Follows code most P n to o → Follows code most P (To c) to o
  follows_step instr c n at does f = follows_from (To c) n (1, ap (λ (x : Option Instr). act_at code x c) at ∙ does) f

  pub follows_less : {o : Outcome A} (less : ℕ) (n : Next) → less ≤ most → Follows code less P n to o → Follows code most P n to o
  follows_less less n le (gives few p q) = gives (omega (arith, le, few)) p q
  follows_less less n le (wanting q) = wanting q
  follows_less less n le (over q) = over q

  -- an outcome, as the code takes it
  pub follows_kept : {o : Outcome A} → Keeps most P o → Follows code most P (from o to) to o
  unfolding from
  follows_kept (Keeps.gives le p) = gives le p (0, refl)
  follows_kept Keeps.wanting = wanting (0, refl)
  follows_kept Keeps.over = over (0, refl)

pub follows_bind : {A B : Type 0} {o : Outcome A} {to : A → State → Next} {f : A → State → Outcome B} {to' : B → State → Next} (code : Whole) (most : ℕ) (P : A → Type 0) (Q : B → Type 0) (n : Next)
    → Follows code most P n to o → ((a : A) (st : State) → left st ≤ most → P a → Follows code most Q (to a st) to' (f a st)) → Follows code most Q n to' (and_then o f)
unfolding and_then
follows_bind {to = to} {to' = to'} code most P Q n (gives {a = a} {st = st} le p q) rest = follows_from code most Q to' n (to a st) q (rest a st le p)
follows_bind code most P Q n (wanting q) rest = wanting q
follows_bind code most P Q n (over q) rest = over q

-- ---- instructions in their places

abbrev pub HasAt : Whole → ℕ → List Instr → Type 0
HasAt code pc [] = Unit {0}
HasAt code pc (x ∷ xs) = (slice_get code.instrs pc ≡ Some x) × HasAt code (pc + 1) xs

pub has_front : (code : Whole) (pc : ℕ) (a b : List Instr) → HasAt code pc (a ++ b) → HasAt code pc a
has_front code pc [] b h = tt
has_front code pc (x ∷ a) b h = (h.0, has_front code (pc + 1) a b h.1)

pub has_back : (code : Whole) (pc n : ℕ) (a b : List Instr) → length a ≡ n → HasAt code pc (a ++ b) → HasAt code (pc + n) b
has_back code pc n [] b len h = let e : pc ≡ pc + n = omega (arith, len) in subst (λ (n : ℕ). HasAt code n b) e h
has_back code pc zero (x ∷ a) b len h = absurd (omega (arith, len))
has_back code pc (suc n) (x ∷ a) b len h =
    let e : pc + 1 + n ≡ pc + suc n = omega arith in
    subst (λ (n : ℕ). HasAt code n b) e (has_back code (pc + 1) n a b (omega (arith, len)) h.1)

-- ---- what pieces do

abbrev pub IsSized : Piece → Type 0
IsSized p = (b : ℕ) → length (p.code b) ≡ p.size

pub sized_plain : (instrs : List Instr) → IsSized (plain instrs)
sized_plain instrs b = refl

pub sized_joined : (p q : Piece) → IsSized p → IsSized q → IsSized (joined p q)
sized_joined p q f g b = omega (arith, length-append (p.code b) (q.code (b + p.size)), f b, g (b + p.size))

-- the running function does not change
module _ (code : Whole) (callers : List Caller) (answers : Option CType) where
  abbrev pub config : ℕ → List Slot → State → Config
  config place stack st = record { place = place; stack = stack; callers = callers; answers = answers; state = st }

  -- the piece takes the stack `before` to `after a` as the outcome gives a
  abbrev pub Runs : {A : Type 0} → (A → Type 0) → Piece → List Slot → (A → List Slot) → (State → Outcome A) → Type 0
  Runs P p before after m = (most b : ℕ) (st : State) → left st ≤ most → HasAt code b (p.code b)
      → Follows code most P (To (config b before st)) (λ a st. To (config (b + p.size) (after a) st)) (m st)

  pub moved : {A : Type 0} {o : Outcome A} (most : ℕ) (P : A → Type 0) (n : Next) (a b : ℕ) (after : A → List Slot) → a ≡ b
      → Follows code most P n (λ v st. To (config a (after v) st)) o → Follows code most P n (λ v st. To (config b (after v) st)) o
  moved {o = o} most P n a b after same f = subst (λ (k : ℕ). Follows code most P n (λ v st. To (config k (after v) st)) o) same f

  pub runs_joined : {A B : Type 0} (P : A → Type 0) (Q : B → Type 0) (p q : Piece) (before : List Slot) (between : A → List Slot) (after : B → List Slot) (m : State → Outcome A) (f : A → State → Outcome B)
      → IsSized p → Runs P p before between m → ((a : A) → P a → Runs Q q (between a) after (f a)) → Runs Q (joined p q) before after (λ st. and_then (m st) f)
  runs_joined P Q p q before between after m f sized one two most b st le has =
      follows_bind code most P Q _ (one most b st le (has_front code b (p.code b) _ has)) (λ a st le pa.
      moved most Q _ (b + p.size + q.size) (b + (p.size + q.size)) after (omega arith)
      (two a pa most (b + p.size) st le (has_back code b p.size (p.code b) _ (sized b) has)))

  -- one instruction whose effect is an outcome
  pub runs_instr : {A : Type 0} (P : A → Type 0) (instr : Instr) (before : List Slot) (after : A → List Slot) (m : State → Outcome A)
      → ((b : ℕ) (st : State) → act code instr (config b before st) ≡ from (m st) (λ a st. To (config (b + 1) (after a) st)))
      → ((most : ℕ) (st : State) → left st ≤ most → Keeps most P (m st)) → Runs P (plain (instr ∷ [])) before after m
  runs_instr P instr before after m does keeps most b st le has =
      follows_step code most P _ instr (config b before st) _ has.0 (does b st) (follows_kept code most P _ (keeps most st le))

  -- no instruction
  pub runs_none : {A : Type 0} (P : A → Type 0) (a : A) (after : A → List Slot) → P a → Runs P (plain []) (after a) after (λ st. Gives a st)
  runs_none P a after p most b st le has = Follows.gives le p (let e : b ≡ b + 0 = omega arith in (0, ap (λ (k : ℕ). To (config k (after a) st)) e))

  -- an instruction that changes the stack alone, and then a piece
  pub runs_step : {A : Type 0} (P : A → Type 0) (instr : Instr) (q : Piece) (before between : List Slot) (after : A → List Slot) (m : State → Outcome A)
      → ((b : ℕ) (st : State) → act code instr (config b before st) ≡ To (config (b + 1) between st)) → Runs P q between after m → Runs P (joined (plain (instr ∷ [])) q) before after m
  runs_step P instr q before between after m does rest most b st le has =
      follows_step code most P _ instr (config b before st) (To (config (b + 1) between st)) has.0 (does b st)
      (moved most P _ (b + 1 + q.size) (b + (1 + q.size)) after (omega arith) (rest most (b + 1) st le has.1))

  pub runs_same : {A : Type 0} (P : A → Type 0) (p : Piece) (before : List Slot) (after : A → List Slot) (m m' : State → Outcome A) → ((st : State) → m st ≡ m' st) → Runs P p before after m → Runs P p before after m'
  runs_same P p before after m m' same f most b st le has = subst (λ (o : Outcome _). Follows code most P (To (config b before st)) (λ a st. To (config (b + p.size) (after a) st)) o) (same st) (f most b st le has)

  pub runs_cons : {A : Type 0} (P : A → Type 0) (instr : Instr) (rest : List Instr) (before : List Slot) (after : A → List Slot) (m : State → Outcome A)
      → Runs P (joined (plain (instr ∷ [])) (plain rest)) before after m → Runs P (plain (instr ∷ rest)) before after m
  runs_cons P instr rest before after m f most b st le has = moved most P _ (b + (1 + length rest)) (b + length (instr ∷ rest)) after (omega arith) (f most b st le has)
