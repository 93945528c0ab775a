-- Steps of calls and returns, and runs.
use Rattle.std.proofs.Common.{◌≡◌, ℕ, zero, suc, ◌+◌, ◌-◌, ◌<◌, ◌≤◌, min, true, false, List, [], ◌∷◌, ◌++◌, length, replicate, take, drop, Option, Some, None, Result, Ok, refl, ap, sym, ◌∙◌, subst, arith}
use Rattle.std.specs.Prelude.{ℤ, pos, nat_lt, slice_get}
use Rattle.std.proofs.lemmas.Option.{slice_get_within}
use Rattle.std.proofs.lemmas.Bool.Decides.{nat_tests}
use Rattle.c11_num.specs.declared.value.CType.TheVariants.{Int, Long}
use Rattle.c11_events.specs.declared.op.Ask.{Ask}
use Rattle.c11_events.specs.declared.reply.Reply.{Reply}
use Rattle.c11_events.specs.declared.reply.Reply.TheVariants.{Began}
use Rattle.c11_meaning.specs.Outcome.{turn_limit}
use Rattle.c11_meaning.specs.Objects.{int_of}
use Rattle.c11_flat.specs.declared.instr.Instr.{Instr}
use Rattle.c11_flat.specs.Code.{Whole, Start}
use Rattle.c11_flat.specs.Flat.{To, Says, Halts, act_at, next, steps, start, first, asking}
use Rattle.c11_flat.proofs.Follows.{Reaches, reaches_on}
use Rattle.c11_machine.specs.Measures.{far}
use Rattle.c11_machine.specs.Steps.{places_for}
use Rattle.c11_machine.specs.Views.{config_of, listed}
use Rattle.c11_machine.specs.declared.machine.Machine.{Machine}
use Rattle.c11_machine.proofs.Falls.{Lands, lands}
use Rattle.c11_machine.proofs.Standings.{asks_on}
use Rattle.std.proofs.lemmas.List.{map-append, take_all, append-nil}
use Rattle.c11_num.specs.Ranges.{TypedNumber}
use Rattle.c11_num.specs.declared.memory.NoMemory.{NoMemory}
use Rattle.c11_num.specs.declared.value.CType.{CType}
use Rattle.c11_meaning.specs.Outcome.{State}
use Rattle.c11_meaning.specs.Objects.{nothing, with_local_at}
use Rattle.c11_meaning.specs.Statements.{cleared}
use Rattle.c11_flat.specs.declared.slot.Slot.{Slot}
use Rattle.c11_flat.specs.Flat.{Config, Next, numbers_in}
use Rattle.c11_machine.specs.Slots.{values_of}
use Rattle.c11_machine.specs.Steps.{Took, zeros}
use Rattle.c11_machine.specs.Views.{numbers_of}
use Rattle.c11_machine.specs.declared.step.Step.{Step}
use Rattle.c11_machine.specs.declared.step.Step.TheVariants.{On, Asks, Stuck}

pub took_same : (n m : Next) (old new : Config) (r : Result Step NoMemory) → n ≡ m → Took m old new r → Took n old new r
took_same n m old new r e t = subst (λ (x : Next). Took x old new r) (sym e) t

pub cleared_is : (place count : ℕ) (st : State) → cleared place count st ≡ record st { locals = zeros place count st.locals }
cleared_is place zero st = refl
cleared_is place (suc count) st = cleared_is (suc place) count (with_local_at st place (pos 0))

replicated : (k : ℕ) (v : TypedNumber) → numbers_of (replicate k v) ≡ replicate k v.number
replicated zero v = refl
replicated (suc k) v = ap (λ (zs : List ℤ). v.number ∷ zs) (replicated k v)

pub grown : (items : List TypedNumber) (len n k : ℕ) (v : TypedNumber) → len ≡ length items → n ≡ len + k → v ≡ nothing
    → numbers_of (take n items ++ replicate (n - len) v) ≡ numbers_of items ++ replicate k (pos 0)
grown items len n k v all e is =
    let more : n - len ≡ k = omega (arith, e) in
    ap (λ (xs : List TypedNumber). numbers_of (xs ++ replicate (n - len) v)) (take_all n items (omega (arith, e, all)))
    ∙ (ap (λ (m : ℕ). numbers_of (items ++ replicate m v)) more ∙ (ap (λ (x : TypedNumber). numbers_of (items ++ replicate k x)) is
    ∙ (map-append (λ (x : TypedNumber). x.number) items (replicate k nothing) ∙ ap (λ (zs : List ℤ). numbers_of items ++ zs) (replicated k nothing))))

no_values : (types : List CType) → numbers_in types [] ≡ []
no_values [] = refl
no_values (t ∷ types) = refl

none_given : (types : List CType) (slots : List Slot) (i : ℕ) → min (length types) (length slots) ≤ i → numbers_in (drop i types) (values_of (drop i slots)) ≡ []
none_given [] slots zero le = refl
none_given [] slots (suc i) le = refl
none_given (t ∷ types) [] zero le = refl
none_given (t ∷ types) [] (suc i) le = no_values (drop i types)
none_given (t ∷ types) (s ∷ slots) zero le = absurd (omega (arith, le))
none_given (t ∷ types) (s ∷ slots) (suc i) le = none_given types slots i (omega (arith, le))

pub all_given : (given whole : List ℤ) (types : List CType) (slots : List Slot) (i : ℕ) → min (length types) (length slots) ≤ i
    → given ++ numbers_in (drop i types) (values_of (drop i slots)) ≡ whole → given ≡ whole
all_given given whole types slots i le e = sym (append-nil given) ∙ (ap (λ (zs : List ℤ). given ++ zs) (sym (none_given types slots i le)) ∙ e)

pub nobody : {A : Type 0} (xs : List A) → length xs ≡ 0 → xs ≡ []
nobody [] e = refl
nobody (x ∷ xs) e = absurd (omega (arith, e))

-- ---- calls

pub too_deep : (n m : ℕ) → n ≡ m → 63 ≤ m → nat_lt n 63 ≡ false
too_deep n m e le = grind (arith, nat_tests)

pub has_room : (n m : ℕ) → n ≡ m → m < 63 → nat_lt n 63 ≡ true
has_room n m e lt = grind (arith, nat_tests)

pub begun_is : (s : Start) (number : ℤ) (m : Machine) → m.place ≡ s.place → m.stack.items ≡ [] → m.callers.items ≡ [] → m.answers ≡ s.answers
    → numbers_of m.locals.items ≡ places_for s.params s.places (record { ctype = Long; number = number } ∷ []) → m.turns ≡ turn_limit → m.pending ≡ None
    → first (Some s) number (record { locals = []; replies = []; turns = turn_limit }) ≡ To (config_of m)
begun_is s number m place stack callers answers locals turns pending = rw (place, stack, callers, answers, locals, turns, pending) refl

pub starts_so : (code : Whole) (pending : Option Reply) (function : ℕ) (argument : ℤ) → pending ≡ Some (Began function argument)
    → start code (listed pending) ≡ first (slice_get code.starts function) argument (record { locals = []; replies = []; turns = turn_limit })
unfolding asking
starts_so code pending function argument e = ap (λ (p : Option Reply). start code (listed p)) e

pub typed_is : (v : TypedNumber) (t : CType) (n : ℤ) → v.ctype ≡ t → v.number ≡ n → v ≡ record { ctype = t; number = n }
typed_is v t n ctype number = ap (λ (x : CType). let w : TypedNumber = record { ctype = x; number = v.number } in w) ctype ∙ ap (λ (z : ℤ). let w : TypedNumber = record { ctype = t; number = z } in w) number

pub took_on : (n : Next) (old new : Config) (s : Step) → s ≡ On → Took n old new (Ok s) → n ≡ To new
took_on n old new s e t = let P : Step → Type 0 = λ x. Took n old new (Ok x) in subst P e t

pub took_asks : (n : Next) (old new : Config) (s : Step) (ask : Ask) → s ≡ Asks ask → Took n old new (Ok s) → (n ≡ Says ask) × (new ≡ old)
took_asks n old new s ask e t = let P : Step → Type 0 = λ x. Took n old new (Ok x) in subst P e t

pub took_stuck : (n : Next) (old new : Config) (s : Step) → s ≡ Stuck → Took n old new (Ok s) → n ≡ Halts
took_stuck n old new s e t = let P : Step → Type 0 = λ x. Took n old new (Ok x) in subst P e t

pub int_is : (v : TypedNumber) (n : ℤ) → v.ctype ≡ Int → v.number ≡ n → v ≡ int_of n
int_is v n ctype number = ap (λ (t : CType). let w : TypedNumber = record { ctype = t; number = v.number } in w) ctype ∙ ap (λ (z : ℤ). int_of z) number

-- ---- runs

by_instr : (code : Whole) (c : Config) (instr : Option Instr) → slice_get code.instrs c.place ≡ instr → Lands (length code.instrs) c (act_at code instr c)
by_instr code c None e = Lands.ends
by_instr code c (Some instr) e = lands (length code.instrs) c (slice_get_within code.instrs c.place instr e) code instr

-- where an instruction leads, wherever the code has one
pub next_lands : (code : Whole) (c : Config) → Lands (length code.instrs) c (next code (To c))
next_lands code c = by_instr code c (slice_get code.instrs c.place) refl

falls : (size : ℕ) (before after : Config) (n : Next) → Lands size before n → n ≡ To after → far size after < far size before
falls size before after _ (Lands.goes {c = c} less) e = let same : c ≡ after = cc e in subst (λ (x : Config). far size x < far size before) same less
falls size before after _ (Lands.says none) e = absurd (cc e)
falls size before after _ Lands.ends e = absurd (cc e)

pub nearer : (code : Whole) (before after : Config) → next code (To before) ≡ To after → far (length code.instrs) after < far (length code.instrs) before
nearer code before after e = falls (length code.instrs) before after _ (next_lands code before) e

has_none : (size : ℕ) (before : Config) (ask : Ask) (n : Next) → Lands size before n → n ≡ Says ask → before.state.replies ≡ []
has_none size before ask _ (Lands.goes less) e = absurd (cc e)
has_none size before ask _ (Lands.says none) e = none
has_none size before ask _ Lands.ends e = absurd (cc e)

none_listed : (pending : Option Reply) → listed pending ≡ [] → pending ≡ None
none_listed None e = refl
none_listed (Some reply) e = absurd (cc e)

pub all_taken : (code : Whole) (before : Config) (m : Machine) (ask : Ask) → next code (To before) ≡ Says ask → config_of m ≡ before → m.pending ≡ None
all_taken code before m ask e same = none_listed m.pending (ap (λ (c : Config). c.state.replies) same ∙ has_none (length code.instrs) before ask _ (next_lands code before) e)

pub one_more : (code : Whole) (a : Next) (before after : Config) → Reaches code a (To before) → next code (To before) ≡ To after → Reaches code a (To after)
one_more code a before after r e = reaches_on code a (To before) (To after) r (1, e)

pub stays_halted : (code : Whole) (j : ℕ) (ask : Ask) → steps code j Halts ≡ Says ask → ⊥
stays_halted code zero ask e = cc e
stays_halted code (suc j) ask e = stays_halted code j ask e

comes_to : (code : Whole) (c : Config) (ask : Ask) (j : ℕ) → next code (To c) ≡ Halts → steps code j (To c) ≡ Says ask → ⊥
comes_to code c ask zero halts e = cc e
comes_to code c ask (suc j) halts e = stays_halted code j ask (ap (λ (n : Next). steps code j n) (sym halts) ∙ e)

pub never_stuck : (code : Whole) (a : Next) (c : Config) (ask : Ask) → Reaches code a (Says ask) → Reaches code a (To c) → next code (To c) ≡ Halts → ⊥
never_stuck code a c ask says here halts = let on = asks_on code a (To c) ask here says in comes_to code c ask on.0 halts on.1
