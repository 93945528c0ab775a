-- A history with one entry more.
use Rattle.std.proofs.Common.{◌≡◌, ◌≢◌, ℕ, suc, ◌+◌, ◌<◌, ◌≤◌, Bool, true, false, not, cond, nat_eq, nat_lt, List, [], ◌∷◌, ◌++◌, Option, Some, None, length, filter, refl, sym, ap, ◌∙◌, subst, arith}
use Rattle.std.proofs.lemmas.Bool.Decides.{nat_tests}
use Rattle.std.proofs.lemmas.List.Sums.{sum_by_push}
use Rattle.std.specs.Prelude.{if◌then◌else◌}
use Rattle.c11_num.specs.Ranges.{TypedNumber}
use Rattle.c11_events.specs.declared.op.Op.{Op}
use Rattle.c11_events.specs.declared.op.Op.TheVariants as op
use Rattle.c11_events.specs.declared.order.Order.{Order}
use Rattle.c11_events.specs.declared.reply.Reply.{Reply}
use Rattle.c11_events.specs.declared.reply.Reply.TheVariants as reply
use Rattle.c11_events.specs.declared.reply.FaultKind.TheVariants as fault
use Rattle.c11_events.specs.declared.event.Event.{Event}
use Rattle.c11_events.specs.declared.entry.Entry.{Entry}
use Rattle.c11_events.specs.declared.verdict.Verdict.{Verdict}
use Rattle.c11_events.specs.declared.verdict.Verdict.TheVariants.{Bound, Race as raced}
use Rattle.c11_events.specs.EventOf.{events_of, exchange_kind, kind_of}
use Rattle.c11_events.specs.Events.{is_create}
use Rattle.c11_events.specs.Races.{IsRacing}
use Rattle.c11_events.specs.Replies.{Setting, answer, thread_limit}
use Rattle.c11_events.specs.Steps.{is_init, step_count}
use Rattle.c11_events.specs.Threads.{created}
use Rattle.c11_events.specs.Verdicts.{step_verdict, last_says, LastVerdict, race, no_race, StepVerdict, by_last, by_bound, undecided}
use Rattle.c11_events.proofs.Histories.{length-events_of}
use Rattle.c11_history.specs.declared.history.Race.{Race}
use Rattle.c11_history.specs.Past.{IsRaceOfLast}
use Rattle.c11_memory.specs.Sound.{ended}

-- one more after a list of which the first stays or goes
count_on : (f e : Entry) (entries : List Entry) (b : Bool) → step_count (entries ++ e ∷ []) ≡ suc (step_count entries)
    → length (cond b (f ∷ filter (λ g. not (is_init g.op)) (entries ++ e ∷ [])) (filter (λ g. not (is_init g.op)) (entries ++ e ∷ [])))
    ≡ suc (length (cond b (f ∷ filter (λ g. not (is_init g.op)) entries) (filter (λ g. not (is_init g.op)) entries)))
count_on f e entries true more = ap suc more
count_on f e entries false more = more

pub count_more : (entries : List Entry) (e : Entry) → is_init e.op ≡ false → step_count (entries ++ e ∷ []) ≡ suc (step_count entries)
count_more [] e is = ap (λ (b : Bool). length (cond (not b) (e ∷ []) [])) is
count_more (f ∷ entries) e is = count_on f e entries (not (is_init f.op)) (count_more entries e is)

pub says_last : (entries : List Entry) (e : Entry) → last_says (entries ++ e ∷ []) ≡ step_verdict e.thread e.op e.reply
says_last [] e = refl
says_last (f ∷ []) e = refl
says_last (f ∷ g ∷ entries) e = says_last (g ∷ entries) e

-- how a run stands whose last entry has this number and says this
module _ (entries : List Entry) (number steps bound : ℕ) (counted : steps ≡ step_count entries) where
  by_count : (b : Bool) → nat_eq steps bound ≡ b → LastVerdict entries None → StepVerdict bound entries (if b then Some Bound else None)
  by_count true is v = by_bound v (let same : steps ≡ bound = grind (arith, nat_tests) in omega arith)
  by_count false is v = undecided v (λ same. let other : steps ≢ bound = grind (arith, nat_tests) in other (omega arith))

  by_said : (said : Option Verdict) → LastVerdict entries said → StepVerdict bound entries (ended None number said steps bound)
  by_said (Some v) last = by_last last
  by_said None last = by_count (nat_eq steps bound) refl last

  pub stands_ended : (r : Option Race) (said : Option Verdict) → number ≡ length entries → last_says entries ≡ said → IsRaceOfLast (events_of entries) r
      → StepVerdict bound entries (ended r number said steps bound)
  stands_ended (Some r) said is says found =
      by_last (subst (λ (n : ℕ). LastVerdict entries (Some (raced r.first n r.cell))) (sym is) (race (subst (λ (n : ℕ). IsRacing (events_of entries) r.cell n r.first) (length-events_of entries) found)))
  stands_ended None said is says found =
      by_said said (subst (λ (v : Option Verdict). LastVerdict entries v) says
      (no_race (λ cell m h. found cell m (subst (λ (n : ℕ). IsRacing (events_of entries) cell n m) (sym (length-events_of entries)) h))))

-- a run that goes on had no race and nothing that ended it
pub ended_none : (r : Option Race) (number : ℕ) (said : Option Verdict) (steps bound : ℕ) → ended r number said steps bound ≡ None → (r ≡ None) × (said ≡ None)
ended_none (Some r) number said steps bound is = cc
ended_none None number (Some v) steps bound is = cc
ended_none None number None steps bound is = (refl, refl)

pub going : (bound : ℕ) (entries : List Entry) (v : Option Verdict) → StepVerdict bound entries v → v ≡ None → step_count entries ≢ bound
going bound entries _ (by_last l) is = cc
going bound entries _ (by_bound l same) is = cc
going bound entries _ (undecided l differ) is = differ

exchange_creates : (cell : ℕ) (success failure : Order) (desired : TypedNumber) (r : Reply) → is_create (exchange_kind cell success failure desired r) ≡ false
exchange_creates cell success failure desired (reply.Exchanged old true) = refl
exchange_creates cell success failure desired (reply.Exchanged old false) = refl
exchange_creates cell success failure desired _ = refl

abbrev bit : Bool → ℕ
bit b = cond b 1 0

created_push : (events : List Event) (f : Event) → created (events ++ f ∷ []) ≡ created events + bit (is_create f.kind)
created_push events f = sum_by_push (λ (e : Event). bit (is_create e.kind)) events f

created_same : (events : List Event) (f : Event) → is_create f.kind ≡ false → created events < thread_limit → created (events ++ f ∷ []) < thread_limit
created_same events f is few =
    let none : bit (is_create f.kind) ≡ 0 = ap bit is in
    omega (arith, created_push events f)

at_most_one : (b : Bool) → bit b ≤ 1
at_most_one true = omega arith
at_most_one false = omega arith

created_more : (events : List Event) (f : Event) → created events + 1 < thread_limit → created (events ++ f ∷ []) < thread_limit
created_more events f few = omega (arith, created_push events f, at_most_one (is_create f.kind))

-- the step that would make too many threads ends the run
pub few_more : (setting : Setting) (events : List Event) (thread : ℕ) (o : Op) (x : ℕ) (r : Reply) (f : Event) → f.kind ≡ kind_of o r → r ≡ answer setting events thread o x
    → step_verdict thread o r ≡ None → created events < thread_limit → created (events ++ f ∷ []) < thread_limit
few_more setting events thread (op.Create function argument) x r f is told none few = by_limit (nat_lt (created events + 1) thread_limit) refl told
  where
    by_limit : (b : Bool) → nat_lt (created events + 1) thread_limit ≡ b → r ≡ (if b then reply.Created (created events + 1) else reply.Fault fault.Threads)
        → created (events ++ f ∷ []) < thread_limit
    by_limit true below t = created_more events f (grind (arith, nat_tests))
    by_limit false below t =
        let clash : step_verdict thread (op.Create function argument) (reply.Fault fault.Threads) ≡ None = subst (λ (q : Reply). step_verdict thread (op.Create function argument) q ≡ None) t none in cc
few_more setting events thread (op.CompareExchange cell success failure weak expected desired) x r f is told none few =
    created_same events f (ap is_create is ∙ exchange_creates cell success failure desired r) few
few_more setting events thread _ x r f is told none few = created_same events f (ap is_create is) few
