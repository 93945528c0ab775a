-- The one run is one.
use Rattle.std.proofs.Common.{◌≡◌, ℕ, zero, suc, ◌+◌, ◌<◌, ◌≤◌, List, [], ◌∷◌, ◌++◌, Option, Some, None, length, slice_get, refl, sym, ap, ◌∙◌, subst, arith, inl, inr, ◌⊎◌, length-append, MatchOption}
use Rattle.std.specs.Prelude.{Contains, IsSome, ⊤}
use native.Mathlib.Decide.{dec_lt}
use mathlib.Core.Logic.{dite}
use Rattle.c11_events.specs.declared.op.Op.{Op}
use Rattle.c11_events.specs.declared.op.Ask.{Ask}
use Rattle.c11_events.specs.declared.reply.Holder.{Holder}
use Rattle.c11_events.specs.declared.event.Event.{Event}
use Rattle.c11_events.specs.declared.event.EventKind.{EventKind}
use Rattle.c11_events.specs.declared.event.EventKind.TheVariants.{PlainRead, PlainWrite}
use Rattle.c11_events.specs.declared.entry.Entry.{Entry}
use Rattle.c11_events.specs.declared.verdict.Verdict.{Verdict}
use Rattle.c11_events.specs.declared.verdict.Verdict.TheVariants.{Race}
use Rattle.c11_events.specs.Draws.{chosen, words_for}
use Rattle.c11_events.specs.EventOf.{events_of}
use Rattle.c11_events.specs.Events.{At, read_cell, written_cell}
use Rattle.c11_events.specs.Offered.{IsRisingList, IsOffered, Offered, op_cell, op_reading}
use Rattle.c11_events.specs.Races.{IsRead, IsWrite, IsRacing}
use Rattle.c11_events.specs.Replies.{Setting, answer}
use Rattle.c11_events.specs.Steps.{IsStep, ReadsOffered, init_entries}
use Rattle.c11_events.specs.Threads.{blocked_by}
use Rattle.c11_events.specs.Verdicts.{IsStuck, IsEnabled, VerdictOf, StepVerdict, LastVerdict, no_race, race, by_last, by_bound, undecided, by_steps, by_deadlock, goes_on}
use Rattle.c11_events.proofs.Basics.{at_same}
use Rattle.c11_machine.specs.Runs.{Program, next_of, IsLegalStep, IsChosen, OnTheWay, begins, goes}
use Rattle.c11_run.specs.Laws.{OneRunIsOne}
use Rattle.c11_run.proofs.LegalRuns.{way_legal, length-inits, legal_longer}

-- the head of a rising list is the least
head_least : (P : ℕ → Type 0) (x : ℕ) (xs : List ℕ) (z : ℕ) → IsRisingList P (x ∷ xs) → P z → x ≤ z
head_least P x xs z r p = let t = r.all z p in by_place t.0 t.1
  where
    by_place : (i : ℕ) → slice_get (x ∷ xs) i ≡ Some z → x ≤ z
    by_place zero at = let same : x ≡ z = cc in omega arith
    by_place (suc i) at = let lt = r.rises 0 (suc i) x z refl at (omega arith) in omega arith

rising_tail : (P : ℕ → Type 0) (x : ℕ) (xs : List ℕ) → IsRisingList P (x ∷ xs) → IsRisingList (λ z. P z × (x < z)) xs
rising_tail P x xs r = record {
  rises = λ i j a b at at' lt. r.rises (suc i) (suc j) a b at at' (omega arith);
  only = λ i z at. (r.only (suc i) z at, r.rises 0 (suc i) x z refl at (omega arith));
  all = λ z p. let t = r.all z p.0 in later z t.0 p.1 t.1;
}
  where
    later : (z i : ℕ) → x < z → slice_get (x ∷ xs) i ≡ Some z → (j : ℕ) × (slice_get xs j ≡ Some z)
    later z zero lt at = absurd (let same : x ≡ z = cc in omega arith)
    later z (suc i) lt at = (i, at)

-- rising lists with the same members are equal
same_rising : (P Q : ℕ → Type 0) (xs ys : List ℕ) → IsRisingList P xs → IsRisingList Q ys → ((z : ℕ) → P z → Q z) → ((z : ℕ) → Q z → P z) → xs ≡ ys
same_rising P Q [] [] r s to from = refl
same_rising P Q [] (y ∷ ys) r s to from = let t = r.all y (from y (s.only 0 y refl)) in let clash : None ≡ Some y = t.1 in cc
same_rising P Q (x ∷ xs) [] r s to from = let t = s.all x (to x (r.only 0 x refl)) in let clash : None ≡ Some x = t.1 in cc
same_rising P Q (x ∷ xs) (y ∷ ys) r s to from =
    let heads : x ≡ y = omega (arith, head_least P x xs y r (from y (s.only 0 y refl)), head_least Q y ys x s (to x (r.only 0 x refl))) in
    let tails = same_rising (λ z. P z × (x < z)) (λ z. Q z × (y < z)) xs ys (rising_tail P x xs r) (rising_tail Q y ys s)
    (λ z p. (to z p.0, omega (arith, p.1))) (λ z p. (from z p.0, omega (arith, p.1))) in
    λ i. heads i ∷ tails i

pub one_rising : (P : ℕ → Type 0) (xs ys : List ℕ) → IsRisingList P xs → IsRisingList P ys → xs ≡ ys
one_rising P xs ys r s = same_rising P P xs ys r s (λ z p. p) (λ z p. p)

-- the plain cell that an event accesses
abbrev accessed : EventKind → Option ℕ
accessed (PlainRead cell) = Some cell
accessed (PlainWrite cell value) = Some cell
accessed _ = None

read_accessed : (kind : EventKind) (cell : ℕ) → read_cell kind ≡ Some cell → accessed kind ≡ Some cell
read_accessed (PlainRead c) cell is = is
read_accessed _ cell is = cc

written_accessed : (kind : EventKind) (cell : ℕ) → written_cell kind ≡ Some cell → accessed kind ≡ Some cell
written_accessed (PlainWrite c value) cell is = is
written_accessed _ cell is = cc

access_of : (events : List Event) (cell n : ℕ) → IsRead events cell n ⊎ IsWrite events cell n → At events n (λ e. accessed e.kind ≡ Some cell)
access_of events cell n (inl r) = record { event = r.event; is = r.is; holds = read_accessed r.event.kind cell r.holds }
access_of events cell n (inr w) = record { event = w.event; is = w.is; holds = written_accessed w.event.kind cell w.holds }

racing_access : (events : List Event) (cell n m : ℕ) → IsRacing events cell n m → At events n (λ e. accessed e.kind ≡ Some cell)
racing_access events cell n m r = elim r.races.accesses [ inl p ↦ access_of events cell n p.1 | inr p ↦ access_of events cell n (inr p.1) ]

-- an access races as the later one with one other, in one cell
one_racing : (events : List Event) (n c d m l : ℕ) → IsRacing events c n m → IsRacing events d n l → (c ≡ d) × (m ≡ l)
one_racing events n c d m l r s =
    let a = racing_access events c n m r in
    let b = racing_access events d n l s in
    let both : Some c ≡ Some d = sym a.holds ∙ (ap (λ (e : Event). accessed e.kind) (at_same events n a.event b.event a.is b.is) ∙ b.holds) in
    let cell : c ≡ d = cc in
    let t = subst (λ (k : ℕ). IsRacing events k n l) (sym cell) s in
    (cell, omega (arith, r.last l t.races, t.last m r.races))

one_last : (entries : List Entry) (v w : Option Verdict) → LastVerdict entries v → LastVerdict entries w → v ≡ w
one_last entries _ _ (race {cell = c} {m = m} r) (race {cell = d} {m = l} s) =
    let t = one_racing (events_of entries) (length entries) c d m l r s in λ i. Some (Race (t.1 i) (length entries) (t.0 i))
one_last entries _ _ (race {cell = c} {m = m} r) (no_race none) = absurd (none c m r)
one_last entries _ _ (no_race none) (race {cell = d} {m = l} s) = absurd (none d l s)
one_last entries _ _ (no_race none) (no_race none') = refl

some_none : {X : Type 0} (x : X) → Some x ≡ None → ⊥
some_none x is = cc

one_stand : (bound : ℕ) (entries : List Entry) (v w : Option Verdict) → StepVerdict bound entries v → StepVerdict bound entries w → v ≡ w
one_stand bound entries _ _ (by_last {v = v} l) (by_last {v = w} k) = one_last entries (Some v) (Some w) l k
one_stand bound entries _ _ (by_last {v = v} l) (by_bound k same) = absurd (some_none v (one_last entries (Some v) None l k))
one_stand bound entries _ _ (by_last {v = v} l) (undecided k differ) = absurd (some_none v (one_last entries (Some v) None l k))
one_stand bound entries _ _ (by_bound l same) (by_last {v = w} k) = absurd (some_none w (one_last entries (Some w) None k l))
one_stand bound entries _ _ (by_bound l same) (by_bound k same') = refl
one_stand bound entries _ _ (by_bound l same) (undecided k differ) = absurd (differ same)
one_stand bound entries _ _ (undecided l differ) (by_last {v = w} k) = absurd (some_none w (one_last entries (Some w) None k l))
one_stand bound entries _ _ (undecided l differ) (by_bound k same) = absurd (differ same)
one_stand bound entries _ _ (undecided l differ) (undecided k differ') = refl

-- a thread that can go on is not stuck
not_stuck : (next : ℕ → Option Ask) (entries : List Entry) (thread : ℕ) → IsEnabled next entries thread → IsStuck next entries thread → ⊥
not_stuck next entries thread e s =
    let both : Some e.ask ≡ Some s.ask = sym e.is_next ∙ s.is_next in
    let same : e.ask ≡ s.ask = cc in
    let none : blocked_by (events_of entries) thread s.ask.op ≡ None = ap (λ (a : Ask). blocked_by (events_of entries) thread a.op) (sym same) ∙ e.free in
    let clash : IsSome {T = Holder} None = subst (λ (o : Option Holder). IsSome o) none s.blocked in
    cc

pub one_verdict : (next : ℕ → Option Ask) (bound : ℕ) (entries : List Entry) (v w : Option Verdict) → VerdictOf next bound entries v → VerdictOf next bound entries w → v ≡ w
one_verdict next bound entries _ _ (by_steps {v = v} s) (by_steps {v = w} t) = one_stand bound entries (Some v) (Some w) s t
one_verdict next bound entries _ _ (by_steps {v = v} s) (by_deadlock t stuck) = absurd (some_none v (one_stand bound entries (Some v) None s t))
one_verdict next bound entries _ _ (by_steps {v = v} s) (goes_on t e) = absurd (some_none v (one_stand bound entries (Some v) None s t))
one_verdict next bound entries _ _ (by_deadlock s stuck) (by_steps {v = w} t) = absurd (some_none w (one_stand bound entries (Some w) None t s))
one_verdict next bound entries _ _ (by_deadlock s stuck) (by_deadlock t stuck') = refl
one_verdict next bound entries _ _ (by_deadlock s stuck) (goes_on {thread = u} t e) = absurd (not_stuck next entries u e (stuck u e.live))
one_verdict next bound entries _ _ (goes_on s e) (by_steps {v = w} t) = absurd (some_none w (one_stand bound entries (Some w) None t s))
one_verdict next bound entries _ _ (goes_on {thread = u} s e) (by_deadlock t stuck) = absurd (not_stuck next entries u e (stuck u e.live))
one_verdict next bound entries _ _ (goes_on s e) (goes_on t e') = refl

-- the draw decides which of the offered stores is read
abbrev IsDrawn : ℕ → ℕ → Option ℕ → List ℕ → ℕ → Type 0
IsDrawn seed k cell offered from = MatchOption cell ⊤ (λ _. slice_get offered (chosen seed k (length offered)) ≡ Some from)

one_read : (events : List Event) (thread : ℕ) (o : Op) (seed k : ℕ) (xs ys : List ℕ) (x y : ℕ)
    → ReadsOffered Offered events thread o xs x → ReadsOffered Offered events thread o ys y → IsDrawn seed k (op_cell o) xs x → IsDrawn seed k (op_cell o) ys y → (xs ≡ ys) × (x ≡ y)
one_read events thread o seed k xs ys x y = by_cell (op_cell o)
  where
    Reads : Option ℕ → List ℕ → ℕ → Type 0
    Reads cell zs z = MatchOption cell ((zs ≡ []) × (z ≡ 0)) (λ c. Offered events thread (op_reading events o) c zs × Contains zs z)

    by_cell : (cell : Option ℕ) → Reads cell xs x → Reads cell ys y → IsDrawn seed k cell xs x → IsDrawn seed k cell ys y → (xs ≡ ys) × (x ≡ y)
    by_cell None r s d e = (r.0 ∙ sym s.0, r.1 ∙ sym s.1)
    by_cell (Some cell) r s d e =
        let lists = one_rising (IsOffered events thread (op_reading events o) cell) xs ys r.0 s.0 in
        let both : Some x ≡ Some y = sym d ∙ (ap (λ (zs : List ℕ). slice_get zs (chosen seed k (length zs))) lists ∙ e) in
        (lists, cc)

-- what a thread is asked for and reads makes one entry
one_entry : (setting : Setting) (entries : List Entry) (thread : ℕ) (ask : Ask) (e f : Entry) (seed k : ℕ) → IsStep Offered setting entries thread ask e → IsStep Offered setting entries thread ask f
    → IsDrawn seed k (op_cell ask.op) e.offered e.from → IsDrawn seed k (op_cell ask.op) f.offered f.from → e ≡ f
one_entry setting entries thread ask e f seed k s t d d' =
    let reads = one_read (events_of entries) thread ask.op seed k e.offered f.offered e.from f.from s.reads t.reads d d' in
    let number : e.number ≡ f.number = s.number ∙ sym t.number in
    let threads : e.thread ≡ f.thread = s.of_thread ∙ sym t.of_thread in
    let line : e.line ≡ f.line = s.line ∙ sym t.line in
    let op : e.op ≡ f.op = s.op ∙ sym t.op in
    let reply : e.reply ≡ f.reply = s.reply ∙ (ap (answer setting (events_of entries) thread ask.op) reads.1 ∙ sym t.reply) in
    λ i. record { number = number i; thread = threads i; line = line i; op = op i; reply = reply i; from = reads.1 i; offered = reads.0 i }

-- the next step is one, and so are the threads that it chose among
one_step : (program : Program) (seed bound k : ℕ) (entries : List Entry) (e f : Entry) (c : IsChosen program seed k entries e) (d : IsChosen program seed k entries f)
    → IsLegalStep Offered program bound entries e → IsLegalStep Offered program bound entries f → (c.threads ≡ d.threads) × (e ≡ f)
one_step program seed bound k entries e f c d p q =
    let lists = one_rising (IsEnabled (next_of program entries) entries) c.threads d.threads c.enabled d.enabled in
    let places : Some e.thread ≡ Some f.thread = sym c.thread ∙ (ap (λ (ts : List ℕ). slice_get ts (chosen seed k (length ts))) lists ∙ d.thread) in
    let thread : e.thread ≡ f.thread = cc in
    let asks : Some p.ask ≡ Some q.ask = sym p.asked ∙ (ap (next_of program entries) thread ∙ q.asked) in
    let ask : p.ask ≡ q.ask = cc in
    let t = subst (λ (a : ℕ × Ask). IsStep Offered program.setting entries a.0 a.1 f) (λ i. (sym thread i, sym ask i)) q.step in
    let drawn = subst (λ (o : Op). IsDrawn seed (k + words_for (length c.threads)) (op_cell o) e.offered e.from) p.step.op c.store in
    let drawn' = subst (λ (a : Op × List ℕ). IsDrawn seed (k + words_for (length a.1)) (op_cell a.0) f.offered f.from) (λ i. (t.op i, sym lists i)) d.store in
    (lists, one_entry program.setting entries e.thread p.ask e f seed (k + words_for (length c.threads)) p.step t drawn drawn')

-- the Inits alone are shorter than a history with a step
begins_first : (program : Program) (seed bound k : ℕ) (es : List Entry) (e : Entry) → OnTheWay Offered program seed bound k es → length (es ++ e ∷ []) ≡ length (init_entries program.setting.atomic) → ⊥
begins_first program seed bound k es e way long =
    omega (arith, length-append es (e ∷ []), length-inits 0 program.setting.atomic, legal_longer Offered program bound es (way_legal Offered program seed bound k es way))

-- the same history with its next step is the same, after as many words
same_more : (program : Program) (seed bound k l : ℕ) (es fs : List Entry) (e f : Entry) → k ≡ l → es ≡ fs → (c : IsChosen program seed k es e) (d : IsChosen program seed l fs f)
    → IsLegalStep Offered program bound es e → IsLegalStep Offered program bound fs f
    → (k + words_for (length c.threads) + words_for (length e.offered) ≡ l + words_for (length d.threads) + words_for (length f.offered)) × (es ++ e ∷ [] ≡ fs ++ f ∷ [])
same_more program seed bound k l es fs e f words same c d p q =
    let d' : IsChosen program seed k es f = record {
      threads = d.threads;
      enabled = subst (λ (gs : List Entry). IsRisingList (IsEnabled (next_of program gs) gs) d.threads) (sym same) d.enabled;
      thread = subst (λ (n : ℕ). slice_get d.threads (chosen seed n (length d.threads)) ≡ Some f.thread) (sym words) d.thread;
      store = subst (λ (n : ℕ). IsDrawn seed (n + words_for (length d.threads)) (op_cell f.op) f.offered f.from) (sym words) d.store;
    } in
    let step = one_step program seed bound k es e f c d' p (subst (λ (gs : List Entry). IsLegalStep Offered program bound gs f) (sym same) q) in
    (λ i. words i + words_for (length (step.0 i)) + words_for (length ((step.1 i).offered)), λ i. same i ++ step.1 i ∷ [])

-- histories on the way that are as long are the same, after as many words
same_way : (program : Program) (seed bound k l : ℕ) (es fs : List Entry) → OnTheWay Offered program seed bound k es → OnTheWay Offered program seed bound l fs → length es ≡ length fs → (k ≡ l) × (es ≡ fs)
same_way program seed bound _ _ _ _ begins begins long = (refl, refl)
same_way program seed bound _ _ _ _ begins (goes l fs f way legal d) long = absurd (begins_first program seed bound l fs f way (sym long))
same_way program seed bound _ _ _ _ (goes k es e way legal c) begins long = absurd (begins_first program seed bound k es e way long)
same_way program seed bound _ _ _ _ (goes k es e way p c) (goes l fs f way' q d) long =
    let before = same_way program seed bound k l es fs way way' (omega (arith, length-append es (e ∷ []), length-append fs (f ∷ []))) in
    same_more program seed bound k l es fs e f before.0 before.1 c d p q

-- a run that has ended is no part of a longer history on the way
no_longer : (program : Program) (seed bound k l : ℕ) (es fs : List Entry) (v : Verdict) → OnTheWay Offered program seed bound k es → VerdictOf (next_of program es) bound es (Some v)
    → OnTheWay Offered program seed bound l fs → length es < length fs → ⊥
no_longer program seed bound k _ es _ v way ends begins lt =
    omega (arith, length-inits 0 program.setting.atomic, legal_longer Offered program bound es (way_legal Offered program seed bound k es way))
no_longer program seed bound k _ es _ v way ends (goes l fs f way' legal d) lt = dite (dec_lt (length es) (length fs))
    (λ (lt' : length es < length fs). no_longer program seed bound k l es fs v way ends way' lt')
    (λ (no : length es < length fs → ⊥).
    let same = (same_way program seed bound k l es fs way way' (omega (arith, length-append fs (f ∷ [])))).1 in
    let on = subst (λ (gs : List Entry). VerdictOf (next_of program gs) bound gs None) (sym same) legal.goes_on in
    some_none v (one_verdict (next_of program es) bound es (Some v) None ends on))

pub run_one : OneRunIsOne
run_one program seed bound es fs v w r s =
    let long : length es ≡ length fs = omega (arith, no_longer program seed bound r.words s.words es fs v r.way r.ends s.way, no_longer program seed bound s.words r.words fs es w s.way s.ends r.way) in
    let same = (same_way program seed bound r.words s.words es fs r.way s.way long).1 in
    let ends = subst (λ (gs : List Entry). VerdictOf (next_of program gs) bound gs (Some w)) (sym same) s.ends in
    let both : Some v ≡ Some w = one_verdict (next_of program es) bound es (Some v) (Some w) r.ends ends in
    (same, cc)
