-- What a thread does that goes on.
use Rattle.std.proofs.Common.{◌≡◌, ℕ, ◌+◌, List, Option, Some, None, Bool, true, false, Result, Ok, Err, IfOk, refl, ap, sym, ◌∙◌, subst, arith}
use Rattle.c11_num.specs.declared.memory.NoMemory.{NoMemory}
use Rattle.c11_ast.specs.declared.item.Program.{Program}
use Rattle.c11_events.specs.declared.op.Ask.{Ask}
use Rattle.c11_events.specs.declared.op.Op.TheVariants.{Begin}
use Rattle.c11_events.specs.declared.reply.Reply.{Reply}
use Rattle.c11_meaning.specs.Asks.{asks_of}
use Rattle.c11_flat.specs.Code.{Whole, whole_of}
use Rattle.c11_flat.specs.Flat.{Config, Next, To, Says, Halts, next, start, steps, asking}
use Rattle.c11_flat.proofs.Follows.{Reaches, reaches_on, steps_add}
use Rattle.c11_flat.proofs.Calls.{flat_asks_as_trees}
use Rattle.c11_machine.specs.Views.{config_of, listed}
use Rattle.c11_machine.specs.Stands.{Standing, stands_by, goes_from, Comes, Stands, OneAsk}
use Rattle.c11_machine.specs.Steps.{Begins}
use Rattle.c11_machine.specs.declared.machine.Machine.{Machine}
use Rattle.c11_machine.proofs.Standings.{asks_on, stays_says}
use Rattle.c11_machine.proofs.Takes.{stays_halted}

-- ---- one that has begun

pub keeps_run : (code : Whole) (b : Bool) (c c' : Config) (replies : List Reply) → b ≡ true → Reaches code (To c) (To c') → stands_by b code c replies → stands_by b code c' replies
keeps_run code true c c' replies e r stands = reaches_on code (start code replies) (To c) (To c') stands r
keeps_run code false c c' replies e r stands = absurd (cc e)

pub comes_run : (code : Whole) (b : Bool) (c c' : Config) (r : Result Ask NoMemory) → b ≡ true → Reaches code (To c) (To c') → IfOk r (λ ask. next code (To c') ≡ Says ask)
    → IfOk r (λ ask. Reaches code (goes_from b code c) (Says ask))
comes_run code true c c' (Ok ask) e r says = reaches_on code (To c) (To c') (Says ask) r (1, says)
comes_run code true c c' (Err short) e r says = tt
comes_run code false c c' r e reach says = absurd (cc e)

pub again_run : (code : Whole) (b : Bool) (c c' : Config) (ask : Ask) → b ≡ true → Reaches code (To c) (To c') → Reaches code (goes_from b code c) (Says ask)
    → Reaches code (goes_from b code c') (Says ask)
again_run code true c c' ask e r comes = asks_on code (To c) (To c') ask r comes
again_run code false c c' ask e r comes = absurd (cc e)

-- ---- one that begins

pub begins_with : (code : Whole) (b : Bool) (m : Machine) → b ≡ false → m.pending ≡ None → Reaches code (goes_from b code (config_of m)) (Says (record { line = 0; op = Begin }))
unfolding asking
begins_with code true m e none = absurd (cc e)
begins_with code false m e none = (0, ap (λ (p : Option Reply). start code (listed p)) none)

pub begins_on : (n : Next) (old new : Config) (began : Bool) → began ≡ true → Begins n old new (Ok began) → n ≡ To new
begins_on n old new began e h = let P : Bool → Type 0 = λ x. Begins n old new (Ok x) in subst P e h

begins_not : (n : Next) (old new : Config) (began : Bool) → began ≡ false → Begins n old new (Ok began) → n ≡ Halts
begins_not n old new began e h = let P : Bool → Type 0 = λ x. Begins n old new (Ok x) in subst P e h

pub comes_begun : (code : Whole) (b : Bool) (c one two : Config) (r : Result Ask NoMemory) → b ≡ false → start code c.state.replies ≡ To one → Reaches code (To one) (To two)
    → IfOk r (λ ask. next code (To two) ≡ Says ask) → IfOk r (λ ask. Reaches code (goes_from b code c) (Says ask))
comes_begun code true c one two r e begun reach says = absurd (cc e)
comes_begun code false c one two (Ok ask) e begun reach says = reaches_on code (start code c.state.replies) (To one) (Says ask) (0, begun) (reaches_on code (To one) (To two) (Says ask) reach (1, says))
comes_begun code false c one two (Err short) e begun reach says = tt

pub again_begun : (code : Whole) (b : Bool) (c one two : Config) (ask : Ask) → b ≡ false → start code c.state.replies ≡ To one → Reaches code (To one) (To two)
    → Reaches code (goes_from b code c) (Says ask) → Reaches code (To two) (Says ask)
again_begun code true c one two ask e begun reach comes = absurd (cc e)
again_begun code false c one two ask e begun reach comes = asks_on code (start code c.state.replies) (To two) ask (reaches_on code (start code c.state.replies) (To one) (To two) (0, begun) reach) comes

pub does_begin : (code : Whole) (b : Bool) (c old new : Config) (began : Bool) → b ≡ false → began ≡ false → Begins (start code c.state.replies) old new (Ok began)
    → (ask : Ask) × Reaches code (goes_from b code c) (Says ask) → ⊥
does_begin code true c old new began e off h can = absurd (cc e)
does_begin code false c old new began e off h can = let halts = begins_not _ old new began off h in
    stays_halted code can.1.0 can.0 (ap (λ (n : Next). steps code can.1.0 n) (sym halts) ∙ can.1.1)

-- ---- what the trees ask

comes_so : (code : Whole) (b : Bool) (c : Config) (replies : List Reply) (ask : Ask) → stands_by b code c replies → Reaches code (goes_from b code c) (Says ask) → Reaches code (start code replies) (Says ask)
comes_so code true c replies ask stands r = reaches_on code (start code replies) (To c) (Says ask) stands r
comes_so code false c replies ask stands r = (r.0, ap (λ (rs : List Reply). steps code r.0 (start code rs)) stands ∙ r.1)

trees_ask : (code : Whole) (program : Program) (replies : List Reply) (ask : Ask) → code ≡ whole_of program → Reaches code (start code replies) (Says ask) → asks_of program replies ≡ Some ask
trees_ask code program replies ask e r =
    let reach = subst (λ (w : Whole). Reaches w (start w replies) (Says ask)) e r in (flat_asks_as_trees program replies).asks_only ask reach.0 reach.1

pub asks_then : (code : Whole) (t : Standing) (r : Result Ask NoMemory) → IfOk r (λ ask. Comes code t ask)
    → IfOk r (λ ask. (program : Program) (replies : List Reply) → code ≡ whole_of program → Stands code t replies → asks_of program replies ≡ Some ask)
asks_then code t (Ok ask) comes = λ program replies e stands. trees_ask code program replies ask e (comes_so code t.begun t.config replies ask stands comes)
asks_then code t (Err short) comes = tt

-- ---- one ask at most

two_ways : (code : Whole) (n : Next) (i j : ℕ) → steps code j (steps code i n) ≡ steps code i (steps code j n)
two_ways code n i j = sym (steps_add code (i + j) i j n refl) ∙ steps_add code (i + j) j i n (omega arith)

pub one_ask : OneAsk
one_ask code t a b r q =
    let n = goes_from t.begun code t.config in
    let both : Says a ≡ Says b = sym (stays_says code q.0 a) ∙ (ap (λ (x : Next). steps code q.0 x) (sym r.1) ∙ (two_ways code n r.0 q.0 ∙ (ap (λ (x : Next). steps code r.0 x) q.1 ∙ stays_says code r.0 b))) in
    cc both
