-- Threads and the replies for which they stand.
use Rattle.std.proofs.Common.{◌≡◌, ℕ, zero, suc, ◌+◌, List, [], ◌∷◌, ◌++◌, Some, Bool, true, false, refl, ap, sym, ◌∙◌, arith}
use Rattle.c11_events.specs.declared.op.Ask.{Ask}
use Rattle.c11_events.specs.declared.reply.Reply.{Reply}
use Rattle.c11_flat.specs.Code.{Whole, whole_of}
use Rattle.c11_flat.specs.Flat.{Config, Next, To, Says, start, steps}
use Rattle.c11_flat.proofs.Follows.{Reaches, steps_add}
use Rattle.c11_flat.proofs.Calls.{flat_asks_as_trees}
use Rattle.c11_flat.proofs.More.{a_reply_is_left}
use Rattle.c11_machine.specs.Views.{config_of, listed}
use Rattle.c11_machine.specs.Stands.{stands_by, goes_from, AsksWhereCodeAsks, AsksWhereWanted}
use Rattle.c11_machine.specs.declared.machine.Machine.{Machine}

-- what has ended stays
pub stays_says : (code : Whole) (j : ℕ) (ask : Ask) → steps code j (Says ask) ≡ Says ask
stays_says code zero ask = refl
stays_says code (suc j) ask = stays_says code j ask

-- from each moment of a run that comes to an ask, the code comes to it
pub asks_on : (code : Whole) (n m : Next) (ask : Ask) → Reaches code n m → Reaches code n (Says ask) → Reaches code m (Says ask)
asks_on code n m ask r q = (
  q.0,
  ap (λ (x : Next). steps code q.0 x) (sym r.1) ∙ (sym (steps_add code (r.0 + q.0) r.0 q.0 n refl)
      ∙ (steps_add code (r.0 + q.0) q.0 r.0 n (omega arith) ∙ (ap (λ (x : Next). steps code r.0 x) q.1 ∙ stays_says code r.0 ask))),
)

wanted_by : (code : Whole) (replies : List Reply) (ask : Ask) (b : Bool) (c : Config) → Reaches code (start code replies) (Says ask) → stands_by b code c replies → Reaches code (goes_from b code c) (Says ask)
wanted_by code replies ask true c r stands = asks_on code (start code replies) (To c) ask stands r
wanted_by code replies ask false c r stands = (r.0, ap (λ (rs : List Reply). steps code r.0 (start code rs)) (sym stands) ∙ r.1)

pub asks_where_code_asks : AsksWhereCodeAsks
asks_where_code_asks code replies ask t r stands = wanted_by code replies ask t.begun t.config r stands

pub asks_where_wanted : AsksWhereWanted
asks_where_wanted program replies ask t wants stands =
    (ask, wanted_by (whole_of program) replies ask t.begun t.config ((flat_asks_as_trees program replies).asks ask wants) stands)

-- with one reply more a thread is where it was, and has it left
pub given : (code : Whole) (b : Bool) (m : Machine) (reply : Reply) (replies : List Reply) → listed m.pending ≡ [] → stands_by b code (config_of m) replies
    → stands_by b code (config_of (record m { pending = Some reply })) (replies ++ reply ∷ [])
given code false m reply replies none stands = ap (λ (rs : List Reply). rs ++ reply ∷ []) (stands ∙ none)
given code true m reply replies none stands = let c = config_of m in (
  stands.0,
  a_reply_is_left code replies reply stands.0 c stands.1 ∙ ap (λ (rs : List Reply). To (record c { state = record c.state { replies = rs ++ reply ∷ [] } })) none,
)
