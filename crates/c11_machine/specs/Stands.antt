-- For which replies a thread stands, and when it may go on.
use Rattle.std.specs.Prelude.{◌≡◌, ℕ, List, Some, Bool, true, false}
use Rattle.c11_ast.specs.declared.item.Program.{Program}
use Rattle.c11_events.specs.declared.op.Ask.{Ask}
use Rattle.c11_events.specs.declared.reply.Reply.{Reply}
use Rattle.c11_meaning.specs.Asks.{asks_of}
use Rattle.c11_flat.specs.Code.{Whole, whole_of}
use Rattle.c11_flat.specs.Flat.{Config, Next, To, Says, start, steps}

-- a thread: its number, whether it has begun, and the configuration in which it is, which has the reply that was not taken yet
pub record Standing : Type 0 where
  pub number : ℕ
  pub begun : Bool
  pub config : Config

-- a thread that has begun is where the code comes to with these replies; before, it has taken none
abbrev pub stands_by : Bool → Whole → Config → List Reply → Type 0
stands_by true code c replies = (j : ℕ) × (steps code j (start code replies) ≡ To c)
stands_by false code c replies = replies ≡ c.state.replies

abbrev pub Stands : Whole → Standing → List Reply → Type 0
Stands code t replies = stands_by t.begun code t.config replies

-- from one moment of a run to another
abbrev pub Reaches : Whole → Next → Next → Type 0
Reaches code n m = (j : ℕ) × (steps code j n ≡ m)

-- where it goes on
abbrev pub goes_from : Bool → Whole → Config → Next
goes_from true code c = To c
goes_from false code c = start code c.state.replies

-- the code, from where the thread is, comes to this ask
abbrev pub Comes : Whole → Standing → Ask → Type 0
Comes code t ask = Reaches code (goes_from t.begun code t.config) (Says ask)

-- it comes to some ask
abbrev pub CanAsk : Whole → Standing → Type 0
CanAsk code t = (ask : Ask) × Comes code t ask

-- it comes to no more than one
abbrev pub OneAsk : Type 0
OneAsk = (code : Whole) (t : Standing) (a b : Ask) → Comes code t a → Comes code t b → a ≡ b

-- where the code asks something after these replies, a thread that stands for them comes to it
abbrev pub AsksWhereCodeAsks : Type 0
AsksWhereCodeAsks = (code : Whole) (replies : List Reply) (ask : Ask) (t : Standing) → Reaches code (start code replies) (Says ask) → Stands code t replies → Comes code t ask

-- where the trees ask something after these replies, a thread that stands for them may go on
abbrev pub AsksWhereWanted : Type 0
AsksWhereWanted = (program : Program) (replies : List Reply) (ask : Ask) (t : Standing) → asks_of program replies ≡ Some ask → Stands (whole_of program) t replies → CanAsk (whole_of program) t
