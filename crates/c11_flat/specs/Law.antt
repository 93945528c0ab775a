-- The flat code asks what the trees ask, and nothing else.
use Rattle.std.specs.Prelude.{◌≡◌, ℕ, List, [], ◌∷◌, ◌++◌, Some, None}
use Rattle.c11_ast.specs.declared.item.Program.{Program}
use Rattle.c11_events.specs.declared.op.Ask.{Ask}
use Rattle.c11_events.specs.declared.reply.Reply.{Reply}
use Rattle.c11_meaning.specs.Asks.{asks_of}
use Rattle.c11_flat.specs.Code.{Whole, whole_of}
use Rattle.c11_flat.specs.Flat.{Config, To, Says, Halts, start, steps}

-- after some number of instructions, with these replies
pub record AsksAsTrees (program : Program) (replies : List Reply) : Type 0 where
  pub asks : (ask : Ask) → asks_of program replies ≡ Some ask → (j : ℕ) × (steps (whole_of program) j (start (whole_of program) replies) ≡ Says ask)
  pub asks_only : (ask : Ask) (j : ℕ) → steps (whole_of program) j (start (whole_of program) replies) ≡ Says ask → asks_of program replies ≡ Some ask
  pub ends : asks_of program replies ≡ None → (j : ℕ) × (steps (whole_of program) j (start (whole_of program) replies) ≡ Halts)

abbrev pub FlatAsksAsTrees : Type 0
FlatAsksAsTrees = (program : Program) (replies : List Reply) → AsksAsTrees program replies

-- the configuration, with a further reply left
abbrev pub with_reply_left : Config → Reply → Config
with_reply_left c reply = record c { state = record c.state { replies = c.state.replies ++ reply ∷ [] } }

-- where a list of replies leads to a configuration, the list with a further reply leads there too, and that reply is left
abbrev pub AReplyIsLeft : Type 0
AReplyIsLeft = (code : Whole) (replies : List Reply) (reply : Reply) (j : ℕ) (c : Config) → steps code j (start code replies) ≡ To c
    → steps code j (start code (replies ++ reply ∷ [])) ≡ To (with_reply_left c reply)
