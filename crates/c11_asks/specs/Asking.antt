-- For tests: a thread that stands for replies after which its program asks for something.
use Rattle.std.specs.Prelude.{◌≡◌, List, Some}
use Rattle.c11_ast.specs.declared.item.Program.{Program}
use Rattle.c11_events.specs.declared.op.Ask.{Ask}
use Rattle.c11_events.specs.declared.reply.Reply.{Reply}
use Rattle.c11_flat.specs.Code.{whole_of}
use Rattle.c11_meaning.specs.Asks.{asks_of}
use Rattle.c11_machine.specs.Stands.{Standing, Stands}

-- this is what it asks for
pub record IsAskingFor (program : Program) (thread : Standing) (ask : Ask) : Type 0 where
  pub replies : List Reply
  pub stands : Stands (whole_of program) thread replies
  pub asks : asks_of program replies ≡ Some ask

-- it asks for something
abbrev pub IsAsking : Program → Standing → Type 0
IsAsking program thread = (ask : Ask) × IsAskingFor program thread ask
