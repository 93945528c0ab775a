-- A thread is told replies, and asks.
use Rattle.std.proofs.Common.{◌≡◌, List, [], ◌∷◌, ◌++◌, Some, refl, sym, subst}
use Rattle.c11_ast.specs.declared.item.Program.{Program}
use Rattle.c11_check.specs.declared.checked.Checked.{Checked}
use Rattle.c11_check.specs.Lies.{signatures_in}
use Rattle.c11_events.specs.declared.op.Ask.{Ask}
use Rattle.c11_events.specs.declared.op.Op.TheVariants.{Begin}
use Rattle.c11_events.specs.declared.reply.Reply.{Reply}
use Rattle.c11_flat.specs.Code.{Whole, whole_of}
use Rattle.c11_machine.specs.Stands.{AsksWhereWanted, CanAsk, Standing, Stands}
use Rattle.c11_meaning.specs.Asks.{asks_of}
use Rattle.c11_meaning.specs.Outcome.{with_reply}
use Rattle.c11_meaning.specs.Progress.{AsksAgain, IsReplyTo}
use Rattle.c11_run.specs.declared.team.Member.{Member}
use Rattle.c11_run.specs.Going.{IsWaiting}

-- the thread may go on where the program asks for something
pub may_ask : AsksWhereWanted → (program : Program) (code : Whole) (thread : Standing) (replies : List Reply) (ask : Ask) → code ≡ whole_of program → asks_of program replies ≡ Some ask
    → Stands code thread replies → CanAsk code thread
may_ask law program code thread replies ask is asks stands =
    subst (λ (c : Whole). CanAsk c thread) (sym is) (law program replies ask thread asks (subst (λ (c : Whole). Stands c thread replies) is stands))

-- before any reply it asks to begin
pub asks_first : (program : Program) → asks_of program [] ≡ Some (record { line = 0; op = Begin })
unfolding with_reply
asks_first program = refl

-- told a reply of its kind, a waiting thread may go on
pub may_go_on : AsksWhereWanted → AsksAgain → (checked : Checked) (code : Whole) (member : Member) (thread : Standing) (reply : Reply) → code ≡ whole_of checked.program
    → (w : (replies : List Reply) × IsWaiting checked.program member replies) → IsReplyTo (signatures_in checked.program.items) member.ask.op reply
    → ((c : Whole) (replies : List Reply) → Stands c member.thread replies → Stands c thread (replies ++ reply ∷ [])) → CanAsk code thread
may_go_on law again checked code member thread reply is w kind given =
    let next = again checked.program w.0 member.ask reply checked.few checked.faultless w.1.asks kind in
    may_ask law checked.program code thread (w.0 ++ reply ∷ []) next.0 is next.1 (given code w.0 (subst (λ (c : Whole). Stands c member.thread w.0) (sym is) w.1.stands))
