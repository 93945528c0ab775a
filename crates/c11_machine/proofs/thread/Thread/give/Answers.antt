use Rattle.std.proofs.Common.{ap, sym, ◌∙◌, subst}
use Rattle.c11_machine.specs.Stands.{Standing, Stands}
use Rattle.c11_machine.proofs.Standings.{given}
use Rattle.c11_machine.proofs.thread.Thread.give.Goals as goal

pub returns-clause-stands : goal.returns-clause-stands
returns-clause-stands c code replies stands =
    given code c.self.inside.begun c.self.inside.machine c.args.reply.now replies (ap (λ (t : Standing). t.config.state.replies) c.self.view_is ∙ c.requires)
    (subst (λ (t : Standing). Stands code t replies) (sym c.self.view_is) stands)
