use Rattle.std.proofs.Common.{◌≡◌, None, sym, ap, ◌∙◌}
use Rattle.c11_memory.specs.Execution.{Execution}
use Rattle.c11_memory.proofs.memory.Memory.step_from.Goals as goal

pub returns-clause-not_offered : goal.returns-clause-not_offered
returns-clause-not_offered c = λ offers is.
    let p = c.step_chosen.ensures.not_offered offers is in
    let none : c.args.self.now.verdict ≡ None = sym (ap (λ (m : Execution). m.verdict) c.self.view_is) ∙ c.in_default.is in
    (none, p.0, p.1)
