use Rattle.std.proofs.Common.{◌≡◌, Some, None, Err, sym, ap, ◌∙◌}
use Rattle.c11_memory.specs.Execution.{Execution}
use Rattle.c11_memory.specs.declared.memory.StepStop.{StepStop}
use Rattle.c11_run.proofs.Enabling.{can_step, is_turn}
use Rattle.c11_run.proofs.team.Team.step.Goals as goal

pub step-requires : goal.step-requires
step-requires c =
    can_step c.args.memory.now c.draw-place.new.self _ _ _ _ c.requires.enabled c.draw-place.ensures.within c.index-member.ensures c.draw-place.ensures.same c.requires.within c.requires.count

pub unreachable-requires : goal.unreachable-requires
unreachable-requires c =
    let was = (c.step.ensures.stopped c.in-Err-Stopped.field-0-0).0 (c.in-Err-Stopped.is ∙ ap (λ (e : StepStop). Err e) c.in-Err-Stopped.field-0-is) in
    let kept = ap (λ (m : Execution). m.verdict) c.draw-place.ensures.same ∙ c.requires.goes_on in
    let both : Some c.in-Err-Stopped.field-0-0 ≡ None = sym was ∙ kept in cc

pub returns : goal.returns
returns c words drawn =
    is_turn c.args.memory.now c.draw-place.new.self _ _ _ _ c.requires.enabled c.draw-place.ensures.within c.index-member.ensures c.draw-place.ensures.same _ _ words drawn c.in-Ok.ensures.went.1 c.draw-place.ensures.chosen
