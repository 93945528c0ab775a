use Rattle.std.proofs.Common.{◌≡◌, Some, None, Err, sym, ap, ◌∙◌}
use Rattle.c11_memory.specs.declared.memory.StepStop.{StepStop}
use Rattle.c11_turn.proofs.Turning.{can_step, goes}
use Rattle.c11_turn.proofs.turns.go.Goals as goal

pub step-requires : goal.step-requires
step-requires c = can_step c.asks_are_legal.ensures c.requires.due.0 c.args.memory.now c.args.thread c.args.ask.now c.requires.due.1 c.asks_no_more.ensures c.requires.none c.requires.free

pub unreachable-requires : goal.unreachable-requires
unreachable-requires c =
    let was = (c.step.ensures.stopped c.in-Err-Stopped.field-0-0).0 (c.in-Err-Stopped.is ∙ ap (λ (e : StepStop). Err e) c.in-Err-Stopped.field-0-is) in
    let both : Some c.in-Err-Stopped.field-0-0 ≡ None = sym was ∙ c.requires.none in cc

pub returns : goal.returns
returns c = record {
  turn = λ terms due. goes c.asks_are_legal.ensures terms c.args.memory.now c.args.thread c.args.ask.now due c.asks_no_more.ensures c.requires.none c.requires.free c.step.new.self c.in-Ok.reply c.in-Ok.ensures.went.1;
}
