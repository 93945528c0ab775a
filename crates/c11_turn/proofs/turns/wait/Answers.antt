use Rattle.std.proofs.Common.{Some, length, ap, ◌∙◌, arith}
use Rattle.c11_events.specs.declared.verdict.Verdict.{Verdict}
use Rattle.c11_turn.proofs.Turning.{short, stops_marked, waits_marked, within}
use Rattle.c11_turn.proofs.turns.wait.Goals as goal

pub overflow_cast-length : goal.overflow_cast-length
overflow_cast-length c = omega (arith, ap length c.history.ensures.history, short c.asks_are_legal.ensures c.requires.due.0 c.args.memory.now c.args.thread c.args.ask.now c.requires.due.1)

pub wait-requires-clause-within : goal.wait-requires-clause-within
wait-requires-clause-within c = within c.asks_are_legal.ensures c.requires.due.0 c.args.memory.now c.args.thread c.args.ask.now c.requires.due.1

pub returns-in-Some : goal.returns-in-Some
returns-in-Some c = record {
  turn = λ terms due. stops_marked c.asks_are_legal.ensures terms c.args.memory.now c.args.thread c.args.ask.now due c.requires.none c.args.holder (c.live.ensures.0 c.if-not-live.false) c.requires.blocked
      c.wait.new.self c.wait.result c.wait.ensures.kept c.in-Some.verdict c.in-Some.is (c.wait.ensures.only c.in-Some.verdict c.in-Some.is)
      (c.wait.ensures.deadlock (c.in-Some.is ∙ ap (λ (v : Verdict). Some v) (c.wait.ensures.only c.in-Some.verdict c.in-Some.is)));
}

pub returns-in-None : goal.returns-in-None
returns-in-None c = record {
  turn = λ terms due. waits_marked c.asks_are_legal.ensures terms c.args.memory.now c.args.thread c.args.ask.now due c.requires.none c.args.holder (c.live.ensures.0 c.if-not-live.false) c.requires.blocked
      c.wait.new.self c.wait.result c.wait.ensures.kept (length c.history.result.now) (ap length c.history.ensures.history) c.in-None.is (c.wait.ensures.waits c.in-None.is);
}
