use Rattle.std.proofs.Common.{sym}
use Rattle.c11_turn.proofs.Turning.{ends_kept, within}
use Rattle.c11_turn.proofs.turns.turn.Goals as goal

pub returns-in-Some : goal.returns-in-Some
returns-in-Some c = record { turn = λ terms due. ends_kept c.asks_are_legal.ensures terms c.args.memory.now c.args.thread c.args.ask.now due c.in-Some.verdict (sym c.in-Some.ensures.kept) }

pub blocked-requires : goal.blocked-requires
blocked-requires c = within c.asks_are_legal.ensures c.requires.due.0 c.args.memory.now c.args.thread c.args.ask.now c.requires.due.1
