use Rattle.std.proofs.Common.{arith, sym, subst}
use Rattle.c11_accepts.specs.declared.whole.AcceptStop.{AcceptStop}
use Rattle.c11_accepts.specs.Texts.{IsStop, long}
use Rattle.c11_accepts.proofs.Judging.{accepts, refuses, lexer_stops}
use Rattle.c11_accepts.proofs.whole.accept.Goals as goal

pub returns-then-text-gt-LONGEST-clause-refused : goal.returns-then-text-gt-LONGEST-clause-refused
returns-then-text-gt-LONGEST-clause-refused c = long (omega (arith, c.if-text-gt-LONGEST.true))

pub returns-in-Ok-clause-accepts : goal.returns-in-Ok-clause-accepts
returns-in-Ok-clause-accepts c = accepts c.one_scan.ensures c.args.text.now c.accept_tokens.result c.accept_tokens.ensures.accepted c.accept_tokens.ensures.refused

pub returns-in-Ok-clause-refuses : goal.returns-in-Ok-clause-refuses
returns-in-Ok-clause-refuses c = refuses c.one_scan.ensures c.args.text.now c.accept_tokens.result c.accept_tokens.ensures.accepted c.accept_tokens.ensures.refused

pub returns-in-Err-clause-refused : goal.returns-in-Err-clause-refused
returns-in-Err-clause-refused c =
    subst (λ (s : AcceptStop). IsStop c.args.text.now s) (sym c.by_lexer.ensures) (lexer_stops c.args.text.now c.in-Err.fault (omega (arith, c.if-text-gt-LONGEST.false)) c.in-Err.ensures.fault)
