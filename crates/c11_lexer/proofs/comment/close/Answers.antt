use Rattle.std.proofs.Common.{arith, sym, ap, ◌∙◌}
use Rattle.c11_lexer.proofs.CommentEnds.{ahead, ahead_zero, close_hit, close_miss, close_end}
use Rattle.c11_lexer.proofs.comment.close.Goals as goal

pub loop-at-init : goal.loop-at-init
loop-at-init c = (ahead_zero _, omega arith)

pub returns-then-is_close-clause-value : goal.returns-then-is_close-clause-value
returns-then-is_close-clause-value c = sym (close_hit _ _ c.loop-at-test.true (sym c.is_close.ensures ∙ c.if-is_close.true)) ∙ c.loop-at.invariant.0

pub loop-at-preserved : goal.loop-at-preserved
loop-at-preserved c = (sym (close_miss _ _ c.loop-at-test.true (sym c.is_close.ensures ∙ c.if-is_close.false)) ∙ c.loop-at.invariant.0, omega (arith, c.loop-at-test.true))

pub returns-clause-value : goal.returns-clause-value
returns-clause-value c = sym (ap (ahead c.loop-at.at) (close_end c.args.bytes.now c.loop-at.at (omega (arith, c.loop-at-test.false)))) ∙ c.loop-at.invariant.0
