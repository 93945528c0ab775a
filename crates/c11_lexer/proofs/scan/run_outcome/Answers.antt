use Rattle.std.proofs.Common.{refl}
use Rattle.c11_lexer.specs.Scan.{Means, leads, line_of, start, Scans}
use Rattle.c11_lexer.specs.Scan as s
use Rattle.c11_lexer.proofs.Directives.{never}
use Rattle.c11_lexer.proofs.scan.run_outcome.Goals as goal

pub returns-then-is_word : goal.returns-then-is_word
returns-then-is_word c = s.Means.word (c.if-is_word.ensures.0 refl)

pub returns-in-Some : goal.returns-in-Some
returns-in-Some c = s.Means.literal c.in-Some.ensures.found

pub returns-in-None : goal.returns-in-None
returns-in-None c = s.Means.neither (λ h. never (c.if-is_word.ensures.1 h)) c.in-None.ensures.none
