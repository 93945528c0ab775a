use Rattle.std.proofs.Common.{sym}
use Rattle.c11_lexer.proofs.Directives as law
use Rattle.c11_lexer.proofs.directive.is_word.Goals as goal

pub returns-then-not-is_ascii_digit : goal.returns-then-not-is_ascii_digit
returns-then-not-is_ascii_digit c = law.word_test _ c.in-len1-up.len_at_least (sym c.if-not-is_ascii_digit.ensures.value)
