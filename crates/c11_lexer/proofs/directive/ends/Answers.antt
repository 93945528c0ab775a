use Rattle.c11_lexer.proofs.Directives as law
use Rattle.c11_lexer.proofs.directive.ends.Goals as goal

pub returns : goal.returns
returns c = law.ends_law _ _ _ c.in_ok-rest.ensures.rest c.is_empty.ensures
