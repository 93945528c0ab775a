use Rattle.std.proofs.Common.{sym}
use Rattle.c11_lexer.proofs.Numbers.{no_literal, too_large, no_type, is_literal}
use Rattle.c11_lexer.proofs.number.literal.Goals as goal

pub returns-in_default-clause-none : goal.returns-in_default-clause-none
returns-in_default-clause-none c = no_literal _ (sym c.in_default.ensures)

pub returns-in_default-value_of-clause-none : goal.returns-in_default-value_of-clause-none
returns-in_default-value_of-clause-none c = too_large _ _ _ _ (sym c.in-Some.ensures) c.in_default-value_of.ensures

pub returns-in_default-first_holding-clause-none : goal.returns-in_default-first_holding-clause-none
returns-in_default-first_holding-clause-none c =
    no_type _ _ _ _ _ (sym c.in-Some.ensures) c.in-Some-value_of.ensures.1 (rw c.types_of.ensures at c.in_default-first_holding.ensures.none)

pub returns-clause-found : goal.returns-clause-found
returns-clause-found c =
    is_literal _ _ _ _ _ _ (sym c.in-Some.ensures) c.in-Some-value_of.ensures.1 c.typed.ensures.number
    (rw (c.typed.ensures.ctype, ← c.types_of.ensures) c.in-Some-first_holding.ensures.found)
