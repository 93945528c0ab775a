use Rattle.std.proofs.Common.{drop, pos}
use Rattle.c11_num.specs.declared.value.CType.{CType}
use Rattle.c11_lexer.specs.Numbers.{FirstHolding}
use Rattle.c11_lexer.proofs.number.first_holding.Given as goal

abbrev pub invariant-loop-ctype : goal.invariant-loop-ctype
invariant-loop-ctype l =
    ((ctype : CType) → FirstHolding (pos l.number) (drop l.ctype-index l.types) ctype → FirstHolding (pos l.number) l.types ctype)
    × ((ctype : CType) → FirstHolding (pos l.number) l.types ctype → FirstHolding (pos l.number) (drop l.ctype-index l.types) ctype)
