use Rattle.std.proofs.Common.{◌≡◌, ◌-◌, [], length}
use Rattle.c11_grammar.specs.Reading.{starts}
use Rattle.c11_statements.proofs.declaration.starts.Given as goal

abbrev pub invariant-loop-turn : goal.invariant-loop-turn
invariant-loop-turn l = starts (length l.tokens) [] l.tokens ≡ starts (l._turn-end - l._turn) l.found l.rest
