use Rattle.std.proofs.Common.{◌≡◌, ◌-◌, [], length}
use Rattle.c11_grammar.specs.Reading.{commas, var_of}
use Rattle.c11_statements.proofs.declaration.vars.Given as goal

abbrev pub invariant-loop-turn : goal.invariant-loop-turn
invariant-loop-turn l = commas (var_of l.mutex) (length l.tokens) [] l.tokens ≡ commas (var_of l.mutex) (l._turn-end - l._turn) l.found l.rest
