use Rattle.std.proofs.Common.{◌≡◌, ◌-◌, [], length}
use Rattle.c11_grammar.specs.Reading.{commas, param_of}
use Rattle.c11_statements.proofs.declaration.comma_params.Given as goal

abbrev pub invariant-loop-turn : goal.invariant-loop-turn
invariant-loop-turn l = commas param_of (length l.tokens) [] l.tokens ≡ commas param_of (l._turn-end - l._turn) l.found l.rest
