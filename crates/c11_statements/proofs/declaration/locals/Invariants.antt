use Rattle.std.proofs.Common.{◌≡◌, ◌-◌, [], length}
use Rattle.c11_grammar.specs.Reading.{commas, local_of, assign_of, readers}
use Rattle.c11_statements.proofs.declaration.locals.Given as goal

abbrev pub invariant-loop-turn : goal.invariant-loop-turn
invariant-loop-turn l = commas (local_of (assign_of (readers l.deeper))) (length l.tokens) [] l.tokens ≡ commas (local_of (assign_of (readers l.deeper))) (l._turn-end - l._turn) l.found l.rest
