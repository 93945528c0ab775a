use Rattle.std.proofs.Common.{◌≡◌, ◌-◌, [], length}
use Rattle.c11_grammar.specs.Reading.{commas, place_of}
use Rattle.c11_statements.proofs.declaration.places.Given as goal

abbrev pub invariant-loop-turn : goal.invariant-loop-turn
invariant-loop-turn l = commas place_of (length l.tokens) [] l.tokens ≡ commas place_of (l._turn-end - l._turn) l.found l.rest
