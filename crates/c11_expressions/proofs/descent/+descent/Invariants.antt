use Rattle.std.proofs.Common.{◌≡◌, [], ◌+◌, ◌-◌, ◌*◌, length}
use Rattle.c11_grammar.specs.Reading.{readers, commas, links, binary_of}
use Rattle.c11_expressions.proofs.descent.+descent.Given as goal

abbrev pub decreases-inner_assign : goal.decreases-inner_assign
decreases-inner_assign l = l.room * 1024

abbrev pub decreases-inner_cond : goal.decreases-inner_cond
decreases-inner_cond l = l.room * 1024

abbrev pub decreases-inner_target : goal.decreases-inner_target
decreases-inner_target l = l.room * 1024

abbrev pub decreases-inner_unary : goal.decreases-inner_unary
decreases-inner_unary l = l.room * 1024

abbrev pub decreases-inner_arg : goal.decreases-inner_arg
decreases-inner_arg l = l.room * 1024

abbrev pub decreases-index_after : goal.decreases-index_after
decreases-index_after l = l.deeper * 1024 + 1

abbrev pub decreases-comma_args : goal.decreases-comma_args
decreases-comma_args l = l.deeper * 1024 + 1

abbrev pub decreases-target : goal.decreases-target
decreases-target l = l.deeper * 1024 + 2

abbrev pub decreases-args : goal.decreases-args
decreases-args l = l.deeper * 1024 + 2

abbrev pub decreases-named : goal.decreases-named
decreases-named l = l.deeper * 1024 + 3

abbrev pub decreases-paren : goal.decreases-paren
decreases-paren l = l.deeper * 1024 + 1

abbrev pub decreases-unary : goal.decreases-unary
decreases-unary l = l.deeper * 1024 + 4

abbrev pub decreases-binary : goal.decreases-binary
decreases-binary l = l.deeper * 1024 + 5 + 3 * l.level

abbrev pub decreases-links : goal.decreases-links
decreases-links l = l.deeper * 1024 + 6 + 3 * l.level

abbrev pub decreases-chain : goal.decreases-chain
decreases-chain l = l.deeper * 1024 + 7 + 3 * l.level

abbrev pub decreases-branches : goal.decreases-branches
decreases-branches l = l.deeper * 1024 + 899

abbrev pub decreases-cond : goal.decreases-cond
decreases-cond l = l.deeper * 1024 + 900

abbrev pub decreases-assign : goal.decreases-assign
decreases-assign l = l.deeper * 1024 + 901

abbrev pub decreases-arg : goal.decreases-arg
decreases-arg l = l.deeper * 1024 + 902

abbrev pub invariant-comma_args-loop-turn : goal.invariant-comma_args-loop-turn
invariant-comma_args-loop-turn l = commas ((readers l.deeper).arg) (length l.tokens) [] l.tokens
    ≡ commas ((readers l.deeper).arg) (l._turn-end - l._turn) l.found l.rest

abbrev pub invariant-links-loop-turn : goal.invariant-links-loop-turn
invariant-links-loop-turn l = links (binary_of (readers l.deeper) l.level) (l.level + 1) (length l.tokens) [] l.tokens
    ≡ links (binary_of (readers l.deeper) l.level) (l.level + 1) (l._turn-end - l._turn) l.found l.rest
