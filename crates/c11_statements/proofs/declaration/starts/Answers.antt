use Rattle.std.proofs.Common.{rules, arith}
use Rattle.std.proofs.lemmas.Grind.{common_steps}
use Rattle.c11_grammar.specs.Reading.{starts, given, and_then}
use Rattle.c11_statements.proofs.Turns.{one_more, no_more}
use Rattle.c11_statements.proofs.declaration.starts.Goals as goal

pub returns-in_default : goal.returns-in_default
unfolding starts given and_then
returns-in_default c =
    let e = one_more (λ n. starts n c.loop-turn.found c.loop-turn.rest.now) _ c.loop-turn._turn c.loop-turn-test.true c.loop-turn.invariant in
    first_of (search rules, grind (arith, common_steps))

pub returns-in_err-part : goal.returns-in_err-part
unfolding starts given and_then
returns-in_err-part c =
    let e = one_more (λ n. starts n c.loop-turn.found c.loop-turn.rest.now) _ c.loop-turn._turn c.loop-turn-test.true c.loop-turn.invariant in
    first_of (search rules, grind (arith, common_steps))

pub loop-turn-preserved : goal.loop-turn-preserved
unfolding starts given and_then
loop-turn-preserved c =
    let e = one_more (λ n. starts n c.loop-turn.found c.loop-turn.rest.now) _ c.loop-turn._turn c.loop-turn-test.true c.loop-turn.invariant in
    first_of (search rules, grind (arith, common_steps))

pub returns-in_err-after : goal.returns-in_err-after
unfolding starts given and_then
returns-in_err-after c =
    let e = one_more (λ n. starts n c.loop-turn.found c.loop-turn.rest.now) _ c.loop-turn._turn c.loop-turn-test.true c.loop-turn.invariant in
    first_of (search rules, grind (arith, common_steps))

pub returns-in-Some-take : goal.returns-in-Some-take
unfolding starts given and_then
returns-in-Some-take c =
    let e = one_more (λ n. starts n c.loop-turn.found c.loop-turn.rest.now) _ c.loop-turn._turn c.loop-turn-test.true c.loop-turn.invariant in
    first_of (search rules, grind (arith, common_steps))

pub returns : goal.returns
unfolding starts
returns c =
    let e = no_more (λ n. starts n c.loop-turn.found c.loop-turn.rest.now) _ c.loop-turn._turn c.loop-turn-test.false c.loop-turn.invariant in
    first_of (search rules, grind (arith, common_steps))
