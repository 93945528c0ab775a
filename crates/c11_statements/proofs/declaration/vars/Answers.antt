use Rattle.std.proofs.Common.{rules, arith}
use Rattle.std.proofs.lemmas.Grind.{common_steps}
use Rattle.c11_grammar.specs.Reading.{commas, var_of, given, and_then}
use Rattle.c11_statements.proofs.Turns.{one_more, no_more}
use Rattle.c11_statements.proofs.declaration.vars.Goals as goal

pub returns-in_default : goal.returns-in_default
unfolding commas given and_then
returns-in_default c =
    let e = one_more (λ n. commas (var_of c.args.mutex) n c.loop-turn.found c.loop-turn.rest.now) _ c.loop-turn._turn c.loop-turn-test.true c.loop-turn.invariant in
    first_of (search rules, grind (arith, common_steps))

pub returns-in_err-part : goal.returns-in_err-part
unfolding commas given and_then
returns-in_err-part c =
    let e = one_more (λ n. commas (var_of c.args.mutex) n c.loop-turn.found c.loop-turn.rest.now) _ c.loop-turn._turn c.loop-turn-test.true c.loop-turn.invariant in
    first_of (search rules, grind (arith, common_steps))

pub loop-turn-preserved : goal.loop-turn-preserved
unfolding commas given and_then
loop-turn-preserved c =
    let e = one_more (λ n. commas (var_of c.args.mutex) n c.loop-turn.found c.loop-turn.rest.now) _ c.loop-turn._turn c.loop-turn-test.true c.loop-turn.invariant in
    first_of (search rules, grind (arith, common_steps))

pub returns : goal.returns
unfolding commas
returns c =
    let e = no_more (λ n. commas (var_of c.args.mutex) n c.loop-turn.found c.loop-turn.rest.now) _ c.loop-turn._turn c.loop-turn-test.false c.loop-turn.invariant in
    first_of (search rules, grind (arith, common_steps))
