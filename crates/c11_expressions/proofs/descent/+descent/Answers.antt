use Rattle.std.proofs.Common.{rules, arith, ◌+◌}
use Rattle.std.proofs.lemmas.Grind.{common_steps}
use Rattle.c11_grammar.specs.Reading.{readers, links, commas, binary_of, given, and_then}
use Rattle.c11_expressions.proofs.Turns.{one_more, no_more}
use Rattle.c11_expressions.proofs.descent.+descent.Goals as goal

pub links-returns-in_default : goal.links-returns-in_default
unfolding links given and_then
links-returns-in_default t c =
    let e = one_more (λ n. links (binary_of (readers c.args.deeper) c.args.level) (c.args.level + 1) n c.loop-turn.found c.loop-turn.rest.now) _ c.loop-turn._turn c.loop-turn-test.true c.loop-turn.invariant in
    first_of (search rules, grind (arith, common_steps))

pub links-returns-in_err-right : goal.links-returns-in_err-right
unfolding links given and_then
links-returns-in_err-right t c =
    let e = one_more (λ n. links (binary_of (readers c.args.deeper) c.args.level) (c.args.level + 1) n c.loop-turn.found c.loop-turn.rest.now) _ c.loop-turn._turn c.loop-turn-test.true c.loop-turn.invariant in
    first_of (search rules, grind (arith, common_steps))

pub links-loop-turn-preserved : goal.links-loop-turn-preserved
unfolding links given and_then
links-loop-turn-preserved t c =
    let e = one_more (λ n. links (binary_of (readers c.args.deeper) c.args.level) (c.args.level + 1) n c.loop-turn.found c.loop-turn.rest.now) _ c.loop-turn._turn c.loop-turn-test.true c.loop-turn.invariant in
    first_of (search rules, grind (arith, common_steps))

pub links-returns : goal.links-returns
unfolding links
links-returns t c =
    let e = no_more (λ n. links (binary_of (readers c.args.deeper) c.args.level) (c.args.level + 1) n c.loop-turn.found c.loop-turn.rest.now) _ c.loop-turn._turn c.loop-turn-test.false c.loop-turn.invariant in
    first_of (search rules, grind (arith, common_steps))

pub comma_args-returns-in_default : goal.comma_args-returns-in_default
unfolding commas given and_then
comma_args-returns-in_default t c =
    let e = one_more (λ n. commas ((readers c.args.deeper).arg) n c.loop-turn.found c.loop-turn.rest.now) _ c.loop-turn._turn c.loop-turn-test.true c.loop-turn.invariant in
    first_of (search rules, grind (arith, common_steps))

pub comma_args-returns-in_err-part : goal.comma_args-returns-in_err-part
unfolding commas given and_then
comma_args-returns-in_err-part t c =
    let e = one_more (λ n. commas ((readers c.args.deeper).arg) n c.loop-turn.found c.loop-turn.rest.now) _ c.loop-turn._turn c.loop-turn-test.true c.loop-turn.invariant in
    first_of (search rules, grind (arith, common_steps))

pub comma_args-loop-turn-preserved : goal.comma_args-loop-turn-preserved
unfolding commas given and_then
comma_args-loop-turn-preserved t c =
    let e = one_more (λ n. commas ((readers c.args.deeper).arg) n c.loop-turn.found c.loop-turn.rest.now) _ c.loop-turn._turn c.loop-turn-test.true c.loop-turn.invariant in
    first_of (search rules, grind (arith, common_steps))

pub comma_args-returns : goal.comma_args-returns
unfolding commas
comma_args-returns t c =
    let e = no_more (λ n. commas ((readers c.args.deeper).arg) n c.loop-turn.found c.loop-turn.rest.now) _ c.loop-turn._turn c.loop-turn-test.false c.loop-turn.invariant in
    first_of (search rules, grind (arith, common_steps))
