use Rattle.std.proofs.Common.{rules, arith}
use Rattle.std.proofs.lemmas.Grind.{common_steps}
use Rattle.c11_grammar.specs.Reading.{readers, assign_of, decl_reader, stmt_reader, block_items, arms, given, and_then}
use Rattle.c11_statements.proofs.Turns.{one_more, no_more}
use Rattle.c11_statements.proofs.stmt.+stmt.Goals as goal

pub block_items-returns-in-Some : goal.block_items-returns-in-Some
unfolding block_items given and_then
block_items-returns-in-Some t c =
    let e = one_more (λ n. block_items (decl_reader c.args.deeper) (stmt_reader c.args.deeper) n c.loop-turn.found c.loop-turn.rest.now) _ c.loop-turn._turn c.loop-turn-test.true c.loop-turn.invariant in
    first_of (search rules, grind (arith, common_steps))

pub block_items-returns-in_err-part : goal.block_items-returns-in_err-part
unfolding block_items given and_then
block_items-returns-in_err-part t c =
    let e = one_more (λ n. block_items (decl_reader c.args.deeper) (stmt_reader c.args.deeper) n c.loop-turn.found c.loop-turn.rest.now) _ c.loop-turn._turn c.loop-turn-test.true c.loop-turn.invariant in
    first_of (search rules, grind (arith, common_steps))

pub block_items-loop-turn-preserved : goal.block_items-loop-turn-preserved
unfolding block_items given and_then
block_items-loop-turn-preserved t c =
    let e = one_more (λ n. block_items (decl_reader c.args.deeper) (stmt_reader c.args.deeper) n c.loop-turn.found c.loop-turn.rest.now) _ c.loop-turn._turn c.loop-turn-test.true c.loop-turn.invariant in
    first_of (search rules, grind (arith, common_steps))

pub block_items-returns : goal.block_items-returns
unfolding block_items
block_items-returns t c =
    let e = no_more (λ n. block_items (decl_reader c.args.deeper) (stmt_reader c.args.deeper) n c.loop-turn.found c.loop-turn.rest.now) _ c.loop-turn._turn c.loop-turn-test.false c.loop-turn.invariant in
    first_of (search rules, grind (arith, common_steps))

pub arms-returns-in_default : goal.arms-returns-in_default
unfolding arms given and_then
arms-returns-in_default t c =
    let e = one_more (λ n. arms (assign_of (readers c.args.deeper)) (decl_reader c.args.deeper) (stmt_reader c.args.deeper) n c.loop-turn.found c.loop-turn.rest.now) _ c.loop-turn._turn c.loop-turn-test.true c.loop-turn.invariant in
    first_of (search rules, grind (arith, common_steps))

pub arms-returns-in_err-otherwise : goal.arms-returns-in_err-otherwise
unfolding arms given and_then
arms-returns-in_err-otherwise t c =
    let e = one_more (λ n. arms (assign_of (readers c.args.deeper)) (decl_reader c.args.deeper) (stmt_reader c.args.deeper) n c.loop-turn.found c.loop-turn.rest.now) _ c.loop-turn._turn c.loop-turn-test.true c.loop-turn.invariant in
    first_of (search rules, grind (arith, common_steps))

pub arms-returns-in_default-take : goal.arms-returns-in_default-take
unfolding arms given and_then
arms-returns-in_default-take t c =
    let e = one_more (λ n. arms (assign_of (readers c.args.deeper)) (decl_reader c.args.deeper) (stmt_reader c.args.deeper) n c.loop-turn.found c.loop-turn.rest.now) _ c.loop-turn._turn c.loop-turn-test.true c.loop-turn.invariant in
    first_of (search rules, grind (arith, common_steps))

pub arms-returns-in_err-next : goal.arms-returns-in_err-next
unfolding arms given and_then
arms-returns-in_err-next t c =
    let e = one_more (λ n. arms (assign_of (readers c.args.deeper)) (decl_reader c.args.deeper) (stmt_reader c.args.deeper) n c.loop-turn.found c.loop-turn.rest.now) _ c.loop-turn._turn c.loop-turn-test.true c.loop-turn.invariant in
    first_of (search rules, grind (arith, common_steps))

pub arms-loop-turn-preserved : goal.arms-loop-turn-preserved
unfolding arms given and_then
arms-loop-turn-preserved t c =
    let e = one_more (λ n. arms (assign_of (readers c.args.deeper)) (decl_reader c.args.deeper) (stmt_reader c.args.deeper) n c.loop-turn.found c.loop-turn.rest.now) _ c.loop-turn._turn c.loop-turn-test.true c.loop-turn.invariant in
    first_of (search rules, grind (arith, common_steps))

pub arms-returns : goal.arms-returns
unfolding arms
arms-returns t c =
    let e = no_more (λ n. arms (assign_of (readers c.args.deeper)) (decl_reader c.args.deeper) (stmt_reader c.args.deeper) n c.loop-turn.found c.loop-turn.rest.now) _ c.loop-turn._turn c.loop-turn-test.false c.loop-turn.invariant in
    first_of (search rules, grind (arith, common_steps))
