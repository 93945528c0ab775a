use Rattle.std.proofs.Common.{rules, ◌≡◌, ◌∷◌, [], ◌++◌, arith}
use Rattle.c11_grammar.specs.Programs as g
use Rattle.c11_grammar.proofs.ItemComplete.{item_shorter}
use Rattle.c11_grammar.proofs.Runs.{read_item, run_longer, no_program_at}
use Rattle.c11_parser.proofs.whole.program.Goals as goal

pub loop-first-init : goal.loop-first-init
loop-first-init c = rw c.new-items.ensures g.Run.done

pub loop-first-smaller : goal.loop-first-smaller
loop-first-smaller c = let one = read_item _ _ _ c.in-Ok.ensures in omega (arith, item_shorter _ _ _ one)

pub loop-first-preserved : goal.loop-first-preserved
loop-first-preserved c =
    let one = read_item _ _ _ c.in-Ok.ensures in
    let longer = run_longer _ _ _ _ _ c.loop-first.invariant one in
    let pushed : c.push.new.self ≡ c.loop-first.items ++ c.in-Ok.found ∷ [] = search rules in
    rw pushed longer

pub returns-in-Err-Syntax-clause-fault : goal.returns-in-Err-Syntax-clause-fault
returns-in-Err-Syntax-clause-fault c =
    let begins : c.loop-first.rest.now ≡ c.in-Some.first.now ∷ c.in-Some.field-0-1.now = search rules in
    no_program_at _ _ _ _ _ begins c.loop-first.invariant (search rules)
