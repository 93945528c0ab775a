use Rattle.std.proofs.Common.{◌∙◌, ◌^◌, List, ℕ, ◌++◌, ap, Vec, Global}
use Rattle.c11_tally.specs.Pairs.{pairs_of}
use Rattle.c11_tally.proofs.Turning.{yielded_and_left, turn_fits, turn_adds}
use Rattle.c11_tally.proofs.outputs.add_outputs.Goals as goal

pub add_output-requires : goal.add_output-requires
add_output-requires c =
    let all = c.args.others.entries in let yielded = c.loop-output.yielded in
    let parts = yielded_and_left all c.into_iter-output-iterator.result yielded c.loop-output.output-iterator c.into_iter-output-iterator.ensures.into_iter_gives.0 c.loop-output.yielded_by in
    let turn = parts ∙ ap (λ (left : List (Vec ℕ Global × ℕ)). yielded ++ left) c.in-Some.ensures.steps in
    turn_fits (pairs_of c.args.outputs.now.entries) (pairs_of c.loop-output.outputs.entries) all yielded c.next.new.self c.in-Some.output c.in-Some.count (2 ^ 64) turn
    c.loop-output.invariant (c.requires c.in-Some.output.items)

pub loop-output-preserved : goal.loop-output-preserved
loop-output-preserved c =
    turn_adds (pairs_of c.args.outputs.now.entries) (pairs_of c.loop-output.outputs.entries) (pairs_of c.add_output.new.outputs.entries) c.loop-output.yielded c.in-Some.output c.in-Some.count
    c.loop-output.invariant c.in_ok-add_output.ensures.ok
