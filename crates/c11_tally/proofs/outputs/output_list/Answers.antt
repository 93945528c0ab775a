use Rattle.std.proofs.Common.{◌≡◌, ◌∙◌, List, ℕ, ◌++◌, sym, ap, subst, append-nil, Vec, Global}
use Rattle.c11_report.specs.Outputs.{AreInOrder}
use Rattle.c11_tally.specs.Pairs.{pairs_of}
use Rattle.c11_tally.proofs.Listing.{pairs_in_order}
use Rattle.c11_tally.proofs.Turning.{yielded_and_left}
use Rattle.c11_tally.proofs.outputs.output_list.Goals as goal

pub new-requires-2 : goal.new-requires-2
new-requires-2 c =
    let entries = c.args.outputs.entries in let yielded = c.loop-output.yielded in
    let gives = c.into_iter-output-iterator.ensures.into_iter_gives in
    let parts = yielded_and_left entries c.into_iter-output-iterator.result yielded c.loop-output.output-iterator gives.0 c.loop-output.yielded_by in
    let all : entries ≡ yielded = parts ∙ (ap (λ (rest : List (Vec ℕ Global × ℕ)). yielded ++ rest) c.in-None.ensures.steps.0 ∙ append-nil yielded) in
    subst AreInOrder (ap pairs_of all ∙ sym c.loop-output.invariant) (pairs_in_order entries gives.5)
