use Rattle.std.proofs.Common.{◌≡◌, ◌∙◌, length, sym, arith}
use Rattle.std.proofs.lemmas.Bool.Decides.{nat_tests}
use Rattle.c11_run.proofs.Ending.{ends_kept, ends_stuck}
use Rattle.c11_run.proofs.Stepping.{all_within}
use Rattle.c11_run.proofs.turns.run_to_end.Goals as goal

pub returns-in-Some : goal.returns-in-Some
returns-in-Some c =
    ends_kept _ _ _ c.loop-verdict.invariant.at _ _ c.loop-verdict.invariant.seed c.loop-verdict.invariant.bound c.in-Some.verdict (sym c.in-Some.ensures.kept) c.verdict.ensures.stands

pub enabled-requires-clause-within : goal.enabled-requires-clause-within
enabled-requires-clause-within c = all_within c.asks_are_legal.ensures _ _ _ c.loop-verdict.invariant.at (sym c.verdict.ensures.kept ∙ c.in_default.is)

pub returns-then-is_empty : goal.returns-then-is_empty
returns-then-is_empty c =
    let empty : length c.in_ok-enabled.enabled.items ≡ 0 = grind (arith, nat_tests) in
    ends_stuck _ _ _ c.loop-verdict.invariant.at _ _ c.loop-verdict.invariant.seed c.loop-verdict.invariant.bound c.asks_are_legal.ensures _ (sym c.verdict.ensures.kept ∙ c.in_default.is) c.verdict.ensures.stands c.in_ok-enabled.ensures.all empty
